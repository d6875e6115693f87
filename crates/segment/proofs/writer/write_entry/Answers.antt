-- `segment::writer::write_entry` meets its contract: the value follows the bytes before it.
use mathlib.Core.Path.{sym, ◌∙◌}
use Rattle.segment.specs.Written.{encoded_head}
use Rattle.segment.proofs.Written.{sets_then, length-encoded_head}
use Rattle.segment.proofs.writer.write_entry.Goals as goal

pub returns : goal.returns
returns c =
    let a = c.args in
    sets_then a.at c.head_size.result (encoded_head a.edition a.kind a.key a.version) a.value.now a.s.now _ _
    (length-encoded_head a.edition a.kind a.key a.version ∙ sym c.head_size.ensures)
    c.write_head.ensures c.copy_into.ensures
