-- `segment::writer::write_head` meets its contract.
use Rattle.segment.specs.Layout.{table}
use Rattle.segment.proofs.Written.{sets-packed}
use Rattle.segment.proofs.writer.write_head.Goals as goal

pub returns : goal.returns
returns c =
    let a = c.args in
    sets-packed a.kind 2 4 (table a.edition).width a.key.table a.key.key a.version.0 a.at a.s.now _ _ _ c.write16.ensures
    c.write32.ensures c.write_version.ensures
