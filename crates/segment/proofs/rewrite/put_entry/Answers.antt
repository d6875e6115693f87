-- `segment::rewrite::put_entry` meets its contract.
use Rattle.segment.proofs.Rewritten.{cut-value, entry-put}
use Rattle.segment.proofs.rewrite.put_entry.Goals as goal

pub returns : goal.returns
returns c =
    let a = c.args in
    rw c.head_size-2.ensures
    (entry-put a.from a.to a.part.now a.at a.header _ _ _ _ _
    (rw c.head_size.ensures (cut-value a.from a.to a.part.now a.at a.header c.requires.from_bound))
    c.kind_as-kind.ensures c.write_entry.ensures)
