-- `stepping::finish::finish_head` meets its contract.
use native.Mathlib.Omega.{arith}
use Rattle.segment.proofs.LayoutLaws.{width-high}
use Rattle.stepping.proofs.FinishLaws.{segment-in, head-goes}
use Rattle.stepping.proofs.finish.finish_head.Goals as goal

pub finish_entry-requires : goal.finish_entry-requires
finish_entry-requires c =
    (omega arith, omega arith, omega arith, omega (arith, width-high c.head_commit-done.result.edition, c.digest_size.ensures), segment-in c.args.rec.slots c.args.rec.size c.args.slot _ c.requires.2 c.requires.3, c.requires.7)

pub returns : goal.returns
returns c = head-goes _ _ _ _ _ c.with_slot-map.ensures c.head_commit-done.ensures c.digest_size.ensures c.finish_entry.ensures
