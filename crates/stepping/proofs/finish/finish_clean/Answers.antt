-- `stepping::finish::finish_clean` meets its contract.
use native.Mathlib.Omega.{arith}
use Rattle.stepping.proofs.FinishLaws.{segment-in, clean-goes}
use Rattle.stepping.proofs.finish.finish_clean.Goals as goal

pub finish_rebuilt-requires : goal.finish_rebuilt-requires
finish_rebuilt-requires c =
    (c.requires.0, c.requires.1, omega (arith, c.requires.0, c.requires.3), segment-in c.args.rec.slots c.args.rec.size c.args.slot _ c.requires.2 c.requires.3)

pub returns : goal.returns
returns c =
    clean-goes _ _ _ _ _ _ c.without_slots.ensures c.with_slot-map.ensures c.head_commit-done.ensures
    c.finish_rebuilt.ensures
