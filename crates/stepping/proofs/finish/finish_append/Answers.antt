-- `stepping::finish::finish_append` meets its contract.
use native.Mathlib.Omega.{arith}
use Rattle.stepping.proofs.FinishLaws.{segment-in, append-goes}
use Rattle.stepping.proofs.finish.finish_append.Goals as goal

pub finish_entry-requires : goal.finish_entry-requires
finish_entry-requires c =
    (omega arith, omega arith, omega arith, omega arith, segment-in c.args.rec.slots c.args.rec.size c.args.rec.head _ c.requires.2 c.requires.3, c.requires.7)

pub returns : goal.returns
returns c = append-goes _ _ _ _ c.append_commit-done.ensures c.finish_entry.ensures
