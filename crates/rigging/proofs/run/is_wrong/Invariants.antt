-- `rigging::run::is_wrong` meets its contract.
use Prim.Native.Nat.{◌+◌}
use mathlib.Core.Path.{◌≡◌}
use Rattle.histories.specs.Numbered.{word}
use Rattle.rig_model.specs.Verdict.{history_wrong}
use Rattle.rig_model.specs.LoopLaws.{Running}
use Rattle.rigging.proofs.run.is_wrong.Given as goal

abbrev pub invariant-loop-l : goal.invariant-loop-l
invariant-loop-l l =
    (l.l-iterator.letters + l.place ≡ l.fn.w.letters)
    × Running l.faulty (history_wrong l.faulty (word l.fn.w.letters l.fn.w.number)) (word l.l-iterator.letters l.l-iterator.number) l.place l.area l.index l.work l.rec l.book
