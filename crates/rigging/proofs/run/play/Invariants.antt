-- `rigging::run::play` meets its contract.
use Prim.Native.Nat.{◌-◌}
use Rattle.rig_model.specs.LoopLaws.{Playing}
use Rattle.rigging.proofs.run.play.Given as goal

abbrev pub invariant-loop-done : goal.invariant-loop-done
invariant-loop-done l = Playing l.faulty l.l l.place l.book l.initial.area l.initial.index l.work l.area l.index l.rec (l.stores - l._done)
