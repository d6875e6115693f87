-- `converting::rewrite::put_log` meets its contract. The invariant: the slots passed are as they are to be.
use Rattle.model.specs.Log.{views_of}
use Rattle.slot_map.specs.Bit.{named}
use Rattle.converting.specs.RewriteLaws.{Filling}
use Rattle.converting.proofs.rewrite.put_log.Given as goal

abbrev pub invariant-loop-slot : goal.invariant-loop-slot
invariant-loop-slot l = Filling l.to (views_of l.source l.s) (named l.map) l.s l.initial.target l.target l.slot
