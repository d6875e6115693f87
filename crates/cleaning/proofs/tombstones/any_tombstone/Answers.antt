use mathlib.Core.Path.{refl, sym, ◌∙◌}
use Rattle.laws.specs.LogLaws.{any_below}
use Rattle.cleaning.proofs.TombstonesLaws.{any_found, any-more}
use Rattle.cleaning.proofs.tombstones.any_tombstone.Goals as goal

pub loop-i-init : goal.loop-i-init
unfolding any_below
loop-i-init c = (refl)

pub returns-then-slot_holds : goal.returns-then-slot_holds
returns-then-slot_holds c = any_found _ _ _ c.loop-i-test.true (sym c.slot_holds.ensures ∙ c.if-slot_holds.true)

pub loop-i-preserved : goal.loop-i-preserved
loop-i-preserved c = (any-more _ _ 0 c.loop-i.invariant (sym c.slot_holds.ensures ∙ c.if-slot_holds.false))
