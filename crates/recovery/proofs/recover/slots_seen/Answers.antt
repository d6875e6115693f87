use Prim.Native.Nat.{ℕ, ◌+◌}
use mathlib.Core.Path.{refl, ◌∙◌, ap}
use lib.ListN.{drop}
use Rattle.recovery.specs.Order.{seen_from}
use Rattle.recovery.proofs.Order.{seen-turn, seen_end}
use Rattle.recovery.proofs.recover.slots_seen.Goals as goal

pub loop-slot-init : goal.loop-slot-init
loop-slot-init c = refl

pub loop-slot-preserved : goal.loop-slot-preserved
loop-slot-preserved c =
    ap (λ (m : ℕ). seen_from c.args.n m (drop (c.loop-slot.slot-index + 1) c.args.order.now)) c.see_slot-seen.ensures
    ∙ seen-turn _ _ _ _ c.loop-slot-test.true
    ∙ c.loop-slot.invariant

pub returns : goal.returns
returns c = seen_end _ _ _ _ c.loop-slot-test.false ∙ c.loop-slot.invariant
