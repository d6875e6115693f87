-- `forgetting::forget::forget_at` meets its contract.
use Prim.Native.Nat.{ℕ}
use mathlib.Core.Path.{sym, ◌∙◌, ap}
use native.Mathlib.Omega.{arith}
use lib.ListN.{length, length-replicate}
use Rattle.forgetting.proofs.Sifted.{length-left}
use Rattle.forgetting.proofs.DeleteLaws.{in-log-below, victim-fits, victim-ready, victim-begun, forgot-outside}
use Rattle.forgetting.proofs.forget.forget_at.Goals as goal

pub returns-then-not-in_log : goal.returns-then-not-in_log
returns-then-not-in_log c =
    forgot-outside _ _ _ _ _ _ _ _ _ (sym c.in_log.ensures ∙ c.if-not-in_log.true) _ c.refused.ensures

pub overflow_cast-slot-2 : goal.overflow_cast-slot-2
overflow_cast-slot-2 c =
    omega (arith, in-log-below _ _ (sym c.in_log.ensures ∙ c.if-not-in_log.false), c.requires.forget_ready.lent.slots-high)

pub with_slot-requires : goal.with_slot-requires
with_slot-requires c =
    omega (arith, in-log-below _ _ (sym c.in_log.ensures ∙ c.if-not-in_log.false), c.requires.forget_ready.lent.slots-high)

pub mark_left-requires : goal.mark_left-requires
mark_left-requires c =
    victim-fits
    (victim-ready c.args.rec _ _ c.with_slot.ensures _ c.split_of-split.ensures
    (sym c.in_log.ensures ∙ c.if-not-in_log.false) _ _ _ _ c.requires.forget_ready _ (length-replicate {A = ℕ} 128 0))

pub forget_live-requires : goal.forget_live-requires
forget_live-requires c =
    victim-ready c.args.rec _ _ c.with_slot.ensures _ c.split_of-split.ensures
    (sym c.in_log.ensures ∙ c.if-not-in_log.false) _ _ _ _ c.requires.forget_ready _
    (ap length c.mark_left.ensures ∙ length-left _ _ _ _ _ 128 (length-replicate {A = ℕ} 128 0))

pub returns : goal.returns
returns c =
    let a = c.args in
    victim-begun a.rec _ _ c.with_slot.ensures _ c.split_of-split.ensures
    (sym c.in_log.ensures ∙ c.if-not-in_log.false) _ a.area.now a.index.now a.key a.work.now a.cell _ _ _ c.requires.key_value
    c.mark_left.ensures c.is_marked-needed.ensures c.forget_live.ensures
