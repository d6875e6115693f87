use Prim.Native.Nat.{◌≤◌}
use mathlib.Core.Path.{refl, sym, ◌∙◌, ap}
use native.Mathlib.Omega.{arith}
use Rattle.model.specs.Log.{Scan, views_of, items_of, log_of}
use Rattle.laws.specs.Members.{total}
use Rattle.drive_log.specs.Shape.{part-short, own-scan}
use Rattle.drive_log.specs.Counts.{count_of, total-skip, total-take}
use Rattle.drive_log.proofs.suspects.count.Goals as goal
use Rattle.drive_log.proofs.suspects.count.Goals.{After-count_in-total}

pub loop-slot-init : goal.loop-slot-init
unfolding log_of total
loop-slot-init c = (omega arith, refl)

pub loop-slot-preserved-then-not-is_named : goal.loop-slot-preserved-then-not-is_named
loop-slot-preserved-then-not-is_named c = (
  omega arith,
  total-skip _ _ _ _ _ c.loop-slot.invariant.1 (sym c.is_named.ensures ∙ c.if-not-is_named.true),
)

short : (c : After-count_in-total) → c.count_in-total.result ≤ 2048
short c =
    omega (
      arith,
      c.count_in-total.ensures.few,
      part-short c.requires.shape c.loop-slot.slot c.loop-slot-test.true _ c.cut-part.ensures,
    )

pub loop-slot-preserved : goal.loop-slot-preserved
loop-slot-preserved c = (
  omega (arith, short c),
  total-take (views_of c.args.area.now c.args.s) _ _ _ _ c.loop-slot.invariant.1 (sym c.is_named.ensures ∙ c.if-not-is_named.false) _
      (c.count_in-total.ensures.counts
      ∙ ap (λ (x : Scan). count_of c.args.table.now (items_of x)) (own-scan c.args.area.now c.args.s c.loop-slot.slot _ c.cut-part.ensures _ c.edition_of.ensures)),
)
