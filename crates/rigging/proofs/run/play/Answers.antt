use Rattle.std.specs.Prelude.{Ok}
use Prim.Native.Nat.{ℕ, ◌+◌, ◌-◌}
use mathlib.Core.Path.{◌≡◌, refl, ap, ◌∙◌, subst}
use native.Mathlib.Omega.{arith}
use Rattle.rig_model.proofs.LoopLaws.{play-refused, play-starts, play-wrong, play-turn, play-ends}
use Rattle.record.specs.Answered.{StartAnswer}
use Rattle.rig_model.specs.LoopLaws.{Playing}
use Rattle.rigging.proofs.run.play.Goals as goal

-- the stores that are left
whole : (n : ℕ) → n ≡ n - 0
whole n = omega arith

less : (P : ℕ → Type 0) (n k : ℕ) → P (n - k - 1) → P (n - (k + 1))
less P n k p = subst P (before n k) p
  where
    before : (n k : ℕ) → n - k - 1 ≡ n - (k + 1)
    before n k = omega arith

pub returns-in_default : goal.returns-in_default
returns-in_default c = play-refused c.args.faulty c.args.l c.args.place c.args.book c.args.area.now c.args.rec c.args.index.now c.args.work.now _ c.start-begun.result c.requires.0 (omega (arith, c.ranges.place)) c.requires.1 c.start-begun.ensures _ c.in_default.is

pub loop-done-init : goal.loop-done-init
loop-done-init c = play-starts c.args.faulty c.args.l c.args.place c.args.book c.args.area.now c.args.rec c.args.index.now c.args.work.now _ c.start-begun.result c.requires.0 (omega (arith, c.ranges.place)) c.requires.1 c.start-begun.ensures (c.in-Ok.stores - 0) (c.in-Ok.is ∙ ap Ok (whole c.in-Ok.stores))

pub shape_of-area-then-recovers_wrongly : goal.shape_of-area-then-recovers_wrongly
shape_of-area-then-recovers_wrongly c = c.loop-done.invariant.area_same

pub shape_of-index-then-recovers_wrongly : goal.shape_of-index-then-recovers_wrongly
shape_of-index-then-recovers_wrongly c = c.loop-done.invariant.cells_same

pub returns-then-recovers_wrongly : goal.returns-then-recovers_wrongly
returns-then-recovers_wrongly c = play-wrong c.args.faulty c.args.l c.args.place c.args.book c.args.area.now c.args.index.now _ c.loop-done.area c.loop-done.index c.loop-done.rec (c.in-Ok.stores - c.loop-done._done) c.loop-done.invariant (omega arith) c.recovers_wrongly.result c.recovers_wrongly.ensures c.if-recovers_wrongly.true _ _ _ _

pub loop-done-preserved : goal.loop-done-preserved
loop-done-preserved c = less (λ (k : ℕ). Playing c.args.faulty c.args.l c.args.place c.args.book c.args.area.now c.args.index.now c.start-begun.new.work c.step.new.area c.step.new.index c.step.result.rec k) c.in-Ok.stores c.loop-done._done (play-turn c.args.faulty c.args.l c.args.place c.args.book c.args.area.now c.args.index.now _ c.loop-done.area c.loop-done.index c.loop-done.rec (c.in-Ok.stores - c.loop-done._done) c.loop-done.invariant (omega arith) c.recovers_wrongly.result c.recovers_wrongly.ensures c.if-recovers_wrongly.false _ _ c.step.result c.step.ensures.0 _ refl)

pub shape_of-area : goal.shape_of-area
shape_of-area c = c.loop-done.invariant.area_same

pub shape_of-index : goal.shape_of-index
shape_of-index c = c.loop-done.invariant.cells_same

pub returns : goal.returns
returns c = play-ends c.args.faulty c.args.l c.args.place c.args.book c.args.area.now c.args.index.now _ c.loop-done.area c.loop-done.index c.loop-done.rec (c.in-Ok.stores - c.loop-done._done) c.loop-done.invariant (omega arith) c.finished.result c.finished.ensures
