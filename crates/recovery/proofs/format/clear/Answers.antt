use Prim.Native.Nat.{ℕ, ◌*◌}
use mathlib.Core.Path.{refl, sym, ◌∙◌, ap}
use mathlib.Core.List.{List}
use native.Mathlib.Omega.{arith}
use lib.ListN.{length, set, length-set}
use Rattle.model.specs.Operations.{cleared}
use Rattle.recovery.proofs.FormatLaws.{cleared-none, cleared-turn, slot-first}
use Rattle.recovery.proofs.format.clear.Goals as goal

pub loop-slot-init : goal.loop-slot-init
loop-slot-init c = (refl, cleared-none _ _)

pub bounds-area-slot : goal.bounds-area-slot
bounds-area-slot c =
    slot-first c.args.n c.args.s c.loop-slot.slot (length c.loop-slot.area) (omega arith)
    (omega arith) (omega arith)

pub overflow_mul-area : goal.overflow_mul-area
overflow_mul-area c =
    omega (
      arith,
      slot-first c.args.n c.args.s c.loop-slot.slot (length c.loop-slot.area) (omega arith)
          (omega arith) (omega arith),
    )

pub loop-slot-preserved : goal.loop-slot-preserved
loop-slot-preserved c = (
  simp length-set c.loop-slot.invariant.0,
  ap (λ (a : List ℕ). set a (c.loop-slot.slot * c.args.s) 0) c.loop-slot.invariant.1 ∙ sym (cleared-turn _ _ _),
)

pub shape_of-area : goal.shape_of-area
shape_of-area c = c.loop-slot.invariant.0

pub returns : goal.returns
returns c = c.loop-slot.invariant.1 ∙ ap (λ (k : ℕ). cleared c.args.s k c.args.area.now) (omega arith)
