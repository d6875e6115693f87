use Rattle.std.specs.Prelude.{None}
use mathlib.Core.Path.{◌≡◌, refl, ◌∙◌}
use native.Mathlib.Omega.{arith}
use lib.ListN.{length}
use borrow.Author.Rules.{rules}
use Rattle.index.proofs.Turns.{order-end, order-over, order-next, order-few}
use Rattle.index.proofs.build.index_order.Goals as goal
use Rattle.index.proofs.build.index_order.Goals.{After-index_listed}

-- the cells stay as many
long : (c : After-index_listed) →
    length c.index_listed.new.cells ≡ length c.args.cells.now
long c = c.index_listed.auto.cells ∙ c.loop-slot.invariant.0

pub loop-slot-init : goal.loop-slot-init
loop-slot-init c = (refl, search rules, refl)

pub index_listed-requires : goal.index_listed-requires
index_listed-requires c =
    (c.slot_of.ensures.1, c.requires, c.loop-slot.invariant.1)

pub returns-in_err-keys : goal.returns-in_err-keys
returns-in_err-keys c =
    let e : c.from_residual.result ≡ None = search rules in
    rw e
    (order-over _ _ _ _ _ _ _ _ c.loop-slot.invariant.2 c.loop-slot-test.true _ c.slot_of.ensures.0 _ _
    c.index_listed.ensures c.in_err-keys.was)

pub loop-slot-preserved : goal.loop-slot-preserved
loop-slot-preserved c = (
  long (goal.at.loop-slot-preserved c).After-index_listed,
  order-few _ _ _ _ _ _ _ _ c.loop-slot.invariant.2 c.loop-slot-test.true _ c.slot_of.ensures.0 _ _
      c.index_listed.ensures _ c.in_ok-keys.was c.loop-slot.invariant.1,
  order-next _ _ _ _ _ _ _ _ c.loop-slot.invariant.2 c.loop-slot-test.true _ c.slot_of.ensures.0 _ _
      c.index_listed.ensures _ c.in_ok-keys.was,
)

pub shape_of-cells : goal.shape_of-cells
shape_of-cells c = c.loop-slot.invariant.0

pub returns : goal.returns
returns c = order-end _ _ _ _ _ _ _ _ c.loop-slot.invariant.2 c.loop-slot-test.false
