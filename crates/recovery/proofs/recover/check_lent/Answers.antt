-- `recovery::recover::check_lent` meets its contract: a law for each return, at the tests that led there.
use mathlib.Core.Path.{◌≡◌, sym, ◌∙◌}
use mathlib.Core.Bool.{true, false}
use native.Mathlib.Omega.{arith}
use Rattle.record.specs.Range.{cells_good}
use Rattle.model.specs.Recovery.{geometry_bad}
use Rattle.recovery.specs.FormatLaws.{geometry-fits}
use Rattle.recovery.proofs.CheckLaws.{lent-geometry, lent-cells, lent-order, lent-passed}
use Rattle.recovery.proofs.recover.check_lent.Goals as goal
use Rattle.recovery.proofs.recover.check_lent.Goals.{Else-geometry_bad, Else-not-cells_good}

fits : (c : Else-geometry_bad) → let a = c.args in geometry_bad a.n a.s a.area ≡ false
fits c = sym c.geometry_bad.ensures ∙ c.if-geometry_bad.false

cells_fit : (c : Else-not-cells_good) → let a = c.args in cells_good a.index ≡ true
cells_fit c = sym c.cells_good.ensures ∙ c.if-not-cells_good.false

pub returns-then-geometry_bad : goal.returns-then-geometry_bad
returns-then-geometry_bad c = let a = c.args in lent-geometry a.n a.s a.index a.area a.order.now (sym c.geometry_bad.ensures ∙ c.if-geometry_bad.true)

pub returns-then-not-cells_good : goal.returns-then-not-cells_good
returns-then-not-cells_good c =
    let a = c.args in
    lent-cells a.n a.s a.index a.area a.order.now (fits (goal.at.returns-then-not-cells_good c).Else-geometry_bad) (sym c.cells_good.ensures ∙ c.if-not-cells_good.true)

pub order_bad-requires : goal.order_bad-requires
order_bad-requires c = let f = geometry-fits _ _ _ (fits (goal.at.order_bad-requires c).Else-geometry_bad) in (omega arith, omega arith)

pub returns-then-order_bad : goal.returns-then-order_bad
returns-then-order_bad c =
    let a = c.args in
    lent-order a.n a.s a.index a.area a.order.now (fits (goal.at.returns-then-order_bad c).Else-geometry_bad) (cells_fit (goal.at.returns-then-order_bad c).Else-not-cells_good) (sym c.order_bad.ensures ∙ c.if-order_bad.true)

pub returns : goal.returns
returns c =
    let a = c.args in
    lent-passed a.n a.s a.index a.area a.order.now (fits (goal.at.returns c).Else-geometry_bad) (cells_fit (goal.at.returns c).Else-not-cells_good) (sym c.order_bad.ensures ∙ c.if-order_bad.false)
