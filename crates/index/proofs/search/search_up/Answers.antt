use mathlib.Core.Path.{refl, sym, ◌∙◌}
use native.Mathlib.Omega.{arith}
use Rattle.index.specs.Search.{cell_has}
use Rattle.index.proofs.SearchLaws.{turn-full, turn-free, turn_at, turn-next}
use Rattle.index.proofs.search.search_up.Goals as goal

pub loop-at-init : goal.loop-at-init
loop-at-init c = (omega arith, refl)

pub returns-then-cell-eq0 : goal.returns-then-cell-eq0
returns-then-cell-eq0 c =
    turn-free _ _ _ _ _ c.loop-at.invariant.1 c.loop-at-test.true c.if-cell-eq0.true

pub returns-then-cell_has : goal.returns-then-cell_has
returns-then-cell_has c =
    turn_at _ _ _ _ _ c.loop-at.invariant.1 c.loop-at-test.true c.if-cell-eq0.false (sym c.cell_has.ensures ∙ c.if-cell_has.true)

pub loop-at-preserved : goal.loop-at-preserved
loop-at-preserved c = (
  omega arith,
  turn-next _ _ _ _ _ c.loop-at.invariant.1 c.loop-at-test.true (omega arith) c.if-cell-eq0.false
      (sym c.cell_has.ensures ∙ c.if-cell_has.false),
)

pub returns : goal.returns
returns c = turn-full _ _ _ _ _ c.loop-at.invariant.1 c.loop-at-test.false
