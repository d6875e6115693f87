use mathlib.Core.Path.{refl}
use native.Mathlib.Omega.{arith}
use Rattle.index.proofs.SearchLaws.{search-empty, search-above, first_below, search-runs, runs-over, run_at, run-free, run-next}
use Rattle.index.proofs.search.search.Goals as goal

pub returns-then-length-eq0 : goal.returns-then-length-eq0
returns-then-length-eq0 c = search-empty _ _ _ c.if-length-eq0.true

pub returns-then-length-gt-MOST_CELLS : goal.returns-then-length-gt-MOST_CELLS
returns-then-length-gt-MOST_CELLS c = search-above _ _ _ c.if-length-gt-MOST_CELLS.true

pub loop-end-init : goal.loop-end-init
loop-end-init c =
    let l = first_below _ _ _ (omega arith) c.first_cell-from.ensures in (
      omega (arith, l),
      omega arith,
      search-runs _ _ _ refl (omega arith) (omega arith) c.key_hash.ensures c.first_cell-from.ensures,
    )

pub search_up-requires : goal.search_up-requires
search_up-requires c = (omega arith, omega arith)

pub returns-in-At : goal.returns-in-At
returns-in-At c =
    run_at _ _ _ _ _ c.loop-end.invariant.2 _ c.search_up.ensures _ c.in-At.is

pub returns-in-Free : goal.returns-in-Free
returns-in-Free c =
    run-free _ _ _ _ _ c.loop-end.invariant.2 _ c.search_up.ensures _ c.in-Free.is

pub loop-end-preserved : goal.loop-end-preserved
loop-end-preserved c =
    (omega arith, omega arith, run-next _ _ _ _ _ c.loop-end.invariant.2 _ c.search_up.ensures c.in-Full.is)

pub returns : goal.returns
returns c = runs-over _ _ _ _ _ c.loop-end.invariant.2 c.loop-end.invariant.0 c.loop-end-test.false
