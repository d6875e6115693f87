use mathlib.Core.Path.{sym, ◌∙◌}
use Rattle.std.proofs.Common.{eqb-true}
use Rattle.index.proofs.SearchLaws.{search-empty, search-above}
use Rattle.cleaning.proofs.Walks.{walk_none, walk_more}
use Rattle.cleaning.specs.Filter.{sift_entry}
use Rattle.cleaning.proofs.FilterLaws.{sift-nothing}
use Rattle.cleaning.proofs.outside.mark_outside.Goals as goal

pub returns-then-is_empty : goal.returns-then-is_empty
returns-then-is_empty c =
    sift-nothing _ _ _ c.args.split _ (λ k. search-empty _ _ k (eqb-true _ _ (sym c.is_empty.ensures ∙ c.if-is_empty.true)))

pub returns-then-cells-gt-MOST_CELLS : goal.returns-then-cells-gt-MOST_CELLS
returns-then-cells-gt-MOST_CELLS c = sift-nothing _ _ _ c.args.split _ (λ k. search-above _ _ k c.if-cells-gt-MOST_CELLS.true)

pub loop-i-init : goal.loop-i-init
loop-i-init c = walk_none (sift_entry _ _ _) _ _ _ _

pub loop-i-preserved : goal.loop-i-preserved
loop-i-preserved c = walk_more (sift_entry _ _ _) _ _ _ _ _ c.loop-i.invariant c.mark_part.ensures
