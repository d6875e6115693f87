use Prim.Native.Nat.{◌+◌}
use mathlib.Core.Path.{refl, ◌∙◌, ap}
use mathlib.Core.Bool.{Bool}
use lib.ListN.{drop}
use Rattle.segment.specs.Choice.{both}
use Rattle.record.specs.Range.{counts_good}
use Rattle.record.specs.RangeLaws.{counts-turn, counts_end}
use Rattle.record.proofs.range.counts_good.Goals as goal

pub loop-count-init : goal.loop-count-init
unfolding both
loop-count-init c = refl

pub loop-count-preserved : goal.loop-count-preserved
loop-count-preserved c =
    ap (λ (t : Bool). both t (counts_good c.args.limit (drop (c.loop-count.count-index + 1) c.args.counts.now))) c.still_good-good.ensures
    ∙ counts-turn _ _ _ _ c.loop-count-test.true
    ∙ c.loop-count.invariant

pub returns : goal.returns
returns c = counts_end _ _ _ _ c.loop-count-test.false ∙ c.loop-count.invariant
