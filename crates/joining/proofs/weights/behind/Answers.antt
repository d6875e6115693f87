use native.Mathlib.Omega.{arith}
use Rattle.cleaning.specs.EntriesLaws.{Meets}
use Rattle.cleaning.proofs.EntriesLaws.{meets}
use Rattle.joining.specs.WeightsLaws.{passed_start, passed-object}
use Rattle.joining.proofs.weights.behind.Goals as goal
use Rattle.joining.proofs.weights.behind.Goals.{In-Entry}

-- the entry that the turn meets
met : (c : In-Entry) → Meets c.args.edition c.args.s.now c.loop-header.at c.in-Entry.header
met c = meets _ _ _ _ c.next.ensures _ c.in-Entry.is

pub loop-header-init : goal.loop-header-init
loop-header-init c = passed_start _ _ _ c.requires.from_in_bounds

pub overflow_add-at : goal.overflow_add-at
overflow_add-at c = omega (arith, (met (goal.at.overflow_add-at c).In-Entry).fits, c.if-header-count.false, c.requires.s_len_bound)

pub loop-header-smaller : goal.loop-header-smaller
loop-header-smaller c = omega (arith, (met (goal.at.loop-header-smaller c).In-Entry).fits, (met (goal.at.loop-header-smaller c).In-Entry).some_byte, c.if-header-count.false)

pub loop-header-preserved : goal.loop-header-preserved
loop-header-preserved c = passed-object _ _ _ _ c.loop-header.invariant (met (goal.at.loop-header-preserved c).In-Entry) c.if-header.false _ c.if-header-count.false
