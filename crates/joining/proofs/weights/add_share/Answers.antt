-- `joining::weights::add_share` meets its contract.
use Prim.Native.Nat.{◌<◌}
use mathlib.Core.Path.{refl, subst}
use native.Mathlib.Omega.{arith}
use Rattle.joining.specs.Weights.{ShareFits}
use Rattle.joining.specs.WeightsLaws.{added_none, added-whole, added-unless}
use Rattle.joining.proofs.weights.add_share.Goals as goal
use Rattle.joining.proofs.weights.add_share.Goals.{In-Unless}

-- the slot of the share
low : (c : In-Unless) → c.in-Unless.p < 32
low c = subst ShareFits c.in-Unless.is c.requires.share_fits

pub overflow_add-at : goal.overflow_add-at
overflow_add-at c = omega (arith, low c)

pub offset_bounds-shares-at : goal.offset_bounds-shares-at
offset_bounds-shares-at c = omega (arith, low c)

pub bounds-shares-at : goal.bounds-shares-at
bounds-shares-at c = omega (arith, low (goal.at.bounds-shares-at c).In-Unless)

pub overflow_add-shares : goal.overflow_add-shares
overflow_add-shares c = omega (arith, low (goal.at.overflow_add-shares c).In-Unless, c.requires.low c.in-Unless.p (low (goal.at.overflow_add-shares c).In-Unless), c.requires.count_bound)

pub offset_bounds-shares-at-in-Unless : goal.offset_bounds-shares-at-in-Unless
offset_bounds-shares-at-in-Unless c = omega (arith, low (goal.at.offset_bounds-shares-at-in-Unless c).In-Unless)

pub bounds-shares-at-in-Unless : goal.bounds-shares-at-in-Unless
bounds-shares-at-in-Unless c = omega (arith, low (goal.at.bounds-shares-at-in-Unless c).In-Unless)

pub returns-in-Nothing : goal.returns-in-Nothing
returns-in-Nothing c = added_none _ _ _ _ c.in-Nothing.is

pub returns-in-Whole : goal.returns-in-Whole
returns-in-Whole c = added-whole _ _ _ _ c.in-Whole.is

pub returns-in-Unless : goal.returns-in-Unless
returns-in-Unless c = added-unless _ _ _ _ _ _ c.in-Unless.is refl
