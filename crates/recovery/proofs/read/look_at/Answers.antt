-- `recovery::read::look_at` meets its contract: an arm for each end of the search.
use mathlib.Core.Path.{sym, ◌∙◌, ap}
use native.Mathlib.Omega.{arith}
use Rattle.recovery.specs.Lookups.{Reached, lookup_at}
use borrow.Author.Rules.{scaled_Fits}
use Rattle.recovery.proofs.read.look_at.Goals as goal
use Rattle.recovery.proofs.read.look_at.Goals.{In-At}

reach : (c : In-At)
    → let a = c.args in Reached a.index.now c.in-At.i
reach c = c.requires c.in-At.i c.in-At.is

pub offset_bounds-index-i : goal.offset_bounds-index-i
offset_bounds-index-i c = let r = reach c in scaled_Fits _ _ 4 r.below (omega arith)

pub bounds-index-i : goal.bounds-index-i
bounds-index-i c = (reach (goal.at.bounds-index-i c).In-At).below

pub overflow_sub-index : goal.overflow_sub-index
overflow_sub-index c = (reach (goal.at.overflow_sub-index c).In-At).taken

pub overflow_cast-index : goal.overflow_cast-index
overflow_cast-index c = omega (arith, c.type_inv.index c.in-At.i)

pub returns-in-Full : goal.returns-in-Full
unfolding lookup_at
returns-in-Full c = sym (ap (lookup_at _ _) c.in-Full.is)

pub returns-in-Free : goal.returns-in-Free
unfolding lookup_at
returns-in-Free c = sym (ap (lookup_at _ _) c.in-Free.is)

pub returns-in-At : goal.returns-in-At
unfolding lookup_at
returns-in-At c = c.look.ensures ∙ sym (ap (lookup_at _ _) c.in-At.is)
