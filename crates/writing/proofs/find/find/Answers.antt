-- `writing::find::find` meets its contract.
use mathlib.Core.Path.{sym, ◌∙◌, ap}
use native.Mathlib.Omega.{arith}
use Rattle.index.specs.SearchLaws.{Inside}
use Rattle.index.proofs.SearchLaws.{search-inside}
use Rattle.writing.specs.Tests.{presence_of}
use Rattle.writing.specs.TestLaws.{presence-full, presence-free, presence-at}
use borrow.Author.Rules.{scaled_Fits}
use Rattle.writing.proofs.find.find.Goals as goal
use Rattle.writing.proofs.find.find.Goals.{In-At}

-- the cell that was found holds a place of the area
inside : (c : In-At) →
    let a = c.args in
    Inside a.area.now a.index.now c.in-At.i
inside c = search-inside _ _ _ _ (sym c.search.ensures ∙ c.in-At.is)

pub offset_bounds-index-i : goal.offset_bounds-index-i
offset_bounds-index-i c = scaled_Fits _ _ 4 (inside c).below c.well_formed.1.0.1

pub bounds-index-i : goal.bounds-index-i
bounds-index-i c = (inside (goal.at.bounds-index-i c).In-At).below

pub overflow_sub-place : goal.overflow_sub-place
overflow_sub-place c = (inside (goal.at.overflow_sub-place c).In-At).taken

pub overflow_cast-place : goal.overflow_cast-place
overflow_cast-place c = omega (arith, c.type_inv.index c.in-At.i)

pub returns-in-Full : goal.returns-in-Full
returns-in-Full c = presence-full _ _ _ (sym c.in-Full.is ∙ c.search.ensures)

pub returns-in-Free : goal.returns-in-Free
returns-in-Free c = presence-free _ _ _ _ (sym c.in-Free.is ∙ c.search.ensures)

pub returns-in-At : goal.returns-in-At
returns-in-At c =
    presence-at _ _ _ _ (sym c.in-At.is ∙ c.search.ensures) (c.presence.ensures ∙ ap presence_of c.entry_at.ensures)
