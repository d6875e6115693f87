-- `cleaning::kept::choose_kept` meets its contract.
use mathlib.Core.Path.{◌≡◌, sym, ◌∙◌}
use native.Mathlib.Omega.{arith}
use Rattle.cleaning.specs.Kept.{kept_test}
use Rattle.cleaning.proofs.KeptLaws.{search-kept, found_inside, length-kept, length-dropped}
use Rattle.cleaning.proofs.ChosenLaws.{entry-chosen, entry-left}
use Rattle.cleaning.proofs.kept.choose_kept.Goals as goal
use Rattle.cleaning.proofs.kept.choose_kept.Goals.{After-found_kept}

pub found_kept-requires-clause-found_inside : goal.found_kept-requires-clause-found_inside
found_kept-requires-clause-found_inside c =
    let a = c.args in
    found_inside a.area.now _ a.marks.now a.header.key _ c.search-found.ensures

-- the answer is the test's
told : (c : After-found_kept)
    → let a = c.args in
    c.found_kept.result ≡ kept_test a.area.now a.cells.now a.marks.now a.header a.place
told c = search-kept _ _ _ _ _ c.search-found.ensures _ _ c.found_kept.ensures

pub returns-then-not-found_kept : goal.returns-then-not-found_kept
returns-then-not-found_kept c =
    let a = c.args in
    let dropped = sym (told (goal.at.returns-then-not-found_kept c).After-found_kept) ∙ c.if-not-found_kept.true in (
      length-dropped _ _ _ _ _ a.header _ dropped,
      entry-left (kept_test a.area.now a.cells.now a.marks.now) _ a.header _ dropped,
    )

pub returns : goal.returns
returns c =
    let a = c.args in
    let kept = sym (told (goal.at.returns c).After-found_kept) ∙ c.if-not-found_kept.false in (
      omega (arith, length-kept a.into a.area.now a.cells.now a.marks.now a.edition a.header a.place c.requires.edition_bound c.requires.length_in_bounds.0 kept, c.moved_length.ensures),
      entry-chosen (kept_test a.area.now a.cells.now a.marks.now) _ a.header _ kept c.choose.ensures,
    )
