-- `joining::notes::note_key` meets its contract.
use mathlib.Core.Path.{◌≡◌, sym, ◌∙◌}
use native.Mathlib.Omega.{arith}
use borrow.Author.Rules.{scaled_Fits}
use Rattle.index.specs.declared.Found.{Found}
use Rattle.index.specs.Search.{search_for}
use Rattle.index.proofs.SearchLaws.{search-inside}
use Rattle.joining.specs.NotesLaws.{slot-low, key-own, key-older, key-free, key-full}
use Rattle.joining.proofs.notes.note_key.Goals as goal
use Rattle.joining.proofs.notes.note_key.Goals.{In-At}

-- what the search found
is_at : (c : In-At)
    → let a = c.args in search_for a.area.now a.cells.now a.key ≡ Found.At c.in-At.i
is_at c = sym c.search.ensures ∙ c.in-At.is

pub offset_bounds-cells-i : goal.offset_bounds-cells-i
offset_bounds-cells-i c = scaled_Fits _ _ 4 (search-inside _ _ _ _ (is_at c)).below c.well_formed.1.0.1

pub bounds-cells-i : goal.bounds-cells-i
bounds-cells-i c = (search-inside _ _ _ _ (is_at (goal.at.bounds-cells-i c).In-At)).below

pub overflow_add-place : goal.overflow_add-place
overflow_add-place c = omega (arith, slot-low c.args.slot c.args.size c.requires.slot_bound c.requires.size_bound, c.requires.place_bound)

pub returns-then-newest-place : goal.returns-then-newest-place
returns-then-newest-place c =
    key-own _ _ _ _ _ _ _ _ _ (is_at (goal.at.returns-then-newest-place c).In-At) c.if-newest-place.true c.requires.size_bound_2 c.requires.place_bound

pub note_cell-requires : goal.note_cell-requires
note_cell-requires c =
    let w = search-inside _ _ _ _ (is_at (goal.at.note_cell-requires c).In-At) in
    record {
      newest_nonzero = w.taken;
      newest_bound = omega (arith, w.fits, c.requires.area_len_bound);
      notes_len = c.requires.notes_len;
      slot_bound = c.requires.slot_bound;
      size_bound = c.requires.size_bound;
    }

pub returns-else-newest-place : goal.returns-else-newest-place
returns-else-newest-place c = key-older _ _ _ _ _ _ _ _ _ _ (is_at (goal.at.returns-else-newest-place c).In-At) c.if-newest-place.false c.note_cell.ensures

pub returns-in-Free : goal.returns-in-Free
returns-in-Free c = key-free _ _ _ _ _ _ _ _ _ (sym c.search.ensures ∙ c.in-Free.is)

pub returns-in-Full : goal.returns-in-Full
returns-in-Full c = key-full _ _ _ _ _ _ _ _ (sym c.search.ensures ∙ c.in-Full.is)
