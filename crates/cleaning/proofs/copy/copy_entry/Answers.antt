-- `cleaning::copy::copy_entry` meets its contract.
use mathlib.Core.Path.{sym, ◌∙◌, ap}
use native.Mathlib.Omega.{arith}
use lib.ListN.{length}
use Rattle.segment.proofs.Copied.{copied_none, copied-as}
use Rattle.cleaning.proofs.KeptLaws.{entry-dropped, entry_kept}
use Rattle.cleaning.proofs.copy.copy_entry.Goals as goal

pub returns-then-not-is_kept : goal.returns-then-not-is_kept
returns-then-not-is_kept c = copied_none _ _ _ (entry-dropped _ _ _ _ _ c.args.header _ (sym c.is_kept.ensures ∙ c.if-not-is_kept.true))

pub move_entry-requires-clause-place_in_bounds : goal.move_entry-requires-clause-place_in_bounds
move_entry-requires-clause-place_in_bounds c =
    let a = c.args in
    let is = entry_kept a.into a.area.now a.cells.now a.marks.now a.edition a.header a.place (sym c.is_kept.ensures ∙ c.if-not-is_kept.false) in
    omega (arith, c.requires.place_in_bounds, ap length is)

pub returns : goal.returns
returns c =
    copied-as (sym (entry_kept _ _ _ _ _ c.args.header _ (sym c.is_kept.ensures ∙ c.if-not-is_kept.false))) c.move_entry.ensures
