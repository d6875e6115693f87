-- `cleaning::copy::copy_chosen` meets its contract.
use mathlib.Core.Path.{sym, ◌∙◌, ap}
use native.Mathlib.Omega.{arith}
use lib.ListN.{length}
use Rattle.segment.proofs.Copied.{copied_none, copied-as}
use Rattle.cleaning.proofs.ChosenLaws.{bytes_left, bytes_chosen}
use Rattle.cleaning.proofs.copy.copy_chosen.Goals as goal

pub returns-then-not-is_chosen : goal.returns-then-not-is_chosen
returns-then-not-is_chosen c = copied_none _ _ _ (bytes_left _ _ _ _ c.args.header _ (sym c.is_chosen.ensures ∙ c.if-not-is_chosen.true))

pub move_entry-requires-clause-place_in_bounds : goal.move_entry-requires-clause-place_in_bounds
move_entry-requires-clause-place_in_bounds c =
    let a = c.args in
    let is = bytes_chosen a.into a.area.now a.chosen.now a.edition a.header a.place (sym c.is_chosen.ensures ∙ c.if-not-is_chosen.false) in
    omega (arith, c.requires.place_in_bounds, ap length is)

pub returns : goal.returns
returns c =
    copied-as (sym (bytes_chosen _ _ _ _ c.args.header _ (sym c.is_chosen.ensures ∙ c.if-not-is_chosen.false))) c.move_entry.ensures
