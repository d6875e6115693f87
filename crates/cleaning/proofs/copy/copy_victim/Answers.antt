-- `cleaning::copy::copy_victim` meets its contract.
use mathlib.Core.Path.{◌≡◌, sym, ◌∙◌, ap}
use native.Mathlib.Omega.{arith}
use lib.ListN.{length}
use Rattle.segment.specs.Layout.{Layout}
use Rattle.segment.proofs.LayoutLaws.{same_layout_lem}
use Rattle.segment.specs.Digest.{layout_in}
use Rattle.segment.proofs.Copied.{copied_none, copied-as}
use Rattle.cleaning.specs.Chosen.{chosen_slot, chosen_part}
use Rattle.cleaning.proofs.ChosenLaws.{chosen-victim, chosen-other}
use Rattle.cleaning.proofs.copy.copy_victim.Goals as goal
use Rattle.cleaning.proofs.copy.copy_victim.Goals.{After-edition_of-edition, Then-same_edition}

pub returns-then-not-is_named : goal.returns-then-not-is_named
returns-then-not-is_named c = copied_none _ _ _ (chosen-other _ _ _ _ _ (sym c.is_named.ensures ∙ c.if-not-is_named.true))

-- what is chosen of the slot in its own edition is the victim's part
own : (c : After-edition_of-edition)
    → let a = c.args in
    chosen_slot c.edition_of-edition.result a.into a.area.now a.chosen.now a.split.size a.slot
    ≡ chosen_part a.into a.area.now a.chosen.now a.split a.slot
own c =
    chosen-victim _ _ _ _ _ _ (c.edition_of-edition.ensures ∙ ap layout_in c.cut.ensures) (sym c.is_named.ensures ∙ c.if-not-is_named.false)

-- in a slot of the new head's edition nothing is rewritten
alike : (c : Then-same_edition)
    → let a = c.args in
    let e = c.edition_of-edition.result in
    chosen_slot e e a.area.now a.chosen.now a.split.size a.slot ≡ chosen_part a.into a.area.now a.chosen.now a.split a.slot
alike c =
    let a = c.args in
    let e = c.edition_of-edition.result in
    ap (λ (W : Layout). chosen_slot e W a.area.now a.chosen.now a.split.size a.slot)
    (same_layout_lem e a.into (sym c.same_edition.ensures ∙ c.if-same_edition.true))
    ∙ (chosen-victim _ _ _ _ _ _ (c.edition_of-edition.ensures ∙ ap layout_in c.cut.ensures) (sym c.is_named.ensures ∙ c.if-not-is_named.false))

pub copy_runs-requires-clause-slot_in_bounds : goal.copy_runs-requires-clause-slot_in_bounds
copy_runs-requires-clause-slot_in_bounds c =
    omega (arith, c.requires.slot_in_bounds, ap length (alike (goal.at.copy_runs-requires-clause-slot_in_bounds c).Then-same_edition))

pub returns-then-same_edition : goal.returns-then-same_edition
returns-then-same_edition c = copied-as (alike (goal.at.returns-then-same_edition c).Then-same_edition) c.copy_runs.ensures

pub copy_slot-requires-clause-slot_in_bounds : goal.copy_slot-requires-clause-slot_in_bounds
copy_slot-requires-clause-slot_in_bounds c =
    omega (arith, c.requires.slot_in_bounds, ap length (own (goal.at.copy_slot-requires-clause-slot_in_bounds c).After-edition_of-edition))

pub returns : goal.returns
returns c = copied-as (own (goal.at.returns c).After-edition_of-edition) c.copy_slot.ensures
