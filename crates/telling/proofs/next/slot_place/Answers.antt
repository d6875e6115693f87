-- `telling::next::slot_place` meets its contract.
use borrow.Author.Rules.{rules}
use mathlib.Core.Path.{sym, ◌∙◌}
use native.Mathlib.Omega.{arith}
use Rattle.starting.specs.Stores.{stores-most}
use Rattle.telling.specs.NextLaws.{Fit}
use Rattle.telling.proofs.NextLaws.{slot-facts}
use Rattle.telling.proofs.PlaceLaws.{place-unfit, place-none-left, place-too-many, place-first, place-commit}
use Rattle.telling.proofs.next.slot_place.Goals as goal
use Rattle.telling.proofs.next.slot_place.Goals.{Else-not-fits_slot}

-- what is known once the test of the slot is passed
within : (c : Else-not-fits_slot)
    → Fit c.args.area c.args.work
    c.args.size c.args.slot
    c.args.offset c.args.count
within c = slot-facts _ _ _ _ _ _ (sym c.fits_slot.ensures ∙ c.if-not-fits_slot.false)

pub returns-then-not-fits_slot : goal.returns-then-not-fits_slot
returns-then-not-fits_slot c = search (place-unfit, rules)

pub commit_stores-requires : goal.commit_stores-requires
commit_stores-requires c = omega (arith, within c)

pub overflow_add-total : goal.overflow_add-total
overflow_add-total c =
    let a = c.args in
    omega (arith, within (goal.at.overflow_add-total c).Else-not-fits_slot, stores-most a.size a.offset a.count c.commit_stores.ensures)

pub returns-then-left-eq0 : goal.returns-then-left-eq0
returns-then-left-eq0 c = search (place-none-left, rules)

pub returns-then-total-left : goal.returns-then-total-left
returns-then-total-left c = search (place-too-many, rules)

pub overflow_mul-result : goal.overflow_mul-result
overflow_mul-result c = omega (arith, within (goal.at.overflow_mul-result c).Else-not-fits_slot)

pub returns-then-total-left-2 : goal.returns-then-total-left-2
returns-then-total-left-2 c = search (place-first, rules)

pub overflow_mul-slot : goal.overflow_mul-slot
overflow_mul-slot c = omega (arith, within (goal.at.overflow_mul-slot c).Else-not-fits_slot)

pub commit_place-requires : goal.commit_place-requires
commit_place-requires c =
    let f = within (goal.at.commit_place-requires c).Else-not-fits_slot in
    (omega arith, omega (arith, f.inside), f.room, f.some, omega arith)

pub returns : goal.returns
returns c = search (place-commit, rules)
