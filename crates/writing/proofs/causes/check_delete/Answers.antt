-- `writing::causes::check_delete` meets its contract: a law for each return.
use Rattle.std.specs.Prelude.{Ok, Err}
use mathlib.Core.Path.{ap}
use mathlib.Core.Bool.{not}
use mathlib.Core.Path.{◌≡◌, refl, sym, ◌∙◌}
use borrow.Author.Rules.{rules}
use lib.ListN.{length}
use Rattle.model.specs.Causes.{first_cause}
use Rattle.starting.specs.Checks.{checked}
use Rattle.writing.specs.declared.Presence.TheVariants.{Tombstone, Nothing}
use Rattle.writing.specs.Tests.{facts_of, first_tests}
use Rattle.writing.specs.TestLaws.{first-bad, delete-first, delete-forbidden, delete-absent, delete-spent, delete-known}
use Rattle.writing.proofs.causes.check_delete.Goals as goal
use Rattle.writing.proofs.causes.check_delete.Goals.{In_ok-check_first}

-- what is known once 4, 22, 3 and 5 are passed
first : (c : In_ok-check_first) →
    let a = c.args in
    Ok tt ≡ checked (first_cause (first_tests a.rec.edition a.rec (record { area = length a.area.now; index = length a.index.now; work = a.work }) a.tables a.key))
first c = sym c.in_ok-check_first.was ∙ c.check_first.ensures

pub returns-then-not-fits_lent : goal.returns-then-not-fits_lent
returns-then-not-fits_lent c =
    let a = c.args in
    delete-first _ _ _ _ _ _ _ (first-bad _ a.rec (record { area = length a.area.now; index = length a.index.now; work = a.work }) a.tables a.key c.fits_lent.ensures (ap not c.if-not-fits_lent.true))

pub check_first-requires : goal.check_first-requires
check_first-requires c = sym c.fits_lent.ensures ∙ c.if-not-fits_lent.false

pub returns-then-versions_spent : goal.returns-then-versions_spent
returns-then-versions_spent c =
    delete-spent _ _ _ _ _ _ (first (goal.at.returns-then-versions_spent c).In_ok-check_first) _ (sym c.in-Object.is ∙ c.find.ensures) (sym c.versions_spent.ensures ∙ c.if-versions_spent.true)

pub returns-in_err-check_first : goal.returns-in_err-check_first
returns-in_err-check_first c =
    let e : c.from_residual.result ≡ Err c.in_err-check_first.field-0.0 = search rules in
    e ∙ delete-first _ _ _ _ _ _ _ (sym c.in_err-check_first.was ∙ c.check_first.ensures)

pub returns-in-Forbidden : goal.returns-in-Forbidden
returns-in-Forbidden c =
    delete-forbidden _ _ _ _ _ _ (first (goal.at.returns-in-Forbidden c).In_ok-check_first) (sym c.in-Forbidden.is ∙ c.find.ensures)

pub returns-in-Nothing : goal.returns-in-Nothing
unfolding facts_of
returns-in-Nothing c =
    delete-absent _ _ _ _ _ _ (first (goal.at.returns-in-Nothing c).In_ok-check_first) Nothing (sym c.in-Nothing.is ∙ c.find.ensures) refl refl

pub returns-in-Tombstone : goal.returns-in-Tombstone
unfolding facts_of
returns-in-Tombstone c =
    delete-absent _ _ _ _ _ _ (first (goal.at.returns-in-Tombstone c).In_ok-check_first) Tombstone (sym c.in-Tombstone.is ∙ c.find.ensures) refl refl

pub returns-else-versions_spent : goal.returns-else-versions_spent
returns-else-versions_spent c =
    delete-known _ _ _ _ _ _ (first (goal.at.returns-else-versions_spent c).In_ok-check_first) _ (sym c.in-Object.is ∙ c.find.ensures)
    (sym c.versions_spent.ensures ∙ c.if-versions_spent.false)
