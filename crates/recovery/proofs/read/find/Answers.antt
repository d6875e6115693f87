-- `recovery::read::find` meets its contract.
use mathlib.Core.Path.{◌≡◌, sym, ◌∙◌, ap}
use mathlib.Core.Bool.{true}
use lib.ListN.{length}
use Rattle.record.specs.Range.{fits_lent}
use Rattle.record.specs.Reach.{holds_table}
use Rattle.recovery.specs.Lookups.{lookup_at}
use Rattle.recovery.proofs.LookupLaws.{looked-unfit, looked-outside, looked-fit, reached}
use Rattle.recovery.proofs.read.find.Goals as goal
use Rattle.recovery.proofs.read.find.Goals.{Else-not-fits_lent, Else-not-holds_table}

fit : (c : Else-not-fits_lent)
    → let a = c.args in fits_lent a.rec.edition a.rec (length a.area.now) (length a.index.now) ≡ true
fit c = sym c.fits_lent.ensures ∙ c.if-not-fits_lent.false

held : (c : Else-not-holds_table) → let a = c.args in holds_table a.tables a.key.table ≡ true
held c = sym c.holds_table.ensures ∙ c.if-not-holds_table.false

pub returns-then-not-fits_lent : goal.returns-then-not-fits_lent
returns-then-not-fits_lent c = sym (looked-unfit _ _ _ _ _ _ (sym c.fits_lent.ensures ∙ c.if-not-fits_lent.true))

pub returns-then-not-holds_table : goal.returns-then-not-holds_table
returns-then-not-holds_table c = sym (looked-outside _ _ _ _ _ _ (fit (goal.at.returns-then-not-holds_table c).Else-not-fits_lent) (sym c.holds_table.ensures ∙ c.if-not-holds_table.true))

pub look_at-requires : goal.look_at-requires
look_at-requires c =
    λ i f. reached _ _ _ _ _ _ (fit (goal.at.look_at-requires c).Else-not-fits_lent) (held (goal.at.look_at-requires c).Else-not-holds_table) i (sym c.search.ensures ∙ f)

pub returns : goal.returns
returns c =
    c.look_at.ensures
    ∙ ap (lookup_at _ _) c.search.ensures
    ∙ sym (looked-fit _ _ _ _ _ _ (fit (goal.at.returns c).Else-not-fits_lent) (held (goal.at.returns c).Else-not-holds_table))
