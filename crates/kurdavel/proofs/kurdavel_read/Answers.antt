-- `kurdavel::kurdavel_read` meets its contract.
use mathlib.Core.Bool.{true}
use mathlib.Core.Path.{◌≡◌, refl, sym, ◌∙◌}
use lib.ListN.{length}
use Rattle.record.specs.Range.{fits_lent}
use Rattle.record.specs.Reach.{holds_table}
use Rattle.recovery.specs.Lookups.{looked_up, told_by}
use Rattle.recovery.proofs.LookupLaws.{reached}
use Rattle.words.specs.Words.{decoded}
use Rattle.kurdavel.specs.CrossingLaws.{looked-lost, looked-away, looked-found, read-crossed}
use Rattle.kurdavel.proofs.kurdavel_read.Goals as goal
use Rattle.kurdavel.proofs.kurdavel_read.Goals.{After-look_at, Else-not-fits, Else-not-holds_table}

-- the record fits what is lent, and the caller may reach the key
fit : (c : Else-not-fits)
    → let a = c.args in
    fits_lent (decoded a.words.now).rec.edition (decoded a.words.now).rec (length a.area.now) (length a.index.now) ≡ true
fit c = sym c.fits.ensures ∙ c.if-not-fits.false

held : (c : Else-not-holds_table)
    → let a = c.args in
    holds_table (record { first = a.first; last = a.last }) a.table ≡ true
held c = sym c.holds_table.ensures ∙ c.if-not-holds_table.false

-- what the look says, by the record that the words say
looked : (c : After-look_at)
    → let a = c.args in
    c.look_at.result ≡
    looked_up (decoded a.words.now).rec.edition (decoded a.words.now).rec a.area.now a.index.now (record { first = a.first; last = a.last })
    (record { table = a.table; key = a.key })
looked c =
    looked-found _ _ _ _ _ ((sym c.fits.ensures ∙ c.if-not-fits.false)) ((sym c.holds_table.ensures ∙ c.if-not-holds_table.false)) c.search-found.ensures c.look_at.ensures

pub returns-then-not-fits : goal.returns-then-not-fits
unfolding told_by
returns-then-not-fits c = read-crossed (looked-lost _ _ _ _ _ refl (sym c.fits.ensures ∙ c.if-not-fits.true)) refl refl refl refl refl

pub returns-then-not-holds_table : goal.returns-then-not-holds_table
unfolding told_by
returns-then-not-holds_table c =
    read-crossed (looked-away _ _ _ _ _ refl (fit (goal.at.returns-then-not-holds_table c).Else-not-fits) (sym c.holds_table.ensures ∙ c.if-not-holds_table.true)) refl refl
    refl refl refl

pub look_at-requires : goal.look_at-requires
look_at-requires c =
    λ i f. reached _ _ _ _ _ _ (fit (goal.at.look_at-requires c).Else-not-fits) (held (goal.at.look_at-requires c).Else-not-holds_table) i (sym c.search-found.ensures ∙ f)

pub returns-in-Err : goal.returns-in-Err
returns-in-Err c =
    read-crossed (looked (goal.at.returns-in-Err c).After-look_at) c.told-answer.ensures c.in-Err.is
    c.number.ensures refl refl

pub returns-in-Ok : goal.returns-in-Ok
returns-in-Ok c = read-crossed (looked (goal.at.returns-in-Ok c).After-look_at) c.told-answer.ensures c.in-Ok.is refl refl refl
