-- `stepping::step` meets its contract.
use Rattle.std.specs.Prelude.{Ok}
use mathlib.Core.Path.{ap}
use mathlib.Core.Bool.{not}
use borrow.Author.Rules.{rules}
use mathlib.Core.Bool.{true}
use mathlib.Core.Path.{◌≡◌, sym, ◌∙◌}
use native.Mathlib.Omega.{arith}
use lib.ListN.{length, length-set}
use Rattle.record.specs.Range.{fits_lent}
use Rattle.record.specs.RangeLaws.{lent}
use Rattle.record.specs.declared.Refusal.TheVariants.{BadRecord}
use Rattle.record.specs.Answered.{TellAnswer}
use Rattle.telling.proofs.BareLaws.{found-bad}
use Rattle.telling.specs.Told.{found_by}
use Rattle.stepping.proofs.OnLaws.{found-refused, found-stored, fit-own, told-found, Found, found-known}
use Rattle.stepping.proofs.step.Goals as goal
use Rattle.stepping.proofs.step.Goals.{Else-not-fits_lent, In-Ok}

-- what is known once range and lengths are tested
fit : (c : Else-not-fits_lent) → let a = c.args in fits_lent a.rec.edition a.rec (length a.area.now) (length a.index.now) ≡ true
fit c = sym c.fits_lent.ensures ∙ c.if-not-fits_lent.false

-- and once a store was found
at : (c : In-Ok)
    → let a = c.args in
    found_by a.rec.edition a.rec a.area.now (length a.index.now) a.work.now ≡ Ok c.in-Ok.next
at c =
    let a = c.args in
    sym (told-found _ a.rec a.area.now a.index.now a.work.now ((sym c.fits_lent.ensures ∙ c.if-not-fits_lent.false)) c.store_of.ensures) ∙ c.in-Ok.is

known : (c : In-Ok)
    → let a = c.args in
    Found a.rec.edition a.rec a.area.now a.index.now a.work.now ((sym c.fits_lent.ensures ∙ c.if-not-fits_lent.false)) c.in-Ok.next.place c.in-Ok.next.byte (at c)
known c =
    let a = c.args in
    found-known _ a.rec a.area.now a.index.now a.work.now ((sym c.fits_lent.ensures ∙ c.if-not-fits_lent.false)) _ _ (at c)

pub returns-then-not-fits_lent : goal.returns-then-not-fits_lent
returns-then-not-fits_lent c =
    let a = c.args in
    found-refused _ a.rec a.area.now a.index.now a.work.now BadRecord
    (sym (found-bad _ a.rec a.area.now (length a.index.now) a.work.now c.fits_lent.ensures (ap not c.if-not-fits_lent.true)))
    c.refused.ensures

pub store_of-requires : goal.store_of-requires
store_of-requires c =
    let a = c.args in
    fit-own _ a.rec a.area.now a.index.now a.work.now (fit c)

pub bounds-area-next : goal.bounds-area-next
bounds-area-next c = (known (goal.at.bounds-area-next c).In-Ok).place

pub advance-requires : goal.advance-requires
advance-requires c =
    let k = known (goal.at.advance-requires c).In-Ok in
    let l = lent _ _ _ _ (fit (goal.at.advance-requires c).Else-not-fits_lent) in
    (k.left, l.slots-high, l.size-high, simp length-set l.area-own, k.inside, k.agrees, omega (arith, l.size_low), l.counts-high)

pub returns-in-Err : goal.returns-in-Err
returns-in-Err c =
    let a = c.args in
    found-refused _ a.rec a.area.now a.index.now a.work.now _
    (sym (told-found _ a.rec a.area.now a.index.now a.work.now (fit (goal.at.returns-in-Err c).Else-not-fits_lent) c.store_of.ensures) ∙ c.in-Err.is)
    c.refused-in-Err.ensures

pub returns-in-Ok : goal.returns-in-Ok
returns-in-Ok c =
    let a = c.args in
    found-stored _ a.rec a.area.now a.index.now a.work.now _ _ (at (goal.at.returns-in-Ok c).In-Ok) c.advance.ensures (search rules)
