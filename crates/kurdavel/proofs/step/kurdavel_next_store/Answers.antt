-- `kurdavel::step::kurdavel_next_store` meets its contract.
use mathlib.Core.Bool.{not}
use mathlib.Core.Path.{◌≡◌, refl, sym, ap}
use native.Mathlib.Omega.{arith}
use Rattle.telling.specs.Told.{found_by}
use Rattle.telling.specs.Places.{answered}
use Rattle.words.specs.Words.{word, decoded}
use Rattle.kurdavel.specs.Crossing.{place_told, byte_told}
use Rattle.kurdavel.specs.StepOn.{bad-found, front_long, front-lent, front-found, told-few, told-crossed}
use Rattle.kurdavel.proofs.step.kurdavel_next_store.Goals as goal
use Rattle.kurdavel.proofs.step.kurdavel_next_store.Goals.{After-found_in}

pub returns-then-words-lt-WORDS : goal.returns-then-words-lt-WORDS
returns-then-words-lt-WORDS c = told-few _ _ _ c.if-words-lt-WORDS.true

pub overflow_cast-words : goal.overflow_cast-words
overflow_cast-words c = omega (arith, c.type_inv.words 2)

pub returns-then-not-fits : goal.returns-then-not-fits
unfolding place_told byte_told
returns-then-not-fits c =
    let a = c.args in
    told-crossed a.words.now a.area.now a.work.now (sym (bad-found a.words.now a.area.now a.work.now _ c.fits.ensures (ap not c.if-not-fits.true))) refl refl refl refl

pub found_in-requires : goal.found_in-requires
found_in-requires c =
    let a = c.args in
    record {
      record_words_in_bounds = front_long a.words.now a.area.now a.work.now _ c.fits.ensures (ap not c.if-not-fits.false);
      front_fits = front-lent a.words.now a.area.now a.work.now _ c.fits.ensures (ap not c.if-not-fits.false);
    }

-- what is found
found-is : (s : After-found_in)
    → let a = s.args in
    answered a.work.now s.found_in.result ≡ found_by (decoded a.words.now).rec.edition (decoded a.words.now).rec a.area.now (word a.words.now 2) a.work.now
found-is s =
    let a = s.args in
    front-found a.words.now a.area.now a.work.now _ s.fits.ensures (ap not s.if-not-fits.false) (s.found_in.ensures.told a.work.now refl)

pub byte_from-requires : goal.byte_from-requires
byte_from-requires c = c.found_in.ensures.inside _ _ _ c.in-Ok.is

pub returns-in-Err : goal.returns-in-Err
unfolding place_told byte_told answered
returns-in-Err c =
    let a = c.args in
    told-crossed a.words.now a.area.now a.work.now (found-is (goal.at.returns-in-Err c).After-found_in) (ap (answered a.work.now) c.in-Err.is) c.number.ensures refl refl

pub returns-in-Ok : goal.returns-in-Ok
unfolding place_told byte_told answered
returns-in-Ok c =
    let a = c.args in
    told-crossed a.words.now a.area.now a.work.now (found-is (goal.at.returns-in-Ok c).After-found_in) (ap (answered a.work.now) c.in-Ok.is) refl refl c.byte_from.ensures
