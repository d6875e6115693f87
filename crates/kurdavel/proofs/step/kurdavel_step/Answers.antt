-- `kurdavel::step::kurdavel_step` meets its contract.
use Rattle.std.specs.Prelude.{Ok}
use borrow.Author.Rules.{rules}
use mathlib.Core.Bool.{not}
use Prim.Native.Nat.{ℕ, ◌≤◌, ◌<◌}
use mathlib.Core.Path.{◌≡◌, refl, sym, ◌∙◌, ap}
use native.Mathlib.Omega.{arith}
use lib.ListN.{length}
use Rattle.record.specs.Answered.{TellAnswer}
use Rattle.telling.specs.Told.{found_by}
use Rattle.telling.specs.Places.{answered}
use Rattle.words.specs.Words.{record_words, word, decoded}
use Rattle.kurdavel.specs.StepOn.{bad-found, front_long, front-lent, front-found, on-inside, on-left, on-ready, on-refused, on-stored, on-last}
use Rattle.kurdavel.proofs.step.kurdavel_step.Goals as goal
use Rattle.kurdavel.proofs.step.kurdavel_step.Goals.{After-byte_from, After-found_in}

pub returns-then-not-fits : goal.returns-then-not-fits
returns-then-not-fits c =
    let half : word c.args.words.now 7 < 4294967296 = search rules in
    let a = c.args in
    on-refused a.words.now a.area.now a.work.now (half) a.index.now _ _ _ (bad-found a.words.now a.area.now a.work.now (length a.index.now) c.fits.ensures (ap not c.if-not-fits.true)) refl

pub found_in-requires : goal.found_in-requires
found_in-requires c =
    let a = c.args in
    record {
      record_words_in_bounds = front_long a.words.now a.area.now a.work.now (length a.index.now) c.fits.ensures (ap not c.if-not-fits.false);
      front_fits = front-lent a.words.now a.area.now a.work.now (length a.index.now) c.fits.ensures (ap not c.if-not-fits.false);
    }

-- what is found, with the work buffer
found-is : (s : After-found_in)
    → let a = s.args in
    answered a.work.now s.found_in.result ≡ found_by (decoded a.words.now).rec.edition (decoded a.words.now).rec a.area.now (length a.index.now) a.work.now
found-is s =
    let a = s.args in
    front-found a.words.now a.area.now a.work.now (length a.index.now) s.fits.ensures (ap not s.if-not-fits.false) (s.found_in.ensures.told a.work.now refl)

long : (s : After-found_in) → record_words ≤ length s.args.words.now
long s =
    let a = s.args in
    front_long a.words.now a.area.now a.work.now (length a.index.now) s.fits.ensures (ap not s.if-not-fits.false)

pub byte_from-requires : goal.byte_from-requires
byte_from-requires c = c.found_in.ensures.inside _ _ _ c.in-Ok.is

-- the store that is made
at-is : (b : After-byte_from)
    → let a = b.args in
    found_by (decoded a.words.now).rec.edition (decoded a.words.now).rec a.area.now (length a.index.now) a.work.now
    ≡ Ok (record { place = b.in-Ok.next.place; byte = b.byte_from.result })
unfolding answered
at-is b =
    let a = b.args in
    sym ((let a = b.args in
    front-found a.words.now a.area.now a.work.now (length a.index.now) b.fits.ensures (ap not b.if-not-fits.false) (b.found_in.ensures.told a.work.now refl))) ∙ ap (answered a.work.now) b.in-Ok.is ∙ ap (λ (n : ℕ). Ok (record { place = b.in-Ok.next.place; byte = n })) (sym b.byte_from.ensures)

pub bounds-area-next : goal.bounds-area-next
bounds-area-next c = let a = c.args in on-inside a.words.now a.area.now a.work.now (length a.index.now) _ _ (at-is (goal.at.bounds-area-next c).After-byte_from)

pub bounds-words-16 : goal.bounds-words-16
bounds-words-16 c = omega (arith, long (goal.at.bounds-words-16 c).After-found_in)

pub overflow_sub-rest : goal.overflow_sub-rest
overflow_sub-rest c =
    let a = c.args in
    on-left a.words.now a.area.now a.work.now a.index.now 0 0 _ _ (at-is (goal.at.overflow_sub-rest c).After-byte_from)

pub finish-requires : goal.finish-requires
finish-requires c =
    let a = c.args in
    on-ready a.words.now a.area.now a.work.now a.index.now 0 0 _ _ (at-is (goal.at.finish-requires c).After-byte_from)

pub returns-then-rest-eq0 : goal.returns-then-rest-eq0
returns-then-rest-eq0 c =
    let a = c.args in
    on-last a.words.now a.area.now a.work.now a.index.now _ _ _ _ (at-is (goal.at.returns-then-rest-eq0 c).After-byte_from) c.finish.ensures

pub bounds-words-16-in-Ok : goal.bounds-words-16-in-Ok
bounds-words-16-in-Ok c = omega (arith, long (goal.at.bounds-words-16-in-Ok c).After-found_in)

pub returns-in-Err : goal.returns-in-Err
unfolding answered
returns-in-Err c =
    let half : word c.args.words.now 7 < 4294967296 = search rules in
    let a = c.args in
    on-refused a.words.now a.area.now a.work.now (half) a.index.now _ _ _ (sym (found-is (goal.at.returns-in-Err c).After-found_in) ∙ ap (answered a.work.now) c.in-Err.is) c.number.ensures

pub returns-else-rest-eq0 : goal.returns-else-rest-eq0
returns-else-rest-eq0 c =
    let half : word c.args.words.now 7 < 4294967296 = search rules in
    let a = c.args in
    on-stored a.words.now a.area.now a.work.now (half) a.index.now _ _ _ _ (at-is (goal.at.returns-else-rest-eq0 c).After-byte_from) (omega (arith, on-left a.words.now a.area.now a.work.now a.index.now 0 0 _ _ (at-is (goal.at.returns-else-rest-eq0 c).After-byte_from), c.if-rest-eq0.false)) refl
