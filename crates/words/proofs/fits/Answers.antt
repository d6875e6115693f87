-- `words::fits` meets its contract.
use mathlib.Core.Bool.{not}
use Prim.Native.Nat.{ℕ, ◌-◌}
use mathlib.Core.Path.{◌≡◌, sym, ◌∙◌, ap}
use mathlib.Core.Bool.{true}
use native.Mathlib.Omega.{arith}
use Rattle.segment.specs.Layout.{table}
use Rattle.record.specs.Range.{counts_good}
use Rattle.record.specs.RangeLaws.{Limits, front_good, front-limits}
use Rattle.words.specs.Words.{counts_in, is_record}
use Rattle.words.proofs.WordLaws.{record-long, own-edition, none-unfit, front-tagged, front-unfit, lengths-unfit, counts-decide}
use Rattle.words.proofs.fits.Goals as goal
use Rattle.words.proofs.fits.Goals.{After-front_fits, Else-not-front_fits, Else-not-is_record}

are-record : (c : Else-not-is_record) → is_record c.args.words.now ≡ true
are-record c = sym c.is_record.ensures ∙ c.if-not-is_record.false

pub returns-then-not-is_record : goal.returns-then-not-is_record
returns-then-not-is_record c = sym (none-unfit _ _ _ _ (sym c.is_record.ensures ∙ c.if-not-is_record.true))

pub front_in-front-requires : goal.front_in-front-requires
front_in-front-requires c = record-long _ (are-record c)

-- the words of the tag and of the stores left are there
pub bounds-words-12 : goal.bounds-words-12
bounds-words-12 c = omega (arith, record-long _ (are-record (goal.at.bounds-words-12 c).Else-not-is_record))

pub bounds-words-16 : goal.bounds-words-16
bounds-words-16 c = omega (arith, record-long _ (are-record (goal.at.bounds-words-16 c).Else-not-is_record))

-- what is found of the front
front-is : (k : After-front_fits) → k.front_fits.result ≡ front_good k.front_in-front.result.edition k.front_in-front.result
front-is k =
    front-tagged _ _ k.args.area k.args.index
    ((sym k.is_record.ensures ∙ k.if-not-is_record.false)) k.front_in-front.ensures k.front_fits.ensures

pub returns-then-not-front_fits : goal.returns-then-not-front_fits
returns-then-not-front_fits c =
    front-unfit _ _ _ _ (are-record (goal.at.returns-then-not-front_fits c).Else-not-is_record) c.front_in-front.ensures (front-is (goal.at.returns-then-not-front_fits c).After-front_fits) (ap not c.if-not-front_fits.true)
    ∙ own-edition _ _ _ (are-record (goal.at.returns-then-not-front_fits c).Else-not-is_record) c.front_in-front.ensures

-- what is known once the front is tested
within : (c : Else-not-front_fits) → Limits c.front_in-front.result
within c = front-limits _ _ (sym ((front-tagged _ _ c.args.area c.args.index
    ((sym c.is_record.ensures ∙ c.if-not-is_record.false)) c.front_in-front.ensures c.front_fits.ensures)) ∙ c.if-not-front_fits.false)

pub lengths_own-requires : goal.lengths_own-requires
lengths_own-requires c = omega (arith, within c)

pub returns-then-not-lengths_own : goal.returns-then-not-lengths_own
returns-then-not-lengths_own c =
    lengths-unfit _ _ _ _ (are-record (goal.at.returns-then-not-lengths_own c).Else-not-is_record) c.front_in-front.ensures (front-is (goal.at.returns-then-not-lengths_own c).After-front_fits) (ap not c.if-not-front_fits.false) c.lengths_own.ensures (ap not c.if-not-lengths_own.true)
    ∙ own-edition _ _ _ (are-record (goal.at.returns-then-not-lengths_own c).Else-not-is_record) c.front_in-front.ensures

pub slice_bounds-counts_good-end : goal.slice_bounds-counts_good-end
slice_bounds-counts_good-end c = omega (arith, record-long _ (are-record (goal.at.slice_bounds-counts_good-end c).Else-not-is_record))

-- the shortest digest is 13 bytes long
pub overflow_cast-digest_size : goal.overflow_cast-digest_size
unfolding table
overflow_cast-digest_size c = record { fits = omega (arith, c.digest_size.ensures) }

pub overflow_sub-front : goal.overflow_sub-front
unfolding table
overflow_sub-front c = omega (arith, within (goal.at.overflow_sub-front c).Else-not-front_fits, c.digest_size.ensures)

pub returns : goal.returns
returns c =
    let front = c.front_in-front.result in
    let w = c.args.words.now in
    counts-decide _ _ _ _ (are-record (goal.at.returns c).Else-not-is_record) c.front_in-front.ensures (front-is (goal.at.returns c).After-front_fits) (ap not c.if-not-front_fits.false) c.lengths_own.ensures (ap not c.if-not-lengths_own.false)
    (c.counts_good.ensures ∙ ap (λ (n : ℕ). counts_good (front.size - n) (counts_in w)) c.digest_size.ensures)
    ∙ own-edition _ _ _ (are-record (goal.at.returns c).Else-not-is_record) c.front_in-front.ensures
