-- Laws of: Encoding and decoding are inverse.
use Rattle.std.specs.Prelude.{ℕ, zero, suc, ◌+◌, ◌*◌, ◌/◌, ◌%◌, ◌≤◌, ◌<◌, ◌≡◌, refl, Bool, true, false, not, eqb, leb, replicate}
use Rattle.std.proofs.Math.Path.{sym, ap}
use Rattle.std.proofs.Common.{◌∙◌, arith, take-append-drop, length-drop, length-append, drop-cons, length-take-le, take-add, take_at, drop-set-lt}
use mathlib.Core.List.{List, [], ◌∷◌, ◌++◌, append-nil}
use Rattle.std.proofs.Math.Option
use Rattle.std.proofs.Math.Option.{Option, Option-elim}
use Rattle.std.proofs.Math.ListN.{length, set, take, drop, length-set}
use Rattle.std.proofs.Math.Seq.{sets, length-sets}
use Rattle.std.specs.Int.{from_bool}
use Rattle.std.proofs.lemmas.List.Edits.{sets-eq}
use Rattle.std.proofs.lemmas.List.{set-get_or}
use borrow.Author.Tests.{leb-true, le-leb, lt-leb, eqb-true, eq-eqb, ne_eqb}
use Rattle.segment.specs.Choice.{pick, both, either, is_none}
use Rattle.segment.proofs.Choice.{pick_true, pick-false, both_left, both_right, both-false-left, both-false-right, both_true}
use Rattle.segment.specs.Layout.{Layout, edition1, edition2, layout_numbered, number_of_layout}
use Rattle.segment.proofs.LayoutLaws.{numbered-layout}
use Rattle.record.specs.Answers.{blank, bare, with_pending}
use Rattle.record.specs.Range.{left_good, counts_good, most_present, lengths_own, fits_lent}
use Rattle.record.specs.RangeLaws.{numbers_good, front_good, front-numbers, fits-front, blank-unfit, stop, go}
use Rattle.record.specs.Switch.{with_switch}
use Rattle.record.specs.declared.Pending.{Pending}
use Rattle.record.specs.declared.Pending.TheVariants.{Idle, Append, NewHead, Clean, Forget}
use Rattle.record.specs.declared.Record.{Record}
use Rattle.words.specs.Words.{record_words, number_words, pending_words, words_of, word, zeros, edition_fits, edition_of, switch_number, switch_fits, switch_of, pending_fits, pending_of, counts_in, record_in, is_record, decoded}
use Rattle.words.specs.declared.Decoded.{Decoded}
use Rattle.words.specs.WordLaws.{left_fits, likewise}

-- ---- what the code does, in its steps

-- the words behind a pending operation
after-pending : (w : List ℕ) (p : Pending) (cs : List ℕ) → sets (sets w 12 (pending_words p)) 17 cs ≡ sets w 12 (pending_words p ++ cs)
after-pending w Idle cs = refl
after-pending w (Append n k) cs = refl
after-pending w (NewHead s n k) cs = refl
after-pending w (Clean s v n k) cs = refl
after-pending w (Forget s v n k) cs = refl

-- the numbers first, then the pending operation, then the counts
pub in_order : (w w₁ w₂ w₃ : List ℕ) (r : Record) → w₁ ≡ sets w 0 (number_words r) → w₂ ≡ sets w₁ 12 (pending_words r.pending) → w₃ ≡ sets w₂ 17 r.counts
    → w₃ ≡ sets w 0 (words_of r)
in_order w w₁ w₂ w₃ r e₁ e₂ e₃ =
    e₃
    ∙ ap (λ (l : List ℕ). sets l 17 r.counts) e₂
    ∙ ap (λ (l : List ℕ). sets (sets l 12 (pending_words r.pending)) 17 r.counts) e₁
    ∙ after-pending (sets w 0 (number_words r)) r.pending r.counts

-- the counts are copied over 32 zeros
pub copied-counts : (w cs : List ℕ) → record_words ≤ length w → cs ≡ sets (replicate 32 0) 0 (counts_in w) → cs ≡ counts_in w
copied-counts w cs h e =
    let l : length (counts_in w) ≡ 32 = length-take-le 32 (drop 17 w) (omega (arith, length-drop 17 w)) in
    e ∙ sets-eq (counts_in w) (replicate 32 0) 0 (omega arith) ∙ rw l (append-nil (counts_in w))

-- in each arm the operation is known
pub known-pending : (w w' : List ℕ) {p q : Pending} → p ≡ q → w' ≡ sets w 12 (pending_words q) → w' ≡ sets w 12 (pending_words p)
known-pending w w' e f = f ∙ ap (λ (x : Pending). sets w 12 (pending_words x)) (sym e)

pub zeros-on : (a b : ℕ) → a ≡ 0 → eqb b 0 ≡ zeros a b
unfolding zeros both
zeros-on a b e = rw (eq-eqb a 0 e)

pub zeros-off : (a b : ℕ) → (a ≡ 0 → ⊥) → eqb a 0 ≡ zeros a b
unfolding zeros both
zeros-off a b e = rw (ne_eqb a 0 e)

-- ---- the edition and its number

-- the numbers of editions are 1 and 2
pub edition-between : (e : ℕ) → edition_fits e ≡ both (leb 1 e) (leb e 2)
unfolding edition_fits layout_numbered is_none pick both
edition-between zero = refl
edition-between (suc zero) = refl
edition-between (suc (suc zero)) = refl
edition-between (suc (suc (suc e))) =
    let n = suc (suc (suc e)) in
    rw (ne_eqb n 1 (λ q. omega arith), ne_eqb n 2 (λ q. omega arith), lt-leb n 2 (omega arith), le-leb 1 n (omega arith))

edition-none : (e : ℕ) → (e ≡ 1 → ⊥) → (e ≡ 2 → ⊥) → edition_fits e ≡ false
unfolding edition_fits layout_numbered is_none pick
edition-none e a b = rw (ne_eqb e 1 a, ne_eqb e 2 b)

pub second-of : (e : ℕ) → e ≡ 2 → edition_of e ≡ edition2
unfolding edition_of layout_numbered pick Option-elim
second-of e q = rw q

pub first_of : (e : ℕ) → (e ≡ 2 → ⊥) → edition_of e ≡ edition1
unfolding edition_of layout_numbered pick Option-elim
first_of zero q = refl
first_of (suc zero) q = refl
first_of (suc (suc e)) q = rw (ne_eqb (suc (suc e)) 1 (λ p. omega arith), ne_eqb (suc (suc e)) 2 q)

-- the number of an edition is had back from the edition, and the edition from its number
edition-number : (e : ℕ) → edition_fits e ≡ true → number_of_layout (edition_of e) ≡ e
unfolding edition_of layout_numbered number_of_layout pick Option-elim
edition-number zero f =
    let low : 1 ≤ 0 = leb-true 1 0 (both_left (leb 1 0) (leb 0 2) (sym (edition-between 0) ∙ f)) in
    absurd (omega arith)
edition-number (suc zero) f = refl
edition-number (suc (suc zero)) f = refl
edition-number (suc (suc (suc e))) f =
    let n = suc (suc (suc e)) in
    let high : n ≤ 2 = leb-true n 2 (both_right (leb 1 n) (leb n 2) (sym (edition-between n) ∙ f)) in
    absurd (omega arith)

number-edition : (L : Layout) → edition_of (number_of_layout L) ≡ L
unfolding edition_of Option-elim
number-edition L = ap (λ (o : Option Layout). Option.get_or o edition1) (numbered-layout L)

number_fits : (L : Layout) → edition_fits (number_of_layout L) ≡ true
unfolding edition_fits is_none
number_fits L = ap (λ (o : Option Layout). not (is_none o)) (numbered-layout L)

-- ---- the switch and its word

-- the number of a flag is the word of the switch
pub switch-from : (t : Bool) → from_bool t ≡ switch_number t
unfolding switch_number pick
switch-from true = refl
switch-from false = refl

pub switch-on : (t : Bool) → t ≡ true → 1 ≡ switch_number t
unfolding switch_number pick
switch-on t e = rw e

pub switch-off : (t : Bool) → t ≡ false → 0 ≡ switch_number t
unfolding switch_number pick
switch-off t e = rw e

-- the word is had back from the switch, and the switch from its word
switch-number : (s : ℕ) → switch_fits s ≡ true → switch_number (switch_of s) ≡ s
unfolding switch_number pick
switch-number zero f = refl
switch-number (suc zero) f = refl
switch-number (suc (suc s)) f =
    let low : suc (suc s) ≤ 1 = leb-true (suc (suc s)) 1 f in
    absurd (omega arith)

number-switch : (t : Bool) → switch_of (switch_number t) ≡ t
unfolding switch_number pick
number-switch true = refl
number-switch false = refl

switch_fits_lem : (t : Bool) → switch_fits (switch_number t) ≡ true
unfolding switch_number pick
switch_fits_lem true = refl
switch_fits_lem false = refl

-- ---- the tests and the operation, tag by tag

module _ (t s v n k : ℕ) where
  pub fits-idle : t ≡ 0 → pending_fits t s v n k ≡ both (zeros s v) (zeros n k)
  unfolding pending_fits pick
  fits-idle e = rw e

  pub fits-append : t ≡ 1 → pending_fits t s v n k ≡ zeros s v
  unfolding pending_fits pick
  fits-append e = rw e

  pub fits_head : t ≡ 2 → pending_fits t s v n k ≡ eqb v 0
  unfolding pending_fits pick
  fits_head e = rw e

  pub fits-clean : t ≡ 3 → pending_fits t s v n k ≡ true
  unfolding pending_fits pick either
  fits-clean e = rw e

  pub fits-forget : t ≡ 4 → pending_fits t s v n k ≡ true
  unfolding pending_fits pick either
  fits-forget e = rw e

  pub fits-none : 4 < t → pending_fits t s v n k ≡ false
  unfolding pending_fits pick either
  fits-none h =
      rw (
        ne_eqb t 0 (λ e. omega arith),
        ne_eqb t 1 (λ e. omega arith),
        ne_eqb t 2 (λ e. omega arith),
        ne_eqb t 3 (λ e. omega arith),
        ne_eqb t 4 (λ e. omega arith),
      )

  pub of-append : t ≡ 1 → pending_of t s v n k ≡ Append n k
  unfolding pending_of pick
  of-append e = rw e

  pub of-head : t ≡ 2 → pending_of t s v n k ≡ NewHead s n k
  unfolding pending_of pick
  of-head e = rw e

  pub of-clean : t ≡ 3 → pending_of t s v n k ≡ Clean s v n k
  unfolding pending_of pick
  of-clean e = rw e

  pub of-forget : t ≡ 4 → pending_of t s v n k ≡ Forget s v n k
  unfolding pending_of pick
  of-forget e = rw e

  pub of-rest : (t ≡ 1 → ⊥) → (t ≡ 2 → ⊥) → (t ≡ 3 → ⊥) → (t ≡ 4 → ⊥) → pending_of t s v n k ≡ Idle
  unfolding pending_of pick
  of-rest a b c d = rw (ne_eqb t 1 a, ne_eqb t 2 b, ne_eqb t 3 c, ne_eqb t 4 d)

left-tag : (S t s v n k : ℕ) → pending_fits t s v n k ≡ true → left_good S (pending_of t s v n k) ≡ left_fits S t k
unfolding left_fits left_good pick
left-tag S zero s v n k f = ap (left_good S) (of-rest 0 s v n k (λ e. omega arith) (λ e. omega arith) (λ e. omega arith) (λ e. omega arith))
left-tag S (suc zero) s v n k f = ap (left_good S) (of-append 1 s v n k refl)
left-tag S (suc (suc zero)) s v n k f = ap (left_good S) (of-head 2 s v n k refl)
left-tag S (suc (suc (suc zero))) s v n k f = ap (left_good S) (of-clean 3 s v n k refl)
left-tag S (suc (suc (suc (suc zero)))) s v n k f = ap (left_good S) (of-forget 4 s v n k refl)
left-tag S (suc (suc (suc (suc (suc t))))) s v n k f =
    let z : false ≡ true = sym (fits-none (suc (suc (suc (suc (suc t))))) s v n k (omega arith)) ∙ f in
    let o : ◌≡◌ {A = ℕ} 0 1 = cc in
    absurd (omega arith)

pub decoded-record : (w : List ℕ) → is_record w ≡ true → decoded w ≡ record { ok = true; rec = record_in w }
unfolding decoded
decoded-record w e = pick_true (is_record w) _ _ e

pub decoded-none : (w : List ℕ) → is_record w ≡ false → decoded w ≡ record { ok = false; rec = blank }
unfolding decoded
decoded-none w e = pick-false (is_record w) _ _ e

pub record-long : (w : List ℕ) → is_record w ≡ true → record_words ≤ length w
unfolding is_record
record-long w e = leb-true record_words (length w) (both_left _ _ e)

pub counts-long : (w : List ℕ) → is_record w ≡ true → length (counts_in w) ≡ 32
counts-long w e = length-take-le 32 (drop 17 w) (omega (arith, length-drop 17 w, record-long w e))

pub too_short : (w : List ℕ) → length w < record_words → is_record w ≡ false
unfolding is_record
too_short w h = both-false-left _ _ (lt-leb record_words (length w) h)

-- 02, R-11: words whose edition is neither 1 nor 2 are no record's
pub no-edition : (w : List ℕ) → (word w 10 ≡ 1 → ⊥) → (word w 10 ≡ 2 → ⊥) → is_record w ≡ false
unfolding is_record
no-edition w a b = both-false-right _ _ (both-false-left _ _ (edition-none (word w 10) a b))

-- R-13: nor are words whose switch is neither 0 nor 1
pub no_switch : (w : List ℕ) → 1 < word w 11 → is_record w ≡ false
unfolding is_record
no_switch w h = both-false-right _ _ (both-false-right _ _ (both-false-left _ _ (lt-leb (word w 11) 1 h)))

pub long-enough : (w : List ℕ) → record_words ≤ length w
    → is_record w ≡ both (edition_fits (word w 10)) (both (switch_fits (word w 11)) (pending_fits (word w 12) (word w 13) (word w 14) (word w 15) (word w 16)))
unfolding is_record both
long-enough w h = rw (le-leb record_words (length w) h)

-- ---- the test of 4 on the words

module _ (L : Layout) (w : List ℕ) (a i : ℕ) where
  abbrev tested : Decoded → Bool
  tested d = fits_lent L d.rec a i

  pub none-unfit : is_record w ≡ false → tested (decoded w) ≡ false
  none-unfit e = ap tested (decoded-none w e) ∙ blank-unfit L a i

  pub fits_said : is_record w ≡ true
      → tested (decoded w)
      ≡ both (front_good L (bare (record_in w))) (both (lengths_own (bare (record_in w)) a i) (counts_good (most_present (word w 1)) (counts_in w)))
  fits_said e = ap tested (decoded-record w e) ∙ fits-front L (record_in w) a i

  -- the front's test with the stores left by their tag
  pub front-tagged : is_record w ≡ true → {f : Record} → f ≡ bare (record_in w) → {t : Bool}
      → t ≡ both (numbers_good L f) (left_fits f.size (word w 12) (word w 16)) → t ≡ front_good L f
  front-tagged are {f} front e =
      let fit = both_right _ _ (both_right _ _ (sym (long-enough w (record-long w are)) ∙ are)) in
      e
      ∙ ap (λ (r : Record). both (numbers_good L r) (left_fits r.size (word w 12) (word w 16))) front
      ∙ ap (both (numbers_good L (bare (record_in w)))) (sym (left-tag (word w 1) (word w 12) (word w 13) (word w 14) (word w 15) (word w 16) fit))
      ∙ sym (ap (front_good L) front ∙ front-numbers L (bare (record_in w)))

  -- what the code finds of a record's words, test by test
  module _ (are : is_record w ≡ true) {f : Record} (front : f ≡ bare (record_in w)) {t : Bool} (first : t ≡ front_good L f) where
    front-is : t ≡ front_good L (bare (record_in w))
    front-is = first ∙ ap (front_good L) front

    pub front-unfit : not t ≡ true → false ≡ tested (decoded w)
    front-unfit e = stop _ front-is e ∙ sym (fits_said are)

    module _ (passed : not t ≡ false) {u : Bool} (second : u ≡ lengths_own f a i) where
      own_is : u ≡ lengths_own (bare (record_in w)) a i
      own_is = second ∙ ap (λ (r : Record). lengths_own r a i) front

      pub lengths-unfit : not u ≡ true → false ≡ tested (decoded w)
      lengths-unfit e = go _ front-is passed (stop _ own_is e) ∙ sym (fits_said are)

      pub counts-decide : not u ≡ false → {v : Bool} → v ≡ counts_good (most_present f.size) (counts_in w) → v ≡ tested (decoded w)
      counts-decide e third =
          go _ front-is passed (go _ own_is e (third ∙ ap (λ (r : Record). counts_good (most_present r.size) (counts_in w)) front))
          ∙ sym (fits_said are)

  -- words that pass it are a record's, and say it
  pub fits-record : tested (decoded w) ≡ true → is_record w ≡ true
  fits-record e = turn (is_record w) refl
    where
      turn : (t : Bool) → is_record w ≡ t → t ≡ true
      turn true f = refl
      turn false f =
          let no : true ≡ false = sym e ∙ none-unfit f in
          let z : ◌≡◌ {A = ℕ} 0 1 = cc in
          absurd (omega arith)

  pub fits-decoded : tested (decoded w) ≡ true → decoded w ≡ record { ok = true; rec = record_in w }
  fits-decoded e = decoded-record w (fits-record e)

-- the test by the front's edition is that by the record's own
pub own-edition : (w : List ℕ) (a i : ℕ) → is_record w ≡ true → {f : Record} → f ≡ bare (record_in w)
    → fits_lent f.edition (decoded w).rec a i ≡ fits_lent (decoded w).rec.edition (decoded w).rec a i
own-edition w a i are front =
    ap (λ (L : Layout). fits_lent L (decoded w).rec a i)
    (ap (λ (r : Record). r.edition) front ∙ sym (ap (λ (d : Decoded). d.rec.edition) (decoded-record w are)))

-- ---- a record's words decode to the record

pending-five : (p : Pending) → length (pending_words p) ≡ 5
pending-five Idle = refl
pending-five (Append n k) = refl
pending-five (NewHead s n k) = refl
pending-five (Clean s v n k) = refl
pending-five (Forget s v n k) = refl

all_words : (r : Record) → length r.counts ≡ 32 → length (words_of r) ≡ record_words
all_words r l = omega (arith, length-append (pending_words r.pending) r.counts, pending-five r.pending)

module _ (r : Record) (rest : List ℕ) (l : length r.counts ≡ 32) where
  enough : 32 ≤ length (r.counts ++ rest)
  enough = omega (arith, length-append r.counts rest)

  front : take 32 (r.counts ++ rest) ≡ r.counts
  front = take_at r.counts rest 32 l

  -- the next version from its halves
  halves : r.next.0 % 4294967296 + 4294967296 * (r.next.0 / 4294967296) ≡ r.next.0
  halves = omega arith

  likewise-same : (p : Pending) → likewise r (edition_of (number_of_layout r.edition)) (switch_of (switch_number r.switched)) (r.next.0 % 4294967296 + 4294967296 * (r.next.0 / 4294967296)) (take 32 (r.counts ++ rest)) p
      ≡ record { ok = true; rec = with_pending r p }
  likewise-same p = λ i. likewise r (number-edition r.edition i) (number-switch r.switched i) (halves i) (front i) p

  says : (p : Pending) → decoded (number_words r ++ pending_words p ++ r.counts ++ rest) ≡ record { ok = true; rec = with_pending r p }
  unfolding pending_fits pending_of zeros pick both either
  says Idle =
      let w = number_words r ++ pending_words Idle ++ r.counts ++ rest in
      decoded-record w (long-enough w (omega (arith, enough)) ∙ both_true _ _ (number_fits r.edition) (both_true _ _ (switch_fits_lem r.switched) refl)) ∙ likewise-same Idle
  says (Append n k) =
      let w = number_words r ++ pending_words (Append n k) ++ r.counts ++ rest in
      decoded-record w (long-enough w (omega (arith, enough)) ∙ both_true _ _ (number_fits r.edition) (both_true _ _ (switch_fits_lem r.switched) refl)) ∙ likewise-same (Append n k)
  says (NewHead s n k) =
      let w = number_words r ++ pending_words (NewHead s n k) ++ r.counts ++ rest in
      decoded-record w (long-enough w (omega (arith, enough)) ∙ both_true _ _ (number_fits r.edition) (both_true _ _ (switch_fits_lem r.switched) refl)) ∙ likewise-same (NewHead s n k)
  says (Clean s v n k) =
      let w = number_words r ++ pending_words (Clean s v n k) ++ r.counts ++ rest in
      decoded-record w (long-enough w (omega (arith, enough)) ∙ both_true _ _ (number_fits r.edition) (both_true _ _ (switch_fits_lem r.switched) refl)) ∙ likewise-same (Clean s v n k)
  says (Forget s v n k) =
      let w = number_words r ++ pending_words (Forget s v n k) ++ r.counts ++ rest in
      decoded-record w (long-enough w (omega (arith, enough)) ∙ both_true _ _ (number_fits r.edition) (both_true _ _ (switch_fits_lem r.switched) refl)) ∙ likewise-same (Forget s v n k)

pub decode-encode : (r : Record) (w : List ℕ) → length r.counts ≡ 32 → record_words ≤ length w
    → decoded (sets w 0 (words_of r)) ≡ record { ok = true; rec = r }
decode-encode r w l h = ap decoded (sets-eq (words_of r) w 0 (omega (arith, all_words r l))) ∙ says r _ l r.pending

-- ---- words that decode to a record are its words

zeros-left : (a b : ℕ) → zeros a b ≡ true → a ≡ 0
unfolding zeros
zeros-left a b e = eqb-true a 0 (both_left _ _ e)

zeros-right : (a b : ℕ) → zeros a b ≡ true → b ≡ 0
unfolding zeros
zeros-right a b e = eqb-true b 0 (both_right _ _ e)

pending-back : (t s v n k : ℕ) → pending_fits t s v n k ≡ true → pending_words (pending_of t s v n k) ≡ t ∷ s ∷ v ∷ n ∷ k ∷ []
pending-back zero s v n k f =
    let z = sym (fits-idle 0 s v n k refl) ∙ f in
    let front = both_left (zeros s v) (zeros n k) z in
    let back = both_right (zeros s v) (zeros n k) z in
    let es : s ≡ 0 = zeros-left s v front in
    let ev : v ≡ 0 = zeros-right s v front in
    let en : n ≡ 0 = zeros-left n k back in
    let ek : k ≡ 0 = zeros-right n k back in
    ap pending_words (of-rest 0 s v n k (λ e. omega arith) (λ e. omega arith) (λ e. omega arith) (λ e. omega arith)) ∙ (cc)
pending-back (suc zero) s v n k f =
    let z = sym (fits-append 1 s v n k refl) ∙ f in
    let es : s ≡ 0 = zeros-left s v z in
    let ev : v ≡ 0 = zeros-right s v z in
    ap pending_words (of-append 1 s v n k refl) ∙ (cc)
pending-back (suc (suc zero)) s v n k f =
    let ev : v ≡ 0 = eqb-true v 0 (sym (fits_head 2 s v n k refl) ∙ f) in
    ap pending_words (of-head 2 s v n k refl) ∙ (cc)
pending-back (suc (suc (suc zero))) s v n k f = ap pending_words (of-clean 3 s v n k refl)
pending-back (suc (suc (suc (suc zero)))) s v n k f = ap pending_words (of-forget 4 s v n k refl)
pending-back (suc (suc (suc (suc (suc t))))) s v n k f =
    let z : false ≡ true = sym (fits-none (suc (suc (suc (suc (suc t))))) s v n k (omega arith)) ∙ f in
    let o : ◌≡◌ {A = ℕ} 0 1 = cc in
    absurd (omega arith)

-- the n words from i on
words_from : List ℕ → ℕ → ℕ → List ℕ
words_from w i zero = []
words_from w i (suc n) = word w i ∷ words_from w (suc i) n

from-words : (w : List ℕ) (i n : ℕ) → i + n ≤ length w → take n (drop i w) ≡ words_from w i n
unfolding words_from
from-words w i zero h = refl
from-words w i (suc n) h = rw (drop-cons w i 0 (omega arith)) (ap (λ (l : List ℕ). word w i ∷ l) (from-words w (suc i) n (omega arith)))

-- a part that is stored where it stands
part_same : (w : List ℕ) (i n : ℕ) → i + n ≤ length w → sets w i (take n (drop i w)) ≡ w
part_same w i n h =
    let l : length (take n (drop i w)) ≡ n = length-take-le n (drop i w) (omega (arith, length-drop i w)) in
    sets-eq (take n (drop i w)) w i (omega arith)
    ∙ rw l (ap (λ (x : List ℕ). x ++ drop (i + n) w) (sym (take-add i n w)) ∙ take-append-drop (i + n) w)

-- stores before a place leave what stands from it on
behind-sets : (vs w : List ℕ) (i n : ℕ) → i + length vs ≤ n → drop n (sets w i vs) ≡ drop n w
behind-sets [] w i n h = refl
behind-sets (x ∷ vs) w i n h = behind-sets vs (set w i x) (suc i) n (omega arith) ∙ drop-set-lt n w i x (omega arith)

module _ (w : List ℕ) (e : is_record w ≡ true) where
  tests : both (edition_fits (word w 10)) (both (switch_fits (word w 11)) (pending_fits (word w 12) (word w 13) (word w 14) (word w 15) (word w 16))) ≡ true
  tests = sym (long-enough w (record-long w e)) ∙ e

  -- the edition is 1 or 2
  pub edition-either : (word w 10 ≡ 1 → ⊥) → word w 10 ≡ 2
  edition-either d =
      let f = sym (edition-between (word w 10)) ∙ both_left _ _ tests in
      omega (arith, d, leb-true 1 (word w 10) (both_left _ _ f), leb-true (word w 10) 2 (both_right _ _ f))

  pub pending-words : pending_words (record_in w).pending ≡ word w 12 ∷ word w 13 ∷ word w 14 ∷ word w 15 ∷ word w 16 ∷ []
  pending-words = pending-back (word w 12) (word w 13) (word w 14) (word w 15) (word w 16) (both_right _ _ (both_right _ _ tests))

  pending-same : sets w 12 (pending_words (record_in w).pending) ≡ w
  unfolding words_from
  pending-same =
      ap (λ (l : List ℕ). sets w 12 l)
      (pending-words
      ∙ sym (from-words w 12 5 (omega (arith, record-long w e))))
      ∙ part_same w 12 5 (omega (arith, record-long w e))

  counts_same : (p : Pending) → sets (sets w 12 (pending_words p)) 17 (counts_in w) ≡ sets w 12 (pending_words p)
  counts_same p =
      let v = sets w 12 (pending_words p) in
      ap (λ (l : List ℕ). sets v 17 (take 32 l)) (sym (behind-sets (pending_words p) w 12 17 (omega (arith, pending-five p))))
      ∙ part_same v 17 32 (omega (arith, record-long w e, length-sets w 12 (pending_words p)))

  -- the words have 32 bits, of which the lower half of the next version has to be one
  module _ (half : word w 7 < 4294967296) where
    -- the numbers before the switch are the words that say them, so that with any switch one word is another
    numbers-turned : (t : Bool) → sets w 0 (number_words (with_switch (record_in w) t)) ≡ set w 11 (switch_number t)
    unfolding words_from
    numbers-turned t =
        let low : (word w 7 + 4294967296 * word w 8) % 4294967296 ≡ word w 7 = omega (arith, half) in
        let high : (word w 7 + 4294967296 * word w 8) / 4294967296 ≡ word w 8 = omega (arith, half) in
        let edition : number_of_layout (edition_of (word w 10)) ≡ word w 10 = edition-number (word w 10) (both_left _ _ tests) in
        let first : word w 0 ∷ word w 1 ∷ word w 2 ∷ word w 3 ∷ word w 4 ∷ word w 5 ∷ word w 6 ∷ (word w 7 + 4294967296 * word w 8) % 4294967296 ∷ (word w 7 + 4294967296 * word w 8) / 4294967296 ∷ word w 9 ∷ number_of_layout (edition_of (word w 10)) ∷ [] ≡ take 11 w =
        sym (from-words w 0 11 (omega (arith, record-long w e)) ∙ cc) in
        ap (λ (l : List ℕ). set (sets w 0 l) 11 (switch_number t)) first
        ∙ ap (λ (l : List ℕ). set l 11 (switch_number t)) (part_same w 0 11 (omega (arith, record-long w e)))

    numbers-same : sets w 0 (number_words (record_in w)) ≡ w
    numbers-same =
        numbers-turned (switch_of (word w 11))
        ∙ ap (set w 11) (switch-number (word w 11) (both_left _ _ (both_right _ _ tests)))
        ∙ set-get_or w 11 0

    -- Where a record differs from what the words say in its pending operation alone, its words are these with that operation's.
    pub pending-alone : (p : Pending) → sets w 12 (pending_words p) ≡ sets w 0 (words_of (with_pending (record_in w) p))
    pending-alone p = in_order w w _ _ (with_pending (record_in w) p) (sym numbers-same) refl (sym (counts_same p))

    pub encode-decode : sets w 0 (words_of (record_in w)) ≡ w
    encode-decode = sym (pending-alone (record_in w).pending) ∙ pending-same

    -- and where it differs in the stores left alone, one word is another
    pub left_alone : (j : ℕ) (p : Pending) → pending_words p ≡ word w 12 ∷ word w 13 ∷ word w 14 ∷ word w 15 ∷ j ∷ []
        → set w 16 j ≡ sets w 0 (words_of (with_pending (record_in w) p))
    unfolding words_from
    left_alone j p f =
        let same : sets w 12 (word w 12 ∷ word w 13 ∷ word w 14 ∷ word w 15 ∷ []) ≡ w =
        ap (λ (l : List ℕ). sets w 12 l) (sym (from-words w 12 4 (omega (arith, record-long w e)))) ∙ part_same w 12 4 (omega (arith, record-long w e)) in
        ap (λ (l : List ℕ). set l 16 j) (sym same) ∙ ap (λ (l : List ℕ). sets w 12 l) (sym f) ∙ pending-alone p

    -- and where it differs in its switch alone, that word
    pub switch-alone : (t : Bool) → set w 11 (switch_number t) ≡ sets w 0 (words_of (with_switch (record_in w) t))
    unfolding words_from
    switch-alone t =
        let v = set w 11 (switch_number t) in
        let long : length v ≡ length w = length-set w 11 (switch_number t) in
        let behind : (n : ℕ) → 11 < n → drop n w ≡ drop n v = λ n h. sym (drop-set-lt n w 11 (switch_number t) h) in
        in_order w v v v (with_switch (record_in w) t) (sym (numbers-turned t))
        (sym (ap (λ (l : List ℕ). sets v 12 l) (pending-words ∙ sym (from-words w 12 5 (omega (arith, record-long w e))) ∙ ap (take 5) (behind 12 (omega arith))) ∙ part_same v 12 5 (omega (arith, record-long w e, long))))
        (sym (ap (λ (l : List ℕ). sets v 17 (take 32 l)) (behind 17 (omega arith)) ∙ part_same v 17 32 (omega (arith, record-long w e, long))))
