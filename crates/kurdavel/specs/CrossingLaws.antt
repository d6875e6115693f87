-- What the exported functions promise, from what the calls behind them ensure: one law for each function, over the case of
-- the answer that a `match` found.
use Rattle.std.specs.Prelude.{ℕ, ◌+◌, ◌*◌, ◌≤◌, ◌<◌, ◌≡◌, refl, Bool, true, false, not, List, length, Ok, Err}
use Rattle.std.proofs.Common.{sym, ◌∙◌, subst, mul-le-mul, arith, eq-eqb}
use Rattle.std.proofs.Math.Path.{ap, subst⁻¹}
use Rattle.std.proofs.lemmas.List.Edits.{sets}
use Rattle.std.proofs.lemmas.Bool.{not-true, not-false}
use Rattle.segment.specs.Choice.{both}
use Rattle.segment.proofs.Choice.{both_true}
use Rattle.segment.specs.declared.Key.{Key}
use Rattle.segment.specs.declared.Version.{Version}
use Rattle.record.specs.Answers.{bare, format_said, recover_said, read_said, start_said, step_said, convert_said}
use Rattle.record.specs.Range.{in_range, lengths_own, fits_lent}
use Rattle.record.specs.RangeLaws.{Lent, lent, blank-out}
use Rattle.record.specs.declared.Refusal.{Refusal}
use Rattle.record.specs.declared.Refusal.TheVariants.{BadRecord}
use Rattle.record.specs.declared.Record.{Record}
use Rattle.record.specs.Answered.{FormatAnswer, ConvertAnswer, Recovery, RecoverAnswer, ReadAnswer, Start, StartAnswer, Stepped, StepAnswer, FewestAnswer}
use Rattle.laws.specs.Members.{clash}
use Rattle.model.specs.Recovery.{image_layout}
use Rattle.model.specs.Fewest.{fewest_slot}
use Rattle.fullness.specs.FewestLaws.{refused-promise, told-promise}
use Rattle.model.specs.Operations.{Operation}
use Rattle.record.specs.Reach.{holds_table}
use Rattle.record.specs.declared.Tables.{Tables}
use Rattle.model.specs.Refused.{Terms}
use Rattle.model.specs.Promises.{FormatPromise, RecoverPromise, ValuePromise, StartPromise, StepPromise}
use Rattle.telling.specs.Told as Told
use Rattle.stepping.specs.Tested.{StepTested}
use Rattle.index.specs.Search.{search_for}
use Rattle.index.specs.declared.Found.{Found}
use Rattle.recovery.specs.Lookups.{lookup_at, looked_up, told_by, part_by, Lookup}
use Rattle.recovery.proofs.LookupLaws.{looked-unfit, looked-fit, read-promise, value-promise, looked-outside}
use Rattle.words.specs.Words.{record_words, words_of, word, counts_in, record_in, is_record, decoded}
use Rattle.words.proofs.WordLaws.{record-long, counts-long, decoded-record, decoded-none, too_short, none-unfit, encode-decode, fits-record, fits-decoded}
use Rattle.words.specs.declared.Decoded.{Decoded}
use Rattle.kurdavel.specs.Crossing.{FormatCrossed, RecoverCrossed, words_after, ReadCrossed, ValueCrossed, Handed, stores_after, StartCrossed, kept_words, StepCrossed, left_told, told_after, slot_told, FewestCrossed, ScanCrossed, ScanValueCrossed, ConvertCrossed}
use Rattle.model.specs.Scanned.{ScanValue}
use Rattle.model.specs.Conversion.{ConvertPromise}
use Rattle.scanning.specs.Seeking.{sought, answer_of, part_for, Sought}
use Rattle.scanning.specs.SeekingLaws.{scan-promise, scan-value}

-- words that decode to a record are enough of them
pub ok-long : (words : List ℕ) {d : Decoded} → d ≡ decoded words → d.ok ≡ true → record_words ≤ length words
ok-long words {d} e ok = go (is_record words) refl
  where
    go : (t : Bool) → is_record words ≡ t → record_words ≤ length words
    go true f = record-long words f
    go false f =
        let no : (decoded words).ok ≡ false = ap (λ (x : Decoded). x.ok) (decoded-none words f) in
        let yes : (decoded words).ok ≡ true = sym (ap (λ (x : Decoded). x.ok) e) ∙ ok in
        let z : ◌≡◌ {A = ℕ} 0 1 = cc in
        absurd (omega arith)

pub ok-record : (words : List ℕ) {d : Decoded} → d ≡ decoded words → d.ok ≡ true → is_record words ≡ true
ok-record words {d} e ok = go (is_record words) refl
  where
    go : (t : Bool) → is_record words ≡ t → t ≡ true
    go true f = refl
    go false f =
        let no : (decoded words).ok ≡ false = ap (λ (x : Decoded). x.ok) (decoded-none words f) in
        let yes : (decoded words).ok ≡ true = sym (ap (λ (x : Decoded). x.ok) e) ∙ ok in
        let z : ◌≡◌ {A = ℕ} 0 1 = cc in
        absurd (omega arith)

-- a test that holds and does not
pub never_both : {A : Type 0} {t : Bool} → t ≡ true → t ≡ false → A
never_both p q = let z : ◌≡◌ {A = ℕ} 0 1 = cc in absurd (omega arith)

pub kept_on : {ok : Bool} (words words' : List ℕ) (r : Record) → ok ≡ true → words' ≡ sets words 0 (words_of r) → words' ≡ kept_words ok words r
unfolding kept_words
kept_on words words' r e w = rw e w

pub kept_off : {ok : Bool} (words : List ℕ) (r : Record) → ok ≡ false → words ≡ kept_words ok words r
unfolding kept_words
kept_off words r e = rw e

-- the words say the record that they said where it is handed back as it was
pub same-words : (words : List ℕ) → word words 7 < 4294967296 → words ≡ kept_words (decoded words).ok words (decoded words).rec
same-words words half = go (is_record words) refl
  where
    go : (t : Bool) → is_record words ≡ t → words ≡ kept_words (decoded words).ok words (decoded words).rec
    go true f =
        kept_on words words (decoded words).rec (ap (λ (d : Decoded). d.ok) (decoded-record words f))
        (sym (encode-decode words f half) ∙ ap (λ (d : Decoded). sets words 0 (words_of d.rec)) (sym (decoded-record words f)))
    go false f = kept_off words (decoded words).rec (ap (λ (d : Decoded). d.ok) (decoded-none words f))

pub said-long : (words : List ℕ) → (decoded words).ok ≡ true → length (decoded words).rec.counts ≡ 32
said-long words ok =
    let are = ok-record words refl ok in
    ap (λ (d : Decoded). length d.rec.counts) (decoded-record words are) ∙ counts-long words are

-- ---- format and recovery

pub format-crossed : {e n s : ℕ} {area area' : List ℕ} {a b : FormatAnswer} {number : ℕ} → FormatPromise e n s area area' a → a ≡ b
    → number ≡ (format_said b).refused → FormatCrossed e n s area area' number
format-crossed {a = a} p q m = record { answer = a; promised = p; numbered = m ∙ ap (λ (x : FormatAnswer). (format_said x).refused) (sym q) }

-- a refusal is no acceptance
pub never-recovered : {A : Type 0} {c : Refusal} → ◌≡◌ {A = RecoverAnswer} (Err c) (Ok tt) → A
never-recovered e = let z : ◌≡◌ {A = ℕ} 0 1 = cc in absurd (omega arith)

pub recover-short : {n s : ℕ} {order area cells words : List ℕ} → length words < record_words
    → RecoverCrossed n s order area cells cells words words 4
recover-short h = record { short = λ _. record { numbered = refl; index_same = refl; words_same = refl }; recovers = λ g. absurd (omega arith) }

pub recover-crossed : {n s : ℕ} {order area cells cells' words words' : List ℕ} {x : Recovery} {b : RecoverAnswer} {number : ℕ}
    → record_words ≤ length words → RecoverPromise (image_layout n s area) n s order area cells cells' x → x.answer ≡ b
    → number ≡ (recover_said b).refused → words' ≡ words_after b words x.rec → (b ≡ (Ok tt) → length x.rec.counts ≡ 32)
    → RecoverCrossed n s order area cells cells' words words' number
recover-crossed {words = words} {x = x} h p e m w l =
    record {
      short = λ g. absurd (omega arith);
      recovers = λ _. record {
        recovery = x;
        promised = p;
        numbered = m ∙ ap (λ (a : RecoverAnswer). (recover_said a).refused) (sym e);
        says = w ∙ ap (λ (a : RecoverAnswer). words_after a words x.rec) (sym e);
        long = λ f. l (sym e ∙ f);
      };
    }

-- ---- read

pub looked-crossed : (words area cells : List ℕ) (t : Tables) (k : Key) {d : Decoded} {x : Lookup} → d ≡ decoded words
    → x ≡ looked_up d.rec.edition d.rec area cells t k → x ≡ looked_up (decoded words).rec.edition (decoded words).rec area cells t k
looked-crossed words area cells t k f l = l ∙ ap (λ (a : Decoded). looked_up a.rec.edition a.rec area cells t k) f

-- a record that does not fit what is lent is bad; with one that fits, a key out of reach is not looked for, and another is looked up where
-- the search has ended
pub looked-lost : (words area cells : List ℕ) (t : Tables) (k : Key) {d : Decoded} → d ≡ decoded words
    → fits_lent d.rec.edition d.rec (length area) (length cells) ≡ false → Err Refusal.BadRecord ≡ looked_up (decoded words).rec.edition (decoded words).rec area cells t k
looked-lost words area cells t k {d} f unfit = looked-crossed words area cells t k f (sym (looked-unfit d.rec.edition d.rec area cells t k unfit))

pub looked-away : (words area cells : List ℕ) (t : Tables) (k : Key) {d : Decoded} → d ≡ decoded words
    → fits_lent d.rec.edition d.rec (length area) (length cells) ≡ true → holds_table t k.table ≡ false
    → Err Refusal.OutsideTables ≡ looked_up (decoded words).rec.edition (decoded words).rec area cells t k
looked-away words area cells t k {d} f fit out = looked-crossed words area cells t k f (sym (looked-outside d.rec.edition d.rec area cells t k fit out))

pub looked-found : (words area cells : List ℕ) (t : Tables) (k : Key) {x : Lookup} {found : Found}
    → fits_lent (decoded words).rec.edition (decoded words).rec (length area) (length cells) ≡ true → holds_table t k.table ≡ true
    → found ≡ search_for area cells k → x ≡ lookup_at area cells found
    → x ≡ looked_up (decoded words).rec.edition (decoded words).rec area cells t k
looked-found words area cells t k fit held f l =
    l ∙ ap (lookup_at area cells) f ∙ sym (looked-fit (decoded words).rec.edition (decoded words).rec area cells t k fit held)

-- the same of words that were tested as they are
pub fits-words : (words : List ℕ) (a i : ℕ) → fits_lent (decoded words).rec.edition (decoded words).rec a i ≡ true → record_words ≤ length words
fits-words words a i fit = record-long words (fits-record _ words a i fit)

-- and the front that they say is the record's
pub front-says : (words : List ℕ) (a i : ℕ) {t : Bool} → t ≡ fits_lent (decoded words).rec.edition (decoded words).rec a i → not t ≡ false → {f : Record}
    → f ≡ bare (record_in words) → f ≡ bare (decoded words).rec
front-says words a i {t} e fit f =
    f ∙ ap (λ (d : Decoded). bare d.rec) (sym (fits-decoded _ words a i (sym e ∙ not-false t fit)))

pub read-crossed : {words area cells : List ℕ} {t : Tables} {k : Key} {version kind number : ℕ} {x : Lookup} {a b : ReadAnswer}
    → x ≡ looked_up (decoded words).rec.edition (decoded words).rec area cells t k → a ≡ told_by x → a ≡ b → number ≡ (read_said b).refused
    → version ≡ (read_said b).version → kind ≡ (read_said b).kind → ReadCrossed words area cells t k version kind number
read-crossed {words} {area} {cells} {t} {k} {x = x} {a = a} l its e m v w =
    record {
      reading = record { answer = a; rec = (decoded words).rec };
      promised = read-promise (decoded words).rec.edition (decoded words).rec area cells t k x a l its;
      numbered = m ∙ ap (λ (c : ReadAnswer). (read_said c).refused) (sym e);
      version-told = v ∙ ap (λ (c : ReadAnswer). (read_said c).version) (sym e);
      kind-told = w ∙ ap (λ (c : ReadAnswer). (read_said c).kind) (sym e);
    }

-- a record that an object was looked up with fits what is lent, which is at most the largest area
pub found-small : (r : Record) (area cells : List ℕ) (t : Tables) (k : Key) {p kind n : ℕ} {v : Version}
    → looked_up r.edition r area cells t k ≡ Ok (record { place = p; version = v; kind = kind; length = n }) → length area ≤ 65536
found-small r area cells t k e = go (fits_lent r.edition r (length area) (length cells)) refl
  where
    go : (x : Bool) → fits_lent r.edition r (length area) (length cells) ≡ x → length area ≤ 65536
    go false f = let g = looked-unfit r.edition r area cells t k f in let z : ◌≡◌ {A = ℕ} 0 1 = cc in absurd (omega arith)
    go true f =
        let l = lent r.edition r (length area) (length cells) f in
        let most : r.slots * r.size ≤ 32 * 2048 = mul-le-mul l.slots-high l.size-high in
        omega arith

pub value-crossed : {words area cells : List ℕ} {t : Tables} {k : Key} {place bytes number : ℕ} {x b : Lookup}
    → x ≡ looked_up (decoded words).rec.edition (decoded words).rec area cells t k → x ≡ b → number ≡ (read_said (told_by b)).refused
    → record { place = place; bytes = bytes } ≡ part_by b → place + bytes ≤ length area
    → ((number ≡ 0 → ⊥) → (place ≡ 0) × (bytes ≡ 0)) → ValueCrossed words area cells t k place bytes number
value-crossed {words} {area} {cells} {t} {k} {place} {bytes} {b = b} l e m v i w =
    let found : b ≡ looked_up (decoded words).rec.edition (decoded words).rec area cells t k = sym e ∙ l in
    record {
      reading = record { answer = told_by b; rec = (decoded words).rec };
      promised = read-promise (decoded words).rec.edition (decoded words).rec area cells t k b (told_by b) found refl;
      numbered = m;
      value = subst⁻¹ (ValuePromise (decoded words).rec.edition (decoded words).rec area cells t k) v (value-promise (decoded words).rec.edition (decoded words).rec area cells t k b found);
      inside = i;
      nowhere = w;
    }

-- ---- read by scan

module _ {n s : ℕ} {area : List ℕ} {t : Tables} {k : Key} {number : ℕ} {x b : Sought} (found : x ≡ sought (image_layout n s area) n s area t k) (is : x ≡ b)
    (told : number ≡ (read_said (answer_of b)).refused) where
  pub scan-crossed : {version kind : ℕ} → version ≡ (read_said (answer_of b)).version → kind ≡ (read_said (answer_of b)).kind
      → ScanCrossed n s area t k version kind number
  scan-crossed v w =
      record {
        answer = answer_of b;
        promised = scan-promise (image_layout n s area) n s area t k b (sym is ∙ found);
        numbered = told;
        version-told = v;
        kind-told = w;
      }

  pub scan-value-crossed : {place bytes : ℕ} → record { place = place; bytes = bytes } ≡ part_for b → place + bytes ≤ length area
      → ((number ≡ 0 → ⊥) → (place ≡ 0) × (bytes ≡ 0)) → ScanValueCrossed n s area t k place bytes number
  scan-value-crossed v i w =
      record {
        answer = answer_of b;
        promised = scan-promise (image_layout n s area) n s area t k b (sym is ∙ found);
        numbered = told;
        value = subst⁻¹ (ScanValue (image_layout n s area) n s area t k) v (scan-value (image_layout n s area) n s area t k b (sym is ∙ found));
        inside = i;
        nowhere = w;
      }

-- ---- conversion

pub convert-crossed : {n s : ℕ} {source target target' : List ℕ} {a b : ConvertAnswer} {number : ℕ} → ConvertPromise n s source target target' a → a ≡ b
    → number ≡ (convert_said b).refused → ConvertCrossed n s source target target' number
convert-crossed {a = a} p q m = record { answer = a; promised = p; numbered = m ∙ ap (λ (x : ConvertAnswer). (convert_said x).refused) (sym q) }

-- ---- write, delete and clean

pub handed : {ok : Bool} {x : Start} {words words' : List ℕ} {stores stores' number : ℕ} {b : StartAnswer}
    → (words' ≡ kept_words ok words x.rec) × (ok ≡ true → length x.rec.counts ≡ 32) → x.answer ≡ b → number ≡ (start_said b).refused
    → stores' ≡ stores_after b stores → Handed ok x words words' stores stores' number
handed {stores = stores} w e m s =
    record {
      numbered = m ∙ ap (λ (a : StartAnswer). (start_said a).refused) (sym e);
      told = s ∙ ap (λ (a : StartAnswer). stores_after a stores) (sym e);
      says = w.0;
      long = w.1;
    }

pub start-crossed : {t : Terms} {o : Operation} {words words' area cells work work' : List ℕ} {stores stores' number : ℕ} {d : Decoded} {x : Start}
    → d ≡ decoded words → StartPromise d.rec.edition t o d.rec area cells work work' x
    → Handed d.ok x words words' stores stores' number → StartCrossed t o words words' area cells work work' stores stores' number
start-crossed {x = x} f p h =
    record {
      start = x;
      promised = rw (ap (λ (a : Decoded). a.rec) f) at p;
      handed = rw (ap (λ (a : Decoded). a.ok) f) at h;
    }

-- ---- step

pub step-crossed : {words words' area area' cells cells' work : List ℕ} {left left' version version' number : ℕ} {d : Decoded} {x : Stepped}
    {b : StepAnswer} → d ≡ decoded words → StepPromise d.rec.edition d.rec area area' cells cells' work x × StepTested d.rec.edition d.rec area area' cells cells' work x
    → (words' ≡ kept_words d.ok words x.rec) × (d.ok ≡ true → length x.rec.counts ≡ 32) → x.answer ≡ b → number ≡ (step_said b).refused
    → left' ≡ left_told b left → version' ≡ told_after b version
    → StepCrossed words words' area area' cells cells' work left left' version version' number
step-crossed {words = words} {left = left} {version = version} {x = x} f p w e m l v =
    record {
      stepped = x;
      promised = rw (ap (λ (a : Decoded). a.rec) f) at p.0;
      tested = rw (ap (λ (a : Decoded). a.rec) f) at p.1;
      numbered = m ∙ ap (λ (a : StepAnswer). (step_said a).refused) (sym e);
      left-told = l ∙ ap (λ (a : StepAnswer). left_told a left) (sym e);
      version-told = v ∙ ap (λ (a : StepAnswer). told_after a version) (sym e);
      says = w.0 ∙ ap (λ (a : Decoded). kept_words a.ok words x.rec) f;
      long = λ ok. w.1 (ap (λ (a : Decoded). a.ok) f ∙ ok);
    }

-- ---- the slot with the fewest present bytes

both-done : (t : Bool) → both t true ≡ t
unfolding both
both-done true = refl
both-done false = refl

-- with the lengths that the record says, 4's test is that of the range
own-tested : (r : Record) → fits_lent r.edition r (r.slots * r.size) r.cells ≡ in_range r.edition r
unfolding fits_lent lengths_own
own-tested r =
    ap (both (in_range r.edition r)) (both_true _ _ (eq-eqb (r.slots * r.size) (r.slots * r.size) refl) (eq-eqb r.cells r.cells refl)) ∙
    both-done (in_range r.edition r)

-- the blank record is out of range
pub none-range : (words : List ℕ) → is_record words ≡ false → in_range (decoded words).rec.edition (decoded words).rec ≡ false
none-range words f = ap (λ (d : Decoded). in_range d.rec.edition d.rec) (decoded-none words f) ∙ blank-out _

-- nor is one of too few words
pub few-range : (words : List ℕ) → length words < record_words → false ≡ in_range (decoded words).rec.edition (decoded words).rec
few-range words h = sym (none-range words (too_short words h))

pub words-range : (words : List ℕ)
    → fits_lent (decoded words).rec.edition (decoded words).rec (word words 0 * word words 1) (word words 2) ≡ in_range (decoded words).rec.edition (decoded words).rec
words-range words = turn (is_record words) refl
  where
    turn : (t : Bool) → is_record words ≡ t
        → fits_lent (decoded words).rec.edition (decoded words).rec (word words 0 * word words 1) (word words 2) ≡ in_range (decoded words).rec.edition (decoded words).rec
    turn true f =
        subst (λ (d : Decoded). fits_lent d.rec.edition d.rec (word words 0 * word words 1) (word words 2) ≡ in_range d.rec.edition d.rec)
        (sym (decoded-record words f)) (own-tested (record_in words))
    turn false f = none-unfit _ words (word words 0 * word words 1) (word words 2) f ∙ sym (none-range words f)

-- t is what the code finds for the range
module _ (words : List ℕ) {t : Bool} (tested : t ≡ in_range (decoded words).rec.edition (decoded words).rec) where
  pub range-out : not t ≡ true → in_range (decoded words).rec.edition (decoded words).rec ≡ false
  range-out e = sym tested ∙ not-true t e

  module _ (passed : not t ≡ false) where
    pub range-in : in_range (decoded words).rec.edition (decoded words).rec ≡ true
    range-in = sym tested ∙ not-false t passed

    pub range-are : is_record words ≡ true
    range-are = go (is_record words) refl
      where
        go : (r : Bool) → is_record words ≡ r → is_record words ≡ true
        go true f = f
        go false f = absurd (clash _ range-in (none-range words f))

    pub range-said : decoded words ≡ record { ok = true; rec = record_in words }
    range-said = decoded-record words range-are

    pub range-lent : Lent (record_in words).edition (record_in words) (word words 0 * word words 1) (word words 2)
    range-lent =
        lent (record_in words).edition (record_in words) (word words 0 * word words 1) (word words 2)
        (own-tested (record_in words) ∙ ap (λ (d : Decoded). in_range d.rec.edition d.rec) (sym range-said) ∙ range-in)

    pub range-counts : length (counts_in words) ≡ 32
    range-counts = counts-long words range-are

module _ (words : List ℕ) {t : Bool} (tested : t ≡ in_range (decoded words).rec.edition (decoded words).rec) where
  pub fewest-bad : not t ≡ true → FewestCrossed words 0 4
  unfolding slot_told
  fewest-bad e =
      record {
        fewest = record { answer = Err BadRecord; rec = (decoded words).rec };
        promised = refused-promise (decoded words).rec.edition (decoded words).rec (range-out words tested e);
        numbered = refl;
        slot-told = refl;
      }

  pub fewest-told : not t ≡ false → {slot : ℕ} → slot ≡ fewest_slot (record_in words) → FewestCrossed words slot 0
  unfolding slot_told
  fewest-told passed {slot} e =
      record {
        fewest = record { answer = Ok slot; rec = (decoded words).rec };
        promised =
            told-promise (decoded words).rec.edition (decoded words).rec slot (range-in words tested passed)
            (e ∙ ap (λ (d : Decoded). fewest_slot d.rec) (sym (range-said words tested passed)));
        numbered = refl;
        slot-told = refl;
      }
