-- A step that leaves stores to be done, made on the words of the record: what it promises, at each return of its code.
use Rattle.std.specs.Prelude.{ℕ, ◌*◌, ◌-◌, ◌≤◌, ◌<◌, ◌≡◌, Bool, true, false, not, length, take, set, Ok, Err}
use Rattle.std.proofs.Math.Path.{refl, sym, ap, subst⁻¹}
use Rattle.std.proofs.Common.{◌∙◌, subst, arith, length-set}
use mathlib.Core.List.{List, [], ◌∷◌, ◌++◌}
use Rattle.std.proofs.Math.ListN.{get_or}
use Rattle.std.proofs.Math.Seq.{sets}
use Rattle.std.proofs.lemmas.Bool.{not-false}
use Rattle.segment.specs.Layout.{Layout}
use Rattle.record.specs.Answers.{bare, stores_left, step_said, tell_said, with_pending}
use Rattle.record.specs.Range.{counts_good, most_present, fits_lent}
use Rattle.record.specs.RangeLaws.{lent}
use Rattle.record.specs.declared.Pending.{Pending}
use Rattle.record.specs.declared.Pending.TheVariants.{Idle, Append, NewHead, Clean, Forget}
use Rattle.record.specs.declared.Record.{Record}
use Rattle.record.specs.declared.Refusal.{Refusal}
use Rattle.record.specs.declared.Refusal.TheVariants.{BadRecord}
use Rattle.record.specs.Answered.{Stepped, StepAnswer, TellAnswer}
use Rattle.record.specs.declared.Progress.{Progress}
use Rattle.model.specs.Promises.{StepPromise}
use Rattle.laws.specs.OperationsKept.{edition-laws}
use Rattle.telling.specs.Agree.{agrees_with}
use Rattle.telling.specs.Next.{PendingIn}
use Rattle.telling.proofs.BareLaws.{found-bad, front_fits as fits_front, found_front}
use Rattle.telling.specs.Told.{found_by, told_by}
use Rattle.telling.proofs.ToldLaws.{told-promise}
use Rattle.stepping.specs.Finish.{one_less, advanced}
use Rattle.stepping.proofs.FinishLaws.{advance-left}
use Rattle.stepping.proofs.OnLaws.{found-refused, found-stored, found-known}
use Rattle.words.specs.Words.{record_words, pending_words, words_of, word, record_in, is_record, decoded}
use Rattle.words.proofs.WordLaws.{too_short, counts-long, decoded-record, decoded-none, none-unfit, fits-record, pending-words, left_alone, encode-decode}
use Rattle.words.specs.declared.Decoded.{Decoded}
use Rattle.kurdavel.specs.Crossing.{StepCrossed, kept_words, left_told, told_after, TellCrossed, place_told, byte_told}
use Rattle.kurdavel.specs.CrossingLaws.{fits-words, front-says, same-words, said-long, kept_on, step-crossed}

-- what the words say but the present bytes fits the area
abbrev pub front_fits : List ℕ → List ℕ → Type 0
front_fits words area = fits_lent (record_in words).edition (bare (record_in words)) (length area) (word words 2) ≡ true

-- what the last step relies on, once its store is made
pub record AdvanceReady (r : Record) (area : List ℕ) : Type 0 where
  pub left : 0 < stores_left r.pending
  pub slots-high : r.slots ≤ 32
  pub size-high : r.size ≤ 2048
  pub area-own : length area ≡ r.slots * r.size
  pub inside : PendingIn r r.pending
  pub agrees : agrees_with r.edition r r.pending ≡ true
  pub size-some : 0 < r.size
  pub counts-high : counts_good (most_present r.size) r.counts ≡ true

-- What the last step makes of the words, given the area with its store.
pub record Finished (words words' area cells cells' : List ℕ) (left left' version version' number : ℕ) : Type 0 where
  pub stepped : Stepped
  pub advances : record { stepped = stepped; cells = cells' } ≡ advanced (decoded words).rec.edition (decoded words).rec area cells
  pub same_length : length cells' ≡ length cells
  pub says : words' ≡ kept_words (decoded words).ok words stepped.rec
  pub long : (decoded words).ok ≡ true → length stepped.rec.counts ≡ 32
  pub numbered : number ≡ (step_said stepped.answer).refused
  pub left-told : left' ≡ left_told stepped.answer left
  pub version-told : version' ≡ told_after stepped.answer version

-- the same from what the code finds, in each case of the answer
pub finished : {words words' area cells cells' : List ℕ} {left left' version version' number : ℕ} {d : Decoded} {x : Stepped} {b : StepAnswer}
    → d ≡ decoded words → record { stepped = x; cells = cells' } ≡ advanced d.rec.edition d.rec area cells → length cells' ≡ length cells
    → (words' ≡ kept_words d.ok words x.rec) × (d.ok ≡ true → length x.rec.counts ≡ 32) → x.answer ≡ b → number ≡ (step_said b).refused
    → left' ≡ left_told b left → version' ≡ told_after b version
    → Finished words words' area cells cells' left left' version version' number
finished {words = words} {area = area} {cells = cells} {left = left} {version = version} {x = x} f a n w e m l v =
    record {
      stepped = x;
      advances = a ∙ ap (λ (y : Decoded). advanced y.rec.edition y.rec area cells) f;
      same_length = n;
      says = w.0 ∙ ap (λ (y : Decoded). kept_words y.ok words x.rec) f;
      long = λ ok. w.1 (ap (λ (y : Decoded). y.ok) f ∙ ok);
      numbered = m ∙ ap (λ (a : StepAnswer). (step_said a).refused) (sym e);
      left-told = l ∙ ap (λ (a : StepAnswer). left_told a left) (sym e);
      version-told = v ∙ ap (λ (a : StepAnswer). told_after a version) (sym e);
    }

-- ---- the words of a pending operation with one store less

abbrev less : List ℕ → List ℕ
less l = take 4 l ++ ((get_or l 4 0 - 1) ∷ [])

less-words : (p : Pending) → pending_words (one_less p) ≡ less (pending_words p)
unfolding one_less
less-words Idle = refl
less-words (Append n k) = refl
less-words (NewHead i n k) = refl
less-words (Clean i v n k) = refl
less-words (Forget i v n k) = refl

left-fifth : (p : Pending) → get_or (pending_words p) 4 0 ≡ stores_left p
left-fifth Idle = refl
left-fifth (Append n k) = refl
left-fifth (NewHead i n k) = refl
left-fifth (Clean i v n k) = refl
left-fifth (Forget i v n k) = refl

-- ---- what was found of the next store

module _ (words area work : List ℕ) where
  abbrev says : Record
  says = (decoded words).rec

  abbrev found : ℕ → TellAnswer
  found cells = found_by says.edition says area cells work

  -- a record that does not fit is refused with 4
  unfit-found : (cells : ℕ) → fits_lent says.edition says (length area) cells ≡ false → Err BadRecord ≡ found cells
  unfit-found cells e = found-bad says.edition says area cells work {t = false} (sym e) refl

  -- what the code finds: t for the test on the words, f for what they say but the present bytes
  module _ (cells : ℕ) {t : Bool} (tested : t ≡ fits_lent says.edition says (length area) cells) where
    pub bad-found : not t ≡ true → found cells ≡ Err BadRecord
    bad-found e = sym (found-bad says.edition says area cells work tested e)

    module _ (passed : not t ≡ false) where
      front : bare (record_in words) ≡ bare says
      front = front-says words (length area) cells tested passed refl

      own : (record_in words).edition ≡ says.edition
      own = ap (λ (r : Record). r.edition) front

      pub front-lent : front_fits words area
      front-lent =
          ap (λ (L : Layout). fits_lent L (bare (record_in words)) (length area) (word words 2)) own
          ∙ fits_front says.edition says area cells work tested (not-false t passed) front

      pub front-found : {a : TellAnswer} → a ≡ (told_by (record_in words).edition (bare (record_in words)) area work).answer → a ≡ found cells
      front-found h =
          found_front says.edition says area cells work tested (not-false t passed) front
          (h ∙ ap (λ (L : Layout). (told_by L (bare (record_in words)) area work).answer) own)

      pub front_long : record_words ≤ length words
      front_long = fits-words words (length area) cells (sym tested ∙ not-false t passed)

  -- a record for which a store is found fits, and the words are a record's
  found-fit : (cells p b : ℕ) → found cells ≡ Ok (record { place = p; byte = b }) → fits_lent says.edition says (length area) cells ≡ true
  found-fit cells p b e = go (fits_lent says.edition says (length area) cells) refl
    where
      go : (t : Bool) → fits_lent says.edition says (length area) cells ≡ t → fits_lent says.edition says (length area) cells ≡ true
      go true f = f
      go false f =
          let w : ◌≡◌ {A = TellAnswer} (Err BadRecord) (Ok (record { place = p; byte = b })) = unfit-found cells f ∙ e in
          let z : ◌≡◌ {A = ℕ} 0 1 = cc in
          absurd (omega arith)

  found-record : (cells p b : ℕ) → found cells ≡ Ok (record { place = p; byte = b }) → is_record words ≡ true
  found-record cells p b e = fits-record _ words (length area) cells (found-fit cells p b e)

  -- and it lies in the area
  pub on-inside : (cells p b : ℕ) → found cells ≡ Ok (record { place = p; byte = b }) → p < length area
  on-inside cells p b e =
      let fit = found-fit cells p b e in
      let own : cells ≡ says.cells = (lent says.edition says (length area) cells fit).index-own in
      (told-promise _ (edition-laws _) says area work refl).inside p b (ap found (sym own) ∙ e)

  -- ---- the step

  module _ (half : word words 7 < 4294967296) (cells : List ℕ) (left version : ℕ) where
    pub on-refused : (c : Refusal) {number : ℕ} → found (length cells) ≡ Err c → number ≡ (tell_said (Err c)).refused
        → StepCrossed words words area area cells cells work left left version version number
    unfolding left_told told_after
    on-refused c e m =
        step-crossed {b = Err c} refl (found-refused _ says area cells work c e refl) (same-words words half, said-long words) refl m refl refl

    pub on-stored : (p b : ℕ) {words' : List ℕ} → found (length cells) ≡ Ok (record { place = p; byte = b }) → 1 < word words 16
        → words' ≡ set words 16 (word words 16 - 1)
        → StepCrossed words words' area (set area p b) cells cells work left (word words 16 - 1) version 0 0
    unfolding left_told told_after
    on-stored p b {words'} e more w =
        let are = found-record (length cells) p b e in
        let is : decoded words ≡ record { ok = true; rec = record_in words } = decoded-record words are in
        let five = pending-words words are in
        let k : word words 16 ≡ stores_left (record_in words).pending =
        sym (ap (λ (l : List ℕ). get_or l 4 0) five) ∙ left-fifth (record_in words).pending in
        let k-said : word words 16 ≡ stores_left says.pending = k ∙ ap (λ (d : Decoded). stores_left d.rec.pending) (sym is) in
        let after : Record = with_pending says (one_less says.pending) in
        let its : after ≡ with_pending (record_in words) (one_less (record_in words).pending) =
        ap (λ (d : Decoded). with_pending d.rec (one_less d.rec.pending)) is in
        step-crossed {x = record { answer = Ok (Progress.Left (word words 16 - 1)); rec = after }} refl
        (found-stored _ says area cells work p b e
        (advance-left says.edition says (set area p b) cells k-said more refl refl) refl) (
          kept_on words words' after (ap (λ (d : Decoded). d.ok) is)
              (w
              ∙ left_alone words are half (word words 16 - 1) (one_less (record_in words).pending) (less-words (record_in words).pending ∙ ap less five)
              ∙ ap (λ (r : Record). sets words 0 (words_of r)) (sym its)),
          said-long words,
        )
        refl refl refl refl

  module _ (cells : List ℕ) (left version : ℕ) where
    -- the last step, once its store is made
    pub on-last : (p b : ℕ) {words' cells' : List ℕ} {left' version' number : ℕ} → found (length cells) ≡ Ok (record { place = p; byte = b })
        → Finished words words' (set area p b) cells cells' left left' version version' number
        → StepCrossed words words' area (set area p b) cells cells' work left left' version version' number
    on-last p b e f =
        step-crossed refl (found-stored _ says area cells work p b e f.advances f.same_length) (f.says, f.long) refl f.numbered
        f.left-told f.version-told

    pub on-ready : (p b : ℕ) → found (length cells) ≡ Ok (record { place = p; byte = b }) → AdvanceReady says (set area p b)
    on-ready p b e =
        let fit = found-fit (length cells) p b e in
        let k = found-known _ says area cells work fit p b e in
        let l = lent says.edition says (length area) (length cells) fit in
        record {
          left = k.left;
          slots-high = l.slots-high;
          size-high = l.size-high;
          area-own = simp length-set l.area-own;
          inside = k.inside;
          agrees = k.agrees;
          size-some = omega (arith, l.size_low);
          counts-high = l.counts-high;
        }

    -- stores are left
    pub on-left : (p b : ℕ) → found (length cells) ≡ Ok (record { place = p; byte = b }) → 0 < word words 16
    on-left p b e =
        let are = found-record (length cells) p b e in
        let k : word words 16 ≡ stores_left (record_in words).pending =
        sym (ap (λ (l : List ℕ). get_or l 4 0) (pending-words words are)) ∙ left-fifth (record_in words).pending in
        let k-said : word words 16 ≡ stores_left says.pending =
        k ∙ ap (λ (d : Decoded). stores_left d.rec.pending) (sym (decoded-record words are)) in
        omega (arith, (on-ready p b e).left)

  -- ---- the store told

  -- no index is lent: it counts as long as the record says, and words that are no record are refused whatever they say of it
  found-told : found (word words 2) ≡ (told_by says.edition says area work).answer
  found-told = go (is_record words) refl
    where
      go : (t : Bool) → is_record words ≡ t → found (word words 2) ≡ found says.cells
      go true f = ap found (ap (λ (d : Decoded). d.rec.cells) (sym (decoded-record words f)))
      go false f =
          sym (unfit-found (word words 2) (none-unfit _ words (length area) (word words 2) f))
          ∙ unfit-found says.cells (none-unfit _ words (length area) says.cells f)

  pub told-crossed : {a b : TellAnswer} {place byte number : ℕ} → a ≡ found (word words 2) → a ≡ b → number ≡ (tell_said b).refused
      → place ≡ place_told b → byte ≡ byte_told b → TellCrossed words area work place byte number
  told-crossed {a} {b} e f m l v =
      let is : (told_by says.edition says area work).answer ≡ b = sym (e ∙ found-told) ∙ f in
      record {
        foretold = told_by says.edition says area work;
        found = refl;
        promised = told-promise _ (edition-laws _) says area work refl;
        numbered = m ∙ ap (λ (x : TellAnswer). (tell_said x).refused) (sym is);
        place-told = l ∙ ap place_told (sym is);
        byte-told = v ∙ ap byte_told (sym is);
      }

  pub told-few : length words < record_words → TellCrossed words area work 0 0 4
  unfolding place_told byte_told
  told-few h =
      told-crossed (unfit-found (word words 2) (none-unfit _ words (length area) (word words 2) (too_short words h))) refl refl refl refl
