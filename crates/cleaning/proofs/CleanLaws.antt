-- The start of a cleaning at each of its tests, in the code's order. Premises are the tests as the code has them, and what its
-- callees told.
use Rattle.std.specs.Prelude.{ℕ, ◌+◌, ◌≤◌, ◌<◌, ◌≡◌, Bool, true, false, not, eqb, replicate, Ok, Err}
use Rattle.std.proofs.Common.{sym, ◌∙◌, subst, zero-add, arith}
use Rattle.std.proofs.Math.Path.{ap}
use Rattle.std.proofs.Math.Option.{none}
use mathlib.Core.List.{List, ◌++◌}
use Rattle.std.proofs.Math.ListN.{length}
use Rattle.std.proofs.lemmas.List.Edits.{sets}
use borrow.Author.Tests.{lt-ltb, le-ltb, eq-eqb, ne_eqb, not-false, eqb-false, ltb-false}
use Rattle.word.specs.Number.{Bytes}
use Rattle.word.specs.Laws.{sets-append}
use Rattle.segment.specs.Choice.{either}
use Rattle.segment.proofs.Choice.{either-true-left, either-false-right}
use Rattle.segment.specs.Layout.{Layout, digest_size, number_limit}
use Rattle.segment.specs.Digest.{encoded_digest}
use Rattle.segment.proofs.DigestLaws.{length-encoded_digest}
use Rattle.segment.specs.declared.Digest.{Digest}
use Rattle.slot_map.specs.Bit.{within}
use Rattle.record.specs.Range.{fits_lent}
use Rattle.record.specs.RangeLaws.{Lent, lent}
use Rattle.record.specs.Switch.{new_layout}
use Rattle.record.specs.declared.Pending.TheVariants.{Clean}
use Rattle.record.specs.declared.Refusal.{Refusal}
use Rattle.record.specs.declared.Refusal.TheVariants.{BadRecord, BadVictims, KeptTooLong, NumbersSpent}
use Rattle.record.specs.Answered.{Start, Check}
use Rattle.record.specs.declared.Record.{Record}
use Rattle.model.specs.Causes.{Cause, first_cause}
use Rattle.model.specs.Operations.{clean, new_slot, new_digest}
use Rattle.model.specs.Refused.{Lengths, freely, record_bad, work_short, victims_bad}
use Rattle.model.specs.Promises.{Begun, lent_lengths, StartPromise}
use Rattle.laws.specs.CauseLaws.{cause-false, cause-rest, no-cause, first_some, first-none}
use Rattle.starting.specs.Stores.{head_stores}
use Rattle.starting.specs.Checks.{checked, idle_causes}
use Rattle.starting.specs.CheckLaws.{refused, skipped, passed, checked-some, checked-none, record-bad, idle-refuses, idle-goes}
use Rattle.starting.specs.NewHead.{NumberLeft}
use Rattle.starting.specs.Answer.{started_with, refused_start}
use Rattle.cleaning.specs.Entries.{SplitFits}
use Rattle.cleaning.specs.Marks.{marks_of}
use Rattle.cleaning.specs.Filter.{sift_needed}
use Rattle.cleaning.specs.Kept.{kept_bytes}
use Rattle.cleaning.proofs.KeptAlike.{needed-bytes}
use Rattle.cleaning.specs.Chosen.{chosen_bytes}
use Rattle.cleaning.specs.KeptModel.{split_of}
use Rattle.segment.specs.Copied.{Copied}
use Rattle.cleaning.specs.Begun.{CleanReady, CleanFits, Room, cleaning_with, front_causes, kept_causes, begun_with, marked_with, causes_with}
use Rattle.cleaning.proofs.Begun.{cleaned-promise}
use Rattle.cleaning.specs.declared.Split.{Split}

-- ---- single tests

module _ (r : Record) (victims : ℕ) where
  pub no-victims : victims ≡ 0 → true ≡ victims_bad r victims
  no-victims e = sym (either-true-left (eqb victims 0) _ (eq-eqb victims 0 e))

  pub some-victims : (victims ≡ 0 → ⊥) → (t : Bool) → t ≡ within victims r.map → not t ≡ victims_bad r victims
  unfolding either
  some-victims n t e = rw (ne_eqb victims 0 n, e)

-- ---- the tests of a start, by what they told

-- t is what the code finds for the range and the lengths, and v for the victims
module _ (L : Layout) (r : Record) (l : Lengths) (victims : ℕ) {t : Bool} (e : t ≡ fits_lent L r l.area l.index) where
  abbrev FrontIs : Check → Type 0
  FrontIs a = a ≡ checked (first_cause (front_causes L r l victims))

  pub front-bad : not t ≡ true → FrontIs (Err BadRecord)
  unfolding front_causes
  front-bad h = refused _ _ (record-bad L r l e h)

  module _ (fits : not t ≡ false) where
    pub front-idle : (c : Refusal) → Err c ≡ checked (first_cause (idle_causes r l.work)) → FrontIs (Err c)
    unfolding front_causes
    front-idle c h = idle-refuses L r l e fits _ c h

    module _ (idle : Ok tt ≡ checked (first_cause (idle_causes r l.work))) (v : Bool) (d : v ≡ victims_bad r victims) where
      pub front-victims : v ≡ true → FrontIs (Err BadVictims)
      unfolding front_causes
      front-victims h = idle-goes L r l e fits _ idle (refused _ _ (sym d ∙ h))

      pub front-passed : v ≡ false → FrontIs (Ok tt)
      unfolding front_causes
      front-passed h = idle-goes L r l e fits _ idle (skipped _ _ (sym d ∙ h) passed)

-- n is the length of what is kept, in the new head's edition W
module _ (W : Layout) (r : Record) (n : ℕ) where
  pub kept-long : r.size < digest_size W + n → Err KeptTooLong ≡ checked (first_cause (kept_causes W r n))
  unfolding kept_causes
  kept-long h = refused _ _ (lt-ltb r.size (digest_size W + n) h)

  module _ (fits : digest_size W + n ≤ r.size) where
    pub kept-spent : r.digest.0 ≡ number_limit → Err NumbersSpent ≡ checked (first_cause (kept_causes W r n))
    unfolding kept_causes
    kept-spent h = skipped _ _ (le-ltb r.size (digest_size W + n) fits) (refused _ _ (eq-eqb r.digest.0 number_limit h))

    pub kept-passed : (r.digest.0 ≡ number_limit → ⊥) → Ok tt ≡ checked (first_cause (kept_causes W r n))
    unfolding kept_causes
    kept-passed h = skipped _ _ (le-ltb r.size (digest_size W + n) fits) (skipped _ _ (ne_eqb r.digest.0 number_limit h) passed)

  -- what is known once they are passed
  pub record KeptPassed : Type 0 where
    pub fits : digest_size W + n ≤ r.size
    pub number-left : NumberLeft r

  pub passed-kept : Ok tt ≡ checked (first_cause (kept_causes W r n)) → KeptPassed
  unfolding kept_causes
  passed-kept e =
      let c = checked-none (first_cause (kept_causes W r n)) e in
      record {
        fits = ltb-false r.size (digest_size W + n) (cause-false _ _ c);
        number-left = eqb-false r.digest.0 number_limit (cause-false _ _ (cause-rest _ _ c));
      }

-- ---- a cleaning once the cells are marked: n is what the code measures

module _ (W : Layout) (r : Record) (victims : ℕ) (work bytes : List ℕ) (n : ℕ) (m : n ≡ length bytes) where
  here : (a : Check) → a ≡ checked (first_cause (kept_causes W r n)) → a ≡ checked (first_cause (kept_causes W r (length bytes)))
  here a e = e ∙ ap (λ (k : ℕ). checked (first_cause (kept_causes W r k))) m

  pub marked_refused : (c : Refusal) → Err c ≡ checked (first_cause (kept_causes W r n)) → (a : Start) → a ≡ refused_start r c →
      record { start = a; work = work } ≡ marked_with W r victims work bytes
  unfolding begun_with marked_with
  marked_refused c e a is =
      ap (λ (s : Start). record { start = s; work = work }) is
      ∙ ap (begun_with W r victims work bytes) (sym (checked-some _ c (here (Err c) e)))

  pub marked-begun : {b : Begun} → Ok tt ≡ checked (first_cause (kept_causes W r n)) → b ≡ begun_with W r victims work bytes none →
      b ≡ marked_with W r victims work bytes
  unfolding marked_with
  marked-begun e h = h ∙ ap (begun_with W r victims work bytes) (sym (checked-none _ (here (Ok tt) e)))

-- what the code may rely on then: what is chosen is what is kept
module _ (W : Layout) {L : Layout} {r : Record} {victims : ℕ} {split : Split} {area marks work : List ℕ} (f : CleanFits L r victims split area marks work)
    (cells : List ℕ) (n : ℕ) (m : n ≡ length (kept_bytes W area cells marks split)) (e : Ok tt ≡ checked (first_cause (kept_causes W r n))) where
  pub ready : CleanReady L r victims
  ready =
      record {
        area_length = f.area_length;
        index_length = f.index_length;
        lent = f.lent;
        all_named = f.all_named;
        number-left = (passed-kept W r n e).number-left;
      }

  pub room : (chosen : List ℕ) → length chosen ≡ 256 → chosen_bytes W area chosen split ≡ kept_bytes W area cells marks split → Room W r split area chosen work
  room chosen long same =
      record {
        shape = record { slots = f.shape.slots; chosen-long = long };
        fits = omega (arith, (passed-kept W r n e).fits, m, ap length same);
        long = f.long;
      }

-- ---- the promise at each answer

pub split-shape : (L : Layout) (r : Record) (i victims : ℕ) (area marks : List ℕ) (split : Split) → Lent L r (length area) i → split ≡ split_of r victims →
    length marks ≡ 128 → SplitFits split area marks
split-shape L r i victims area marks split f is long =
    subst (λ (s : Split). SplitFits s area marks) (sym is)
    (record {
      slots = record { slots-high = f.slots-high; size_low = f.size_low; size-high = f.size-high; whole = f.area-own };
      marks-long = long;
    })

module _ (L : Layout) (area cells : List ℕ) (r : Record) (victims : ℕ) (work : List ℕ) where
  -- the whole answer, and what the first tests leave of it
  abbrev front : List Cause
  front = front_causes L r (lent_lengths area cells work) victims

  -- what is known once none of the first tests holds
  record FrontPassed : Type 0 where
    record-good : record_bad L r (lent_lengths area cells work) ≡ false
    work-long : work_short r (lent_lengths area cells work) ≡ false
    victims-good : victims_bad r victims ≡ false

  first-passed : first_cause front ≡ none → FrontPassed
  unfolding front_causes idle_causes
  first-passed e = let t = no-cause front e in record { record-good = t.0; work-long = t.1.0; victims-good = t.1.1.1.0 }

  pub front-refused : Bytes area → (c : Refusal) → Err c ≡ checked (first_cause front) → (a : Start) → a ≡ refused_start r c →
      StartPromise L freely (clean victims) r area cells work work a
  unfolding begun_with causes_with front_causes kept_causes idle_causes
  front-refused bytes c e a is =
      cleaned-promise L area cells r victims work work a bytes
      (ap (λ (s : Start). record { start = s; work = work }) is
      ∙ ap (begun_with (new_layout r) r victims work (kept_bytes (new_layout r) area cells (marks_of area cells (split_of r victims)) (split_of r victims)))
      (sym
      (first_some front (kept_causes (new_layout r) r (length (kept_bytes (new_layout r) area cells (marks_of area cells (split_of r victims)) (split_of r victims)))) c
      (checked-some (first_cause front) c e))))

  module _ (e : Ok tt ≡ checked (first_cause front)) where
    in-range : Lent L r (length area) (length cells)
    in-range = lent L r (length area) (length cells) (not-false _ (first-passed (checked-none (first_cause front) e)).record-good)

    pub front-shape : (marks : List ℕ) (split : Split) → split ≡ split_of r victims → length marks ≡ 128 → SplitFits split area marks
    front-shape marks split is long = split-shape L r (length cells) victims area marks split in-range is long

    pub front_fits : (marks : List ℕ) (split : Split) → split ≡ split_of r victims → length marks ≡ 128 → CleanFits L r victims split area marks work
    front_fits marks split is long =
        let t : FrontPassed = first-passed (checked-none (first_cause front) e) in
        record {
          area_length = length area;
          index_length = length cells;
          lent = in-range;
          all_named = not-false _ (either-false-right (eqb victims 0) (not (within victims r.map)) t.victims-good);
          shape = front-shape marks split is long;
          long = ltb-false (length work) r.size t.work-long;
        }

    pub marked-promise : Bytes area → (marks : List ℕ) (split : Split) → split ≡ split_of r victims → marks ≡ sift_needed area cells split (replicate 128 0) →
        (W : Layout) → W ≡ new_layout r → (work' : List ℕ) (a : Start) →
        record { start = a; work = work' } ≡ marked_with W r victims work (kept_bytes W area cells marks split) →
        StartPromise L freely (clean victims) r area cells work work' a
    unfolding causes_with front_causes kept_causes idle_causes marked_with
    marked-promise bytes marks split is its W new work' a h =
        cleaned-promise L area cells r victims work work' a bytes
        (h
        ∙ ap (λ (K : Layout). marked_with K r victims work (kept_bytes K area cells marks split)) new
        ∙ ap (λ (l : List ℕ). marked_with (new_layout r) r victims work (kept_bytes (new_layout r) area cells l split)) its
        ∙ ap (marked_with (new_layout r) r victims work) (needed-bytes area cells split (new_layout r))
        ∙ ap (λ (s : Split). marked_with (new_layout r) r victims work (kept_bytes (new_layout r) area cells (marks_of area cells s) s)) is
        ∙ ap (begun_with (new_layout r) r victims work (kept_bytes (new_layout r) area cells (marks_of area cells (split_of r victims)) (split_of r victims)))
        (sym
        (first-none front (kept_causes (new_layout r) r (length (kept_bytes (new_layout r) area cells (marks_of area cells (split_of r victims)) (split_of r victims))))
        (checked-none (first_cause front) e))))

-- ---- the work buffer filled and the answer

module _ (W : Layout) (r : Record) (victims : ℕ) (work bytes : List ℕ) where
  pub begun-filled : (d : Digest) (work₁ work₂ : List ℕ) (n slot left : ℕ) (a : Start) → d ≡ new_digest r victims →
      work₁ ≡ sets work 0 (encoded_digest W d) → Copied bytes work₁ (digest_size W) work₂ n → slot ≡ new_slot r → left ≡ head_stores r.size n →
      a ≡ started_with r (Clean slot victims n left) left → record { start = a; work = work₂ } ≡ begun_with W r victims work bytes none
  unfolding begun_with
  begun-filled d work₁ work₂ n slot left a de e₁ p s t is = λ i. record { start = start i; work = filled i }
    where
      start : a ≡ cleaning_with r victims (new_slot r) (digest_size W + length bytes)
      start = is ∙ (λ i. started_with r (Clean slot victims n (t i)) (t i)) ∙ λ i. cleaning_with r victims (s i) (p.behind i)

      front : work₁ ≡ sets work 0 (encoded_digest W (new_digest r victims))
      front = e₁ ∙ ap (λ (x : Digest). sets work 0 (encoded_digest W x)) de

      filled : work₂ ≡ sets work 0 (encoded_digest W (new_digest r victims) ++ bytes)
      filled =
          p.stored
          ∙ ap (λ (w : List ℕ). sets w (digest_size W) bytes) front
          ∙ ap (λ (k : ℕ). sets (sets work 0 (encoded_digest W (new_digest r victims))) k bytes) (sym (zero-add _ ∙ length-encoded_digest W (new_digest r victims)))
          ∙ sym (sets-append work 0 (encoded_digest W (new_digest r victims)) bytes)
