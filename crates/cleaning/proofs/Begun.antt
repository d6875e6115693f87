-- What a start of a cleaning answers and leaves, by the bytes that it keeps; and that this is the promise of a start.
-- What is proved of the definitions in `specs/Begun.antt`.
use Prim.Native.Nat.{ℕ, ◌+◌, ◌*◌}
use Rattle.std.specs.Prelude.{◌≡◌, Bool, not, eqb}
use Rattle.std.proofs.Math.Path.{refl, sym, ap}
use Rattle.std.proofs.Common.{◌∙◌, arith, length-append}
use Rattle.std.proofs.Math.Bool.{true, false}
use Rattle.std.proofs.Math.Option.{Option, none, some}
use mathlib.Core.List.{List, [], ◌∷◌, ◌++◌}
use Rattle.std.proofs.Math.ListN.{length}
use Rattle.std.proofs.Math.Seq.{sets, length-sets}
use Rattle.std.proofs.lemmas.Bool.{not-false}
use Rattle.word.specs.Number.{Bytes}
use Rattle.segment.specs.Choice.{pick}
use Rattle.segment.proofs.Choice.{either-false-right}
use Rattle.segment.specs.Layout.{Layout, digest_size}
use Rattle.segment.specs.Digest.{encoded_digest}
use Rattle.segment.proofs.DigestLaws.{length-encoded_digest}
use Rattle.slot_map.specs.Bit.{within}
use Rattle.record.specs.Range.{fits_lent}
use Rattle.record.specs.RangeLaws.{lent}
use Rattle.record.specs.Switch.{new_layout}
use Rattle.record.specs.declared.Pending.TheVariants.{Clean}
use Rattle.record.specs.declared.Refusal.{Refusal}
use Rattle.record.specs.declared.Refusal.TheVariants.{BadRecord, WorkShort, Busy, BadVictims}
use Rattle.record.specs.Answered.{Start}
use Rattle.record.specs.declared.Record.{Record}
use Rattle.model.specs.Log.{Placed}
use Rattle.model.specs.Causes.{when, first_cause}
use Rattle.model.specs.Operations.{clean, log_now, new_slot, new_digest, kept, all_encoded, laid, plan_of}
use Rattle.model.specs.Refused.{Lengths, freely, record_bad, work_short, is_pending, victims_bad, early_causes, start_causes}
use Rattle.model.specs.Promises.{Begun, begun, Genuine, lent_lengths, StartPromise}
use Rattle.laws.specs.CauseLaws.{cause-first, first_some}
use Rattle.laws.specs.SaidLaws.{start-settled}
use Rattle.starting.specs.Stores.{head-stores}
use Rattle.starting.specs.Answer.{started_with}
use Rattle.cleaning.specs.Marks.{marks_of}
use Rattle.cleaning.specs.Kept.{kept_bytes}
use Rattle.cleaning.specs.KeptModel.{split_of, genuine-indexed}
use Rattle.cleaning.proofs.KeptModel.{bytes-kept}
use Rattle.cleaning.specs.Begun.{begun_with, causes_with, cleaned_with}

-- ---- with the bytes that the model keeps it is the model's start

module _ (L : Layout) (r : Record) (log : List Placed) (victims : ℕ) (work : List ℕ) where
  abbrev W : Layout
  W = new_layout r

  abbrev model-bytes : List ℕ
  model-bytes = all_encoded W (kept victims log)

  model-length : length (encoded_digest W (new_digest r victims) ++ model-bytes) ≡ digest_size W + length model-bytes
  model-length =
      length-append (encoded_digest W (new_digest r victims)) model-bytes
      ∙ ap (λ (k : ℕ). k + length model-bytes) (length-encoded_digest W (new_digest r victims))

  begun-same : (o : Option Refusal) → begun_with W r victims work model-bytes o ≡ begun L r log (clean victims) work o
  unfolding begun_with begun laid plan_of
  begun-same (some c) = refl
  begun-same none =
      let n = digest_size W + length model-bytes in
      let bytes = encoded_digest W (new_digest r victims) ++ model-bytes in
      let e = sym (head-stores r.size (new_slot r) n (new_slot r * r.size, 0) bytes model-length (omega arith)) in
      λ i. record { start = started_with r (Clean (new_slot r) victims n (e i)) (e i); work = sets work 0 bytes }

  cleaned-same : (l : Lengths) → cleaned_with L r victims l work model-bytes ≡
      begun L r log (clean victims) work (first_cause (start_causes L r log l freely (clean victims)))
  unfolding start_causes causes_with
  cleaned-same l = begun-same (first_cause (causes_with L r l model-bytes victims))

-- ---- the promise

module _ (L : Layout) (r : Record) (victims : ℕ) (l : Lengths) (work : List ℕ) where
  begun-long : (bytes : List ℕ) (o : Option Refusal) → length (begun_with (new_layout r) r victims work bytes o).work ≡ length work
  unfolding begun_with
  begun-long bytes none = length-sets work 0 (encoded_digest (new_layout r) (new_digest r victims) ++ bytes)
  begun-long bytes (some c) = refl

  -- where the victims are bad, the bytes do not matter
  bad-alike : (a b : List ℕ) → victims_bad r victims ≡ true → cleaned_with L r victims l work a ≡ cleaned_with L r victims l work b
  unfolding begun_with first_cause pick causes_with
  bad-alike a b e = rw e (go (record_bad L r l) (work_short r l) (is_pending r.pending))
    where
      tests : List ℕ → (t u w : Bool) → Begun
      tests bytes t u w =
          begun_with (new_layout r) r victims work bytes (pick t (some BadRecord) (pick u (some WorkShort) (pick w (some Busy) (some BadVictims))))

      go : (t u w : Bool) → tests a t u w ≡ tests b t u w
      go true u w = refl
      go false true w = refl
      go false false true = refl
      go false false false = refl

module _ (L : Layout) (area cells : List ℕ) (r : Record) (victims : ℕ) (work work' : List ℕ) (a : Start) where
  abbrev lengths : Lengths
  lengths = lent_lengths area cells work

  abbrev code-bytes : List ℕ
  code-bytes = kept_bytes (new_layout r) area cells (marks_of area cells (split_of r victims)) (split_of r victims)

  abbrev its-bytes : List ℕ
  its-bytes = all_encoded (new_layout r) (kept victims (log_now area r))

  -- the bytes are the model's where the record is in range and the victims are good, and else they do not matter
  same_bytes : Bytes area → Genuine L area r cells → cleaned_with L r victims lengths work code-bytes ≡ cleaned_with L r victims lengths work its-bytes
  unfolding begun_with causes_with
  same_bytes bytes g = go (record_bad L r lengths) refl (victims_bad r victims) refl
    where
      go : (t : Bool) → record_bad L r lengths ≡ t → (v : Bool) → victims_bad r victims ≡ v →
          cleaned_with L r victims lengths work code-bytes ≡ cleaned_with L r victims lengths work its-bytes
      go true bad v e = ap (begun_with (new_layout r) r victims work code-bytes) (cause-first _ _ bad) ∙ sym (ap (begun_with (new_layout r) r victims work its-bytes) (cause-first _ _ bad))
      go false fit true bad = bad-alike L r victims lengths work code-bytes its-bytes bad
      go false fit false good =
          let f = lent L r (length area) (length cells) (not-false (fits_lent L r (length area) (length cells)) fit) in
          ap (cleaned_with L r victims lengths work)
          (bytes-kept area cells r (genuine-indexed L area cells r g) victims (not-false _ (either-false-right (eqb victims 0) (not (within victims r.map)) good))
          (omega (arith, f.cells-high, f.index-own)) bytes (new_layout r))

  pub cleaned-promise : Bytes area → record { start = a; work = work' } ≡ cleaned_with L r victims lengths work code-bytes →
      StartPromise L freely (clean victims) r area cells work work' a
  unfolding begun_with begun causes_with early_causes
  cleaned-promise bytes e =
      record {
        same_length =
            ap (λ (b : Begun). length b.work) e ∙ begun-long L r victims lengths work code-bytes (first_cause (causes_with L r lengths code-bytes victims));
        early = early;
        exact = exact;
        says = start-settled L freely (clean victims) r area cells work work' a early exact;
      }
    where
      early :
          (c : Refusal) → first_cause (early_causes L r lengths freely (clean victims)) ≡ some c →
          record { start = a; work = work' } ≡ begun L r [] (clean victims) work (some c)
      early c bad = e ∙ ap (begun_with (new_layout r) r victims work code-bytes) (first_some (when (record_bad L r lengths) BadRecord ∷ []) _ c bad)

      exact :
          Genuine L area r cells → record { start = a; work = work' } ≡
          begun L r (log_now area r) (clean victims) work (first_cause (start_causes L r (log_now area r) lengths freely (clean victims)))
      exact g = e ∙ same_bytes bytes g ∙ cleaned-same L r (log_now area r) victims work lengths
