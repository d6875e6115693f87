-- 02, R-9: of an area that recovery accepts a read by scan says what an indexed read says.
use Rattle.std.specs.Prelude.{ℕ, ◌≡◌, refl, false, not, List, ◌++◌, length}
use Rattle.std.proofs.Common.{sym, ◌∙◌, ap₂, arith}
use Rattle.std.proofs.Math.Path.{ap}
use Rattle.std.proofs.Math.Option.{Option, none, some}
use Rattle.word.specs.Number.{Bytes}
use Rattle.segment.specs.Layout.{Layout}
use Rattle.segment.specs.declared.Key.{Key}
use Rattle.record.specs.Range.{fits_lent}
use Rattle.record.specs.declared.Refusal.{Refusal}
use Rattle.record.specs.declared.Refusal.TheVariants.{Geometry, BadRecord, TooManyKeys}
use Rattle.record.specs.Answered.{Reading, ReadAnswer}
use Rattle.record.specs.declared.Record.{Record}
use Rattle.record.specs.declared.Tables.{Tables}
use Rattle.model.specs.Log.{View, Head, Placed, views_of, head_of, present}
use Rattle.model.specs.Causes.{Cause, when, first_cause}
use Rattle.model.specs.Recovery.{geometry_bad, head_else, log_under, record_under, image_causes, key_causes, lent_causes, area_causes, recovered}
use Rattle.model.specs.Index.{IndexRule}
use Rattle.model.specs.Operations.{log_now}
use Rattle.model.specs.Refused.{record_bad, read_causes}
use Rattle.model.specs.Promises.{Genuine, read_lengths, read_answer, ReadPromise, Part, value_answer, ValuePromise}
use Rattle.model.specs.Scanned.{image_log, sought_causes, scan_causes, ScanPromise, ScanValue}
use Rattle.laws.specs.CauseLaws.{cause-skip, no-cause, causes-none, none_left, first_some, first-none, never_met}
use Rattle.laws.specs.RecoverLaws.{Allowed, Sound, lent-clear, sound-clear, sound-head, sound-recovered, recovered-case, recovered-fits}

-- ---- what is left where the image passes

module _ (L : Layout) (n s : ℕ) (area : List ℕ) (t : Tables) (k : Key) where
  abbrev image : List Cause
  image = image_causes L (views_of area s) n (head_of (views_of area s) n)

  pub scan-passed :
      geometry_bad n s (length area) ≡ false → first_cause image ≡ none →
      first_cause (scan_causes L n s area t k) ≡ first_cause (sought_causes (image_log n s area) t k)
  scan-passed g e =
      cause-skip (when (geometry_bad n s (length area)) Geometry) (image ++ sought_causes (image_log n s area) t k) g ∙
      first-none image (sought_causes (image_log n s area) t k) e

  -- An image that recovery refuses for its number of keys alone is read all the same.
  pub scan-any-keys :
      (m : ℕ) → first_cause (area_causes L n s m area) ≡ some TooManyKeys →
      first_cause (scan_causes L n s area t k) ≡ first_cause (sought_causes (image_log n s area) t k)
  scan-any-keys m e = go (first_cause before) refl
    where
      before : List Cause
      before = lent_causes n s m (length area) ++ image

      go : (c : Option Refusal) → first_cause before ≡ c → first_cause (scan_causes L n s area t k) ≡ first_cause (sought_causes (image_log n s area) t k)
      go none p =
          let clear = no-cause before p in
          scan-passed clear.0 (causes-none image clear.1.1)
      go (some c) p =
          let met : ◌≡◌ {A = Option Refusal} (some c) (some TooManyKeys) =
          sym (first_some before (key_causes (views_of area s) n m (head_of (views_of area s) n)) c p) ∙ e in
          let same : c ≡ TooManyKeys = cc in
          let other = never_met 20 before (refl, (refl, (refl, (refl, (refl, (refl, (refl, (refl, (refl, tt))))))))) c p in
          let z : ◌≡◌ {A = ℕ} 0 1 = cc in absurd (omega arith)

-- ---- an area that recovery accepts, with any index of as many cells that keeps its rule

-- The two reads answer the same, and give the same part.
pub record ReadsAlike (L : Layout) (n s : ℕ) (area : List ℕ) (r : Record) (cells : List ℕ) (t : Tables) (k : Key) : Type 0 where
  pub answer : (a : Reading) → ReadPromise L r area cells t k a → (b : ReadAnswer) → ScanPromise L n s area t k b → b ≡ a.answer
  pub value : (p : Part) → ValuePromise L r area cells t k p → (q : Part) → ScanValue L n s area t k q → q ≡ p

module _ (L : Layout) (n s m : ℕ) (area : List ℕ) where
  abbrev v : ℕ → View
  v = views_of area s

  module _ (h : Head) (lent : Allowed n s m (length area)) (sound : Sound L v n m h) where
    abbrev own : Record
    own = record_under L v n s m h

    own-log : image_log n s area ≡ log_now area own
    unfolding head_else
    own-log = ap (λ (o : Option Head). log_under v n (head_else o)) (sound-head L v n m h sound)

    own-image : first_cause (image_causes L v n (head_of v n)) ≡ none
    own-image =
        ap (λ (o : Option Head). first_cause (image_causes L v n o)) (sound-head L v n m h sound) ∙
        none_left (image_causes L v n (some h)) (key_causes v n m (some h)) (causes-none _ (sound-clear L v n m h sound))

    own_first :
        Bytes area → (t : Tables) (k : Key) (cells : List ℕ) → length cells ≡ m →
        first_cause (scan_causes L n s area t k) ≡ first_cause (read_causes L own (log_now area own) (read_lengths area cells) t k)
    own_first bytes t k cells long =
        scan-passed L n s area t k (lent-clear n s m (length area) lent).0 own-image ∙
        ap (λ (log : List Placed). first_cause (sought_causes log t k)) own-log ∙
        sym
        (cause-skip (when (record_bad L own (read_lengths area cells)) BadRecord) (sought_causes (log_now area own) t k)
        (ap not
        (ap (λ (c : ℕ). fits_lent L own (length area) c) long ∙ recovered-fits L n s m area own (sound-recovered L n s m area h lent sound) bytes)))

    own-genuine : (cells : List ℕ) → IndexRule s (log_now area own) cells → Genuine L area own cells
    own-genuine cells rule = record { recovers = sound-recovered L n s m area h lent sound; rule = rule }

    own-alike : Bytes area → (cells : List ℕ) → length cells ≡ m → IndexRule s (log_now area own) cells → (t : Tables) (k : Key) → ReadsAlike L n s area own cells t k
    own-alike bytes cells long rule t k =
        record {
          answer =
              λ a p b q.
              q.answers ∙ ap₂ (λ (c : Option Refusal) (log : List Placed). read_answer c (present log k)) (own_first bytes t k cells long) own-log ∙
              sym (p.exact (own-genuine cells rule));
          value =
              λ p promised q given.
              given.exact ∙ ap₂ (λ (c : Option Refusal) (log : List Placed). value_answer s c (present log k)) (own_first bytes t k cells long) own-log ∙
              sym (promised.exact (own-genuine cells rule));
        }

  -- the log that a scan reads is the recovered record's
  pub scan-log : (r : Record) → recovered L n s m area ≡ some r → image_log n s area ≡ log_now area r
  scan-log = recovered-case L n s m area (λ (r : Record). image_log n s area ≡ log_now area r) own-log

  -- and its first cause that of an indexed read with as many cells
  pub scan-first :
      (r : Record) → recovered L n s m area ≡ some r → Bytes area → (t : Tables) (k : Key) (cells : List ℕ) → length cells ≡ m →
      first_cause (scan_causes L n s area t k) ≡ first_cause (read_causes L r (log_now area r) (read_lengths area cells) t k)
  scan-first =
      recovered-case L n s m area
      (λ (r : Record).
      Bytes area → (t : Tables) (k : Key) (cells : List ℕ) → length cells ≡ m →
      first_cause (scan_causes L n s area t k) ≡ first_cause (read_causes L r (log_now area r) (read_lengths area cells) t k))
      own_first

  -- For every area of bytes that recovery accepts, and every index of as many cells that keeps its rule, the two reads are one.
  pub scan-reads :
      (r : Record) → recovered L n s m area ≡ some r → Bytes area → (cells : List ℕ) → length cells ≡ m → IndexRule s (log_now area r) cells →
      (t : Tables) (k : Key) → ReadsAlike L n s area r cells t k
  scan-reads =
      recovered-case L n s m area
      (λ (r : Record).
      Bytes area → (cells : List ℕ) → length cells ≡ m → IndexRule s (log_now area r) cells → (t : Tables) (k : Key) → ReadsAlike L n s area r cells t k)
      own-alike
