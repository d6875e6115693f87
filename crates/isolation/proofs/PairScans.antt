-- Reads by scan in two worlds that differ in hidden values alone.
use Prim.Native.Nat.{ℕ}
use mathlib.Core.Path.{◌≡◌, refl, sym, ap, ◌∙◌}
use mathlib.Core.Bool.{Bool, true, false, not}
use mathlib.Core.List.{List}
use mathlib.Core.Option.{Option, none, some}
use lib.ListN.{length, replicate, length-replicate}
use borrow.Author.Tests.{not-false}
use Rattle.word.specs.Number.{Bytes}
use Rattle.segment.specs.Layout.{Layout}
use Rattle.segment.specs.declared.Key.{Key}
use Rattle.record.specs.Answers.{read_said}
use Rattle.record.specs.Range.{fits_lent}
use Rattle.record.specs.Reach.{holds_table}
use Rattle.record.specs.Answered.{ReadAnswer}
use Rattle.record.specs.declared.Refusal.{Refusal}
use Rattle.record.specs.declared.Refusal.TheVariants.{BadRecord}
use Rattle.record.specs.declared.Record.{Record}
use Rattle.record.specs.declared.Tables.{Tables}
use Rattle.model.specs.Log.{Placed, present}
use Rattle.model.specs.Causes.{when, first_cause}
use Rattle.model.specs.Recovery.{recovered, record_from}
use Rattle.model.specs.Operations.{log_now}
use Rattle.model.specs.Refused.{record_bad}
use Rattle.model.specs.Promises.{read_lengths, read_answer, Part, part_of, value_part, value_answer}
use Rattle.model.specs.Scanned.{image_log, sought_causes, scan_causes, ScanPromise, ScanValue}
use Rattle.laws.specs.CauseLaws.{cause-skip, no-cause}
use Rattle.laws.specs.Operated.{OperationLaws}
use Rattle.laws.specs.ScanLaws.{scan-log, scan-first}
use Rattle.isolation.proofs.HiddenBytes.{hidden_log}
use Rattle.isolation.proofs.Alike.{Alike, records-same, logs-same}
use Rattle.isolation.proofs.PairReads.{value_in, objects-same, told_same, absent-same}

-- ---- one world: of an area that recovers only 22 and 8 are left

module _ (L : Layout) (laws : OperationLaws L) (n s m : ℕ) (area : List ℕ) (ab : Bytes area)
    (base : recovered L n s m area ≡ some (record_from L n s m area)) (u : Tables) (k : Key)
  where
    abbrev rec : Record
    rec = record_from L n s m area

    abbrev cells : List ℕ
    cells = replicate m 0

    fits : fits_lent L rec (length area) (length cells) ≡ true
    fits = ap (λ (c : ℕ). fits_lent L rec (length area) c) (length-replicate m 0) ∙ laws.own-lengths n s m area rec ab base

    image-log : image_log n s area ≡ log_now area rec
    image-log = scan-log L n s m area rec base

    only-sought : first_cause (scan_causes L n s area u k) ≡ first_cause (sought_causes (image_log n s area) u k)
    only-sought =
        scan-first L n s m area rec base ab u k cells (length-replicate m 0) ∙
        cause-skip (when (record_bad L rec (read_lengths area cells)) BadRecord) (sought_causes (log_now area rec) u k) (ap not fits) ∙
        ap (λ (l : List Placed). first_cause (sought_causes l u k)) (sym image-log)

    -- an accepted read by scan has tested the range
    pub scan-inside : first_cause (scan_causes L n s area u k) ≡ none → holds_table u k.table ≡ true
    scan-inside e = not-false (holds_table u k.table) (no-cause (sought_causes (image_log n s area) u k) (sym only-sought ∙ e)).0

    -- what stands where the value is
    scanned-at : (o : Option Placed) → present (image_log n s area) k ≡ o → part_of area (value_part s o) ≡ value_in o
    unfolding value_part value_in
    scanned-at none e = refl
    scanned-at (some y) e = laws.value-part area rec ab base k y (ap (λ (l : List Placed). present l k) (sym image-log) ∙ e)

-- ---- two worlds

module _ (of : ℕ → Bool) (L : Layout) (laws : OperationLaws L) (n s m m' : ℕ) (area area' : List ℕ) (ab : Bytes area) (ab' : Bytes area')
    (base : recovered L n s m area ≡ some (record_from L n s m area)) (base' : recovered L n s m' area' ≡ some (record_from L n s m' area'))
    (alike : Alike of n s (record_from L n s 16 area).map area area') (u : Tables) (k : Key)
  where
    abbrev log : List Placed
    log = image_log n s area

    abbrev log' : List Placed
    log' = image_log n s area'

    logs : hidden_log of log ≡ hidden_log of log'
    logs =
        ap (hidden_log of) (image-log L laws n s m area ab base u k) ∙ logs-same of (record_from L n s m area) area area' alike ∙
        sym
        (ap (hidden_log of)
        (image-log L laws n s m' area' ab' base' u k ∙
        ap (log_now area') (sym (records-same of L n s area area' alike m m' (record_from L n s m area) base))))

    abbrev cause : Option Refusal
    cause = first_cause (scan_causes L n s area u k)

    causes-same : cause ≡ first_cause (scan_causes L n s area' u k)
    causes-same =
        only-sought L laws n s m area ab base u k ∙ rw (absent-same of log log' k logs) refl ∙ sym (only-sought L laws n s m' area' ab' base' u k)

    pub scan-both : (a a' : ReadAnswer) → ScanPromise L n s area u k a → ScanPromise L n s area' u k a' → read_said a ≡ read_said a'
    scan-both a a' p p' =
        ap read_said
        (p.answers ∙ told_same of cause log log' k logs ∙ ap (λ (c : Option Refusal). read_answer c (present log' k)) causes-same ∙
        sym p'.answers)

    -- The value is the same where its table is not hidden, and where none is given.
    pub scan-value-both :
        (p p' : Part) → (cause ≡ none → of k.table ≡ false) → ScanValue L n s area u k p → ScanValue L n s area' u k p' →
        part_of area p ≡ part_of area' p'
    unfolding value_answer
    scan-value-both p p' told q q' = ap (part_of area) q.exact ∙ go cause refl ∙ sym (ap (part_of area') exact')
      where
        exact' : p' ≡ value_answer s cause (present log' k)
        exact' = q'.exact ∙ ap (λ (c : Option Refusal). value_answer s c (present log' k)) (sym causes-same)

        go :
            (c : Option Refusal) → cause ≡ c →
            part_of area (value_answer s c (present log k)) ≡ part_of area' (value_answer s c (present log' k))
        go (some c) e = refl
        go none e =
            scanned-at L laws n s m area ab base u k (present log k) refl ∙ ap value_in (objects-same of log log' k logs (told e)) ∙
            sym (scanned-at L laws n s m' area' ab' base' u k (present log' k) refl)
