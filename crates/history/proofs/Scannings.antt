-- Reads by scan answer what the book holds at any moment (02, R-9), a conversion finds a good image at any moment (02, R-12), and they
-- keep the invariant.
use Prim.Native.Nat.{ℕ, ◌<◌, max}
use native.Mathlib.Nat.{max-zero}
use native.Mathlib.Omega.{arith}
use mathlib.Core.Path.{◌≡◌, refl, sym, ap, ap₂, ◌∙◌, subst⁻¹}
use mathlib.Core.Bool.{Bool, true, false}
use mathlib.Core.List.{List, [], ◌∷◌, ◌++◌}
use mathlib.Core.Option.{Option, none, some}
use lib.ListN.{length, replicate, length-replicate}
use Rattle.segment.specs.Choice.{pick, both, either, is_none}
use Rattle.segment.specs.Layout.{Layout}
use Rattle.segment.specs.declared.Key.{Key}
use Rattle.record.specs.Answers.{Said, taken, said_by, read_said, convert_said}
use Rattle.record.specs.Range.{fits_lent}
use Rattle.record.specs.Answered.{ConvertAnswer, ReadAnswer}
use Rattle.record.specs.declared.Record.{Record}
use Rattle.record.specs.declared.Refusal.{Refusal}
use Rattle.record.specs.declared.Refusal.TheVariants.{Geometry, NoDigest, DamagedLog, SharedVersion, MixedEditions, SlotTooLong, VersionTooWide}
use Rattle.record.specs.declared.Tables.{Tables}
use Rattle.model.specs.Log.{View, Head, Placed, views_of, head_of, present, version_shared}
use Rattle.model.specs.Causes.{Cause, when, first_cause}
use Rattle.model.specs.Recovery.{recovered, record_from, geometry_bad, image_layout, other_edition, log_damaged, log_slots, log_under, digest_causes, image_causes_by, head_else}
use Rattle.model.specs.Conversion.{slot_too_long, slot_too_wide, target_layout, image_slots, fit_causes, convert_causes, ConvertPromise}
use Rattle.model.specs.Operations.{log_now}
use Rattle.model.specs.Refused.{Lengths, read_causes}
use Rattle.model.specs.Promises.{read_lengths, read_answer, Part, part_of, value_answer}
use Rattle.model.specs.Scanned.{image_log, scan_causes, ScanPromise, ScanValue}
use Rattle.laws.specs.CauseLaws.{causes-none, first-none}
use Rattle.laws.specs.Members.{clash}
use Rattle.laws.specs.LogLaws.{one-edition}
use Rattle.laws.specs.Operated.{OperationLaws}
use Rattle.laws.specs.RecoverLaws.{recovered-facts, recovered-image, lent-clear, sound-clear}
use Rattle.laws.specs.ScanLaws.{scan-log, scan-first}
use Rattle.history.specs.Book.{Question, scans, scans_value, converts, asks, Answer, saying, giving, called, accepted, Book, feed, feed_call, version_told}
use Rattle.history.specs.Editions.{Editions, only-format}
use Rattle.history.specs.Runs.{World, Scanned, scan, scan_value, convert}
use Rattle.history.specs.Demand3.{convert_may_answer, QuestionAgrees, EventAgrees}
use Rattle.history.proofs.Invariant.{Inv, base_cells, placed-among, area-promise}
use Rattle.history.proofs.Readings.{pick_same, told_below, read-said, value-given}

module _ (E : Editions) (L : Layout) (laws : OperationLaws L) (n s : ℕ) (w : World) (b : Book) (t : ℕ) (inv : Inv E L n s w b t) (k : Key) (v : Tables) where
  abbrev m : ℕ
  m = base_cells w.cells

  -- the record that a recovery would give, and an index as long as it says
  abbrev rec : Record
  rec = record_from L n s m w.area

  abbrev cells : List ℕ
  cells = replicate m 0

  abbrev log : List Placed
  log = log_now w.area rec

  abbrev cause : Option Refusal
  cause = first_cause (read_causes L rec log (read_lengths w.area cells) v k)

  fits : fits_lent L rec (length w.area) (length cells) ≡ true
  fits = ap (λ (c : ℕ). fits_lent L rec (length w.area) c) (length-replicate m 0) ∙ laws.own-lengths n s m w.area rec inv.bytes inv.base

  same-cause : first_cause (scan_causes L n s w.area v k) ≡ cause
  same-cause = scan-first L n s m w.area rec inv.base inv.bytes v k cells (length-replicate m 0)

  same_log : image_log n s w.area ≡ log
  same_log = scan-log L n s m w.area rec inv.base

  answered : (a : ReadAnswer) → ScanPromise L n s w.area v k a → a ≡ read_answer cause (present log k)
  answered a p = p.answers ∙ ap₂ (λ (c : Option Refusal) (l : List Placed). read_answer c (present l k)) same-cause same_log

  given : (p : Part) → ScanValue L n s w.area v k p → p ≡ value_answer s cause (present log k)
  given p q = q.exact ∙ ap₂ (λ (c : Option Refusal) (l : List Placed). value_answer s c (present l k)) same-cause same_log

  abbrev QuestionGoal : Question → Lengths → Answer → Type 0
  QuestionGoal q l a =
      Inv E L n s w (feed b (called (asks q) l a)) (max t (version_told (called (asks q) l a))) × EventAgrees E b (called (asks q) l a)

  pub scan-keeps :
      (l : Lengths) (a : ReadAnswer) → ScanPromise L n s w.area v k a → QuestionGoal (scans n s v k) l (saying (read_said a))
  unfolding feed feed_call version_told EventAgrees QuestionAgrees
  scan-keeps l a p = (
    rw (pick_same (accepted (saying (read_said a))) b)
        (record { bytes = inv.bytes; base = inv.base; agrees = inv.agrees; below = omega (arith, inv.below, less); held = inv.held }),
    let (K, its, says) =
        read-said E L laws n s w.area cells rec inv.bytes inv.base fits v k (b.keys k) (inv.agrees.map_same k) inv.agrees.own-among
        (placed-among E w.area rec inv.agrees.slots-among) in
        (K, its, ap (λ (x : ReadAnswer). saying (read_said x)) (answered a p) ∙ ap saying says),
  )
    where
      less : (read_said a).version < b.next
      less =
          subst⁻¹ (λ (x : ReadAnswer). (read_said x).version < b.next) (answered a p)
          (told_below E L laws n s b.next (omega (arith, inv.below)) cause (present log k)
          (λ x e. omega (arith, inv.agrees.next-same, laws.version_below w.area rec inv.base k x e)))

  pub scan-value-keeps :
      (l : Lengths) (p : Part) → ScanValue L n s w.area v k p → QuestionGoal (scans_value n s v k) l (giving (part_of w.area p))
  unfolding feed feed_call version_told pick EventAgrees QuestionAgrees
  scan-value-keeps l p q = (
    rw (max-zero t) inv,
    ap giving
        (ap (part_of w.area) (given p q) ∙ value-given E L laws n s w.area cells rec inv.bytes inv.base fits v k (b.keys k) (inv.agrees.map_same k)
        inv.agrees.own-among (placed-among E w.area rec inv.agrees.slots-among)),
  )

-- ---- a conversion

module _ (L : Layout) (n s m : ℕ) (area : List ℕ) (r : Record) (e : recovered L n s m area ≡ some r) where
  abbrev fit : List Cause
  fit = fit_causes (target_layout n s area) (views_of area s) (image_slots n s area) s n

  -- whether there are log slots of both editions
  abbrev pub mixed : Bool
  mixed = other_edition (image_layout n s area) (views_of area s) (image_slots n s area) n

  -- no cause of a bad image holds but that one
  image-first : (t : Bool) → first_cause (image_causes_by t (views_of area s) n (head_of (views_of area s) n) ++ fit) ≡ first_cause (when t MixedEditions ∷ fit)
  unfolding first_cause head_else is_none
  image-first t =
      let f = recovered-facts L n s m area r e in
      let c = sound-clear L (views_of area s) n m f.head f.sound in
      ap (λ (o : Option Head). first_cause (image_causes_by t (views_of area s) n o ++ fit)) f.head-is ∙
      first-none (before f.head) (when t MixedEditions ∷ (behind f.head ++ fit))
      (causes-none (before f.head) (c.0, (c.1.0, (c.1.1.0, (c.1.1.1.0, tt))))) ∙
      ap (pick t (some MixedEditions))
      (first-none (behind f.head) fit (causes-none (behind f.head) (c.1.1.1.1.1.0, (c.1.1.1.1.1.1.0, tt))))
    where
      before : Head → List Cause
      before h = when (is_none (some h)) NoDigest ∷ digest_causes (views_of area s) n h

      behind : Head → List Cause
      behind h = when (log_damaged (views_of area s) (log_slots h) n) DamagedLog ∷ when (version_shared (log_under (views_of area s) n h)) SharedVersion ∷ []

  -- so of an area that recovers the second buffer's length, 28, 29 and 30 are left
  pub convert-first :
      (target_length : ℕ) → first_cause (convert_causes n s area target_length) ≡
      first_cause
      (when (geometry_bad n s target_length) Geometry
      ∷ (when mixed MixedEditions ∷ fit_causes (target_layout n s area) (views_of area s) (image_slots n s area) s n))
  unfolding first_cause either
  convert-first target_length =
      ap (λ (t : Bool). pick (either t bad) (some Geometry) (first_cause (image_causes_by mixed (views_of area s) n (head_of (views_of area s) n) ++ fit)))
      (lent-clear n s m (length area) (recovered-facts L n s m area r e).lent).0 ∙
      ap (pick bad (some Geometry)) (image-first mixed)
    where
      bad : Bool
      bad = geometry_bad n s target_length

-- what it says by these, and that it tells no version
fit-said :
    (switched a m b c : Bool) → (m ≡ true → switched ≡ true) →
    let said = said_by (first_cause (when a Geometry ∷ when m MixedEditions ∷ when b SlotTooLong ∷ when c VersionTooWide ∷ [])) taken in
    (convert_may_answer switched said.refused ≡ true) × (said.version ≡ 0)
unfolding first_cause pick said_by either both
fit-said switched true m b c h = (refl, refl)
fit-said switched false true b c h = (ap (λ (t : Bool). both t true) (h refl), refl)
fit-said switched false false true c h = (refl, refl)
fit-said switched false false false true h = (refl, refl)
fit-said switched false false false false h = (refl, refl)

convert-keeps :
    (E : Editions) (L : Layout) (n s : ℕ) (w : World) (b : Book) (t : ℕ) → Inv E L n s w b t → (l : Lengths) (target target' : List ℕ) (a : ConvertAnswer) →
    ConvertPromise n s w.area target target' a →
    Inv E L n s w (feed b (called (asks (converts n s)) l (saying (convert_said a)))) (max t (version_told (called (asks (converts n s)) l (saying (convert_said a)))))
    × EventAgrees E b (called (asks (converts n s)) l (saying (convert_said a)))
unfolding feed feed_call version_told EventAgrees QuestionAgrees head_else
convert-keeps E L n s w b t inv l target target' a p = (
  rw (pick_same (accepted (saying (convert_said a))) b)
      (record { bytes = inv.bytes; base = inv.base; agrees = inv.agrees; below = omega (arith, inv.below, none_told); held = inv.held }),
  ap (λ (x : Said). convert_may_answer E.switched x.refused) said ∙ by-fit.0,
)
  where
    m : ℕ
    m = base_cells w.cells

    rec : Record
    rec = record_from L n s m w.area

    bad : Bool
    bad = geometry_bad n s (length target)

    K : Layout
    K = target_layout n s w.area

    v : ℕ → View
    v = views_of w.area s

    in-log : ℕ → Bool
    in-log = image_slots n s w.area

    both-editions : Bool
    both-editions = mixed L n s m w.area rec inv.base

    -- without a switch all slots are of the format's edition
    once-switched : both-editions ≡ true → E.switched ≡ true
    once-switched q = go E.switched refl
      where
        own : image_layout n s w.area ≡ L
        own = recovered-image L n s m w.area rec inv.base

        go : (x : Bool) → E.switched ≡ x → E.switched ≡ true
        go true e = e
        go false e =
            absurd
            (clash both-editions q
            (one-edition v in-log n (image_layout n s w.area)
            (λ i l picked.
            only-format E (v i).layout e (inv.agrees.slots-among i l picked) ∙ sym (own ∙ only-format E L e inv.agrees.own-among))))

    cause : Option Refusal
    cause = first_cause (when bad Geometry ∷ (when both-editions MixedEditions ∷ fit_causes K v in-log s n))

    said : convert_said a ≡ said_by cause taken
    said = p.says ∙ ap (λ (c : Option Refusal). said_by c taken) (convert-first L n s m w.area rec inv.base (length target))

    by-fit : (convert_may_answer E.switched (said_by cause taken).refused ≡ true) × ((said_by cause taken).version ≡ 0)
    by-fit = fit-said E.switched bad both-editions (slot_too_long K v in-log s n) (slot_too_wide K v in-log n) once-switched

    none_told : (convert_said a).version ≡ 0
    none_told = ap (λ (x : Said). x.version) said ∙ by-fit.1

-- A read by scan or a conversion keeps the invariant, and answers what the book says.
pub look-keeps :
    (E : Editions) (L : Layout) (laws : OperationLaws L) (n s : ℕ) {w : World} {q : Question} {l : Lengths} {a : Answer} (b : Book) (t : ℕ) →
    Scanned n s w.area q l a → Inv E L n s w b t →
    Inv E L n s w (feed b (called (asks q) l a)) (max t (version_told (called (asks q) l a))) × EventAgrees E b (called (asks q) l a)
look-keeps E L laws n s {w} b t (scan {v} {k} {a} ty p) inv =
    scan-keeps E L laws n s w b t inv k v _ a (area-promise E L n s w b t inv (λ (K : Layout). ScanPromise K n s w.area v k a) p)
look-keeps E L laws n s {w} b t (scan_value {v} {k} {p} ty q) inv =
    scan-value-keeps E L laws n s w b t inv k v _ p (area-promise E L n s w b t inv (λ (K : Layout). ScanValue K n s w.area v k p) q)
look-keeps E L laws n s {w} b t (convert {target} {target'} {a} p) inv = convert-keeps E L n s w b t inv _ target target' a p
