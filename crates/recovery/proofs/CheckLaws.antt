-- Laws of: The tests of recovery at each return of the code.
use Rattle.std.specs.Prelude.{ℕ, ◌+◌, ◌*◌, ◌≤◌, ◌<◌, max, ◌≡◌, Bool, true, length, Ok, Err}
use Rattle.std.proofs.Math.Path.{refl, ap}
use Rattle.std.proofs.Common.{sym, ◌∙◌, arith}
use Rattle.std.proofs.Math.Bool.{false, not}
use mathlib.Core.List.{List, [], ◌∷◌, ◌++◌}
use Rattle.std.proofs.Math.Option.{Option, none, some}
use Rattle.std.proofs.lemmas.Bool.{not-false}
use Rattle.segment.specs.Choice.{either, is_none}
use Rattle.segment.specs.Layout.{Layout}
use Rattle.segment.specs.declared.Version.{Version}
use Rattle.record.specs.Range.{cells_good, map_good}
use Rattle.record.specs.RangeLaws.{map-in}
use Rattle.record.specs.declared.Refusal.{Refusal}
use Rattle.record.specs.declared.Refusal.TheVariants.{Geometry, Cells, BadOrder, NoDigest, BadDigest, BadMap, MapNoDigest, MixedEditions, DamagedLog, SharedVersion}
use Rattle.model.specs.Log.{View, Head, Scan, damaged, scanned, scan, end_of, segment_of, head_of, highest, version_shared}
use Rattle.model.specs.Causes.{Cause, when, first_cause}
use Rattle.model.specs.Recovery.{geometry_bad, order_bad, head_else, map_bad, names_no_digest, digest_bad, log_damaged, log_slots, log_under, digest_causes}
use Rattle.laws.specs.CauseLaws.{NoCause, no-cause, cause-first, cause-skip, cause-none, first_some, first-none}
use Rattle.laws.specs.Scans.{scan-scans, scans-high}
use Rattle.laws.specs.Stores.{length-segment}
use Rattle.recovery.specs.Recovering.{lent_first, checked_as, editions_bad, image_checks, image_for, image_of, image_under, ImageFound}
use Rattle.record.specs.Answered.{Check}

-- ---- what is lent

module _ (n s m area_length : ℕ) (order : List ℕ) where
  abbrev geometry : Cause
  geometry = when (geometry_bad n s area_length) Geometry

  abbrev cells : Cause
  cells = when (not (cells_good m)) Cells

  abbrev slots : Cause
  slots = when (order_bad n order) BadOrder

  pub lent-geometry : geometry_bad n s area_length ≡ true → Err Geometry ≡ checked_as (lent_first n s m area_length order)
  unfolding checked_as
  lent-geometry e = ap checked_as (sym (cause-first geometry (cells ∷ slots ∷ []) e))

  module _ (g : geometry_bad n s area_length ≡ false) where
    pub lent-cells : cells_good m ≡ false → Err Cells ≡ checked_as (lent_first n s m area_length order)
    unfolding checked_as
    lent-cells e = ap checked_as (sym (cause-skip geometry (cells ∷ slots ∷ []) g ∙ cause-first cells (slots ∷ []) (ap not e)))

    module _ (c : cells_good m ≡ true) where
      passes : lent_first n s m area_length order ≡ first_cause (slots ∷ [])
      passes = cause-skip geometry (cells ∷ slots ∷ []) g ∙ cause-skip cells (slots ∷ []) (ap not c)

      pub lent-order : order_bad n order ≡ true → Err BadOrder ≡ checked_as (lent_first n s m area_length order)
      unfolding checked_as
      lent-order e = ap checked_as (sym (passes ∙ cause-first slots [] e))

      pub lent-passed : order_bad n order ≡ false → (Ok tt) ≡ checked_as (lent_first n s m area_length order)
      unfolding checked_as first_cause
      lent-passed e = ap checked_as (sym (passes ∙ cause-none slots [] e refl))

pub check-refused : (o : Option Refusal) (c : Refusal) → checked_as o ≡ Err c → o ≡ some c
unfolding checked_as
check-refused none c e = let z : ◌≡◌ {A = ℕ} 0 1 = cc in absurd (omega arith)
check-refused (some d) c e = cc

pub check-passed : (o : Option Refusal) → checked_as o ≡ (Ok tt) → o ≡ none
unfolding checked_as
check-passed none e = refl
check-passed (some d) e = let z : ◌≡◌ {A = ℕ} 0 1 = cc in absurd (omega arith)

-- ---- the head's digest

-- A chain of tests any of which is enough: t is what the code finds for the test x, and b the rest of the chain.
module _ {t x : Bool} (b : Bool) (e : t ≡ x) where
  pub holds : t ≡ true → true ≡ either x b
  unfolding either
  holds f = rw (← e, f)

  pub passed : {r : Bool} → t ≡ false → r ≡ b → r ≡ either x b
  unfolding either
  passed f g = rw (← e, f) g

-- 17, 24 and 25 at each return: t, u and w are what the code finds for the three tests.
module _ (v : ℕ → View) (n : ℕ) (h : Head) {t : Bool} (e : t ≡ digest_bad v n h) where
  abbrev counters : Cause
  counters = when (digest_bad v n h) BadDigest

  abbrev within : Cause
  within = when (map_bad n h) BadMap

  abbrev digests : Cause
  digests = when (names_no_digest v (log_slots h) n) MapNoDigest

  pub digest-counters : t ≡ true → Err BadDigest ≡ checked_as (first_cause (digest_causes v n h))
  unfolding checked_as
  digest-counters f = ap checked_as (sym (cause-first counters (within ∷ digests ∷ []) (sym e ∙ f)))

  module _ (f : t ≡ false) {u : Bool} (g : u ≡ map_good n h.slot h.digest.map) where
    pub digest-map : not u ≡ true → Err BadMap ≡ checked_as (first_cause (digest_causes v n h))
    unfolding checked_as
    digest-map j =
        ap checked_as
        (sym (cause-skip counters (within ∷ digests ∷ []) (sym e ∙ f) ∙ cause-first within (digests ∷ []) (ap not (sym g) ∙ j)))

    module _ (j : not u ≡ false) {w : Bool} (k : w ≡ names_no_digest v (log_slots h) n) where
      third : first_cause (digest_causes v n h) ≡ first_cause (digests ∷ [])
      third = cause-skip counters (within ∷ digests ∷ []) (sym e ∙ f) ∙ cause-skip within (digests ∷ []) (ap not (sym g) ∙ j)

      pub digest-named : w ≡ true → Err MapNoDigest ≡ checked_as (first_cause (digest_causes v n h))
      unfolding checked_as
      digest-named l = ap checked_as (sym (third ∙ cause-first digests [] (sym k ∙ l)))

      pub digest-passed : w ≡ false → (Ok tt) ≡ checked_as (first_cause (digest_causes v n h))
      unfolding checked_as first_cause
      digest-passed l = ap checked_as (sym (third ∙ cause-none digests [] (sym k ∙ l) refl))

-- a good digest's map names its slot, which is so one of the n
pub head-below : (v : ℕ → View) (n : ℕ) (h : Head) → first_cause (digest_causes v n h) ≡ none → h.slot < n
head-below v n h e =
    let clear : NoCause (digest_causes v n h) = no-cause (digest_causes v n h) e in
    (map-in n h.slot h.digest.map (not-false _ clear.1.0)).head_in

-- ---- the image, where the whole log is to be of one edition or not

module _ (single : Bool) (v : ℕ → View) (n : ℕ) where
  pub head-none : head_of v n ≡ none → Err NoDigest ≡ image_of single v n
  unfolding image_for is_none
  head-none e =
      ap (λ (o : Option Refusal). image_for v n (head_else (head_of v n)) o)
      (sym (cause-first (when (is_none (head_of v n)) NoDigest) _ (ap is_none e)))

  pub head-some : (h : Head) → head_of v n ≡ some h → image_under single v n h ≡ image_of single v n
  unfolding head_else
  head-some h e = ap (λ (o : Option Head). image_for v n (head_else o) (first_cause (image_checks single (v (head_else o).slot).layout v n o))) (sym e)

  module _ (h : Head) where
    -- the edition of the head's slot, which is the store's
    abbrev its : Layout
    its = (v h.slot).layout

    abbrev mixed : Cause
    mixed = when (editions_bad single its v (log_slots h) n) MixedEditions

    abbrev damage : Cause
    damage = when (log_damaged v (log_slots h) n) DamagedLog

    abbrev shared : Cause
    shared = when (version_shared (log_under v n h)) SharedVersion

    has-head : first_cause (image_checks single its v n (some h)) ≡ first_cause (digest_causes v n h ++ (mixed ∷ damage ∷ shared ∷ []))
    unfolding is_none head_else
    has-head = cause-skip (when false NoDigest) (digest_causes v n h ++ (mixed ∷ damage ∷ shared ∷ [])) refl

    -- the digest's own causes come first
    pub head-digest : (c : Refusal) → first_cause (digest_causes v n h) ≡ some c → Err c ≡ image_under single v n h
    unfolding image_for
    head-digest c e = ap (image_for v n h) (sym (has-head ∙ first_some (digest_causes v n h) (mixed ∷ damage ∷ shared ∷ []) c e))

    -- L is what the code finds for the head's edition
    module _ (d : first_cause (digest_causes v n h) ≡ none) (L : Layout) (of : L ≡ its) where
      behind : first_cause (image_checks single its v n (some h)) ≡ first_cause (mixed ∷ damage ∷ shared ∷ [])
      behind = has-head ∙ first-none (digest_causes v n h) (mixed ∷ damage ∷ shared ∷ []) d

      tested : editions_bad single its v (log_slots h) n ≡ editions_bad single L v (log_slots h) n
      tested = ap (λ (K : Layout). editions_bad single K v (log_slots h) n) (sym of)

      pub head-mixed : editions_bad single L v (log_slots h) n ≡ true → Err MixedEditions ≡ image_under single v n h
      unfolding image_for
      head-mixed e = ap (image_for v n h) (sym (behind ∙ cause-first mixed (damage ∷ shared ∷ []) (tested ∙ e)))

      module _ (o : editions_bad single L v (log_slots h) n ≡ false) where
        on-damage : first_cause (image_checks single its v n (some h)) ≡ first_cause (damage ∷ shared ∷ [])
        on-damage = behind ∙ cause-skip mixed (damage ∷ shared ∷ []) (tested ∙ o)

        pub head-damaged : log_damaged v (log_slots h) n ≡ true → Err DamagedLog ≡ image_under single v n h
        unfolding image_for
        head-damaged e = ap (image_for v n h) (sym (on-damage ∙ cause-first damage (shared ∷ []) e))

        module _ (u : log_damaged v (log_slots h) n ≡ false) where
          last : first_cause (image_checks single its v n (some h)) ≡ first_cause (shared ∷ [])
          last = on-damage ∙ cause-skip damage (shared ∷ []) u

          pub head-shared : version_shared (log_under v n h) ≡ true → Err SharedVersion ≡ image_under single v n h
          unfolding image_for
          head-shared e = ap (image_for v n h) (sym (last ∙ cause-first shared [] e))

          pub head-sound : (top : Version) → top ≡ record { 0 = highest (log_under v n h) } → version_shared (log_under v n h) ≡ false
              → Ok (record { edition = L; slot = h.slot; digest = h.digest; highest = top }) ≡ image_under single v n h
          unfolding image_for first_cause
          head-sound top e f =
              (λ i. Ok (record { edition = (of i); slot = h.slot; digest = h.digest; highest = (e i) })) ∙ ap (image_for v n h) (sym (last ∙ cause-none shared [] f refl))

-- ---- the record

-- a segment's entries end in it
end-inside : (L : Layout) (s : List ℕ) → end_of (scan L s) ≤ length s
unfolding end_of
end-inside L s = go (scan L s) refl
  where
    go : (r : Scan) → scan L s ≡ r → end_of r ≤ length s
    go damaged e = omega arith
    go (scanned is k) e = scans-high (scan-scans L s e)

pub end_fits : (L : Layout) (area : List ℕ) (s slot : ℕ) → slot * s + s ≤ length area → end_of (scan L (segment_of area s slot)) ≤ s
end_fits L area s slot room =
    omega (arith, end-inside L (segment_of area s slot), length-segment area s slot room)

-- the greater of two versions
pub next-above : (a b : ℕ) → a < b → ◌≡◌ {A = Version} (record { 0 = b }) (record { 0 = max a b })
next-above a b h = let e : b ≡ max a b = omega arith in λ i. record { 0 = e i }

pub next-kept : (a : Version) (b : ℕ) → b ≤ a.0 → a ≡ record { 0 = max a.0 b }
next-kept a b h = let e : a.0 ≡ max a.0 b = omega arith in λ i. record { 0 = e i }
