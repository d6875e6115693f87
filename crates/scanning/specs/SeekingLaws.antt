-- What is found of a key by a scan is what is promised.
use Rattle.std.specs.Prelude.{ℕ, ◌+◌, ◌*◌, ◌-◌, ◌≤◌, ◌<◌, Bool, true, List, [], ◌∷◌, ◌++◌, length, Ok, Err}
use Rattle.std.proofs.Common.{mul-le-mul, ◌∙◌}
use Rattle.std.proofs.Math.Path.{◌≡◌, refl, sym, ap, subst}
use Rattle.std.proofs.Math.Bool.{false, not}
use Rattle.std.proofs.Math.Option.{Option, none, some}
use native.Mathlib.Omega.{arith}
use Rattle.segment.specs.Area.{stands_at}
use Rattle.segment.proofs.AreaLaws.{entry_place}
use Rattle.segment.specs.Choice.{pick, is_none}
use Rattle.segment.specs.Layout.{Layout, layout_of_kind, entry_size}
use Rattle.segment.proofs.LayoutLaws.{version-positive}
use Rattle.segment.specs.Digest.{layout_in}
use Rattle.segment.specs.Entry.{bytes_in, entry, entry_at, key_of, answer, is_tombstone}
use Rattle.segment.proofs.EntryLaws.{found-fits, found-readable}
use Rattle.segment.specs.declared.Digest.{Digest}
use Rattle.segment.specs.declared.Key.{Key}
use Rattle.segment.specs.declared.Read.{Read}
use Rattle.segment.specs.declared.Version.{Version}
use Rattle.slot_map.specs.Bit.{named}
use Rattle.record.specs.AnswerLaws.{ok-same}
use Rattle.record.specs.Answers.{read_said}
use Rattle.record.specs.Reach.{holds_table}
use Rattle.record.specs.declared.Refusal.{Refusal}
use Rattle.record.specs.declared.Tables.{Tables}
use Rattle.model.specs.Log.{View, Head, Placed, place_of, placed_kind, placed_size, segment_of, views_of, head_of, log_of, latest, object_only, present}
use Rattle.model.specs.Causes.{Cause, when, first_cause}
use Rattle.model.specs.Recovery.{image_layout, geometry_bad, head_else, log_under, log_slots, image_causes}
use Rattle.model.specs.Refused.{outside_tables, key_absent}
use Rattle.model.specs.Promises.{read_answer, present_answer, value_part, value_answer}
use Rattle.model.specs.Scanned.{image_log, sought_causes, scan_causes, ScanPromise, ScanValue}
use Rattle.laws.specs.CauseLaws.{cause-first, cause-skip, first_some, no-cause}
use Rattle.laws.specs.SaidLaws.{read-says}
use Rattle.laws.specs.ScanLaws.{scan-passed}
use Rattle.laws.specs.Members.{clash, In}
use Rattle.laws.specs.Latest.{latest-some}
use Rattle.laws.specs.Forgotten.{present-live}
use Rattle.laws.specs.LogLaws.{AllScanned, undamaged-scans, log-in}
use Rattle.drive_log.specs.Shape.{Shape}
use Rattle.index.proofs.BuildLaws.{log-reads}
use Rattle.recovery.specs.FormatLaws.{geometry-fits}
use Rattle.recovery.specs.LookupLaws.{ObjectInside}
use Rattle.recovery.proofs.LookupLaws.{stands_at_lem, placed-layout}
use Rattle.recovery.specs.declared.Object.{Object}
use Rattle.recovery.specs.Recovering.{image_for, image_of}
use Rattle.recovery.specs.RecoverPromises.{SoundImage}
use Rattle.recovery.proofs.RecoverPromises.{sound-image, image-scans}
use Rattle.scanning.specs.Seeing.{seen_of}
use Rattle.scanning.specs.Seeking.{sought_read, sought_object, sought_as, sought_in, sought, answer_of, part_for, Sought}
use Rattle.scanning.specs.SeeingLaws.{seen_below, seen-newest}
use Rattle.scanning.specs.declared.Seen.{Seen}

-- an area of the greatest N and S
area-short : {n s : ℕ} {area : List ℕ} → Shape n s area → length area ≤ 65536
area-short {n} {s} shape = let most : n * s ≤ 32 * 2048 = mul-le-mul shape.slots-most shape.size-most in omega (arith, shape.whole)

-- ---- in the undamaged log of some slots

-- where the caller may reach the key, the object or 8
object-or-8 : (S : ℕ) (o : Option Placed) → sought_object S o ≡ sought_as S (first_cause (when (is_none o) Refusal.Absent ∷ [])) o
unfolding sought_as sought_object first_cause is_none pick
object-or-8 S none = refl
object-or-8 S (some x) = refl

-- the entry that stands at a place, as the code takes it
entry-sought : (S : ℕ) (x : Placed) → sought_read (place_of S x) (answer x.layout (entry x.entry)) ≡ sought_object S (object_only (some x))
unfolding sought_read answer sought_object object_only pick
entry-sought S x = go (is_tombstone x.entry)
  where
    go : (t : Bool)
        → sought_read (place_of S x)
        (pick t (Read.Tombstone (key_of x.entry) (record { 0 = x.entry.version }) (placed_size x))
        (Read.Object (key_of x.entry) (record { 0 = x.entry.version }) (placed_kind x) (placed_size x)))
        ≡ sought_object S (pick t none (some x))
    go true = refl
    go false = refl

module _ (area : List ℕ) (S : ℕ) (p : ℕ → Bool) (n : ℕ) (scans : AllScanned (views_of area S) p n) (t : Tables) (k : Key) where
  abbrev log : List Placed
  log = log_of (views_of area S) p n

  abbrev gone : Cause
  gone = when (key_absent log k) Refusal.Absent

  pub seek-outside : holds_table t k.table ≡ false → Err Refusal.OutsideTables ≡ sought_in S log t k
  unfolding sought_as
  seek-outside e =
      ap (λ (c : Option Refusal). sought_as S c (present log k))
      (sym (cause-first (when (outside_tables t k) Refusal.OutsideTables) (gone ∷ []) (ap not e)))

  versions-above : (x : Placed) → In x log → 0 < x.entry.version
  versions-above x m =
      version-positive x.layout x.entry.version
      (found-readable x.layout (segment_of area S x.slot) x.offset x.entry (log-reads area S p n scans x m)).good

  module _ (held : holds_table t k.table ≡ true) where
    seek-object : sought_object S (present log k) ≡ sought_in S log t k
    seek-object =
        object-or-8 S (present log k) ∙
        ap (λ (c : Option Refusal). sought_as S c (present log k))
        (sym (cause-skip (when (outside_tables t k) Refusal.OutsideTables) (gone ∷ []) (ap not held)))

    module _ (now : Seen) (is : now ≡ seen_below S k (views_of area S) p n) where
      newest-is : now ≡ seen_of S (latest log k)
      newest-is = is ∙ seen-newest S k log versions-above

      -- no version seen: no entry of the key
      pub seek-none : now.version.0 ≡ 0 → Err Refusal.Absent ≡ sought_in S log t k
      seek-none e = go (latest log k) refl ∙ seek-object
        where
          go : (o : Option Placed) → latest log k ≡ o → Err Refusal.Absent ≡ sought_object S (present log k)
          go none q = unfold present object_only sought_object in sym (ap (λ (o : Option Placed). sought_object S (object_only o)) q)
          go (some x) q =
              let same : now.version.0 ≡ x.entry.version =
              ap (λ (a : Seen). a.version.0) newest-is ∙ ap (λ (o : Option Placed). (seen_of S o).version.0) q ∙ (unfold seen_of in refl) in
              absurd (omega (arith, versions-above x (latest-some log k x q).member))

      -- one was seen, and the entry stands at its place
      pub seek_found :
          (now.version.0 ≡ 0 → ⊥) → (r : Sought) → r ≡ sought_read now.place (stands_at area now.place) → r ≡ sought_in S log t k
      seek_found some-seen r given = given ∙ go (latest log k) refl ∙ seek-object
        where
          go : (o : Option Placed) → latest log k ≡ o → sought_read now.place (stands_at area now.place) ≡ sought_object S (present log k)
          go none q =
              absurd
              (some-seen
              (ap (λ (a : Seen). a.version.0) newest-is ∙ ap (λ (o : Option Placed). (seen_of S o).version.0) q ∙ (unfold seen_of in refl)))
          go (some x) q =
              let place : now.place ≡ place_of S x =
              ap (λ (a : Seen). a.place) newest-is ∙ ap (λ (o : Option Placed). (seen_of S o).place) q ∙ (unfold seen_of in refl) in
              ap (λ (j : ℕ). sought_read j (stands_at area j)) place ∙
              ap (sought_read (place_of S x)) (stands_at_lem area S p n scans x (latest-some log k x q).member) ∙ entry-sought S x ∙
              (unfold present in ap (λ (o : Option Placed). sought_object S (object_only o)) (sym q))

  -- ---- where an entry of the log lies

  entry-inside : (x : Placed) → In x log → place_of S x + placed_size x ≤ length area
  entry-inside x m =
      found-fits x.layout area (place_of S x) x.entry (entry_place S area x.slot x.offset x.layout x.entry (log-reads area S p n scans x m))

-- ---- over an area

pub seek-shape : (n s : ℕ) (area : List ℕ) → geometry_bad n s (length area) ≡ false → Shape n s area
seek-shape n s area g =
    let f = geometry-fits n s (length area) g in
    record { slots-least = f.slots-low; slots-most = f.slots-high; size-least = f.size_low; size-most = f.size-high; whole = f.area-own }

-- by the edition that the head's slot tells
module _ (n s : ℕ) (area : List ℕ) (t : Tables) (k : Key) (g : geometry_bad n s (length area) ≡ false) where
  abbrev its : Layout
  its = image_layout n s area

  abbrev found : List Cause
  found = image_causes its (views_of area s) n (head_of (views_of area s) n)

  abbrev here : Option Placed
  here = present (image_log n s area) k

  pub seek-refused : (c : Refusal) → image_of false (views_of area s) n ≡ Err c → Err c ≡ sought its n s area t k
  unfolding sought_as image_for
  seek-refused c e = ap (λ (x : Option Refusal). sought_as s x here) (sym (go (first_cause found) refl e))
    where
      go : (o : Option Refusal) → first_cause found ≡ o → image_for (views_of area s) n (head_else (head_of (views_of area s) n)) o ≡ Err c
          → first_cause (scan_causes its n s area t k) ≡ some c
      go none p q = let z : ◌≡◌ {A = ℕ} 0 1 = cc in absurd (omega arith)
      go (some b) p q =
          let same : b ≡ c = cc in
          cause-skip (when (geometry_bad n s (length area)) Refusal.Geometry) (found ++ sought_causes (image_log n s area) t k) g ∙
          first_some found (sought_causes (image_log n s area) t k) c (p ∙ ap some same)

  module _ (L : Layout) (i : ℕ) (d : Digest) (top : Version) (sound : image_of false (views_of area s) n ≡ Ok (record { edition = L; slot = i; digest = d; highest = top })) where
    one : SoundImage false L (views_of area s) n i d top
    one = sound-image false L (views_of area s) n i d top sound

    pub seek-scans : AllScanned (views_of area s) (named d.map) n
    seek-scans = image-scans false L (views_of area s) n i d top one

    pub seek-sound : (r : Sought) → r ≡ sought_in s (log_of (views_of area s) (named d.map) n) t k → r ≡ sought its n s area t k
    seek-sound r given =
        given ∙ ap (λ (h : Head). sought_in s (log_under (views_of area s) n h) t k) (sym one.head) ∙
        ap (λ (c : Option Refusal). sought_as s c here) (sym (scan-passed L n s area t k g one.clear)) ∙
        ap (λ (K : Layout). sought K n s area t k) (sym one.edition)

module _ (L : Layout) (n s : ℕ) (area : List ℕ) (t : Tables) (k : Key) where
  abbrev v : ℕ → View
  v = views_of area s

  abbrev object : Option Placed
  object = present (image_log n s area) k

  abbrev cause : Option Refusal
  cause = first_cause (scan_causes L n s area t k)

  pub seek-geometry : geometry_bad n s (length area) ≡ true → Err Refusal.Geometry ≡ sought L n s area t k
  unfolding sought_as
  seek-geometry e = ap (λ (c : Option Refusal). sought_as s c object) (sym (cause-first (when (geometry_bad n s (length area)) Refusal.Geometry) _ e))

  -- ---- the promises

  -- where no cause holds there is an object
  object-there : cause ≡ none → is_none object ≡ false
  object-there e = (no-cause (scan_causes L n s area t k) e).1.1.1.1.1.1.1.1.1.0

  pub scan-promise : (x : Sought) → x ≡ sought L n s area t k → ScanPromise L n s area t k (answer_of x)
  scan-promise x e = record { answers = answered; says = ap read_said answered ∙ read-says L cause object }
    where
      go : (c : Option Refusal) (o : Option Placed) → (c ≡ none → is_none o ≡ false) → answer_of (sought_as s c o) ≡ read_answer c o
      go (some c) o there = unfold answer_of sought_as read_answer in refl
      go none none there = absurd (nothing (there refl))
        where
          nothing : is_none {A = Placed} none ≡ false → ⊥
          nothing q = clash (is_none {A = Placed} none) (unfold is_none in refl) q
      go none (some y) there = unfold answer_of sought_as sought_object read_answer present_answer in refl

      answered : answer_of x ≡ read_answer cause object
      answered = ap answer_of e ∙ go cause object object-there

  -- and the log is undamaged
  undamaged : cause ≡ none → AllScanned v (log_slots (head_else (head_of v n))) n
  undamaged q =
      undamaged-scans v (log_slots (head_else (head_of v n))) n (no-cause (scan_causes L n s area t k) q).1.1.1.1.1.1.0

  member : (y : Placed) → object ≡ some y → In y (image_log n s area)
  member y r = (latest-some (image_log n s area) k y (present-live (image_log n s area) k y r).latest-of).member

  -- so that the object's kind tells its edition
  object-kind : cause ≡ none → (y : Placed) → object ≡ some y → layout_of_kind (placed_kind y) ≡ y.layout
  object-kind q y r = placed-layout area s (log_slots (head_else (head_of v n))) n (undamaged q) y (member y r)

  pub scan-value : (x : Sought) → x ≡ sought L n s area t k → ScanValue L n s area t k (part_for x)
  scan-value x e = record { exact = ap part_for e ∙ go cause object object-kind }
    where
      long : (K : Layout) (m : ℕ) → entry_size K m - entry_size K 0 ≡ m
      long K m = omega arith

      go : (c : Option Refusal) (o : Option Placed) → (c ≡ none → (y : Placed) → o ≡ some y → layout_of_kind (placed_kind y) ≡ y.layout)
          → part_for (sought_as s c o) ≡ value_answer s c o
      go (some c) o own = unfold part_for sought_as value_answer in refl
      go none none own = unfold part_for sought_as sought_object value_answer value_part in refl
      go none (some y) own =
          unfold part_for sought_as sought_object value_answer value_part in
          ap (λ (K : Layout). record { place = place_of s y + entry_size K 0; bytes = placed_size y - entry_size K 0 }) (own refl y refl) ∙
          ap (λ (m : ℕ). record { place = place_of s y + entry_size y.layout 0; bytes = m }) (long y.layout (length (bytes_in y.entry.value)))

  -- where an object is found no cause holds
  found-clear : (p : ℕ) (w : Version) (kind m : ℕ) → Ok (record { place = p; version = w; kind = kind; length = m }) ≡ sought L n s area t k → cause ≡ none
  found-clear p w kind m e = go cause refl e
    where
      go : (c : Option Refusal) → cause ≡ c → Ok (record { place = p; version = w; kind = kind; length = m }) ≡ sought_as s c object → cause ≡ none
      go none q f = q
      go (some c) q f =
          let g : ◌≡◌ {A = Sought} (Ok (record { place = p; version = w; kind = kind; length = m })) (Err c) = unfold sought_as in f in
          let z : ◌≡◌ {A = ℕ} 0 1 = cc in
          absurd (omega arith)

  -- and the area is none of the geometry's refusals
  pub found-short : (p : ℕ) (w : Version) (kind m : ℕ) → Ok (record { place = p; version = w; kind = kind; length = m }) ≡ sought L n s area t k → length area ≤ 65536
  found-short p w kind m e =
      area-short {s = s} {area = area} (seek-shape n s area (no-cause (scan_causes L n s area t k) (found-clear p w kind m e)).0)

  -- an object that is found lies in the area
  pub sought-inside : (p : ℕ) (w : Version) (kind m : ℕ) → Ok (record { place = p; version = w; kind = kind; length = m }) ≡ sought L n s area t k → ObjectInside (layout_of_kind kind) area p m
  sought-inside p w kind m e = go cause refl object refl e
    where
      go : (c : Option Refusal) → cause ≡ c → (o : Option Placed) → object ≡ o → Ok (record { place = p; version = w; kind = kind; length = m }) ≡ sought_as s c o → ObjectInside (layout_of_kind kind) area p m
      go (some c) q o r f =
          let g : ◌≡◌ {A = Sought} (Ok (record { place = p; version = w; kind = kind; length = m })) (Err c) = unfold sought_as in f in
          let z : ◌≡◌ {A = ℕ} 0 1 = cc in
          absurd (omega arith)
      go none q none r f =
          let g : ◌≡◌ {A = Sought} (Ok (record { place = p; version = w; kind = kind; length = m })) (Err Refusal.Absent) =
          unfold sought_as sought_object in f in
          let z : ◌≡◌ {A = ℕ} 0 1 = cc in
          absurd (omega arith)
      go none q (some y) r f =
          let g : ◌≡◌ {A = Sought} (Ok (record { place = p; version = w; kind = kind; length = m }))
          (Ok (record { place = place_of s y; version = record { 0 = y.entry.version }; kind = placed_kind y; length = placed_size y })) =
          unfold sought_as sought_object in f in
          let same : ◌≡◌ {A = Object} (record { place = p; version = w; kind = kind; length = m })
          (record { place = place_of s y; version = record { 0 = y.entry.version }; kind = placed_kind y; length = placed_size y }) =
          ok-same g in
          let its : kind ≡ placed_kind y = ap (λ (o : Object). o.kind) same in
          let place : p ≡ place_of s y = ap (λ (o : Object). o.place) same in
          let whole : m ≡ placed_size y = ap (λ (o : Object). o.length) same in
          let inside = entry-inside area s (log_slots (head_else (head_of v n))) n (undamaged q) t k y (member y r) in
          let edition : layout_of_kind kind ≡ y.layout = ap layout_of_kind its ∙ object-kind q y r in
          subst (λ (K : Layout). ObjectInside K area p m) (sym edition) (record { head = omega arith; whole = omega arith })
