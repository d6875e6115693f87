-- 02, R-12: an image that was converted recovers to the same map and the same next version, and converted back it has the same log.
use Rattle.std.specs.Prelude.{ℕ, zero, suc, ◌+◌, ◌*◌, ◌-◌, ◌^◌, ◌≤◌, ◌<◌, max, ◌≡◌, refl, Bool, true, false, not, ltb, length, Ok}
use Rattle.std.proofs.Math.Path.{sym, ap, ap₂}
use Rattle.std.proofs.Common.{◌∙◌, subst, arith, lit<, ltb-true, ltb-false, lt-ltb, le-ltb, eqb-true}
use mathlib.Core.List.Memᴰ
use mathlib.Core.List.{List, [], ◌∷◌, ◌++◌, Memᴰ}
use Rattle.std.proofs.Math.Option.{Option, none, some}
use Rattle.std.proofs.Math.Nat.{pow-le-pow_right}
use Rattle.std.proofs.lemmas.Bool.{not-false}
use Rattle.word.specs.Number.{Bytes}
use Rattle.segment.specs.Choice.{both, either}
use Rattle.segment.proofs.Choice.{both_left, both_right, either-false, either-false-left, either-false-right}
use Rattle.segment.specs.Layout.{Layout, other_layout, digest_size, version_limit, table}
use Rattle.segment.proofs.LayoutLaws.{other-other, known-either, version-good, version-positive, version_below, width_low}
use Rattle.segment.specs.Entry.{Entry, length_known, WellFormed}
use Rattle.segment.proofs.EntryLaws.{found-stands}
use Rattle.segment.proofs.DigestLaws.{digest-number-fits, digest-map-fits, digest-next-fits}
use Rattle.segment.specs.Digest.{digest_of}
use Rattle.segment.specs.declared.Digest.{Digest}
use Rattle.segment.specs.declared.Key.{Key}
use Rattle.slot_map.specs.Bit.{named}
use Rattle.record.specs.Range.{slots_good, size_good, cells_good}
use Rattle.record.specs.RangeLaws.{between-low}
use Rattle.record.specs.Answered.{ConvertAnswer}
use Rattle.record.specs.declared.Refusal.{Refusal}
use Rattle.record.specs.declared.Refusal.TheVariants.{Geometry}
use Rattle.record.specs.declared.Record.{Record}
use Rattle.model.specs.Log.{View, Head, Item, Placed, items_of, end_of, scanned, scan, segment_of, views_of, head_of, is_damaged, keys_of}
use Rattle.model.specs.Causes.{Cause, when, first_cause}
use Rattle.model.specs.Recovery.{geometry_bad, head_else, log_slots, log_under, image_layout, later, later_edition, other_edition, image_causes, image_causes_by, key_causes, recovered, record_under}
use Rattle.model.specs.Operations.{log_now, all_encoded}
use Rattle.model.specs.Promises.{area_unless}
use Rattle.model.specs.Scanned.{image_log}
use Rattle.model.specs.Conversion.{entries_in, slot_too_long, version_too_wide, next_too_wide, slot_too_wide, image_slots, fit_causes, convert_causes, converted_slots, converted_image, convert_answer, ConvertPromise}
use Rattle.laws.specs.CauseLaws.{NoCause, cause-false, cause-rest, cause-none, causes-none, no-cause, none_left, first-none}
use Rattle.laws.specs.Editions.{later_same, formed-other}
use Rattle.laws.specs.Stores.{slot-inside, length-segment}
use Rattle.laws.specs.Scans.{Scans, done, more, items_from, item_entries, scan-scans, scans-high, scans-total, scans-items}
use Rattle.laws.specs.NewHeadBytes.{length-head_bytes}
use Rattle.laws.specs.HeadLaws.{top-stays}
use Rattle.laws.specs.LogLaws.{AllOf, editions-one, one-edition, before-editions, any_below, below_none, none_below_lem, both-true-false, both-of-true, log-same, scan-whole, alike-view}
use Rattle.laws.specs.MapLaws.{value_at}
use Rattle.laws.specs.Moved.{Moved, moved-log, moved-keys, moved-shared, moved-highest, moved-present}
use Rattle.laws.specs.RecoverLaws.{Sound, digest-in, segment-bytes, head-slot, sound-clear, sound-head, clear-head, lent-clear, sound-recovered, recovered-facts, recovered-image}
use Rattle.laws.specs.ConvertedSlots.{Convertible, rewritten-head, view_in, convertible-short, convertible-bytes, bytes-slots, short-slots, slots-short, length-slots, logged-view, free-view}

-- ---- versions

-- 30 does not hold: the next versions and the versions of entries are K's
too-wide-any : (K : Layout) (v : ℕ → View) (p : ℕ → Bool) (n : ℕ)
    → slot_too_wide K v p n ≡ any_below (λ i. both (p i) (either (next_too_wide K (v i).digest) (version_too_wide K (entries_in (v i))))) n
unfolding slot_too_wide any_below
too-wide-any K v p zero = refl
too-wide-any K v p (suc n) = cc (too-wide-any K v p n)

module _ (K : Layout) (v : ℕ → View) (p : ℕ → Bool) (n : ℕ) where
  abbrev wide : ℕ → Bool
  wide i = either (next_too_wide K (v i).digest) (version_too_wide K (entries_in (v i)))

  narrow-slots : slot_too_wide K v p n ≡ false → (i : ℕ) → i < n → p i ≡ true → wide i ≡ false
  narrow-slots e i l q =
      both-true-false (p i) (wide i) (below_none n (λ k. both (p k) (wide k)) (sym (too-wide-any K v p n) ∙ e) i l) q

  slots-narrow : ((i : ℕ) → i < n → p i ≡ true → wide i ≡ false) → slot_too_wide K v p n ≡ false
  slots-narrow f = too-wide-any K v p n ∙ none_below_lem n (λ k. both (p k) (wide k)) (λ i l. both-of-true (p i) (wide i) (f i l))

-- a next version that is not above the limit fits its bytes, and the other way round
limit-positive : (K : Layout) → 0 < 256 ^ (table K).width
limit-positive K = omega (arith, pow-le-pow_right {n = 256} (lit< tt) (width_low K))

next-narrow : (K : Layout) (o : Option Digest) (d : Digest) → o ≡ some d → next_too_wide K o ≡ false → d.next.0 < 256 ^ (table K).width
unfolding next_too_wide
next-narrow K o d e f =
    omega (arith, limit-positive K, ltb-false (version_limit K) d.next.0 (ap (next_too_wide K) (sym e) ∙ f))

narrow_next : (K : Layout) (o : Option Digest) (d : Digest) → o ≡ some d → d.next.0 < 256 ^ (table K).width → next_too_wide K o ≡ false
unfolding next_too_wide
narrow_next K o d e h = ap (next_too_wide K) e ∙ le-ltb (version_limit K) d.next.0 (omega arith)

versions-narrow : (K : Layout) (es : List Entry) → version_too_wide K es ≡ false → (x : Entry) → Memᴰ x es → x.version < version_limit K
unfolding version_too_wide
versions-narrow K [] f x m = absurd (Memᴰ.not-nil m)
versions-narrow K (e ∷ es) f x m =
    go m (λ k. versions-narrow K es (either-false-right (not (ltb e.version (version_limit K))) (version_too_wide K es) f) x k)
  where
    go : Memᴰ x (e ∷ es) → (Memᴰ x es → x.version < version_limit K) → x.version < version_limit K
    go (Memᴰ.head q) below =
        subst (λ (y : Entry). y.version < version_limit K) (sym q)
        (ltb-true e.version (version_limit K)
        (not-false _ (either-false-left (not (ltb e.version (version_limit K))) (version_too_wide K es) f)))
    go (Memᴰ.tail k) below = below k

narrow-versions : (K : Layout) (es : List Entry) → ((x : Entry) → Memᴰ x es → x.version < version_limit K) → version_too_wide K es ≡ false
unfolding version_too_wide
narrow-versions K [] f = refl
narrow-versions K (e ∷ es) f =
    either-false (not (ltb e.version (version_limit K))) (version_too_wide K es)
    (ap not (lt-ltb e.version (version_limit K) (f e (Memᴰ.head refl)))) (narrow-versions K es (λ x m. f x (Memᴰ.tail m)))

-- ---- entries

scans-formed : {L : Layout} {s : List ℕ} {at e : ℕ} {is : List Item} → Bytes s → Scans L s at is e
    → (x : Entry) → Memᴰ x (item_entries is) → WellFormed L x
scans-formed h (done p) x m = absurd (Memᴰ.not-nil m)
scans-formed {L} {s} h (more {at} y p r) x (Memᴰ.head q) = subst (WellFormed L) (sym q) (found-stands L s at y p h).formed
scans-formed h (more y p r) x (Memᴰ.tail m) = scans-formed h r x m

-- the entries laid one behind the other are those that were laid
items-entries : (K : Layout) (at : ℕ) (es : List Entry) → item_entries (items_from K at es) ≡ es
unfolding items_from
items-entries K at [] = refl
items-entries K at (e ∷ es) = ap (λ (l : List Entry). e ∷ l) (items-entries K (at + _) es)

-- ---- the slots of the log of a sound image

module _ (L : Layout) (n s m : ℕ) (area : List ℕ) (bytes : Bytes area) (whole : length area ≡ n * s) (h : Head) (f : Sound L (views_of area s) n m h)
    (one : AllOf L (views_of area s) (log_slots h) n) where
  abbrev v : ℕ → View
  v = views_of area s

  abbrev p : ℕ → Bool
  p = log_slots h

  module _ (i : ℕ) (l : i < n) (q : p i ≡ true) where
    -- its digest, and the scan of its bytes
    abbrev pub own-digest : Digest
    own-digest = (f.digests i l q).0

    abbrev b : List ℕ
    b = segment_of area s i

    own-bytes : Bytes b
    own-bytes = segment-bytes area s i bytes

    own-scans : Scans L b (digest_size L) (items_of (v i).scan) (end_of (v i).scan)
    own-scans =
        scan-scans L b (ap (λ (K : Layout). scan K b) (sym (one i l q)) ∙ scan-whole (v i).scan (f.scans i l q))

    says : own-digest ≡ digest_of L b
    says = digest-in L b own-digest (one i l q) (f.digests i l q).1

    -- written in its own layout it is viewed as it is
    pub own_view : v i ≡ view_in L own-digest (entries_in (v i))
    own_view = λ k. record { layout = one i l q k; digest = (f.digests i l q).1 k; scan = scanned-so k }
      where
        scanned-so :
            (v i).scan ≡ scanned (items_from L (digest_size L) (entries_in (v i))) (digest_size L + length (all_encoded L (entries_in (v i))))
        scanned-so =
            scan-whole (v i).scan (f.scans i l q) ∙ (λ k. scanned (scans-items L own-scans k) (sym (scans-total own-scans) k))

    -- and it can be written in any layout that its versions and its length allow
    pub own-convertible : (K : Layout) → own-digest.next.0 < 256 ^ (table K).width → ((x : Entry) → Memᴰ x (entries_in (v i)) → x.version < version_limit K)
        → digest_size K + length (all_encoded K (entries_in (v i))) ≤ s → Convertible K s (v i) own-digest
    own-convertible K next versions fits =
        record {
          has-digest = (f.digests i l q).1;
          number_fits = subst (λ (d : Digest). d.number.0 < 256 ^ 4) (sym says) (digest-number-fits L b own-bytes);
          map-fits = subst (λ (d : Digest). d.map < 256 ^ 4) (sym says) (digest-map-fits L b own-bytes);
          next_fits = next;
          formed = λ x o. formed-other L K x (scans-formed own-bytes own-scans x o) (versions x o);
          fits = fits;
        }

    -- its own among them
    pub own-again : Convertible L s (v i) own-digest
    own-again =
        own-convertible L (subst (λ (d : Digest). d.next.0 < 256 ^ (table L).width) (sym says) (digest-next-fits L b own-bytes))
        (λ x o. version_below L x.version (scans-formed own-bytes own-scans x o).version-good)
        (omega (arith, scans-total own-scans, scans-high own-scans, length-segment area s i (slot-inside area n s i whole l)))

  -- where neither 29 nor 30 holds
  module _ (K : Layout) (short : slot_too_long K v p s n ≡ false) (narrow : slot_too_wide K v p n ≡ false) where
    pub fit-convertible : (i : ℕ) (l : i < n) (q : p i ≡ true) → Convertible K s (v i) (own-digest i l q)
    fit-convertible i l q =
        let not_wide = narrow-slots K v p n narrow i l q in
        own-convertible i l q K
        (next-narrow K (v i).digest (own-digest i l q) (f.digests i l q).1 (either-false-left (next_too_wide K (v i).digest) (version_too_wide K (entries_in (v i))) not_wide))
        (versions-narrow K (entries_in (v i)) (either-false-right (next_too_wide K (v i).digest) (version_too_wide K (entries_in (v i))) not_wide))
        (omega (
          arith,
          short-slots K v p s n short i l q,
          ap length (rewritten-head K (v i) (own-digest i l q) (f.digests i l q).1),
          length-head_bytes K (own-digest i l q) (entries_in (v i)),
        ))

-- ---- slots that can be written in K, all of the log of a head

module _ (K : Layout) (v : ℕ → View) (n s : ℕ) (some_byte : 0 < s) (h : Head) (digest : (i : ℕ) → i < n → log_slots h i ≡ true → Digest)
    (can : (i : ℕ) (l : i < n) (q : log_slots h i ≡ true) → Convertible K s (v i) (digest i l q)) where
  abbrev picks : ℕ → Bool
  picks = log_slots h

  pub all_short : slot_too_long K v picks s n ≡ false
  all_short = slots-short K v picks s n (λ i l q. convertible-short K s (v i) (digest i l q) (can i l q))

  pub all-narrow : slot_too_wide K v picks n ≡ false
  all-narrow =
      slots-narrow K v picks n
      (λ i l q.
      either-false (next_too_wide K (v i).digest) (version_too_wide K (entries_in (v i)))
      (narrow_next K (v i).digest (digest i l q) (can i l q).has-digest (can i l q).next_fits)
      (narrow-versions K (entries_in (v i)) (λ x o. version_below K x.version ((can i l q).formed x o).version-good)))

  -- the slots of the area so written
  abbrev pub target : List ℕ
  target = converted_slots K v picks s n

  abbrev w : ℕ → View
  w = views_of target s

  pub target-view : (i : ℕ) (l : i < n) (q : picks i ≡ true) → w i ≡ view_in K (digest i l q) (entries_in (v i))
  target-view i l q = logged-view K v picks s n some_byte all_short i l q (digest i l q) (can i l q)

  pub target-entries : (i : ℕ) → i < n → picks i ≡ true → entries_in (w i) ≡ entries_in (v i)
  unfolding items_of
  target-entries i l q = ap entries_in (target-view i l q) ∙ items-entries K (digest_size K) (entries_in (v i))

  same-digest : (i : ℕ) → i < n → picks i ≡ true → (w i).digest ≡ (v i).digest
  same-digest i l q = ap (λ (x : View). x.digest) (target-view i l q) ∙ sym (can i l q).has-digest

  -- no digest comes to stand that was not there
  no_more : (i : ℕ) → i < n → (d : Digest) → (w i).digest ≡ some d → (v i).digest ≡ some d
  no_more i l d e = go (picks i) refl
    where
      go : (t : Bool) → picks i ≡ t → (v i).digest ≡ some d
      go true q = sym (same-digest i l q) ∙ e
      go false q =
          let n : (w i).digest ≡ none = free-view K v picks s n some_byte all_short i l q in
          let z : ◌≡◌ {A = ℕ} 0 1 = cc in absurd (omega arith)

  pub target-moved : Moved (log_under v n h) (log_under w n h)
  target-moved = moved-log v w picks n (λ i l q. sym (target-entries i l q))

  pub target-long : length target ≡ n * s
  target-long = length-slots K v picks s n all_short n (omega arith)

  pub made_bytes : Bytes target
  made_bytes = bytes-slots K v picks s n (λ i l q. convertible-bytes K s (v i) (digest i l q) (can i l q))

  -- All its slots are of one edition.
  pub target_one : AllOf K w picks n
  target_one i l q = ap (λ (x : View). x.layout) (target-view i l q)

  -- Under the same head, the log is sound where it was.
  pub target_sound : (L : Layout) (m : ℕ) → Sound L v n m h → log_slots h h.slot ≡ true → Sound K w n m h
  unfolding is_damaged
  target_sound L m f own =
      record {
        top = top-stays v n h w (λ i l o d e. no_more i l d e) (same-digest h.slot f.top.below own) f.top;
        numbered = f.numbered;
        map-good = f.map-good;
        digests = λ i l q. (digest i l q, same-digest i l q ∙ (can i l q).has-digest);
        next-set = f.next-set;
        own = target_one h.slot f.top.below own;
        editions = λ i l q. ap (λ (M : Layout). later M K) (target_one i l q) ∙ later_same K;
        scans = λ i l q. ap (λ (x : View). is_damaged x.scan) (target-view i l q);
        versions = sym (moved-shared target-moved) ∙ f.versions;
        keys = rw (← moved-keys target-moved) f.keys;
      }

-- ---- the call on an image whose head is known

module _ (L : Layout) (n s m : ℕ) (area : List ℕ) (h : Head) (f : Sound L (views_of area s) n m h) (one : AllOf L (views_of area s) (log_slots h) n)
  where
    abbrev views : ℕ → View
    views = views_of area s

    head-is : head_of views n ≡ some h
    head-is = sound-head L views n m h f

    its-layout : image_layout n s area ≡ L
    unfolding head_else
    its-layout =
        ap (λ (o : Option Head). (views (head_else o).slot).layout) head-is ∙ f.own

    pub image-converted : converted_image n s area ≡ converted_slots (other_layout L) views (log_slots h) s n
    unfolding head_else
    image-converted =
        ap₂ (λ (Y : Layout) (o : Option Head). converted_slots (other_layout Y) views (log_slots (head_else o)) s n) its-layout head-is

    abbrev lengths : ℕ → Cause
    lengths k = when (either (geometry_bad n s (length area)) (geometry_bad n s k)) Geometry

    abbrev fits : List Cause
    fits = fit_causes (other_layout L) views (log_slots h) s n

    -- what it asks of the image
    abbrev image : List Cause
    image = image_causes_by (other_edition L views (log_slots h) n) views n (some h)

    its-causes : (k : ℕ) → first_cause (convert_causes n s area k) ≡ first_cause (lengths k ∷ (image ++ fits))
    unfolding head_else
    its-causes k =
        ap₂
        (λ (Y : Layout) (o : Option Head).
        first_cause
        (lengths k ∷ (image_causes_by (other_edition Y views (log_slots (head_else o)) n) views n o ++ fit_causes (other_layout Y) views (log_slots (head_else o)) s n)))
        its-layout head-is

    image-passes : first_cause image ≡ none
    image-passes =
        let c = sound-clear L views n m h f in
        causes-none image
        (c.0, (c.1.0, (c.1.1.0, (c.1.1.1.0, (one-edition views (log_slots h) n L one, (c.1.1.1.1.1.0, (c.1.1.1.1.1.1.0, tt)))))))

    -- It is accepted exactly if both lengths are right and neither 29 nor 30 holds.
    pub image-accepted : (k : ℕ) → geometry_bad n s (length area) ≡ false → geometry_bad n s k ≡ false
        → slot_too_long (other_layout L) views (log_slots h) s n ≡ false → slot_too_wide (other_layout L) views (log_slots h) n ≡ false
        → first_cause (convert_causes n s area k) ≡ none
    image-accepted k g j short narrow =
        its-causes k ∙
        cause-none (lengths k) (image ++ fits) (either-false _ _ g j)
        (first-none (image) fits image-passes ∙ causes-none fits (short, (narrow, tt)))

    pub accepted-fits : (k : ℕ) → first_cause (convert_causes n s area k) ≡ none
        → (slot_too_long (other_layout L) views (log_slots h) s n ≡ false) × (slot_too_wide (other_layout L) views (log_slots h) n ≡ false)
    accepted-fits k e =
        let rest : first_cause (image ++ fits) ≡ none =
        cause-rest (lengths k) (image ++ fits) (sym (its-causes k) ∙ e) in
        let clear = no-cause fits (sym (first-none (image) fits image-passes) ∙ rest) in
        (clear.0, clear.1.0)

-- ---- an accepted conversion

-- The target recovers in the layout K with as many cells, to the same head, keys and next version; its log has the same entries in the
-- same slots and order, and every key the same version and value.
pub record SameStore (K : Layout) (n s m : ℕ) (source target : List ℕ) (r : Record) : Type 0 where
  pub rec : Record
  pub recovers : recovered K n s m target ≡ some rec
  pub target-bytes : Bytes target
  pub same_head : rec.head ≡ r.head
  pub same_number : rec.digest ≡ r.digest
  pub same-slots : rec.map ≡ r.map
  pub same_next : rec.next ≡ r.next
  pub same_keys : rec.keys ≡ r.keys
  pub same_log : Moved (log_now source r) (log_now target rec)
  pub same_map : (k : Key) → value_at (log_now source r) k ≡ value_at (log_now target rec) k

-- Two images have the same head, and each slot of its log the same digest and the same entries in their places; so the logs are one.
pub record SameLog (n s : ℕ) (area back : List ℕ) : Type 0 where
  pub same_head : head_of (views_of back s) n ≡ head_of (views_of area s) n
  pub same-slots : (i : ℕ) → i < n → image_slots n s area i ≡ true → views_of back s i ≡ views_of area s i
  pub same_log : image_log n s back ≡ image_log n s area

geometry-size : (n s k : ℕ) → geometry_bad n s k ≡ false → (size_good s ≡ true) × (k ≡ n * s)
geometry-size n s k e =
    let good = not-false _ e in (both_right _ _ (both_left _ _ good), eqb-true k (n * s) (both_right _ _ good))

geometry-long : (n s k j : ℕ) → geometry_bad n s k ≡ false → j ≡ n * s → geometry_bad n s j ≡ false
geometry-long n s k j e q = ap (geometry_bad n s) (q ∙ sym (geometry-size n s k e).1) ∙ e

module _ (L : Layout) (n s m : ℕ) (source : List ℕ) (bytes : Bytes source) (geometry : geometry_bad n s (length source) ≡ false) (h : Head)
    (f : Sound L (views_of source s) n m h) (one : AllOf L (views_of source s) (log_slots h) n) (k : ℕ) (accepted : first_cause (convert_causes n s source k) ≡ none) where
  abbrev K : Layout
  K = other_layout L

  abbrev from : ℕ → View
  from = views_of source s

  some_byte : 0 < s
  some_byte = omega (arith, between-low 256 2048 s (geometry-size n s (length source) geometry).0)

  whole : length source ≡ n * s
  whole = (geometry-size n s (length source) geometry).1

  abbrev digest : (i : ℕ) → i < n → log_slots h i ≡ true → Digest
  digest i l q = own-digest L n s m source bytes whole h f one i l q

  can : (i : ℕ) (l : i < n) (q : log_slots h i ≡ true) → Convertible K s (from i) (digest i l q)
  can i l q = let fit = accepted-fits L n s m source h f one k accepted in fit-convertible L n s m source bytes whole h f one K fit.0 fit.1 i l q

  abbrev made : List ℕ
  made = converted_slots K from (log_slots h) s n

  abbrev into : ℕ → View
  into = views_of made s

  made-sound : Sound K into n m h
  made-sound = target_sound K from n s some_byte h digest can L m f (head-slot L n s m source h f)

  made_one : AllOf K into (log_slots h) n
  made_one = target_one K from n s some_byte h digest can

  made-same : cells_good m ≡ true → slots_good n ≡ true → SameStore K n s m source (converted_image n s source) (record_under L from n s m h)
  made-same cells slots =
      subst (λ (t : List ℕ). SameStore K n s m source t (record_under L from n s m h)) (sym (image-converted L n s m source h f one))
      (record {
        rec = record_under K into n s m h;
        recovers =
            sound-recovered K n s m made h
            (record {
              slots-good = slots;
              size-good = (geometry-size n s (length source) geometry).0;
              long = target-long K from n s some_byte h digest can;
              cells-good = cells;
            }) made-sound;
        target-bytes = made_bytes K from n s some_byte h digest can;
        same_head = refl;
        same_number = refl;
        same-slots = refl;
        same_next = λ i. record { 0 = max h.digest.next.0 (sym (moved-highest same) i + 1) };
        same_keys = ap length (sym (moved-keys same));
        same_log = same;
        same_map = moved-present same;
      })
    where
      same : Moved (log_under from n h) (log_under into n h)
      same = target-moved K from n s some_byte h digest can

  -- back again
  back-can : (i : ℕ) (l : i < n) (q : log_slots h i ≡ true) → Convertible L s (into i) (digest i l q)
  back-can i l q =
      let own = own-again L n s m source bytes whole h f one i l q in
      let entries : entries_in (into i) ≡ entries_in (from i) = target-entries K from n s some_byte h digest can i l q in
      record {
        has-digest = ap (λ (x : View). x.digest) (target-view K from n s some_byte h digest can i l q);
        number_fits = own.number_fits;
        map-fits = own.map-fits;
        next_fits = own.next_fits;
        formed = λ x o. own.formed x (subst (Memᴰ x) entries o);
        fits = subst (λ (es : List Entry). digest_size L + length (all_encoded L es) ≤ s) (sym entries) own.fits;
      }

  abbrev again : List ℕ
  again = converted_slots L into (log_slots h) s n

  again-view : (i : ℕ) → i < n → log_slots h i ≡ true → views_of again s i ≡ from i
  again-view i l q =
      target-view L into n s some_byte h digest back-can i l q ∙
      ap (view_in L (digest i l q)) (target-entries K from n s some_byte h digest can i l q) ∙
      sym (own_view L n s m source bytes whole h f one i l q)

  again-head : head_of (views_of again s) n ≡ some h
  again-head =
      sound-head L (views_of again s) n m h
      (target_sound L into n s some_byte h digest back-can K m made-sound (head-slot L n s m source h f))

  again-same : SameLog n s source again
  unfolding head_else
  again-same =
      record {
        same_head = again-head ∙ sym (sound-head L from n m h f);
        same-slots =
            λ i l q.
            again-view i l
            (ap (λ (o : Option Head). log_slots (head_else o) i) (sym (sound-head L from n m h f)) ∙ q);
        same_log =
            ap (λ (o : Option Head). log_under (views_of again s) n (head_else o)) again-head ∙
            log-same from (views_of again s) (log_slots h) (log_slots h) n (λ i l. refl) (λ i l q. alike-view from (views_of again s) i (again-view i l q)) ∙
            ap (λ (o : Option Head). log_under from n (head_else o)) (sym (sound-head L from n m h f));
      }

  made-back : (j : ℕ) → geometry_bad n s j ≡ false → (first_cause (convert_causes n s made j) ≡ none) × SameLog n s source (converted_image n s made)
  made-back j right = (
    image-accepted K n s m made h made-sound made_one j
        (geometry-long n s (length source) (length made) geometry (target-long K from n s some_byte h digest can)) right
        (ap (λ (Y : Layout). slot_too_long Y into (log_slots h) s n) (other-other L) ∙ all_short L into n s some_byte h digest back-can)
        (ap (λ (Y : Layout). slot_too_wide Y into (log_slots h) n) (other-other L) ∙ all-narrow L into n s some_byte h digest back-can),
    subst (SameLog n s source)
        (sym (image-converted K n s m made h made-sound made_one ∙ ap (λ (Y : Layout). converted_slots Y into (log_slots h) s n) (other-other L)))
        again-same,
  )

-- ---- in terms of the promise

answer-none : (o : Option Refusal) → (Ok tt) ≡ convert_answer o → o ≡ none
unfolding convert_answer
answer-none none e = refl
answer-none (some c) e = let z : ◌≡◌ {A = ℕ} 0 1 = cc in absurd (omega arith)

module _ (n s : ℕ) (source target target' : List ℕ) (p : ConvertPromise n s source target target' (Ok tt)) where
  pub converted-accepted : first_cause (convert_causes n s source (length target)) ≡ none
  converted-accepted = answer-none (first_cause (convert_causes n s source (length target))) p.answers

  pub converted-leaves : target' ≡ converted_image n s source
  unfolding area_unless
  converted-leaves = p.leaves ∙ ap (λ (o : Option Refusal). area_unless o (converted_image n s source) target) converted-accepted

-- the log of an accepted source is of one edition
accepted-one : (n s : ℕ) (source : List ℕ) (k : ℕ) → first_cause (convert_causes n s source k) ≡ none
    → AllOf (image_layout n s source) (views_of source s) (image_slots n s source) n
accepted-one n s source k e =
    let clear = no-cause (convert_causes n s source k) e in
    editions-one (views_of source s) (image_slots n s source) n (image_layout n s source) clear.1.1.1.1.1.0

-- under the head that it is known to have
one-under : (L : Layout) (n s : ℕ) (source : List ℕ) (h : Head) → image_layout n s source ≡ L → head_of (views_of source s) n ≡ some h
    → AllOf (image_layout n s source) (views_of source s) (image_slots n s source) n → AllOf L (views_of source s) (log_slots h) n
unfolding head_else
one-under L n s source h own head-is one i l q =
    one i l (ap (λ (o : Option Head). log_slots (head_else o) i) head-is ∙ q) ∙ own

-- an accepted source has a sound image, with an index of one cell more than it has keys
accepted-sound : (n s : ℕ) (source : List ℕ) (k : ℕ) → first_cause (convert_causes n s source k) ≡ none
    → (m : ℕ) × (h : Head) × (head_of (views_of source s) n ≡ some h) × Sound (image_layout n s source) (views_of source s) n m h
accepted-sound n s source k e =
    let found = clear-head L v n m refl all in (m, found.0, found.1, found.2)
  where
    L : Layout
    L = image_layout n s source

    v : ℕ → View
    v = views_of source s

    o : Option Head
    o = head_of v n

    log : List Placed
    log = log_under v n (head_else o)

    m : ℕ
    m = suc (length (keys_of log))

    clear : NoCause (convert_causes n s source k)
    clear = no-cause (convert_causes n s source k) e

    -- slots of one edition are of none later than it
    earlier : later_edition L v (log_slots (head_else o)) n ≡ false
    earlier =
        before-editions v (log_slots (head_else o)) n L (λ i l q. ap (λ (K : Layout). later K L) (accepted-one n s source k e i l q) ∙ later_same L)

    all : NoCause (image_causes L v n o ++ key_causes v n m o)
    all = (
      clear.1.0,
      (
        clear.1.1.0,
        (
          clear.1.1.1.0,
          (
            clear.1.1.1.1.0,
            (
              earlier,
              (clear.1.1.1.1.1.1.0, (clear.1.1.1.1.1.1.1.0, (le-ltb (m - 1) (length (keys_of log)) (omega arith), tt))),
            ),
          ),
        ),
      ),
    )

-- Where the conversion is accepted, the target recovers with every index with which the source does, to the same map and next version.
pub conversion-same :
    (L : Layout) (n s m : ℕ) (source target target' : List ℕ) → Bytes source → ConvertPromise n s source target target' (Ok tt) →
    (r : Record) → recovered L n s m source ≡ some r → SameStore (other_layout L) n s m source target' r
conversion-same L n s m source target target' bytes p r e =
    let f = recovered-facts L n s m source r e in
    subst (λ (t : List ℕ). SameStore (other_layout L) n s m source t r) (sym (converted-leaves n s source target target' p))
    (subst (SameStore (other_layout L) n s m source (converted_image n s source)) (sym f.same)
    (made-same L n s m source bytes (lent-clear n s m (length source) f.lent).0 f.head f.sound
    (one-under L n s source f.head (recovered-image L n s m source r e) f.head-is
    (accepted-one n s source (length target) (converted-accepted n s source target target' p))) (length target)
    (converted-accepted n s source target target' p) f.lent.cells-good f.lent.slots-good))

-- and every slot of its log is of the other layout
pub conversion-slots :
    (L : Layout) (n s m : ℕ) (source target target' : List ℕ) → Bytes source → ConvertPromise n s source target target' (Ok tt) →
    (r : Record) → recovered L n s m source ≡ some r → (i : ℕ) → i < n → named r.map i ≡ true → (views_of target' s i).layout ≡ other_layout L
conversion-slots L n s m source target target' bytes p r e i l q =
    let f = recovered-facts L n s m source r e in
    let one =
    one-under L n s source f.head (recovered-image L n s m source r e) f.head-is
    (accepted-one n s source (length target) (converted-accepted n s source target target' p)) in
    ap (λ (t : List ℕ). (views_of t s i).layout)
    (converted-leaves n s source target target' p ∙ image-converted L n s m source f.head f.sound one) ∙
    made_one L n s m source bytes (lent-clear n s m (length source) f.lent).0 f.head f.sound one (length target)
    (converted-accepted n s source target target' p) i l (ap (λ (x : Record). named x.map i) (sym f.same) ∙ q)

-- Converted back, which is always accepted, it has the log that it had: up and down again, and down and up again.
pub conversion-back :
    (n s : ℕ) (source target target' back back' : List ℕ) (a : ConvertAnswer) → Bytes source →
    ConvertPromise n s source target target' (Ok tt) → length back ≡ length target → ConvertPromise n s target' back back' a →
    (a ≡ (Ok tt)) × SameLog n s source back'
unfolding convert_answer area_unless
conversion-back n s source target target' back back' a bytes p same_length q =
    let e = converted-accepted n s source target target' p in
    let (m, h, head-is, f) = accepted-sound n s source (length target) e in
    let one = one-under (image_layout n s source) n s source h refl head-is (accepted-one n s source (length target) e) in
    let right = cause-false _ _ e in
    let geometry = either-false-left (geometry_bad n s (length source)) (geometry_bad n s (length target)) right in
    let length-right = either-false-right (geometry_bad n s (length source)) (geometry_bad n s (length target)) right in
    let made-is : target' ≡ converted_slots (other_layout (image_layout n s source)) (views_of source s) (log_slots h) s n =
    converted-leaves n s source target target' p ∙ image-converted (image_layout n s source) n s m source h f one in
    let both =
    made-back (image_layout n s source) n s m source bytes geometry h f one (length target) e (length back) (ap (geometry_bad n s) same_length ∙ length-right) in
    let none-met : first_cause (convert_causes n s target' (length back)) ≡ none =
    ap (λ (t : List ℕ). first_cause (convert_causes n s t (length back))) made-is ∙ both.0 in
    let left : back' ≡ converted_image n s target' =
    q.leaves ∙ ap (λ (o : Option Refusal). area_unless o (converted_image n s target') back) none-met in (
      q.answers ∙ ap convert_answer none-met,
      subst (SameLog n s source) (sym (left ∙ ap (converted_image n s) made-is)) both.1,
    )
