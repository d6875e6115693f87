-- What an accepted recovery tells of an area, as one record of facts, and that these facts are all that it asks.
use Rattle.std.specs.Prelude.{ℕ, ◌*◌, ◌-◌, ◌^◌, ◌≤◌, ◌<◌, Bool, List, [], ◌∷◌, ◌++◌, eqb, length, get_or, drop, Ok, Err}
use Rattle.std.proofs.Math.Path.{◌≡◌, refl, sym, ap, subst}
use Rattle.std.proofs.Common.{◌∙◌, arith}
use Rattle.std.proofs.Math.Bool.{true, false, not}
use Rattle.std.proofs.Math.Option.{Option, none, some}
use Rattle.std.proofs.Math.Decide.{ℕ_discrete}
use borrow.Author.Tests.{ltb-false, eqb-true, eqb-false, not-false, lt-ltb, le-ltb, eq-eqb, ne_eqb}
use Rattle.segment.specs.Choice.{pick, is_none}
use Rattle.segment.proofs.Choice.{pick_true, both_left, both_right, both_true, either-false, either-false-left, either-false-right}
use Rattle.word.specs.Number.{Bytes}
use Rattle.word.specs.Laws.{bytes_take, bytes_drop}
use Rattle.segment.specs.Layout.{Layout, same_layout, digest_size, version_limit, number_limit, table}
use Rattle.segment.proofs.LayoutLaws.{version_below, same_layout_lem, layout-same}
use Rattle.segment.specs.Entry.{Entry, entry, entry_at}
use Rattle.segment.proofs.EntryLaws.{found-readable}
use Rattle.segment.proofs.DigestLaws.{digest-number-fits, digest-next-fits}
use Rattle.segment.specs.Digest.{digest_of, layout_in}
use Rattle.segment.specs.declared.Digest.{Digest}
use Rattle.slot_map.specs.Bit.{named}
use Rattle.slot_map.specs.Count.{used}
use Rattle.record.specs.Range.{slots_good, size_good, cells_good, map_good, counts_good, most_present, fits_lent}
use Rattle.record.specs.RangeLaws.{Lent, map-in, between-low, between-high, fits-lent}
use Rattle.record.specs.Switch.{new_layout}
use Rattle.record.specs.declared.Refusal.{Refusal}
use Rattle.record.specs.declared.Refusal.TheVariants.{BadOrder}
use Rattle.record.specs.declared.Record.{Record}
use Rattle.record.specs.Answered.{Recovery, RecoverAnswer}
use Rattle.model.specs.Log.{View, Head, Placed, scanned, items_of, scan, digest_in, segment_of, views_of, head_of, log_of, end_of, is_damaged, keys_of, version_shared, highest}
use Rattle.model.specs.Causes.{Cause, when, first_cause}
use Rattle.model.specs.Counts.{counts_of}
use Rattle.model.specs.Recovery.{later, head_else, sharing, map_bad, log_slots, log_under, record_under, image_causes, key_causes, lent_causes, area_causes, if_none, record_from, recovered, order_bad, recovery_for, recovery, recover_causes, image_layout}
use Rattle.model.specs.Operations.{log_now, all_encoded}
use Rattle.laws.specs.CauseLaws.{NoCause, no-cause, none_left, causes-none, cause-passed}
use Rattle.laws.specs.Editions.{later-limit, first-shortest}
use Rattle.laws.specs.Passed.{lent-passed}
use Rattle.laws.specs.Members.{clash, In}
use Rattle.laws.specs.Latest.{Apart}
use Rattle.laws.specs.Versions.{shared-apart, highest-below, below-highest}
use Rattle.laws.specs.Stores.{slot-inside, length-segment}
use Rattle.laws.specs.Scans.{item_entries, scan-scans, scans-low, scans-high, scans-total, scans-found, Scans}
use Rattle.laws.specs.HeadLaws.{SameViews, digests-same, TopHead, head-is, is-top, top_head, top-alone, top-stays}
use Rattle.laws.specs.Counted.{counts-fit}
use Rattle.laws.specs.LogLaws.{NoneLater, AllDigests, AllScanned, names-digests, digests-named, editions-before, before-editions, undamaged-scans, scans-undamaged, log-same, log-in, scan-whole, alike-view}

-- ---- an image that recovery accepts

-- The slots with these views have the head h and a log that nothing is wrong with, of no more keys than the index has room for.
pub record Sound (L : Layout) (v : ℕ → View) (n m : ℕ) (h : Head) : Type 0 where
  pub top : TopHead v n h
  pub numbered : h.digest.number.0 ≡ 0 → ⊥
  pub map-good : map_good n h.slot h.digest.map ≡ true
  pub digests : AllDigests v (log_slots h) n
  pub next-set : h.digest.next.0 ≡ 0 → ⊥
  pub own : (v h.slot).layout ≡ L
  pub editions : NoneLater L v (log_slots h) n
  pub scans : AllScanned v (log_slots h) n
  pub versions : version_shared (log_under v n h) ≡ false
  pub keys : length (keys_of (log_under v n h)) ≤ m - 1

module _ (L : Layout) (v : ℕ → View) (n m : ℕ) where
  -- 16 to 20 with 24, 25 and 28, as tests of a head that was found
  abbrev pub head_causes : Head → List Cause
  head_causes h = image_causes L v n (some h) ++ key_causes v n m (some h)

  pub clear-sound : (h : Head) → head_of v n ≡ some h → (v h.slot).layout ≡ L → NoCause (head_causes h) → Sound L v n m h
  unfolding is_none head_else
  clear-sound h e own f =
      let digest = f.1.0 in
      let number = either-false-left _ _ digest in
      record {
        top =
            is-top v n h (head-is v n h e)
            (ltb-false 1 (sharing v h.digest.number.0 n) (either-false-right _ _ number));
        numbered = eqb-false h.digest.number.0 0 (either-false-left _ _ number);
        map-good = not-false _ f.1.1.0;
        digests = names-digests v (log_slots h) n f.1.1.1.0;
        next-set = eqb-false h.digest.next.0 0 (either-false-right _ _ digest);
        own = own;
        editions = editions-before v (log_slots h) n L f.1.1.1.1.0;
        scans = undamaged-scans v (log_slots h) n f.1.1.1.1.1.0;
        versions = f.1.1.1.1.1.1.0;
        keys = ltb-false (m - 1) (length (keys_of (log_under v n h))) f.1.1.1.1.1.1.1.0;
      }

  pub sound-clear : (h : Head) → Sound L v n m h → NoCause (head_causes h)
  unfolding is_none head_else
  sound-clear h s =
      let number =
      either-false _ _ (ne_eqb h.digest.number.0 0 s.numbered)
      (le-ltb 1 (sharing v h.digest.number.0 n) (omega (arith, top-alone v n h s.top))) in
      let map : map_bad n h ≡ false = ap not s.map-good in (
        refl,
        (
          either-false _ _ number (ne_eqb h.digest.next.0 0 s.next-set),
          (
            map,
            (
              digests-named v (log_slots h) n s.digests,
              (
                before-editions v (log_slots h) n L s.editions,
                (scans-undamaged v (log_slots h) n s.scans, (s.versions, (le-ltb (m - 1) (length (keys_of (log_under v n h))) s.keys, tt))),
              ),
            ),
          ),
        ),
      )

  pub sound-head : (h : Head) → Sound L v n m h → head_of v n ≡ some h
  sound-head h s = top_head v n h s.top

  -- an image without a cause has a head, and its slot tells the edition
  pub clear-head :
      (v (head_else (head_of v n)).slot).layout ≡ L → NoCause (image_causes L v n (head_of v n) ++ key_causes v n m (head_of v n)) →
      (h : Head) × (head_of v n ≡ some h) × Sound L v n m h
  unfolding is_none head_else
  clear-head = go (head_of v n) refl
    where
      go : (o : Option Head) → head_of v n ≡ o → (v (head_else o).slot).layout ≡ L → NoCause (image_causes L v n o ++ key_causes v n m o) →
          (h : Head) × (head_of v n ≡ some h) × Sound L v n m h
      go none e own f = let q : true ≡ false = f.0 in let z : ◌≡◌ {A = ℕ} 0 1 = cc in absurd (omega arith)
      go (some h) e own f = (h, e, clear-sound h e own f)

-- ---- an area that recovery accepts

-- The lent memory is of a length that the format allows.
pub record Allowed (n s m area_length : ℕ) : Type 0 where
  pub slots-good : slots_good n ≡ true
  pub size-good : size_good s ≡ true
  pub long : area_length ≡ n * s
  pub cells-good : cells_good m ≡ true

-- Recovery of the area gives r: all that it has tested, and r itself.
pub record Recovers (L : Layout) (n s m : ℕ) (area : List ℕ) (r : Record) : Type 0 where
  pub lent : Allowed n s m (length area)
  pub head : Head
  pub head-is : head_of (views_of area s) n ≡ some head
  pub sound : Sound L (views_of area s) n m head
  pub same : r ≡ record_under L (views_of area s) n s m head

clear-lent : (n s m area_length : ℕ) → NoCause (lent_causes n s m area_length) → Allowed n s m area_length
clear-lent n s m area_length f =
    let good = not-false _ f.0 in
    let sizes = both_left _ _ good in
    record {
      slots-good = both_left _ _ sizes;
      size-good = both_right _ _ sizes;
      long = eqb-true area_length (n * s) (both_right _ _ good);
      cells-good = not-false _ f.1.0;
    }

pub lent-clear : (n s m area_length : ℕ) → Allowed n s m area_length → NoCause (lent_causes n s m area_length)
lent-clear n s m area_length l = (
  ap not (both_true _ _ (both_true _ _ l.slots-good l.size-good) (eq-eqb area_length (n * s) l.long)),
  (ap not l.cells-good, tt),
)

if_none_lem : (o : Option Refusal) (a r : Record) → if_none o a ≡ some r → (o ≡ none) × (a ≡ r)
unfolding if_none
if_none_lem none a r e = (refl, cc)
if_none_lem (some c) a r e = let z : ◌≡◌ {A = ℕ} 0 1 = cc in absurd (omega arith)

if-own : (t : Bool) (o : Option Record) (r : Record) → pick t o none ≡ some r → (t ≡ true) × (o ≡ some r)
unfolding pick
if-own true o r e = (refl, e)
if-own false o r e = let z : ◌≡◌ {A = ℕ} 0 1 = cc in absurd (omega arith)

module _ (L : Layout) (n s m : ℕ) (area : List ℕ) where
  -- the views of the area
  abbrev v : ℕ → View
  v = views_of area s

  -- what recovery is asked, but for the edition
  abbrev whatever : Option Record
  whatever = if_none (first_cause (area_causes L n s m area)) (record_from L n s m area)

  -- the edition is the one that the head's slot tells
  pub recovered-own : (r : Record) → recovered L n s m area ≡ some r → (image_layout n s area ≡ L) × (whatever ≡ some r)
  unfolding recovered
  recovered-own r e =
      let both = if-own (same_layout (image_layout n s area) L) whatever r e in (same_layout_lem (image_layout n s area) L both.0, both.1)

  pub own-recovered : image_layout n s area ≡ L → recovered L n s m area ≡ whatever
  unfolding recovered
  own-recovered own = pick_true _ whatever none (ap (λ (K : Layout). same_layout K L) own ∙ layout-same L)

  pub recovered-facts : (r : Record) → recovered L n s m area ≡ some r → Recovers L n s m area r
  unfolding head_else
  recovered-facts r e =
      let own = recovered-own r e in
      let accepted = if_none_lem (first_cause (area_causes L n s m area)) (record_from L n s m area) r own.1 in
      let clear = no-cause (area_causes L n s m area) accepted.0 in
      let found = clear-head L v n m own.0 clear.1.1 in
      record {
        lent = clear-lent n s m (length area) (clear.0, (clear.1.0, tt));
        head = found.0;
        head-is = found.1;
        sound = found.2;
        same = sym accepted.1 ∙ ap (λ (o : Option Head). record_under L v n s m (head_else o)) found.1;
      }

  pub facts-recovered : (r : Record) → Recovers L n s m area r → recovered L n s m area ≡ some r
  unfolding head_else if_none
  facts-recovered r f =
      let lent = lent-clear n s m (length area) f.lent in
      let image : NoCause (image_causes L v n (head_of v n) ++ key_causes v n m (head_of v n)) =
      subst (λ (o : Option Head). NoCause (image_causes L v n o ++ key_causes v n m o)) (sym f.head-is)
      (sound-clear L v n m f.head f.sound) in
      let accepted = causes-none (area_causes L n s m area) (lent.0, (lent.1.0, image)) in
      own-recovered (ap (λ (o : Option Head). (v (head_else o).slot).layout) f.head-is ∙ f.sound.own) ∙
      ap (λ (o : Option Refusal). if_none o (record_from L n s m area)) accepted ∙
      ap some (ap (λ (o : Option Head). record_under L v n s m (head_else o)) f.head-is ∙ sym f.same)

  -- the record by the facts alone: the head's slot and its equation follow from the rest
  pub sound-recovered : (h : Head) → Allowed n s m (length area) → Sound L v n m h → recovered L n s m area ≡ some (record_under L v n s m h)
  sound-recovered h l f =
      facts-recovered (record_under L v n s m h)
      (record { lent = l; head = h; head-is = sound-head L v n m h f; sound = f; same = refl })

  -- What is shown of every record under a sound head holds of a recovered one.
  pub recovered-case : (P : Record → Type 0) → ((h : Head) → Allowed n s m (length area) → Sound L v n m h → P (record_under L v n s m h))
      → (r : Record) → recovered L n s m area ≡ some r → P r
  recovered-case P t r e =
      let f = recovered-facts r e in
      subst P (sym f.same) (t f.head f.lent f.sound)

  -- ---- with an order of slots

  -- An order that is none of cause 15's changes nothing.
  pub order-free : (order : List ℕ) → order_bad n order ≡ false
      → recovery L n s m order area ≡ recovery_for (first_cause (area_causes L n s m area)) (record_from L n s m area)
  unfolding recovery
  order-free order e =
      ap (λ (o : Option Refusal). recovery_for o (record_from L n s m area))
      (cause-passed (lent_causes n s m (length area)) (when (order_bad n order) BadOrder)
      (image_causes L v n (head_of v n) ++ key_causes v n m (head_of v n)) e)

  recovery-none : (o : Option Refusal) (a r : Record) → recovery_for o a ≡ record { answer = (Ok tt); rec = r } → (o ≡ none) × (a ≡ r)
  unfolding recovery_for
  recovery-none none a r e = (refl, ap (λ (x : Recovery). x.rec) e)
  recovery-none (some c) a r e =
      let q : Err c ≡ (Ok tt) = ap (λ (x : Recovery). x.answer) e in
      let z : ◌≡◌ {A = ℕ} 0 1 = cc in
      absurd (omega arith)

  -- The call gives a record exactly if the area does, and the order names each slot once.
  pub recovery-order : (order : List ℕ) (r : Record) → recovery L n s m order area ≡ record { answer = (Ok tt); rec = r }
      → order_bad n order ≡ false
  unfolding recovery
  recovery-order order r e =
      (lent-passed n s m (length area) order
      (none_left (lent_causes n s m (length area) ++ (when (order_bad n order) BadOrder ∷ [])) (image_causes L v n (head_of v n) ++ key_causes v n m (head_of v n))
      (recovery-none (first_cause (recover_causes L n s m order area)) (record_from L n s m area) r e).0)).order-good

  pub recovery-recovered : (order : List ℕ) (r : Record) → image_layout n s area ≡ L
      → recovery L n s m order area ≡ record { answer = (Ok tt); rec = r } → recovered L n s m area ≡ some r
  unfolding if_none
  recovery-recovered order r own e =
      let accepted =
      recovery-none (first_cause (area_causes L n s m area)) (record_from L n s m area) r (sym (order-free order (recovery-order order r e)) ∙ e) in
      own-recovered own ∙ ap (λ (o : Option Refusal). if_none o (record_from L n s m area)) accepted.0 ∙ ap some accepted.1

  pub recovered-recovery : (order : List ℕ) (r : Record) → order_bad n order ≡ false → recovered L n s m area ≡ some r
      → recovery L n s m order area ≡ record { answer = (Ok tt); rec = r }
  unfolding recovery_for
  recovered-recovery order r good e =
      let accepted = if_none_lem (first_cause (area_causes L n s m area)) (record_from L n s m area) r (recovered-own r e).1 in
      order-free order good ∙ ap (λ (o : Option Refusal). recovery_for o (record_from L n s m area)) accepted.0 ∙
      ap (λ (x : Record). record { answer = (Ok tt); rec = x }) accepted.1

-- ---- the record is in range

pub in_map : (n head map : ℕ) → map < 2 ^ n → named map head ≡ true → used n map < n → map_good n head map ≡ true
unfolding map_good
in_map n head map below names free = both_true _ _ (lt-ltb map (2 ^ n) below) (both_true _ _ names (lt-ltb (used n map) n free))

module _ (L : Layout) (v : ℕ → View) (n s m : ℕ) (h : Head) where
  -- the head's entries end in its segment, behind the digest
  abbrev pub EndsInside : Type 0
  EndsInside = (digest_size L ≤ end_of (v h.slot).scan) × (end_of (v h.slot).scan ≤ s)

  -- and no slot has more present bytes than come behind a digest
  abbrev pub CountsInside : Type 0
  CountsInside = counts_good (most_present s) (counts_of (log_under v n h)) ≡ true

  pub under-lent : (area_length : ℕ) → Allowed n s m area_length → Sound L v n m h → EndsInside → CountsInside → Lent L (record_under L v n s m h) area_length m
  under-lent area_length l f e c =
      let map = map-in n h.slot h.digest.map f.map-good in
      record {
        slots-low = between-low 4 32 n l.slots-good;
        slots-high = between-high 4 32 n l.slots-good;
        size_low = between-low 256 2048 s l.size-good;
        size-high = between-high 256 2048 s l.size-good;
        cells_low = between-low 16 4096 m l.cells-good;
        cells-high = between-high 16 4096 m l.cells-good;
        map_below = map.below;
        head-below = map.head_in;
        head-named = map.head-named;
        some-free = map.some-free;
        end_low = e.0;
        end-high = e.1;
        number-some = omega (arith, f.numbered);
        next-some = omega arith;
        keys-high = f.keys;
        counts-high = c;
        left-some = λ busy. absurd (busy refl);
        left-high = omega arith;
        area-own = l.long;
        index-own = refl;
      }

-- ---- the log of a recovered record

module _ (L : Layout) (n s m : ℕ) (area : List ℕ) (r : Record) (e : recovered L n s m area ≡ some r) where
  pub recovered-versions : version_shared (log_now area r) ≡ false
  recovered-versions = recovered-case L n s m area (λ (k : Record). version_shared (log_now area k) ≡ false) (λ h l f. f.versions) r e

  pub recovered-apart : Apart (log_now area r)
  recovered-apart = shared-apart (log_now area r) recovered-versions

  pub recovered-keys : r.keys ≡ length (keys_of (log_now area r))
  recovered-keys = recovered-case L n s m area (λ (k : Record). k.keys ≡ length (keys_of (log_now area k))) (λ h l f. refl) r e

  -- the next version is above every version in the log
  pub recovered-highest : highest (log_now area r) < r.next.0
  recovered-highest = recovered-case L n s m area (λ (k : Record). highest (log_now area k) < k.next.0) (λ h l f. omega arith) r e

  pub recovered-above : (x : Placed) → In x (log_now area r) → x.entry.version < r.next.0
  recovered-above = below-highest (log_now area r) r.next.0 recovered-highest

-- A larger index changes nothing but the number of its cells.
pub more-sound : (L : Layout) (v : ℕ → View) (n m k : ℕ) (h : Head) → m ≤ k → Sound L v n m h → Sound L v n k h
more-sound L v n m k h l f =
    record {
      top = f.top;
      numbered = f.numbered;
      map-good = f.map-good;
      digests = f.digests;
      next-set = f.next-set;
      own = f.own;
      editions = f.editions;
      scans = f.scans;
      versions = f.versions;
      keys = omega (arith, f.keys);
    }

pub recovered-more : (L : Layout) (n s m k : ℕ) (area : List ℕ) (r : Record) → recovered L n s m area ≡ some r → cells_good k ≡ true → m ≤ k
    → recovered L n s k area ≡ some (record_from L n s k area)
unfolding head_else
recovered-more L n s m k area r e good l =
    let f = recovered-facts L n s m area r e in
    sound-recovered L n s k area f.head
    (record { slots-good = f.lent.slots-good; size-good = f.lent.size-good; long = f.lent.long; cells-good = good })
    (more-sound L (views_of area s) n m k f.head l f.sound) ∙
    ap (λ (o : Option Head). some (record_under L (views_of area s) n s k (head_else o))) (sym f.head-is)

-- ---- what leaves the store as it was

-- The views of the log's slots stay, and no digest comes: slots outside the log may change otherwise.
pub record Untouched (v v' : ℕ → View) (n : ℕ) (h : Head) : Type 0 where
  pub kept : (i : ℕ) → i < n → log_slots h i ≡ true → v' i ≡ v i
  pub no-digest-more : (i : ℕ) → i < n → (d : Digest) → (v' i).digest ≡ some d → (v i).digest ≡ some d

pub same-untouched : (v v' : ℕ → View) (n : ℕ) (h : Head) → SameViews n v v' → Untouched v v' n h
same-untouched v v' n h s =
    record { kept = λ i l e. s i l; no-digest-more = λ i l d e. sym (digests-same s i l) ∙ e }

-- a cut in the middle of a new head: one slot outside the log has lost its digest
pub cut-untouched : (v v' : ℕ → View) (n j : ℕ) (h : Head) → log_slots h j ≡ false → ((i : ℕ) → i < n → (i ≡ j → ⊥) → v' i ≡ v i)
    → (v' j).digest ≡ none → Untouched v v' n h
cut-untouched v v' n j h free s e =
    record {
      kept = λ i l q. s i l (λ f. clash (log_slots h i) q (ap (log_slots h) f ∙ free));
      no-digest-more = λ i l d f. go i l d f (ℕ_discrete i j);
    }
  where
    go : (i : ℕ) → i < n → (d : Digest) → (v' i).digest ≡ some d → Dec (i ≡ j) → (v i).digest ≡ some d
    go i l d f (yes q) = let z : (v' i).digest ≡ none = ap (λ (k : ℕ). (v' k).digest) q ∙ e in cc
    go i l d f (no q) = sym (ap (λ (x : View). x.digest) (s i l q)) ∙ f

module _ (L : Layout) (v v' : ℕ → View) (n m : ℕ) (h : Head) (f : Sound L v n m h) (u : Untouched v v' n h) where
  pub untouched-log : log_under v' n h ≡ log_under v n h
  untouched-log =
      log-same v v' (log_slots h) (log_slots h) n (λ i l. refl) (λ i l e. alike-view v v' i (u.kept i l e))

  head-kept : v' h.slot ≡ v h.slot
  head-kept = u.kept h.slot f.top.below (map-in n h.slot h.digest.map f.map-good).head-named

  pub untouched-sound : Sound L v' n m h
  untouched-sound =
      record {
        top =
            top-stays v n h v' (λ i l o d e. u.no-digest-more i l d e) (ap (λ (x : View). x.digest) head-kept) f.top;
        numbered = f.numbered;
        map-good = f.map-good;
        digests = λ i l e. let d = f.digests i l e in (d.0, ap (λ (x : View). x.digest) (u.kept i l e) ∙ d.1);
        next-set = f.next-set;
        own = ap (λ (x : View). x.layout) head-kept ∙ f.own;
        editions = λ i l e. ap (λ (x : View). later x.layout L) (u.kept i l e) ∙ f.editions i l e;
        scans = λ i l e. ap (λ (x : View). is_damaged x.scan) (u.kept i l e) ∙ f.scans i l e;
        versions = ap version_shared untouched-log ∙ f.versions;
        keys = rw untouched-log f.keys;
      }

  pub untouched-record : (s : ℕ) → record_under L v' n s m h ≡ record_under L v n s m h
  untouched-record s = rw (untouched-log, head-kept)

both_ways : (a b : Option Record) → ((r : Record) → a ≡ some r → b ≡ some r) → ((r : Record) → b ≡ some r → a ≡ some r) → b ≡ a
both_ways none none to from = refl
both_ways none (some r) to from = sym (from r refl)
both_ways (some r) b to from = to r refl

module _ (L : Layout) (n s m : ℕ) (area area' : List ℕ) (same_length : length area' ≡ length area) where
  pub untouched-recovered : (r : Record) (f : Recovers L n s m area r) → Untouched (views_of area s) (views_of area' s) n f.head
      → recovered L n s m area' ≡ some r
  untouched-recovered r f u =
      sound-recovered L n s m area' f.head (subst (Allowed n s m) (sym same_length) f.lent)
      (untouched-sound L (views_of area s) (views_of area' s) n m f.head f.sound u) ∙
      ap some (untouched-record L (views_of area s) (views_of area' s) n m f.head f.sound u s ∙ sym f.same)

  views-kept : SameViews n (views_of area s) (views_of area' s) → (r : Record) → recovered L n s m area ≡ some r
      → recovered L n s m area' ≡ some r
  views-kept same r e =
      let f = recovered-facts L n s m area r e in
      untouched-recovered r f (same-untouched (views_of area s) (views_of area' s) n f.head same)

module _ (L : Layout) (n s m : ℕ) (area area' : List ℕ) (same_length : length area' ≡ length area) where
  -- Where no view changes recovery gives what it gave, a refusal too.
  pub views-recovered : SameViews n (views_of area s) (views_of area' s) → recovered L n s m area' ≡ recovered L n s m area
  views-recovered same =
      both_ways (recovered L n s m area) (recovered L n s m area') (views-kept L n s m area area' same_length same)
      (views-kept L n s m area' area (sym same_length) (λ i l. sym (same i l)))

  -- A slot that the map does not name may change, as long as it has no digest then.
  module _ (r : Record) (j : ℕ) (free : named r.map j ≡ false)
      (others : (i : ℕ) → i < n → (i ≡ j → ⊥) → views_of area' s i ≡ views_of area s i) where
    pub cut-recovered : recovered L n s m area ≡ some r → (views_of area' s j).digest ≡ none → recovered L n s m area' ≡ some r
    cut-recovered e d =
        let f = recovered-facts L n s m area r e in
        untouched-recovered L n s m area area' same_length r f
        (cut-untouched (views_of area s) (views_of area' s) n j f.head
        (ap (λ (x : Record). named x.map j) (sym f.same) ∙ free) others d)

    pub cut-log : log_of (views_of area' s) (named r.map) n ≡ log_of (views_of area s) (named r.map) n
    cut-log =
        log-same (views_of area s) (views_of area' s) (named r.map) (named r.map) n (λ i l. refl)
        (λ i l e. alike-view (views_of area s) (views_of area' s) i (others i l (λ q. clash (named r.map i) e (ap (named r.map) q ∙ free))))

-- ---- what the bytes of the area add

-- a digest that is found is the one that the segment's first bytes say
pub digest-in : (L : Layout) (b : List ℕ) (d : Digest) → layout_in b ≡ L → digest_in b ≡ some d → d ≡ digest_of L b
unfolding digest_in pick
digest-in L b d own e =
    go (eqb (get_or b 0 0) (table L).digest_kind)
    (ap (λ (K : Layout). pick (eqb (get_or b 0 0) (table K).digest_kind) (some (digest_of K b)) none) (sym own) ∙ e)
  where
    go : (t : Bool) → pick t (some (digest_of L b)) none ≡ some d → d ≡ digest_of L b
    go true q = cc
    go false q = let z : ◌≡◌ {A = ℕ} 0 1 = cc in absurd (omega arith)

pub segment-bytes : (area : List ℕ) (s i : ℕ) → Bytes area → Bytes (segment_of area s i)
segment-bytes area s i h = bytes_take s (drop (i * s) area) (bytes_drop (i * s) area h)

-- ---- the slots of the log

module _ (L : Layout) (n s m : ℕ) (area : List ℕ) (h : Head) (f : Sound L (views_of area s) n m h) where
  pub head-slot : log_slots h h.slot ≡ true
  head-slot = (map-in n h.slot h.digest.map f.map-good).head-named

  -- the entries of a log slot, by its own edition
  pub slot-scans : (i : ℕ) → i < n → log_slots h i ≡ true
      → Scans (views_of area s i).layout (segment_of area s i) (digest_size (views_of area s i).layout) (items_of (views_of area s i).scan) (end_of (views_of area s i).scan)
  slot-scans i b q = scan-scans (views_of area s i).layout (segment_of area s i) (scan-whole (views_of area s i).scan (f.scans i b q))

  -- of an entry of the log too
  pub placed-scans : (x : Placed) → In x (log_under (views_of area s) n h)
      → Scans x.layout (segment_of area s x.slot) (digest_size x.layout) (items_of (views_of area s x.slot).scan) (end_of (views_of area s x.slot).scan)
  placed-scans x m =
      let at = log-in (views_of area s) (log_slots h) n x m in
      subst
      (λ (K : Layout).
      Scans K (segment_of area s x.slot) (digest_size K) (items_of (views_of area s x.slot).scan) (end_of (views_of area s x.slot).scan))
      (sym at.layout) (slot-scans x.slot at.below at.picked)

  -- so that it is read where it stands
  pub placed-found : (x : Placed) → In x (log_under (views_of area s) n h) → entry_at x.layout (segment_of area s x.slot) x.offset ≡ entry x.entry
  placed-found x m = scans-found (placed-scans x m) (log-in (views_of area s) (log_slots h) n x m).item

  -- the head's own entries, by the store's edition
  pub head-whole : scan L (segment_of area s h.slot) ≡ scanned (items_of (views_of area s h.slot).scan) (end_of (views_of area s h.slot).scan)
  head-whole =
      ap (λ (K : Layout). scan K (segment_of area s h.slot)) (sym f.own) ∙
      scan-whole (views_of area s h.slot).scan (f.scans h.slot f.top.below head-slot)

-- an entry that is found has a version below the limit
found-version : (L : Layout) (b : List ℕ) (at : ℕ) (x : Entry) → entry_at L b at ≡ entry x → x.version < version_limit L
found-version L b at x e = version_below L x.version (found-readable L b at x e).good

module _ (L : Layout) (n s m : ℕ) (area : List ℕ) (r : Record) (e : recovered L n s m area ≡ some r) where
  pub recovered-lent : Allowed n s m (length area)
  recovered-lent = (recovered-facts L n s m area r e).lent

  pub recovered-below : r.head < n
  recovered-below = recovered-case L n s m area (λ (k : Record). k.head < n) (λ h l f. f.top.below) r e

  pub recovered-layout : layout_in (segment_of area s r.head) ≡ L
  recovered-layout =
      recovered-case L n s m area (λ (k : Record). layout_in (segment_of area s k.head) ≡ L)
      (λ h l f. f.own) r e

  -- the edition that the record has
  pub recovered-edition : r.edition ≡ L
  recovered-edition = recovered-case L n s m area (λ (k : Record). k.edition ≡ L) (λ h l f. refl) r e

  -- and the one of its next new head
  pub recovered-new : new_layout r ≡ L
  unfolding pick
  recovered-new = recovered-case L n s m area (λ (k : Record). new_layout k ≡ L) (λ h l f. refl) r e

  -- is the one that the head's slot tells
  pub recovered-image : image_layout n s area ≡ L
  recovered-image = (recovered-own L n s m area r e).0

  -- the head's entries end where the record says, behind the digest and in the segment
  pub recovered-scan : scan L (segment_of area s r.head) ≡ scanned (items_of (views_of area s r.head).scan) r.end
  recovered-scan =
      recovered-case L n s m area
      (λ (k : Record). scan L (segment_of area s k.head) ≡ scanned (items_of (views_of area s k.head).scan) k.end)
      (λ h l f. head-whole L n s m area h f) r e

  pub recovered-ends : (digest_size L ≤ r.end) × (r.end ≤ s)
  recovered-ends =
      let scans = scan-scans L (segment_of area s r.head) recovered-scan in
      let long = length-segment area s r.head (slot-inside area n s r.head recovered-lent.long recovered-below) in
      (scans-low scans, omega (arith, scans-high scans))

  -- what a log slot holds fits behind a digest
  slot-holds : (h : Head) → Allowed n s m (length area) → Sound L (views_of area s) n m h → (i : ℕ) → i < n → log_slots h i ≡ true
      → length (all_encoded (views_of area s i).layout (item_entries (items_of (views_of area s i).scan))) ≤ most_present s
  slot-holds h l f i b q =
      let scans = slot-scans L n s m area h f i b q in
      omega (
        arith,
        scans-total scans,
        scans-high scans,
        length-segment area s i (slot-inside area n s i l.long b),
        first-shortest (views_of area s i).layout,
      )

  pub recovered-holds : Lent L r (length area) m
  recovered-holds =
      recovered-case L n s m area (λ (k : Record). (digest_size L ≤ k.end) × (k.end ≤ s) → Lent L k (length area) m)
      (λ h l f ends.
      under-lent L (views_of area s) n s m h (length area) l f ends
      (counts-fit (views_of area s) h.digest.map n (most_present s) (slot-holds h l f))) r e recovered-ends

  -- in an area of bytes the record's numbers fit theirs
  module _ (bytes : Bytes area) where
    own-digest : (h : Head) → Sound L (views_of area s) n m h → h.digest ≡ digest_of L (segment_of area s h.slot)
    own-digest h f =
        digest-in L (segment_of area s h.slot) h.digest f.own f.top.own

    pub recovered-number : r.digest.0 ≤ number_limit
    recovered-number =
        recovered-case L n s m area (λ (k : Record). k.digest.0 ≤ number_limit)
        (λ h l f.
        omega (
          arith,
          digest-number-fits L (segment_of area s h.slot) (segment-bytes area s h.slot bytes),
          ap (λ (d : Digest). d.number.0) (own-digest h f),
        )) r e

    log-version : (h : Head) → Sound L (views_of area s) n m h → (x : Placed) → In x (log_under (views_of area s) n h)
        → x.entry.version < version_limit L
    log-version h f x i =
        let at = log-in (views_of area s) (log_slots h) n x i in
        let its = found-version x.layout (segment_of area s x.slot) x.offset x.entry (placed-found L n s m area h f x i) in
        omega (arith, its, later-limit x.layout L (ap (λ (K : Layout). later K L) at.layout ∙ f.editions x.slot at.below at.picked))

    pub recovered-next : r.next.0 ≤ version_limit L
    recovered-next =
        recovered-case L n s m area (λ (k : Record). k.next.0 ≤ version_limit L)
        (λ h l f.
        let fits : h.digest.next.0 < 256 ^ (table L).width =
        rw (own-digest h f) (digest-next-fits L (segment_of area s h.slot) (segment-bytes area s h.slot bytes)) in
        let set : 0 < h.digest.next.0 = omega (arith, f.next-set) in
        omega (arith, highest-below (log_under (views_of area s) n h) (version_limit L) (omega arith) (log-version h f))) r e

    pub recovered-fits : fits_lent L r (length area) m ≡ true
    recovered-fits = fits-lent L r (length area) m recovered-holds recovered-next
