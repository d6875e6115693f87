-- A new head: the slot that it takes has the highest digest number, and the log is what its map leaves of the old one, and its own
-- entries. With one entry and no victims this is a write or a delete that did not fit the old head.
use Rattle.std.specs.Prelude.{ℕ, ◌+◌, ◌-◌, ◌^◌, ◌≤◌, ◌<◌, ◌≡◌, refl, Bool, true, false, not, ◌⊎◌, length}
use Rattle.std.proofs.Common.{sym, subst, ◌∙◌, ap₂, inl, inr, arith}
use Rattle.std.proofs.Math.Path.{ap}
use mathlib.Core.List.{List, [], ◌∷◌}
use Rattle.std.proofs.Math.Option.{some}
use Rattle.std.proofs.Math.Decide.{ℕ_discrete}
use Rattle.std.proofs.Math.Dec.{eqb}
use Rattle.segment.specs.Choice.{both}
use Rattle.segment.proofs.Choice.{both_left, both-false-left}
use Rattle.segment.specs.Layout.{Layout, digest_size}
use Rattle.segment.specs.Entry.{Entry}
use Rattle.segment.proofs.EntryLaws.{length-encoded}
use Rattle.segment.specs.declared.Digest.{Digest}
use Rattle.segment.specs.declared.Version.{Version}
use Rattle.slot_map.specs.Bit.{bit, named, within}
use Rattle.slot_map.proofs.BitLaws.{bit-cases, bit-of-zero, bit-add-same, bit-add-other, bit-sub, within-of-le, set-named, clear-named, add-below}
use Rattle.slot_map.specs.Count.{used}
use Rattle.slot_map.proofs.CountLaws.{clear-sub, used-renewed}
use Rattle.slot_map.proofs.NextLaws.{next-below, next-clear}
use Rattle.record.specs.RangeLaws.{map-in}
use Rattle.record.specs.declared.Record.{Record}
use Rattle.model.specs.Log.{View, Head, Placed, scanned, end_of, is_damaged, placed_in, views_of, log_of, keys_of, version_shared, highest, next_version, Item}
use Rattle.model.specs.Recovery.{later, log_slots, log_under, record_under, recovered}
use Rattle.model.specs.Operations.{log_now, new_slot, digest_with, new_digest, outside_slots, all_encoded, placed_from, headed_record}
use Rattle.laws.specs.Editions.{later_same, later_trans}
use Rattle.laws.specs.Scans.{items_from, placed-items, encoded-one}
use Rattle.laws.specs.HeadLaws.{top-new-head}
use Rattle.laws.specs.LogLaws.{part_of, part-picked, part-passed, part_same, log-same, one-slot, OnePart, part-entered, Entered, entered-versions, entered-highest, entered-keys, scanned-undamaged, items-scanned, end-scanned, alike-view}
use Rattle.laws.specs.Counted.{entered-counts}
use Rattle.laws.specs.RecoverLaws.{Sound, Allowed, in_map, sound-recovered, recovered-case}
use Rattle.laws.specs.Appended.{Takes}

-- ---- the map of a new head

-- It names the new slot, and of the others those that it named and that are no victims.
module _ (map victims j : ℕ) (sub : within victims map ≡ true) (clear : bit map j ≡ 0) where
  pub new-named : named (map - victims + 2 ^ j) j ≡ true
  new-named = set-named (map - victims + 2 ^ j) j (bit-add-same (map - victims) j (clear-sub map victims j sub clear))

  pub new_others : (i : ℕ) → (i ≡ j → ⊥) → named (map - victims + 2 ^ j) i ≡ outside_slots map victims i
  unfolding both
  new_others i o =
      ap (λ (b : ℕ). eqb b 1)
      (bit-add-other (map - victims) j i (clear-sub map victims j sub clear) (λ q. o (sym q)) ∙ bit-sub map victims i sub) ∙
      go (bit-cases map i) (bit-cases victims i)
    where
      go : (bit map i ≡ 0) ⊎ (bit map i ≡ 1) → (bit victims i ≡ 0) ⊎ (bit victims i ≡ 1)
          → eqb (bit map i - bit victims i) 1 ≡ outside_slots map victims i
      go (inl p) (inl q) = rw (p, q)
      go (inl p) (inr q) = rw (p, q)
      go (inr p) (inl q) = rw (p, q)
      go (inr p) (inr q) = rw (p, q)

  pub slot-outside : outside_slots map victims j ≡ false
  slot-outside = both-false-left (named map j) (not (named victims j)) (clear-named map j clear)

-- without victims it names all that it named
pub none_within : (map : ℕ) → within 0 map ≡ true
none_within map = within-of-le 0 map (λ i. omega (arith, bit-of-zero i))

pub none-outside : (map i : ℕ) → outside_slots map 0 i ≡ named map i
unfolding both
none-outside map i = rw (clear-named 0 i (bit-of-zero i)) (go (named map i))
  where
    go : (t : Bool) → both t true ≡ t
    go true = refl
    go false = refl

-- ---- a new head, on views

-- Slot j has this digest, and behind it these entries; no other slot has changed.
pub record Heads (L : Layout) (v v' : ℕ → View) (n j : ℕ) (d : Digest) (es : List Entry) : Type 0 where
  pub others : (i : ℕ) → i < n → (i ≡ j → ⊥) → v' i ≡ v i
  pub own : v' j ≡ record { layout = L; digest = some d; scan = scanned (items_from L (digest_size L) es) (digest_size L + length (all_encoded L es)) }

module _ (L W : Layout) (up : later L W ≡ false) (v v' : ℕ → View) (n s m : ℕ) (h : Head) (victims : ℕ) (next : Version) (es : List Entry)
    (f : Sound L v n m h) (sub : within victims h.digest.map ≡ true)
    (c : Heads W v v' n (new_slot (record_under L v n s m h)) (digest_with (record_under L v n s m h) victims next) es) where
  -- the old record, the new slot and the new head
  abbrev r : Record
  r = record_under L v n s m h

  abbrev j : ℕ
  j = new_slot (record_under L v n s m h)

  abbrev g : Head
  g = record { slot = new_slot (record_under L v n s m h); digest = digest_with (record_under L v n s m h) victims next }

  pub slot-below : j < n
  slot-below = next-below n h.digest.map h.slot f.top.below (map-in n h.slot h.digest.map f.map-good).some-free

  pub slot-clear : bit h.digest.map j ≡ 0
  slot-clear = next-clear n h.digest.map h.slot f.top.below (map-in n h.slot h.digest.map f.map-good).some-free

  own-digest : (v' j).digest ≡ some (digest_with r victims next)
  own-digest = ap (λ (w : View). w.digest) c.own

  own-scan : (v' j).scan ≡ scanned (items_from W (digest_size W) es) (digest_size W + length (all_encoded W es))
  own-scan = ap (λ (w : View). w.scan) c.own

  -- a log slot of the new head that is not its own is one of the old head's
  old-slot : (i : ℕ) → (i ≡ j → ⊥) → log_slots g i ≡ true → log_slots h i ≡ true
  old-slot i o q =
      both_left (named h.digest.map i) (not (named victims i)) (sym (new_others h.digest.map victims j sub slot-clear i o) ∙ q)

  -- What the map leaves of the old log, with the new head's entries among it.
  pub new-log : OnePart [] (placed_from W j (digest_size W) es) (log_of v (outside_slots h.digest.map victims) n) (log_under v' n g)
  new-log =
      subst
      (λ (l : List Placed).
      OnePart l (placed_from W j (digest_size W) es) (log_of v (outside_slots h.digest.map victims) n) (log_under v' n g)) old-part
      (subst
      (λ (l : List Placed).
      OnePart (part_of v (outside_slots h.digest.map victims) j) l (log_of v (outside_slots h.digest.map victims) n) (log_under v' n g)) new-part
      (one-slot v v' (outside_slots h.digest.map victims) (log_slots g) j n slot-below
      (λ i l o.
      part_same v v' (outside_slots h.digest.map victims) (log_slots g) i (new_others h.digest.map victims j sub slot-clear i o)
      (λ q. alike-view v v' i (c.others i l o)))))
    where
      old-part : part_of v (outside_slots h.digest.map victims) j ≡ []
      old-part = part-passed v (outside_slots h.digest.map victims) j (slot-outside h.digest.map victims j sub slot-clear)

      new-part : part_of v' (log_slots g) j ≡ placed_from W j (digest_size W) es
      new-part =
          part-picked v' (log_slots g) j (new-named h.digest.map victims j sub slot-clear) ∙
          ap₂ (λ (K : Layout) (is : List Item). placed_in K j is) (ap (λ (w : View). w.layout) c.own) (items-scanned (v' j).scan own-scan)
          ∙ placed-items W j (digest_size W) es

  pub new-sound : 0 < next.0 → used n (digest_with r victims next).map < n → version_shared (log_under v' n g) ≡ false → length (keys_of (log_under v' n g)) ≤ m - 1
      → Sound W v' n m g
  new-sound some_next room versions keys =
      record {
        top =
            top-new-head v n h v' j (digest_with r victims next) f.top slot-below
            (λ i l o. ap (λ (w : View). w.digest) (c.others i l o)) own-digest (omega arith);
        numbered = λ z. omega arith;
        map-good =
            in_map n j (digest_with r victims next).map
            (add-below n (h.digest.map - victims) j
            (omega (arith, (map-in n h.slot h.digest.map f.map-good).below)) slot-below
            (clear-sub h.digest.map victims j sub slot-clear))
            (new-named h.digest.map victims j sub slot-clear) room;
        digests = λ i l q. digested i l q (ℕ_discrete i j);
        next-set = λ z. omega arith;
        own = ap (λ (w : View). w.layout) c.own;
        editions = λ i l q. before i l q (ℕ_discrete i j);
        scans = λ i l q. whole i l q (ℕ_discrete i j);
        versions = versions;
        keys = keys;
      }
    where
      digested : (i : ℕ) → i < n → log_slots g i ≡ true → Dec (i ≡ j) → (d : Digest) × ((v' i).digest ≡ some d)
      digested i l q (yes o) = (digest_with r victims next, ap (λ (k : ℕ). (v' k).digest) o ∙ own-digest)
      digested i l q (no o) =
          let d = f.digests i l (old-slot i o q) in
          (d.0, ap (λ (w : View). w.digest) (c.others i l o) ∙ d.1)

      before : (i : ℕ) → i < n → log_slots g i ≡ true → Dec (i ≡ j) → later (v' i).layout W ≡ false
      before i l q (yes o) =
          ap (λ (K : Layout). later K W) (ap (λ (k : ℕ). (v' k).layout) o ∙ ap (λ (w : View). w.layout) c.own) ∙ later_same W
      before i l q (no o) =
          ap (λ (w : View). later w.layout W) (c.others i l o) ∙ later_trans (v i).layout L W (f.editions i l (old-slot i o q)) up

      whole : (i : ℕ) → i < n → log_slots g i ≡ true → Dec (i ≡ j) → is_damaged (v' i).scan ≡ false
      whole i l q (yes o) = ap (λ (k : ℕ). is_damaged (v' k).scan) o ∙ scanned-undamaged (v' j).scan own-scan
      whole i l q (no o) = ap (λ (w : View). is_damaged w.scan) (c.others i l o) ∙ f.scans i l (old-slot i o q)

  pub new-end : end_of (v' j).scan ≡ digest_size W + length (all_encoded W es)
  new-end = end-scanned (v' j).scan own-scan

-- Where a log slot behind an operation comes from: it is of the edition K of the head then, or it was in the log and is of the edition that
-- it had.
abbrev pub SlotOrigin : Record → (v v' : ℕ → View) → Layout → ℕ → Type 0
SlotOrigin r v v' K i = ((v' i).layout ≡ K) ⊎ ((named r.map i ≡ true) × ((v' i).layout ≡ (v i).layout))

pub heads-slots :
    (W : Layout) (v v' : ℕ → View) (r : Record) (victims : ℕ) (d : Digest) (es : List Entry) → within victims r.map ≡ true → bit r.map (new_slot r) ≡ 0 →
    Heads W v v' r.slots (new_slot r) d es → (i : ℕ) → i < r.slots → named (new_digest r victims).map i ≡ true → SlotOrigin r v v' W i
heads-slots W v v' r victims d es sub clear c i l q = go (ℕ_discrete i (new_slot r))
  where
    go : Dec (i ≡ new_slot r) → SlotOrigin r v v' W i
    go (yes o) = inl (ap (λ (k : ℕ). (v' k).layout) o ∙ ap (λ (w : View). w.layout) c.own)
    go (no o) =
        inr (
          both_left (named r.map i) (not (named victims i)) (sym (new_others r.map victims (new_slot r) sub clear i o) ∙ q),
          ap (λ (w : View). w.layout) (c.others i l o),
        )

-- ---- one entry in a new head, on views

module _ (L W : Layout) (up : later L W ≡ false) (v v' : ℕ → View) (n s m : ℕ) (h : Head) (x : Entry) (f : Sound L v n m h)
    (c : Heads W v v' n (new_slot (record_under L v n s m h)) (new_digest (record_under L v n s m h) 0) (x ∷ [])) where
  -- the old log, the new head, its log, and the entry in its place
  abbrev old : List Placed
  old = log_under v n h

  abbrev headed : Head
  headed = record { slot = new_slot (record_under L v n s m h); digest = new_digest (record_under L v n s m h) 0 }

  abbrev after : List Placed
  after = log_under v' n headed

  abbrev placed : Placed
  placed = record { slot = new_slot (record_under L v n s m h); layout = W; offset = digest_size W; entry = x }

  pub headed-log : Entered old placed after
  unfolding placed_from
  headed-log =
      part-entered [] placed old after
      (subst (λ (l : List Placed). OnePart [] (placed ∷ []) l after)
      (log-same v v (log_slots h) (outside_slots h.digest.map 0) n (λ i l. none-outside h.digest.map i) (λ i l q. (refl, refl)))
      (new-log L W up v v' n s m h 0 (record_under L v n s m h).next (x ∷ []) f (none_within h.digest.map) c))

  module _ (t : Takes (next_version h.digest old) (length (keys_of old)) m old x) where
    above : highest old < x.version
    above = omega (arith, t.version)

    pub headed-sound : used n h.digest.map + 2 ≤ n → Sound W v' n m headed
    headed-sound room =
        new-sound L W up v v' n s m h 0 (record_under L v n s m h).next (x ∷ []) f (none_within h.digest.map) c (omega arith)
        (omega (
          arith,
          used-renewed n h.digest.map 0 (new_slot (record_under L v n s m h)) (none_within h.digest.map)
              (slot-below L W up v v' n s m h 0 (record_under L v n s m h).next (x ∷ []) f (none_within h.digest.map) c)
              (slot-clear L W up v v' n s m h 0 (record_under L v n s m h).next (x ∷ []) f (none_within h.digest.map) c),
        ))
        (entered-versions old placed after headed-log above f.versions)
        (omega (arith, entered-keys old placed after headed-log, t.room))

    pub headed-next : next_version (new_digest (record_under L v n s m h) 0) after ≡ next_version h.digest old + 1
    headed-next = omega (arith, entered-highest old placed after headed-log above, t.version)

    pub headed-record : record_under W v' n s m headed ≡ headed_record W (record_under L v n s m h) old x
    headed-record =
        rw (
          new-end L W up v v' n s m h 0 (record_under L v n s m h).next (x ∷ []) f (none_within h.digest.map) c,
          encoded-one W x,
          length-encoded W x,
          headed-next,
          entered-keys old placed after headed-log,
          entered-counts old placed after headed-log above f.versions,
        )

-- ---- one entry in a new head, on areas

module _ (L W : Layout) (up : later L W ≡ false) (n s m : ℕ) (area area' : List ℕ) (r : Record) (x : Entry) (e : recovered L n s m area ≡ some r)
    (c : Heads W (views_of area s) (views_of area' s) n (new_slot r) (new_digest r 0) (x ∷ [])) where
  pub headed-entered :
      Entered (log_now area r) (record { slot = new_slot r; layout = W; offset = digest_size W; entry = x })
      (log_now area' (headed_record W r (log_now area r) x))
  headed-entered =
      recovered-case L n s m area
      (λ (k : Record).
      Heads W (views_of area s) (views_of area' s) n (new_slot k) (new_digest k 0) (x ∷ [])
      → Entered (log_now area k) (record { slot = new_slot k; layout = W; offset = digest_size W; entry = x })
      (log_now area' (headed_record W k (log_now area k) x)))
      (λ h l f. headed-log L W up (views_of area s) (views_of area' s) n s m h x f) r e c

  pub headed-recovered : length area' ≡ length area → used n r.map + 2 ≤ n
      → Takes r.next.0 r.keys m (log_now area r) x
      → recovered W n s m area' ≡ some (headed_record W r (log_now area r) x)
  headed-recovered same_length =
      recovered-case L n s m area
      (λ (k : Record).
      Heads W (views_of area s) (views_of area' s) n (new_slot k) (new_digest k 0) (x ∷ []) → used n k.map + 2 ≤ n
      → Takes k.next.0 k.keys m (log_now area k) x
      → recovered W n s m area' ≡ some (headed_record W k (log_now area k) x))
      (λ h l f d room t.
      sound-recovered W n s m area' (headed L W up (views_of area s) (views_of area' s) n s m h x f d)
      (subst (Allowed n s m) (sym same_length) l) (headed-sound L W up (views_of area s) (views_of area' s) n s m h x f d t room) ∙
      ap some (headed-record L W up (views_of area s) (views_of area' s) n s m h x f d t)) r e c
