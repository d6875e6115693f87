-- All the laws that the promise about cuts needs, for every layout.
use Rattle.std.specs.Prelude.{ℕ, ◌+◌, ◌-◌, ◌*◌, ◌≤◌, ◌<◌, ◌≡◌, Bool, List, [], ◌∷◌, eqb, ltb, length, take, drop}
use Rattle.std.proofs.Common.{arith, sym, ◌∙◌, subst, lit<, ltb-true}
use Rattle.std.proofs.Math.Path.{refl, ap}
use Rattle.std.proofs.Math.Bool.{true, false}
use Rattle.std.proofs.Math.Option.{Option, none, some}
use Rattle.std.proofs.Math.Seq.{take-length}
use Rattle.segment.specs.Choice.{pick, both, is_none}
use Rattle.segment.proofs.Choice.{pick_true, pick-false, both_left, both_right}
use Rattle.segment.proofs.Packed.{field_at}
use Rattle.segment.specs.declared.Edition.TheVariants.{First, Second}
use Rattle.segment.specs.Layout.{Layout, edition1, edition2, lookup, value_length, digest_size, entry_size, table}
use Rattle.segment.specs.Digest.{layout_in}
use Rattle.segment.specs.Entry.{Entry, is_tombstone, bytes_in, size_of, entry_at, entry}
use Rattle.segment.specs.EntryLaws.{Readable}
use Rattle.segment.proofs.EntryLaws.{found-readable, found-bytes}
use Rattle.segment.specs.declared.Key.{Key}
use Rattle.segment.specs.declared.Version.{Version}
use Rattle.slot_map.specs.Bit.{named}
use Rattle.slot_map.proofs.NextLaws.{next-clear}
use Rattle.record.specs.RangeLaws.{Lent, lent-switched}
use Rattle.record.specs.Switch.{new_layout, unswitched}
use Rattle.record.specs.declared.Record.{Record}
use Rattle.model.specs.Log.{View, Placed, place_of, scan, scanned, segment_of, views_of, present, latest, object_only, same_key}
use Rattle.model.specs.Recovery.{recovered, record_from}
use Rattle.model.specs.Operations.{Operation, write, delete, clean, log_now, written_entry, tombstone_entry, fits_head, no_room, new_slot, digest_with, new_digest, kept, all_encoded, placed_from, Laid, laid_entry, laid_forget, laid_delete, laid, plan_of, stored, appended_record, headed_record, entry_record, renewed_record, forgotten_record, deleted_record, finished_record}
use Rattle.model.specs.Promises.{part_of, value_part}
use Rattle.laws.specs.Members.{In}
use Rattle.laws.specs.Latest.{latest-some}
use Rattle.laws.specs.Versions.{shared-apart}
use Rattle.laws.specs.MapLaws.{value_at, gives, Cleaned, log-clean}
use Rattle.laws.specs.Stores.{length-stored, slot-inside, length-segment}
use Rattle.laws.specs.Scans.{items_from}
use Rattle.laws.specs.NewHeadBytes.{head_plan, new-head-other, new-head-view}
use Rattle.laws.specs.FormatBytes.{bytes-formatted}
use Rattle.laws.specs.Fresh.{format-recovers, format-log}
use Rattle.laws.specs.LogLaws.{log-in}
use Rattle.laws.specs.RecoverLaws.{recovered-case, recovered-fits, recovered-holds, recovered-above, recovered-more, placed-found}
use Rattle.laws.specs.Headed.{Heads, SlotOrigin, heads-slots}
use Rattle.laws.specs.Cleaned.{cleaned-cleaned, cleaned-recovered}
use Rattle.laws.specs.Operated.{Accepted, plan_at, map_after, OperationLaws}
use Rattle.laws.specs.Entering.{Roomy, write-enters, delete-enters}
use Rattle.laws.specs.Planned.{planned, new-below, new-map-fits, prefix-stays, prefix-layout, prefix-bytes, plan-stores, plan-most, plan-fits}
use Rattle.laws.specs.EntryDone.{entry_done, entry-slots}
use Rattle.laws.specs.Cleanings.{Cleaning, clean-cleans, forget-value, forget-cleans}

-- ---- a finished cleaning, also one that deletes

module _ (L W : Layout) (before : List ℕ) (idle : Record) (victims : ℕ) (next : Version) (stand : List Placed)
    (c : Cleaning L W before idle victims next stand) where
  facts : Lent L idle (length before) idle.cells
  facts = lent-switched idle (recovered-holds L idle.slots idle.size idle.cells before (unswitched idle) c.recovers)

  abbrev clean-plan : List (ℕ × ℕ)
  clean-plan = head_plan W idle.size (new_slot idle) (digest_with idle victims next) (kept victims stand)

  views :
      Heads W (views_of before idle.size) (views_of (stored before clean-plan) idle.size) idle.slots (new_slot idle)
      (digest_with idle victims next) (kept victims stand)
  views =
      record {
        others =
            λ i l o.
            new-head-other W idle.size (new_slot idle) before (digest_with idle victims next) (kept victims stand) c.room i o;
        own =
            new-head-view W (digest_with idle victims next) (kept victims stand) c.number-left
            (new-map-fits L before idle c.recovers victims c.sub) c.next_fits c.formed
            idle.slots idle.size (new_slot idle) before facts.area-own (new-below L before idle c.recovers) c.room;
      }

  -- the new head holds what is kept
  pub clean-layout : layout_in (segment_of (stored before clean-plan) idle.size (new_slot idle)) ≡ W
  clean-layout = ap (λ (w : View). w.layout) views.own

  pub clean-scan :
      scan W (segment_of (stored before clean-plan) idle.size (new_slot idle)) ≡
      scanned (items_from W (digest_size W) (kept victims stand)) (digest_size W + length (all_encoded W (kept victims stand)))
  clean-scan =
      ap (λ (K : Layout). scan K (segment_of (stored before clean-plan) idle.size (new_slot idle))) (sym (ap (λ (w : View). w.layout) views.own))
      ∙ ap (λ (w : View). w.scan) views.own

  -- What stood outside the victims, and what was kept, in its new place; a slot that is no new head's is as it was.
  pub clean-cleaned :
      Cleaned victims stand (placed_from W (new_slot idle) (digest_size W) (kept victims stand))
      (log_now (stored before clean-plan) (renewed_record W before idle victims (kept victims stand) next))
  clean-cleaned =
      cleaned-cleaned L W c.up idle.slots idle.size idle.cells before (stored before clean-plan) (unswitched idle) victims next stand
      c.recovers c.sub c.stands views

  pub clean-others : (i : ℕ) → i < idle.slots → (i ≡ new_slot idle → ⊥) → views_of (stored before clean-plan) idle.size i ≡ views_of before idle.size i
  clean-others = views.others

  -- Recovery gives the record of 01's formulas, and the map is that of the log by which the cleaning went.
  pub clean-done :
      (recovered W idle.slots idle.size idle.cells (stored before clean-plan) ≡
      some (unswitched (renewed_record W before idle victims (kept victims stand) next)))
      × ((j : Key) →
      value_at (log_now (stored before clean-plan) (renewed_record W before idle victims (kept victims stand) next)) j ≡ value_at stand j)
  clean-done = (
    cleaned-recovered L W c.up idle.slots idle.size idle.cells before (stored before clean-plan) (unswitched idle) victims next stand c.recovers
        c.sub c.stands views (length-stored before clean-plan) c.some-victim,
    log-clean victims stand (placed_from W (new_slot idle) (digest_size W) (kept victims stand))
        (log_now (stored before clean-plan) (renewed_record W before idle victims (kept victims stand) next))
        clean-cleaned (shared-apart stand c.stands.versions),
  )

  -- Each log slot then is of the new head's edition, or is one of before as it was.
  pub clean-slots :
      (i : ℕ) → i < idle.slots → named (new_digest idle victims).map i ≡ true →
      SlotOrigin idle (views_of before idle.size) (views_of (stored before clean-plan) idle.size) W i
  clean-slots =
      heads-slots W (views_of before idle.size) (views_of (stored before clean-plan) idle.size) idle victims (digest_with idle victims next) (kept victims stand)
      c.sub (next-clear idle.slots idle.map idle.head facts.head-below facts.some-free) views

-- ---- the three operations

gives-object : (e : Entry) → is_tombstone e ≡ false → gives e ≡ some e
unfolding gives
gives-object e t = pick-false (is_tombstone e) none (some e) t

gives-tombstone : (e : Entry) → is_tombstone e ≡ true → gives e ≡ none
unfolding gives
gives-tombstone e t = pick_true (is_tombstone e) none (some e) t

module _ (L : Layout) (roomy : (K : Layout) → Roomy K) (before : List ℕ) (idle : Record) where
  abbrev Finishes : Operation → Type 0
  Finishes o =
      (recovered (finished_record L before idle o).edition idle.slots idle.size idle.cells (stored before (plan_at L before idle o)) ≡
      some (unswitched (finished_record L before idle o)))
      × ((j : Key) →
      value_at (log_now (stored before (plan_at L before idle o)) (finished_record L before idle o)) j ≡
      map_after idle o (value_at (log_now before idle)) j)

  -- a delete, by whether its tombstone finds room
  finishes-delete : (k : Key) → Accepted L before idle (delete k) → Finishes (delete k)
  unfolding laid finished_record map_after plan_of is_none pick
  finishes-delete k a = go (no_room L idle (entry_size L 0)) refl
    where
      x : Entry
      x = tombstone_entry idle k

      shape : Laid → Record → Type 0
      shape l r =
          (recovered r.edition idle.slots idle.size idle.cells (stored before (plan_of idle (l.pending 0) l.bytes)) ≡ some (unswitched r))
          × ((j : Key) →
          value_at (log_now (stored before (plan_of idle (l.pending 0) l.bytes)) r) j ≡ pick (same_key j x) none (value_at (log_now before idle) j))

      go : (t : Bool) → no_room L idle (entry_size L 0) ≡ t →
          shape (pick t (laid_forget (new_layout idle) idle (log_now before idle) k) (laid_entry L idle x))
          (pick t (forgotten_record (new_layout idle) before idle k) (entry_record L idle (log_now before idle) x))
      go true full =
          let done = clean-done L (new_layout idle) before idle _ _ _ (forget-cleans L before idle k a full) in
          (done.0, λ j. done.1 j ∙ forget-value L before idle k a j)
      go false room =
          let done = entry_done L before idle x a.recovers a.area-bytes (delete-enters L before idle k a room) (roomy (new_layout idle)) in (
            done.0,
            λ j.
                done.1 j ∙
                ap (λ (y : Option Entry). pick (same_key j x) y (value_at (log_now before idle) j)) (gives-tombstone x refl),
          )

  pub finishes : (o : Operation) → Accepted L before idle o → Finishes o
  unfolding laid finished_record map_after plan_of is_none
  finishes (write k value) a =
      let x = written_entry idle k value in
      let f = write-enters L before idle k value a in
      let done = entry_done L before idle x a.recovers a.area-bytes f (roomy (new_layout idle)) in (
        done.0,
        λ j.
            done.1 j ∙
            ap (λ (y : Option Entry). pick (same_key j x) y (value_at (log_now before idle) j)) (gives-object x refl),
      )
  finishes (delete k) a = finishes-delete k a
  finishes (clean victims) a = clean-done L (new_layout idle) before idle _ _ _ (clean-cleans L before idle victims a)

  -- whose log slots are of the edition that the head then has, or are those of before as they were
  abbrev Slots : Laid → Record → Type 0
  Slots l r =
      (i : ℕ) → i < idle.slots → named r.map i ≡ true →
      SlotOrigin idle (views_of before idle.size) (views_of (stored before (plan_of idle (l.pending 0) l.bytes)) idle.size) r.edition i

  slots-delete : (k : Key) → Accepted L before idle (delete k) → Slots (laid_delete L idle (log_now before idle) k) (deleted_record L before idle k)
  unfolding plan_of pick
  slots-delete k a = go (no_room L idle (entry_size L 0)) refl
    where
      go : (t : Bool) → no_room L idle (entry_size L 0) ≡ t →
          Slots (pick t (laid_forget (new_layout idle) idle (log_now before idle) k) (laid_entry L idle (tombstone_entry idle k)))
          (pick t (forgotten_record (new_layout idle) before idle k) (entry_record L idle (log_now before idle) (tombstone_entry idle k)))
      go true full = clean-slots L (new_layout idle) before idle _ _ _ (forget-cleans L before idle k a full)
      go false room =
          entry-slots L before idle (tombstone_entry idle k) a.recovers a.area-bytes (delete-enters L before idle k a room) (roomy (new_layout idle))

  pub slots : (o : Operation) → Accepted L before idle o → Slots (laid L idle (log_now before idle) o) (finished_record L before idle o)
  unfolding laid finished_record plan_of
  slots (write k value) a =
      entry-slots L before idle (written_entry idle k value) a.recovers a.area-bytes (write-enters L before idle k value a) (roomy (new_layout idle))
  slots (delete k) a = slots-delete k a
  slots (clean victims) a = clean-slots L (new_layout idle) before idle _ _ _ (clean-cleans L before idle victims a)

-- a delete takes the next version, whether or not an entry comes to have it
pub deleted-next : (L : Layout) (before : List ℕ) (idle : Record) (k : Key) → (finished_record L before idle (delete k)).next.0 ≡ idle.next.0 + 1
unfolding finished_record pick
deleted-next L before idle k = go (no_room L idle (entry_size L 0)) (fits_head L idle (tombstone_entry idle k))
  where
    go : (full fits : Bool) →
        (pick full (forgotten_record (new_layout idle) before idle k)
        (pick fits (appended_record L idle (log_now before idle) (tombstone_entry idle k))
        (headed_record (new_layout idle) idle (log_now before idle) (tombstone_entry idle k)))).next.0 ≡ idle.next.0 + 1
    go true fits = refl
    go false true = refl
    go false false = refl

-- ---- reading a recovered log

-- a present entry is one of the log
pub present-in : (log : List Placed) (k : Key) (x : Placed) → present log k ≡ some x → In x log
unfolding present object_only pick
present-in log k x e = go (latest log k) refl e
  where
    go : (y : Option Placed) → latest log k ≡ y → object_only y ≡ some x → In x log
    go none p q = let z : ◌≡◌ {A = ℕ} 0 1 = cc in absurd (omega arith)
    go (some y) p q = by_kind (is_tombstone y.entry) q
      where
        by_kind : (t : Bool) → pick t none (some y) ≡ some x → In x log
        by_kind true r = let z : ◌≡◌ {A = ℕ} 0 1 = cc in absurd (omega arith)
        by_kind false r = subst (λ (w : Placed). In w log) (same r) (latest-some log k y p).member
          where
            same : ◌≡◌ {A = Option Placed} (some y) (some x) → y ≡ x
            same c = cc

-- an entry of the log stands in its segment
log-found :
    (L : Layout) (n s m : ℕ) (area : List ℕ) (r : Record) → recovered L n s m area ≡ some r → (x : Placed) → In x (log_now area r) →
    (x.slot < n) × (entry_at x.layout (segment_of area s x.slot) x.offset ≡ entry x.entry)
log-found L n s m area r e x =
    recovered-case L n s m area
    (λ (k : Record). In x (log_now area k) → (x.slot < n) × (entry_at x.layout (segment_of area s x.slot) x.offset ≡ entry x.entry))
    (λ h l f i.
    ((log-in (views_of area s) (named h.digest.map) n x i).below, placed-found L n s m area h f x i)) r e

-- the value of an entry that stands in a segment is a part of the area
value_there :
    (area : List ℕ) (s : ℕ) (x : Placed) → length (segment_of area s x.slot) ≡ s →
    entry_at x.layout (segment_of area s x.slot) x.offset ≡ entry x.entry → part_of area (value_part s (some x)) ≡ bytes_in x.entry.value
unfolding value_part
value_there area s x long e =
    ap (λ (p : ℕ). take (length (bytes_in x.entry.value)) (drop p area)) place ∙
    sym (field_at (length (bytes_in x.entry.value)) (x.offset + (7 + (table x.layout).width)) s (x.slot * s) area (omega (arith, there.fits, long))) ∙
    sym
    (field_at (length (bytes_in x.entry.value)) (7 + (table x.layout).width) (size_of x.layout x.entry) x.offset (segment_of area s x.slot) (omega arith)) ∙
    ap (take (length (bytes_in x.entry.value))) value ∙ take-length (bytes_in x.entry.value)
  where
    there : Readable x.layout (segment_of area s x.slot) x.offset x.entry
    there = found-readable x.layout (segment_of area s x.slot) x.offset x.entry e

    value : drop (7 + (table x.layout).width) (take (size_of x.layout x.entry) (drop x.offset (segment_of area s x.slot))) ≡ bytes_in x.entry.value
    value = found-bytes x.layout (segment_of area s x.slot) x.offset x.entry e

    place : place_of s x + entry_size x.layout 0 ≡ x.slot * s + (x.offset + (7 + (table x.layout).width))
    place = omega arith

-- ---- together

pub operation-laws : (L : Layout) → ((K : Layout) → Roomy K) → OperationLaws L
operation-laws L roomy =
    record {
      prefix-recovers = λ before idle o a k h. (prefix-stays L before idle a.recovers (new_layout idle) _ _ (planned L before idle (roomy (new_layout idle)) o a) k h).0;
      prefix-log = λ before idle o a k h. (prefix-stays L before idle a.recovers (new_layout idle) _ _ (planned L before idle (roomy (new_layout idle)) o a) k h).1;
      plan-bytes = λ before idle o a k. prefix-bytes L before idle a.recovers (new_layout idle) _ _ (planned L before idle (roomy (new_layout idle)) o a) a.area-bytes k;
      finish-recovers = λ before idle o a. (finishes L roomy before idle o a).0;
      finish-map = λ before idle o a. (finishes L roomy before idle o a).1;
      finish-slots = λ before idle o a. slots L roomy before idle o a;
      prefix-slots =
          λ before idle o a k h i q.
          prefix-layout L before idle a.recovers (new_layout idle) _ _ (planned L before idle (roomy (new_layout idle)) o a) k h i q;
      some-stores = λ before idle o a. plan-stores L before idle a.recovers (new_layout idle) _ _ (planned L before idle (roomy (new_layout idle)) o a);
      few-stores = λ before idle o a. plan-most L before idle a.recovers (new_layout idle) _ _ (planned L before idle (roomy (new_layout idle)) o a);
      bytes_fit = λ before idle o a. plan-fits L before idle a.recovers (new_layout idle) _ _ (planned L before idle (roomy (new_layout idle)) o a);
      own-lengths = λ n s m area r ab e. recovered-fits L n s m area r e ab;
      more-cells = λ n s m k area e good l. recovered-more L n s m k area (record_from L n s m area) e good l;
      version_below =
          λ area r e k x p.
          recovered-above L r.slots r.size r.cells area r e x (present-in (log_now area r) k x p);
      value-part =
          λ area r ab e k x p.
          let found = log-found L r.slots r.size r.cells area r e x (present-in (log_now area r) k x p) in
          value_there area r.size x
          (length-segment area r.size x.slot
          (slot-inside area r.slots r.size x.slot (recovered-holds L r.slots r.size r.cells area r e).area-own found.0))
          found.1;
      format-bytes = λ n s area ab. bytes-formatted L n s area ab;
      format-recovers = λ n s m area g c. format-recovers L (roomy L) n s area g m c;
      format-log = λ n s m area g. format-log L (roomy L) n s area g m;
    }

-- ---- a table of kinds

-- whether a value of each length in a table has room in the smallest segment behind so many other bytes
unfoldable fitting : ℕ → List (ℕ × ℕ) → Bool
fitting before [] = true
fitting before (p ∷ ps) = both (ltb (before + p.1) 257) (fitting before ps)

table_fits : (before : ℕ) (ps : List (ℕ × ℕ)) → fitting before ps ≡ true → (k n : ℕ) → lookup k ps ≡ some n → before + n ≤ 256
unfolding fitting lookup pick
table_fits before [] f k n e = let z : ◌≡◌ {A = ℕ} 0 1 = cc in absurd (omega arith)
table_fits before (p ∷ ps) f k n e = go (eqb k p.0) e (table_fits before ps (both_right (ltb (before + p.1) 257) (fitting before ps) f) k n)
  where
    first : before + p.1 < 257
    first = ltb-true (before + p.1) 257 (both_left (ltb (before + p.1) 257) (fitting before ps) f)

    go : (t : Bool) → pick t (some p.1) (lookup k ps) ≡ some n → (lookup k ps ≡ some n → before + n ≤ 256) → before + n ≤ 256
    go true q rest = let same : p.1 ≡ n = cc in omega (arith, first)
    go false q rest = rest q

-- a tombstone's value has no bytes
table-roomy : (L : Layout) → 0 < (table L).width → fitting (digest_size L + entry_size L 0) (((table L).tombstone_kind, 0) ∷ (table L).objects) ≡ true → Roomy L
unfolding value_length lookup
table-roomy L w f =
    record {
      wide = w;
      room =
          λ k n e. let h = table_fits (digest_size L + entry_size L 0) (((table L).tombstone_kind, 0) ∷ (table L).objects) f k n e in omega (arith, h);
    }

-- ---- either edition

-- the longest entry, 131 or 135 bytes, fits behind a digest in the smallest segment
pub edition-roomy : (L : Layout) → Roomy L
unfolding table fitting both
edition-roomy First = table-roomy edition1 (lit< tt) refl
edition-roomy Second = table-roomy edition2 (lit< tt) refl

pub edition-laws : (L : Layout) → OperationLaws L
edition-laws L = operation-laws L edition-roomy
