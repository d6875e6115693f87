-- An entry appended to the head: the head stays, the log has the one entry more, and recovery gives the record that the last
-- step gives.
use Rattle.std.specs.Prelude.{ℕ, ◌+◌, ◌-◌, ◌≤◌, ◌<◌, ◌≡◌, refl, true, false, length}
use Rattle.std.proofs.Common.{sym, subst, ◌∙◌, arith}
use Rattle.std.proofs.Math.Path.{ap, ap₂}
use mathlib.Core.List.{List, [], ◌∷◌, ◌++◌}
use Rattle.std.proofs.Math.Option.{some}
use Rattle.std.proofs.Math.Decide.{ℕ_discrete}
use Rattle.segment.specs.Layout.{Layout}
use Rattle.segment.specs.Entry.{Entry, key_of, size_of}
use Rattle.segment.specs.declared.Digest.{Digest}
use Rattle.record.specs.RangeLaws.{map-in}
use Rattle.record.specs.declared.Record.{Record}
use Rattle.model.specs.Log.{View, Head, Item, Placed, scanned, items_of, end_of, is_damaged, placed_in, views_of, keys_of, highest, next_version}
use Rattle.model.specs.Recovery.{later, log_slots, log_under, record_under, recovered}
use Rattle.model.specs.Operations.{log_now, count_new, appended_record}
use Rattle.laws.specs.Editions.{later_same}
use Rattle.laws.specs.HeadLaws.{top-stays}
use Rattle.laws.specs.LogLaws.{part_of, part-picked, part_same, one-slot, OnePart, part-entered, Entered, placed_at, placed-append, entered-versions, entered-highest, entered-keys, scanned-undamaged, items-scanned, end-scanned, alike-view}
use Rattle.laws.specs.Counted.{entered-counts}
use Rattle.laws.specs.RecoverLaws.{Sound, Allowed, sound-recovered, recovered-case}

-- Slot j has the item x more, and its entries now end at e; nothing else has changed.
pub record Appends (v v' : ℕ → View) (n j : ℕ) (x : Item) (e : ℕ) : Type 0 where
  pub others : (i : ℕ) → i < n → (i ≡ j → ⊥) → v' i ≡ v i
  pub layout : (v' j).layout ≡ (v j).layout
  pub digest : (v' j).digest ≡ (v j).digest
  pub scan : (v' j).scan ≡ scanned (items_of (v j).scan ++ x ∷ []) e

-- An entry takes the next version, and its key finds room in the index.
pub record Takes (next keys m : ℕ) (log : List Placed) (x : Entry) : Type 0 where
  pub version : x.version ≡ next
  pub room : keys + count_new log (key_of x) ≤ m - 1

-- ---- on views

module _ (L : Layout) (v v' : ℕ → View) (n m : ℕ) (h : Head) (x : Item) (e : ℕ) (f : Sound L v n m h) (a : Appends v v' n h.slot x e) where
  -- the log before and after, and the entry in its place
  abbrev log : List Placed
  log = log_under v n h

  abbrev after : List Placed
  after = log_under v' n h

  abbrev placed : Placed
  placed = placed_at L h.slot x

  head-named : log_slots h h.slot ≡ true
  head-named = (map-in n h.slot h.digest.map f.map-good).head-named

  own-layout : (v h.slot).layout ≡ L
  own-layout = f.own

  new-part : part_of v' (log_slots h) h.slot ≡ part_of v (log_slots h) h.slot ++ placed ∷ []
  unfolding placed_in
  new-part =
      part-picked v' (log_slots h) h.slot head-named ∙ ap₂ (λ (K : Layout) (is : List Item). placed_in K h.slot is) (a.layout ∙ own-layout) (items-scanned (v' h.slot).scan a.scan) ∙
      placed-append L h.slot (items_of (v h.slot).scan) (x ∷ []) ∙
      ap (λ (K : Layout). placed_in K h.slot (items_of (v h.slot).scan) ++ placed ∷ []) (sym own-layout) ∙
      ap (λ (l : List Placed). l ++ placed ∷ []) (sym (part-picked v (log_slots h) h.slot head-named))

  pub appended-log : Entered log placed after
  appended-log =
      part-entered (part_of v (log_slots h) h.slot) placed log after
      (subst (λ (l : List Placed). OnePart (part_of v (log_slots h) h.slot) l log after) new-part
      (one-slot v v' (log_slots h) (log_slots h) h.slot n f.top.below
      (λ i l o. part_same v v' (log_slots h) (log_slots h) i refl (λ q. alike-view v v' i (a.others i l o)))))

  module _ (t : Takes (next_version h.digest log) (length (keys_of log)) m log x.entry) where
    above : highest log < x.entry.version
    above = omega (arith, t.version)

    pub appended-sound : Sound L v' n m h
    appended-sound =
        record {
          top = top-stays v n h v' (λ i l o d q. ap (λ (w : View). w.digest) (sym (a.others i l o)) ∙ q) a.digest f.top;
          numbered = f.numbered;
          map-good = f.map-good;
          digests = λ i l q. digested i l q (ℕ_discrete i h.slot);
          next-set = f.next-set;
          own = a.layout ∙ f.own;
          editions = λ i l q. before i l q (ℕ_discrete i h.slot);
          scans = λ i l q. whole i l q (ℕ_discrete i h.slot);
          versions = entered-versions log placed after appended-log above f.versions;
          keys = omega (arith, entered-keys log placed after appended-log, t.room);
        }
      where
        digested : (i : ℕ) → i < n → log_slots h i ≡ true → Dec (i ≡ h.slot) → (d : Digest) × ((v' i).digest ≡ some d)
        digested i l q (yes o) = (h.digest, ap (λ (k : ℕ). (v' k).digest) o ∙ a.digest ∙ f.top.own)
        digested i l q (no o) = let d = f.digests i l q in (d.0, ap (λ (w : View). w.digest) (a.others i l o) ∙ d.1)

        before : (i : ℕ) → i < n → log_slots h i ≡ true → Dec (i ≡ h.slot) → later (v' i).layout L ≡ false
        before i l q (yes o) = ap (λ (K : Layout). later K L) (ap (λ (k : ℕ). (v' k).layout) o ∙ a.layout ∙ f.own) ∙ later_same L
        before i l q (no o) = ap (λ (w : View). later w.layout L) (a.others i l o) ∙ f.editions i l q

        whole : (i : ℕ) → i < n → log_slots h i ≡ true → Dec (i ≡ h.slot) → is_damaged (v' i).scan ≡ false
        whole i l q (yes o) = ap (λ (k : ℕ). is_damaged (v' k).scan) o ∙ scanned-undamaged (v' h.slot).scan a.scan
        whole i l q (no o) = ap (λ (w : View). is_damaged w.scan) (a.others i l o) ∙ f.scans i l q

    pub appended-next : next_version h.digest after ≡ next_version h.digest log + 1
    appended-next = omega (arith, entered-highest log placed after appended-log above, t.version)

    pub appended-record : (s : ℕ) → e ≡ end_of (v h.slot).scan + size_of L x.entry
        → record_under L v' n s m h ≡ appended_record L (record_under L v n s m h) log x.entry
    appended-record s q =
        rw (end-scanned (v' h.slot).scan a.scan, q, appended-next, entered-keys log placed after appended-log, entered-counts log placed after appended-log above f.versions)

-- ---- on areas

module _ (L : Layout) (n s m : ℕ) (area area' : List ℕ) (r : Record) (x : Item) (e : recovered L n s m area ≡ some r)
    (a : Appends (views_of area s) (views_of area' s) n r.head x (r.end + size_of L x.entry)) where
  pub appended-entered :
      Entered (log_now area r) (placed_at L r.head x) (log_now area' (appended_record L r (log_now area r) x.entry))
  appended-entered =
      recovered-case L n s m area
      (λ (k : Record).
      Appends (views_of area s) (views_of area' s) n k.head x (k.end + size_of L x.entry)
      → Entered (log_now area k) (placed_at L k.head x) (log_now area' (appended_record L k (log_now area k) x.entry)))
      (λ h l f b.
      appended-log L (views_of area s) (views_of area' s) n m h x (end_of (views_of area s h.slot).scan + size_of L x.entry) f b)
      r e a

  pub appended-recovered : length area' ≡ length area
      → Takes r.next.0 r.keys m (log_now area r) x.entry
      → recovered L n s m area' ≡ some (appended_record L r (log_now area r) x.entry)
  appended-recovered same_length =
      recovered-case L n s m area
      (λ (k : Record).
      Appends (views_of area s) (views_of area' s) n k.head x (k.end + size_of L x.entry)
      → Takes k.next.0 k.keys m (log_now area k) x.entry
      → recovered L n s m area' ≡ some (appended_record L k (log_now area k) x.entry))
      (λ h l f b t.
      let end = end_of (views_of area s h.slot).scan + size_of L x.entry in
      sound-recovered L n s m area' h (subst (Allowed n s m) (sym same_length) l)
      (appended-sound L (views_of area s) (views_of area' s) n m h x end f b t) ∙
      ap some (appended-record L (views_of area s) (views_of area' s) n m h x end f b t s refl))
      r e a
