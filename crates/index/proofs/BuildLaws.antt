-- Laws of: Rebuilding the index of an undamaged log gives the index rule and the number of keys, or finds too many, whatever the order.
use Rattle.std.specs.Prelude.{ℕ, zero, suc, ◌+◌, ◌*◌, ◌-◌, ◌^◌, ◌≤◌, ◌<◌, ◌≡◌, ◌⊎◌, Bool, eqb, leb, length, Some, None}
use Rattle.std.proofs.Math.Path.{refl, ap}
use Rattle.std.proofs.Common.{sym, ◌∙◌, subst, inl, inr, arith}
use Rattle.std.proofs.Math.Bool.{true, false}
use mathlib.Core.List.Memᴰ
use mathlib.Core.List.{List, [], ◌∷◌}
use Rattle.std.proofs.Math.Decide.{ℕ_discrete}
use Rattle.std.proofs.Math.Nat.{mul-le-mul_right, suc-mul}
use Rattle.std.proofs.Math.ListN.{replicate}
use borrow.Author.Tests.{le-leb, eqb-true, ltb-true, ltb-false, not-false}
use Rattle.segment.specs.Choice.{pick, both, either}
use Rattle.segment.proofs.Choice.{pick_true, pick-false, both_left, both_right, both_true}
use Rattle.segment.specs.Layout.{Layout, entry_size, digest_size, table, edition1}
use Rattle.segment.proofs.AreaLaws.{entry_place, place-layout}
use Rattle.segment.specs.Entry.{Entry, bytes_in, entry, entry_at, size_of}
use Rattle.segment.specs.EntryLaws.{decoded_at}
use Rattle.segment.proofs.EntryLaws.{decoded-at, found-fits, found-readable}
use Rattle.slot_map.specs.Bit.{named}
use Rattle.slot_map.proofs.BitLaws.{named-true, set_below}
use Rattle.model.specs.Log.{Item, Placed, segment_of, views_of, items_of, log_of, keys_of, version_shared, placed_in}
use Rattle.model.specs.Recovery.{lists, lists_below, order_bad, keys_bad}
use Rattle.laws.specs.Members.{In, Within, Same}
use Rattle.laws.specs.Versions.{shared-apart}
use Rattle.laws.specs.LogLaws.{AllScanned, item_of, placed-mem, mem-placed, in-log, log-in, scan-whole}
use Rattle.laws.specs.Scans.{scan-scans, scans-found}
use Rattle.index.specs.Area.{InArea, AllIn}
use Rattle.index.specs.Search.{most_cells}
use Rattle.index.proofs.SearchLaws.{version-whole}
use Rattle.index.specs.Insert.{Tally, counted, over, insert_all}
use Rattle.index.specs.InsertLaws.{Tells}
use Rattle.index.proofs.InsertLaws.{tells-log}
use Rattle.index.specs.Build.{entries_at, in_log, slot_entries, listed, finished, built, Built}
use Rattle.index.proofs.Entries.{entries-scan}
use Rattle.segment.specs.Digest.{layout_in}
use Rattle.segment.specs.declared.Edition.TheVariants.{First, Second}
use Rattle.index.specs.BuildLaws.{Holds, log_in}

-- ---- an entry that is found in a slot stands in the area

-- no entry is shorter than a tombstone of edition 1
shortest : (L : Layout) → entry_size edition1 0 ≤ entry_size L 0
unfolding table
shortest First = omega arith
shortest Second = omega arith

module _ (L : Layout) (area : List ℕ) (S i at : ℕ) (e : Entry) (found : entry_at L (segment_of area S i) at ≡ entry e) where
  there : entry_at L area (i * S + at) ≡ entry e
  there = entry_place S area i at L e found

  fields : decoded_at L area (i * S + at) (length (bytes_in e.value)) ≡ e
  fields = sym (decoded-at L area (i * S + at) (length (bytes_in e.value))) ∙ (found-readable L area (i * S + at) e there).same

  whole : i * S + at + size_of L e ≤ length area
  whole = found-fits L area (i * S + at) e there

  pub found-in-area : InArea area S (record { slot = i; layout = L; offset = at; entry = e })
  found-in-area =
      record {
        fits = omega (arith, whole, shortest L);
        table-there = ap (λ (x : Entry). x.table) fields;
        key-there = ap (λ (x : Entry). x.key) fields;
        version-there =
            sym (version-whole area (i * S + at) L (sym (place-layout S area i at L e found)) (entry_size L 0) refl (omega (arith, whole)) (omega (arith, whole)))
            ∙ ap (λ (x : Entry). x.version) fields;
      }

-- ---- members of an order list

listed_in : (order : List ℕ) (i : ℕ) → lists order i ≡ true → In i order
unfolding lists either
listed_in [] i e = let z : ◌≡◌ {A = ℕ} 0 1 = cc in absurd (omega arith)
listed_in (x ∷ order) i e = go (eqb x i) refl e (λ d. listed_in order i d)
  where
    go : (t : Bool) → eqb x i ≡ t → either t (lists order i) ≡ true → (lists order i ≡ true → In i order) → In i (x ∷ order)
    go true p d ih = Memᴰ.head (sym (eqb-true x i p))
    go false p d ih = Memᴰ.tail (ih d)

pub below-listed : (order : List ℕ) (n : ℕ) → lists_below order n ≡ true → (i : ℕ) → i < n → lists order i ≡ true
unfolding lists_below
below-listed order zero e i h = absurd (omega arith)
below-listed order (suc n) e i h = go (ℕ_discrete i n) (λ l. below-listed order n (both_left (lists_below order n) (lists order n) e) i l)
  where
    go : Dec (i ≡ n) → (i < n → lists order i ≡ true) → lists order i ≡ true
    go (yes p) ih = ap (lists order) p ∙ both_right (lists_below order n) (lists order n) e
    go (no p) ih = ih (omega arith)

pub all_listed : (order : List ℕ) (n : ℕ) → ((i : ℕ) → i < n → lists order i ≡ true) → lists_below order n ≡ true
unfolding lists_below
all_listed order zero h = refl
all_listed order (suc n) h = both_true (lists_below order n) (lists order n) (all_listed order n (λ i l. h i (omega arith))) (h n (omega arith))

pub order-lists : (n : ℕ) (order : List ℕ) → order_bad n order ≡ false → (i : ℕ) → i < n → In i order
order-lists n order e i h =
    listed_in order i
    (below-listed order n (both_right (eqb (length order) n) (lists_below order n) (not-false (both (eqb (length order) n) (lists_below order n)) e)) i h)

-- ---- the entries of the slots of an order list are those of the log

module _ (area : List ℕ) (S map : ℕ) where
  -- from a slot of the list, and to one
  listed-from : (order : List ℕ) (x : Placed) → In x (listed area S map order) → (i : ℕ) × (in_log (length area) S map i ≡ true) × In x (slot_entries (layout_in (segment_of area S i)) area S i)
  unfolding listed
  listed-from [] x m = absurd (Memᴰ.not-nil m)
  listed-from (i ∷ order) x m =
      go (in_log (length area) S map i) refl (Memᴰ.append_cases (pick (in_log (length area) S map i) (slot_entries (layout_in (segment_of area S i)) area S i) []) m) (λ r. listed-from order x r)
    where
      go : (t : Bool) → in_log (length area) S map i ≡ t → In x (pick (in_log (length area) S map i) (slot_entries (layout_in (segment_of area S i)) area S i) []) ⊎ In x (listed area S map order) →
          (In x (listed area S map order) → (j : ℕ) × (in_log (length area) S map j ≡ true) × In x (slot_entries (layout_in (segment_of area S j)) area S j)) →
          (j : ℕ) × (in_log (length area) S map j ≡ true) × In x (slot_entries (layout_in (segment_of area S j)) area S j)
      go true e (inl p) ih = (i, e, rw (pick_true (in_log (length area) S map i) (slot_entries (layout_in (segment_of area S i)) area S i) [] e) at p)
      go false e (inl p) ih = absurd (Memᴰ.not-nil (rw (pick-false (in_log (length area) S map i) (slot_entries (layout_in (segment_of area S i)) area S i) [] e) at p))
      go t e (inr r) ih = ih r

  listed-to : (order : List ℕ) (i : ℕ) → In i order → in_log (length area) S map i ≡ true → (x : Placed) → In x (slot_entries (layout_in (segment_of area S i)) area S i) → In x (listed area S map order)
  unfolding listed
  listed-to [] i p e x m = elim p [ ]
  listed-to (j ∷ order) i (Memᴰ.head q) e x m =
      Memᴰ.append_left (listed area S map order)
      (subst (λ (k : ℕ). In x (pick (in_log (length area) S map k) (slot_entries (layout_in (segment_of area S k)) area S k) [])) q
      (rw (pick_true (in_log (length area) S map i) (slot_entries (layout_in (segment_of area S i)) area S i) [] e) m))
  listed-to (j ∷ order) i (Memᴰ.tail r) e x m =
      Memᴰ.append_right (pick (in_log (length area) S map j) (slot_entries (layout_in (segment_of area S j)) area S j) []) (listed-to order i r e x m)

  -- n slots of S bytes, and a map of slots below n whose segments are undamaged
  module _ (n : ℕ) (long : length area ≡ n * S) (below : map < 2 ^ n)
      (scans : AllScanned (views_of area S) (named map) n) where
    slot-below : (i : ℕ) → named map i ≡ true → i < n
    slot-below i e = set_below n map i below (named-true map i e)

    in-log-named : (i : ℕ) → in_log (length area) S map i ≡ true → named map i ≡ true
    unfolding in_log
    in-log-named i e = both_left (named map i) (leb (i * S + S) (length area)) e

    named-in-log : (i : ℕ) → named map i ≡ true → in_log (length area) S map i ≡ true
    unfolding in_log
    named-in-log i e =
        both_true (named map i) (leb (i * S + S) (length area)) e
        (le-leb (i * S + S) (length area) (omega (arith, mul-le-mul_right S (slot-below i e), suc-mul i S)))

    slot-scan : (i : ℕ) → named map i ≡ true
        → entries_at (layout_in (segment_of area S i)) (segment_of area S i) (digest_size (layout_in (segment_of area S i))) ≡ items_of (views_of area S i).scan
    slot-scan i e = entries-scan (layout_in (segment_of area S i)) (segment_of area S i) (scans i (slot-below i e) e)

    pub listed-log : (order : List ℕ) → order_bad n order ≡ false → Same (listed area S map order) (log_of (views_of area S) (named map) n)
    listed-log order ob = record { to = to; from = from }
      where
        to : Within (listed area S map order) (log_of (views_of area S) (named map) n)
        to x m = go (listed-from order x m)
          where
            go : (i : ℕ) × (in_log (length area) S map i ≡ true) × In x (slot_entries (layout_in (segment_of area S i)) area S i) → In x (log_of (views_of area S) (named map) n)
            go (i, e, p) =
                let q = in-log-named i e in
                let K = layout_in (segment_of area S i) in
                let w = mem-placed K i x (entries_at K (segment_of area S i) (digest_size K)) p in
                in-log (views_of area S) (named map) n x
                (record {
                  below = omega (arith, w.slot, slot-below i q);
                  picked = ap (named map) w.slot ∙ q;
                  layout = w.layout ∙ ap (λ (j : ℕ). (views_of area S j).layout) (sym w.slot);
                  item =
                      subst (λ (j : ℕ). In (item_of x) (items_of (views_of area S j).scan)) (sym w.slot)
                      (subst (λ (is : List Item). In (item_of x) is) (slot-scan i q) w.item);
                })

        from : Within (log_of (views_of area S) (named map) n) (listed area S map order)
        from x m =
            let w = log-in (views_of area S) (named map) n x m in
            listed-to order x.slot (order-lists n order ob x.slot w.below) (named-in-log x.slot w.picked) x
            (subst (λ (K : Layout). In x (placed_in K x.slot (entries_at (layout_in (segment_of area S x.slot)) (segment_of area S x.slot) (digest_size (layout_in (segment_of area S x.slot))))))
            w.layout (placed-mem x.layout x.slot (subst (λ (is : List Item). In (item_of x) is) (sym (slot-scan x.slot w.picked)) w.item)))

-- ---- the entries of an undamaged log stand in the area

-- an entry of the log is read where it stands, by the edition of its slot
pub log-reads :
    (area : List ℕ) (S : ℕ) (p : ℕ → Bool) (n : ℕ) → AllScanned (views_of area S) p n → (x : Placed) → In x (log_of (views_of area S) p n) →
    entry_at x.layout (segment_of area S x.slot) x.offset ≡ entry x.entry
log-reads area S p n scans x m =
    let w = log-in (views_of area S) p n x m in
    subst (λ (K : Layout). entry_at K (segment_of area S x.slot) x.offset ≡ entry x.entry) (sym w.layout)
    (scans-found
    (scan-scans (views_of area S x.slot).layout (segment_of area S x.slot)
    (scan-whole (views_of area S x.slot).scan (scans x.slot w.below w.picked))) w.item)

pub log-in-area :
    (area : List ℕ) (S : ℕ) (p : ℕ → Bool) (n : ℕ) → AllScanned (views_of area S) p n → AllIn area S (log_of (views_of area S) p n)
log-in-area area S p n scans x m =
    found-in-area x.layout area S x.slot x.offset x.entry (log-reads area S p n scans x m)

module _ (area : List ℕ) (S map n m : ℕ) (order : List ℕ) (long : length area ≡ n * S) (below : map < 2 ^ n)
    (scans : AllScanned (views_of area S) (named map) n)
    (versions : version_shared (log_in area S map n) ≡ false)
    (order-good : order_bad n order ≡ false) (some-cell : 0 < m) (most : m ≤ most_cells) where
  abbrev tally : Tally
  tally = insert_all area S (listed area S map order) (counted (replicate m 0) 0)

  told : Tells S m (log_in area S map n) tally
  told =
      tells-log area S m (listed area S map order) (log_in area S map n) some-cell most
      (listed-log area S map n long below scans order order-good) (log-in-area area S (named map) n scans)
      (shared-apart (log_in area S map n) versions)

  -- at most M - 1 keys
  pub built-rule : keys_bad m (log_in area S map n) ≡ false → Holds S m (log_in area S map n) (built area S map order m)
  unfolding Tells finished
  built-rule few = go tally refl told
    where
      go : (s : Tally) → tally ≡ s → Tells S m (log_in area S map n) s → Holds S m (log_in area S map n) (finished m tally)
      go (counted cells k) e w = rw e (record { answers = ap Some w.keys; rule = w.rule; long = w.long })
      go over e w = absurd (omega (arith, ltb-false (m - 1) (length (keys_of (log_in area S map n))) few))

  -- more: the cells are all 0
  pub built-over : keys_bad m (log_in area S map n) ≡ true → built area S map order m ≡ record { answer = None; cells = replicate m 0 }
  unfolding Tells finished
  built-over many = go tally refl told
    where
      go : (s : Tally) → tally ≡ s → Tells S m (log_in area S map n) s → finished m tally ≡ record { answer = None; cells = replicate m 0 }
      go (counted cells k) e w =
          absurd (omega (arith, w.keys, w.few, ltb-true (m - 1) (length (keys_of (log_in area S map n))) many))
      go over e w = ap (finished m) e
