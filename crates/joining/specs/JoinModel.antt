-- On an undamaged store, whatever the editions of its slots, the pair that the code finds is the model's: what is kept of two slots is
-- what is kept of each by the other.
use Prim.Native.Nat.{ℕ, zero, suc, ◌+◌, ◌*◌, ◌^◌, ◌≤◌, ◌<◌}
use Rattle.std.specs.Prelude.{◌≡◌, Bool, true, not, eqb, leb, ltb, get_or, replicate}
use Rattle.std.proofs.Math.Path.{refl, sym, ap, subst}
use Rattle.std.proofs.Common.{◌∙◌, zero-add}
use Rattle.std.proofs.Math.Bool.{false}
use Rattle.std.proofs.Math.Option.{Option, some}
use mathlib.Core.List.Memᴰ
use mathlib.Core.List.{List, [], ◌∷◌}
use Rattle.std.proofs.Math.Decide.{ℕ_discrete}
use native.Mathlib.Omega.{arith}
use Rattle.std.proofs.Math.ListN.{length, length-append}
use Rattle.std.proofs.lemmas.List.{length-replicate}
use borrow.Author.Tests.{eq-eqb, ne_eqb, eqb-true, le-leb, lt-leb, le-ltb, lt-ltb, ltb-true, ltb-false}
use Rattle.segment.specs.Choice.{pick, both, either}
use Rattle.segment.proofs.Choice.{pick_true, pick-false, both-false-left, both-false-right, either-true-left, either-true-right}
use Rattle.segment.specs.Layout.{Layout, edition1, digest_size, entry_size}
use Rattle.segment.proofs.LayoutLaws.{width_low}
use Rattle.segment.specs.Entries.{header_of}
use Rattle.segment.specs.Entry.{Entry, encoded, size_of, key_of, is_tombstone}
use Rattle.segment.proofs.EntryLaws.{length-encoded}
use Rattle.segment.specs.declared.Key.{Key}
use Rattle.slot_map.specs.Bit.{bit, named}
use Rattle.slot_map.proofs.BitLaws.{bit-pow-same, bit-pow-other, bit-add-same, bit-add-other, set-named, clear-named}
use Rattle.record.specs.Switch.{new_layout}
use Rattle.record.specs.declared.Record.{Record}
use Rattle.model.specs.Log.{View, Item, Placed, place_of, placed_size, segment_of, views_of, items_of, placed_in, log_of, same_keys, same_key, latest}
use Rattle.model.specs.Operations.{log_now, is_version, is_highest, object_outside, is_kept, kept_of, all_encoded}
use Rattle.model.specs.Refused.{kept_too_long, kept_length}
use Rattle.model.specs.Joining.{pair_of, join_fits, join_pair, lowest_pair}
use Rattle.laws.specs.Members.{clash, In, first, Within}
use Rattle.laws.specs.LogLaws.{any_below, part_of, part-picked, part-passed, placed_at, mem-placed, in-log, item_of, log-in, scan-whole}
use Rattle.laws.specs.Latest.{Newest, own_key, same_key_lem, latest-some}
use Rattle.laws.specs.Scans.{done, Scans, more, scan-scans}
use Rattle.laws.specs.Stores.{slots_apart}
use Rattle.index.specs.Search.{search_for}
use Rattle.index.proofs.SearchLaws.{search-inside}
use Rattle.index.specs.declared.Found.{Found}
use Rattle.cleaning.specs.Entries.{slot_layout, slot_items, slot_holds, object_in}
use Rattle.cleaning.proofs.OutsideLaws.{outside-named, slot-items, object-same}
use Rattle.cleaning.specs.KeptModel.{split_of, Indexed}
use Rattle.cleaning.proofs.KeptModel.{encoded-append, kept-front, kept-behind, kept_append, kept-none, inside, place-one, KeyCell, key-cell, cell-highest}
use Rattle.cleaning.specs.declared.Split.{Split}
use Rattle.joining.specs.declared.Share.{Share}
use Rattle.joining.specs.Notes.{tells_but, spot_of, cell_spot, elsewhere, note_all, found_length, object_at, objects_of}
use Rattle.joining.specs.NotesLaws.{zeros, Misses, below-misses, Leads, below-note, stands_in}
use Rattle.joining.specs.Weights.{note_share, share_at, share_kept, weight_at, weight_of, slot_weight, weights_fit}
use Rattle.joining.specs.WeightsLaws.{note-kept}
use Rattle.joining.specs.PairLaws.{pair_same}

-- the slots of the log
abbrev pub log_split : Record → Split
log_split r = record { slots = r.slots; size = r.size; victims = r.map; outside = r.map }

-- ---- two slots as a map

module _ (i j : ℕ) (apart : i ≡ j → ⊥) where
  pub pair-named : (s : ℕ) → named (pair_of i j) s ≡ either (eqb s i) (eqb s j)
  unfolding either
  pair-named s = go (ℕ_discrete s i) (ℕ_discrete s j)
    where
      clear : bit (2 ^ i) j ≡ 0
      clear = bit-pow-other i j apart

      go : Dec (s ≡ i) → Dec (s ≡ j) → named (pair_of i j) s ≡ either (eqb s i) (eqb s j)
      go (yes p) d =
          ap (named (pair_of i j)) p
          ∙ set-named (pair_of i j) i (bit-add-other (2 ^ i) j i clear (λ e. apart (sym e)) ∙ bit-pow-same i)
          ∙ sym (either-true-left (eqb s i) (eqb s j) (eq-eqb s i p))
      go (no p) (yes q) =
          ap (named (pair_of i j)) q
          ∙ set-named (pair_of i j) j (bit-add-same (2 ^ i) j clear)
          ∙ sym (either-true-right (eqb s i) (eqb s j) (eq-eqb s j q))
      go (no p) (no q) =
          clear-named (pair_of i j) s (bit-add-other (2 ^ i) j s clear (λ e. q (sym e)) ∙ bit-pow-other i s (λ e. p (sym e)))
          ∙ sym (rw (ne_eqb s i p, ne_eqb s j q))

any_same : (f g : ℕ → Bool) (n : ℕ) → ((s : ℕ) → f s ≡ g s) → any_below f n ≡ any_below g n
unfolding any_below
any_same f g zero h = refl
any_same f g (suc n) h = λ i. either (any_same f g n h i) (h n i)

-- ---- sums over the slots

unfoldable sum_below : (ℕ → ℕ) → ℕ → ℕ
sum_below w zero = 0
sum_below w (suc n) = sum_below w n + w n

module _ (w : ℕ → ℕ) where
  sum-none : (n : ℕ) → ((s : ℕ) → s < n → w s ≡ 0) → sum_below w n ≡ 0
  unfolding sum_below
  sum-none zero h = refl
  sum-none (suc n) h = omega (arith, sum-none n (λ s l. h s (omega arith)), h n (omega arith))

  sum_one : (i n : ℕ) → i < n → ((s : ℕ) → s < n → (s ≡ i → ⊥) → w s ≡ 0) → sum_below w n ≡ w i
  unfolding sum_below
  sum_one i zero l h = absurd (omega arith)
  sum_one i (suc n) l h = go (ℕ_discrete i n) (λ m. sum_one i n m (λ s b. h s (omega arith)))
    where
      go : Dec (i ≡ n) → (i < n → sum_below w n ≡ w i) → sum_below w n + w n ≡ w i
      go (yes p) ih = omega (arith, sum-none n (λ s b. h s (omega arith) (λ e. omega arith)), ap w p)
      go (no p) ih = omega (arith, ih (omega arith), h n (omega arith) (λ e. p (sym e)))

  sum-two : (i j n : ℕ) → i < j → j < n → ((s : ℕ) → s < n → (s ≡ i → ⊥) → (s ≡ j → ⊥) → w s ≡ 0) → sum_below w n ≡ w i + w j
  unfolding sum_below
  sum-two i j zero a l h = absurd (omega arith)
  sum-two i j (suc n) a l h = go (ℕ_discrete j n) (λ m. sum-two i j n a m (λ s b. h s (omega arith)))
    where
      go : Dec (j ≡ n) → (j < n → sum_below w n ≡ w i + w j) → sum_below w n + w n ≡ w i + w j
      go (yes p) ih = omega (arith, sum_one i n (omega arith) (λ s b q. h s (omega arith) q (λ e. omega arith)), ap w p)
      go (no p) ih = omega (arith, ih (omega arith), h n (omega arith) (λ e. omega arith) (λ e. p (sym e)))

-- ---- the items of a scan

scans-above : {L : Layout} {s : List ℕ} {at e : ℕ} {is : List Item} {i : Item} → Scans L s at is e → In i is → at ≤ i.offset
scans-above {L = L} {s = s} {i = i} (done {at = at} _) m = elim m [ ]
scans-above (more x p r) (Memᴰ.head q) = omega (arith, ap (λ (j : Item). j.offset) q)
scans-above (more x p r) (Memᴰ.tail m) = omega (arith, scans-above r m)

-- of two items the one behind starts where the other one ends, or later
scans-apart : {L : Layout} {s : List ℕ} {at e : ℕ} {is : List Item} {i j : Item} → Scans L s at is e → In i is → In j is → i.offset < j.offset →
    i.offset + entry_size L 0 ≤ j.offset
scans-apart {L = L} {s = s} {i = i} {j = j} (done {at = at} _) m _ l = elim m [ ]
scans-apart (more x p r) (Memᴰ.head a) (Memᴰ.head b) l =
    absurd (omega (arith, ap (λ (k : Item). k.offset) a, ap (λ (k : Item). k.offset) b))
scans-apart (more x p r) (Memᴰ.head a) (Memᴰ.tail n) l = omega (arith, ap (λ (k : Item). k.offset) a, scans-above r n)
scans-apart (more x p r) (Memᴰ.tail m) (Memᴰ.head b) l = absurd (omega (arith, ap (λ (k : Item). k.offset) b, scans-above r m))
scans-apart (more x p r) (Memᴰ.tail m) (Memᴰ.tail n) l = scans-apart r m n l

-- ---- a store

-- no entry is shorter than the bytes of a note
wide : (L : Layout) → 11 ≤ entry_size L 0
wide L = omega (arith, width_low L)

module _ (area cells : List ℕ) (short : length area ≤ 65536) (r : Record) (g : Indexed area r cells) (few : length cells ≤ 4096) where
  abbrev v : ℕ → View
  v = views_of area r.size

  abbrev log : List Placed
  log = log_now area r

  abbrev pub notes : List ℕ
  notes = note_all area cells (log_split r) (replicate 5958 0)

  -- ---- the note of an entry

  -- of two entries of the log the one behind starts where the other one ends, or later
  behind : (x y : Placed) → In x log → In y log → place_of r.size x < place_of r.size y → place_of r.size x + 11 ≤ place_of r.size y
  behind x y mx my l = go (ℕ_discrete x.slot y.slot)
    where
      go : Dec (x.slot ≡ y.slot) → place_of r.size x + 11 ≤ place_of r.size y
      go (yes e) =
          let wx = log-in v (named r.map) r.slots x mx in
          let wy = log-in v (named r.map) r.slots y my in
          let K : Layout = (v x.slot).layout in
          let own : In (item_of y) (items_of (v x.slot).scan) = subst (λ (s : ℕ). In (item_of y) (items_of (v s).scan)) (sym e) wy.item in
          let whole = scan-whole (v x.slot).scan (g.scans x.slot wx.below wx.picked) in
          let all = scan-scans K (segment_of area r.size x.slot) whole in
          let same : x.slot * r.size ≡ y.slot * r.size = ap (λ (s : ℕ). s * r.size) e in
          omega (arith, same, wide K, scans-apart all wx.item own (omega (arith, same)))
      go (no n) = at (ltb x.slot y.slot) refl
        where
          at : (t : Bool) → ltb x.slot y.slot ≡ t → place_of r.size x + 11 ≤ place_of r.size y
          at true p = omega (arith, wide x.layout, slots_apart r.size (ltb-true x.slot y.slot p), inside area cells r g x mx)
          at false p =
              let above : y.slot < x.slot = omega (arith, ltb-false x.slot y.slot p) in
              absurd (omega (arith, slots_apart r.size above, inside area cells r g y my))

  -- no two entries have the same note
  spot-one : (x y : Placed) → In x log → In y log → spot_of (place_of r.size x) ≡ spot_of (place_of r.size y) → x ≡ y
  spot-one x y mx my e = place-one area cells r g x y mx my (same (ltb p q) refl (ltb q p) refl)
    where
      p : ℕ
      p = place_of r.size x

      q : ℕ
      q = place_of r.size y

      same : (a : Bool) → ltb p q ≡ a → (b : Bool) → ltb q p ≡ b → p ≡ q
      same true h b k = absurd (omega (arith, e, behind x y mx my (ltb-true p q h)))
      same false h true k = absurd (omega (arith, e, behind y x my mx (ltb-true q p k)))
      same false h false k = omega (arith, ltb-false p q h, ltb-false q p k)

  -- the entry of a log slot's item
  item_in : (s : ℕ) → s < r.slots → named r.map s ≡ true → (y : Item) → In y (slot_items area r.size s) →
      In (placed_at (slot_layout area r.size s) s y) log
  item_in s h e y m =
      in-log v (named r.map) r.slots (placed_at (slot_layout area r.size s) s y)
      (record {
        below = h;
        picked = e;
        layout = refl;
        item = subst (λ (is : List Item). In y is) (slot-items area r.size r.map r.slots g.scans s h e) m;
      })

  -- the search for the key of an entry leads to the note of the key's latest entry, and to no other
  misses : (x : Placed) → In x log → (y : Placed) → In y log → (latest log (key_of y.entry) ≡ some x → ⊥) →
      Misses area cells r.size (spot_of (place_of r.size x)) (header_of y.layout y.entry)
  misses x mx y my n =
      let c = key-cell area cells r g few y my in (
        c.cell.cell,
        c.finds,
        λ e.
            let same : spot_of (place_of r.size c.top) ≡ spot_of (place_of r.size x) = spot-of c ∙ e in
            n (c.is ∙ ap some (spot-one c.top x (latest-some log (key_of y.entry) c.top c.is).member mx same)),
      )
    where
      spot-of : (c : KeyCell area cells r g (key_of y.entry)) → spot_of (place_of r.size c.top) ≡ cell_spot cells c.cell.cell
      spot-of c = omega (arith, c.cell.holds)

  -- an entry that is not its key's latest has no note
  no_note : (x : Placed) → In x log → is_highest log x.entry ≡ false → get_or notes (spot_of (place_of r.size x)) 0 ≡ 0
  unfolding is_version
  no_note x mx h =
      below-misses area cells r.size (spot_of (place_of r.size x)) (log_split r) refl (replicate 5958 0)
      (λ s l e y m. misses x mx (placed_at (slot_layout area r.size s) s y) (item_in s l e y m) (not-latest y.entry)) r.slots (omega arith)
      ∙ zeros 5958 (spot_of (place_of r.size x))
    where
      not-latest : (e : Entry) → latest log (key_of e) ≡ some x → ⊥
      not-latest e q =
          let key : key_of e ≡ key_of x.entry = same_key_lem (key_of e) x.entry (latest-some log (key_of e) x q).of-key in
          let own : latest log (key_of x.entry) ≡ some x = ap (latest log) (sym key) ∙ q in
          clash (is_highest log x.entry)
          (ap (λ (o : Option Placed). is_version o x.entry.version) own ∙ eq-eqb x.entry.version x.entry.version refl) h

  -- the slot of a cell's entry
  cell-slot : (k : Key) (c : KeyCell area cells r g k) (s : ℕ) → elsewhere r.size s (get_or cells c.cell.cell 0) ≡ not (eqb s c.top.slot)
  unfolding elsewhere either
  cell-slot k c s = go (ℕ_discrete s c.top.slot)
    where
      x : Placed
      x = c.top

      cell : ℕ
      cell = get_or cells c.cell.cell 0

      lies : x.offset + placed_size x ≤ r.size
      lies = inside area cells r g x (latest-some log k x c.is).member

      go : Dec (s ≡ x.slot) → either (leb cell (s * r.size)) (ltb (s * r.size + r.size) cell) ≡ not (eqb s x.slot)
      go (yes p) =
          let same : s * r.size ≡ x.slot * r.size = ap (λ (n : ℕ). n * r.size) p in
          rw (
            lt-leb cell (s * r.size) (omega (arith, c.cell.holds, same)),
            le-ltb (s * r.size + r.size) cell (omega (arith, c.cell.holds, same, lies)),
            eq-eqb s x.slot p,
          )
      go (no p) = at (ltb s x.slot) refl
        where
          at : (t : Bool) → ltb s x.slot ≡ t → either (leb cell (s * r.size)) (ltb (s * r.size + r.size) cell) ≡ not (eqb s x.slot)
          at true q =
              let low : s * r.size + r.size ≤ x.slot * r.size = slots_apart r.size (ltb-true s x.slot q) in
              either-true-right (leb cell (s * r.size)) (ltb (s * r.size + r.size) cell) (lt-ltb (s * r.size + r.size) cell (omega (arith, c.cell.holds, low))) ∙ sym (ap not (ne_eqb s x.slot p))
          at false q =
              let above : x.slot < s = omega (arith, ltb-false s x.slot q) in
              let high : x.slot * r.size + r.size ≤ s * r.size = slots_apart r.size above in
              either-true-left (leb cell (s * r.size)) (ltb (s * r.size + r.size) cell) (le-leb cell (s * r.size) (omega (arith, c.cell.holds, high, lies))) ∙ sym (ap not (ne_eqb s x.slot p))

  -- the search for the key of an entry of a log slot tells it from another key
  leads : (k : Key) (c : KeyCell area cells r g k) (j : ℕ) (low : cell_spot cells c.cell.cell < 5958) (b : j < 32) (s : ℕ) → s < r.slots →
      named r.map s ≡ true → (y : Item) → In y (slot_items area r.size s) →
      Leads area cells k c.cell.cell c.top.slot j low b r.size (cell-slot k c) (header_of (slot_layout area r.size s) y.entry)
  unfolding same_key same_keys
  leads k c j low b s h e y m =
      record {
        own = λ p. sym (ap (search_for area cells) (same_key_lem k y.entry p)) ∙ c.finds;
        other =
            λ p.
            subst (λ (q : ℕ). Misses area cells r.size q (header_of (slot_layout area r.size s) y.entry)) spot
            (misses c.top top.member (placed_at (slot_layout area r.size s) s y) (item_in s h e y m)
            (λ q. clash (same_key k y.entry) (ap (λ (i : Key). same_key i y.entry) (key q) ∙ own_key y.entry) p));
      }
    where
      top : Newest log k c.top
      top = latest-some log k c.top c.is

      spot : spot_of (place_of r.size c.top) ≡ cell_spot cells c.cell.cell
      spot = omega (arith, c.cell.holds)

      key : latest log (key_of y.entry) ≡ some c.top → k ≡ key_of y.entry
      key q =
          same_key_lem k c.top.entry top.of-key
          ∙ sym (same_key_lem (key_of y.entry) c.top.entry (latest-some log (key_of y.entry) c.top q).of-key)

  spot-low : (k : Key) (c : KeyCell area cells r g k) → cell_spot cells c.cell.cell < 5958
  spot-low k c =
      let w = search-inside area cells k c.cell.cell c.finds in
      omega (arith, w.taken, w.fits, wide edition1, short)

  -- A note tells of a slot other than j exactly if an object of the key stands outside j and the slot of the key's latest entry.
  note-means : (k : Key) (c : KeyCell area cells r g k) (j : ℕ) → j < 32 → (c.top.slot ≡ j → ⊥) →
      tells_but (get_or notes (cell_spot cells c.cell.cell) 0) j ≡ object_outside (pair_of c.top.slot j) log k
  unfolding tells_but either both
  note-means k c j low apart =
      below-note area cells k c.cell.cell c.top.slot j (spot-low k c) low r.size (cell-slot k c) (log_split r) refl
      (replicate 5958 0) (length-replicate {A = ℕ} 5958 0) clear (leads k c j (spot-low k c) low) r.slots (omega arith)
      ∙ any_same (stands_in area cells k c.cell.cell c.top.slot j (spot-low k c) low r.size (cell-slot k c) (log_split r) refl (replicate 5958 0) (length-replicate {A = ℕ} 5958 0) clear (leads k c j (spot-low k c) low))
      (slot_holds area (split_of r (pair_of c.top.slot j)) k) r.slots slot_same
      ∙ object-same area r.size r.map (pair_of c.top.slot j) r.slots g.scans k
    where
      clear : tells_but (get_or (replicate 5958 0) (cell_spot cells c.cell.cell) 0) j ≡ false
      clear = ap (λ (n : ℕ). tells_but n j) (zeros 5958 (cell_spot cells c.cell.cell))

      regroup : (a p q o : Bool) → both a (both (both (not p) (not q)) o) ≡ both (both a (not (either p q))) o
      regroup true true q o = refl
      regroup true false q o = refl
      regroup false p q o = refl

      slot_same : (s : ℕ) →
          both (named r.map s) (both (both (not (eqb s c.top.slot)) (not (eqb s j))) (object_in (slot_layout area r.size s) k (slot_items area r.size s)))
          ≡ slot_holds area (split_of r (pair_of c.top.slot j)) k s
      slot_same s =
          regroup (named r.map s) (eqb s c.top.slot) (eqb s j) (object_in (slot_layout area r.size s) k (slot_items area r.size s))
          ∙ ap (λ (t : Bool). both (both (named r.map s) (not t)) (object_in (slot_layout area r.size s) k (slot_items area r.size s))) (sym (pair-named c.top.slot j apart s))
          ∙ ap (λ (t : Bool). both t (object_in (slot_layout area r.size s) k (slot_items area r.size s))) (sym (outside-named r.map (pair_of c.top.slot j) s))

  -- ---- what is kept of a slot by the other, as rewritten in the layout W of the new head (02, R-13)

  module _ (W : Layout) (i j : ℕ) (apart : i ≡ j → ⊥) (low : j < 32) where
    own-victim : named (pair_of i j) i ≡ true
    own-victim = pair-named i j apart i ∙ either-true-left (eqb i i) (eqb i j) (eq-eqb i i refl)

    -- what the two walks count of an entry is its length, if the model keeps it
    entry-same : (x : Placed) → In x log → x.slot ≡ i →
        object_at area cells (header_of W x.entry) (place_of r.size x) + weight_at notes j (header_of W x.entry) (place_of r.size x)
        ≡ pick (is_kept (pair_of i j) log x) (size_of W x.entry) 0
    unfolding object_at found_length share_at share_kept note_share both either pick
    entry-same x m own =
        ap (λ (f : Found). pick (is_tombstone x.entry) 0 (found_length cells (place_of r.size x) size f) + kept (is_tombstone x.entry)) c.finds
        ∙ ap (λ (b : Bool). pick (is_tombstone x.entry) 0 (pick b size 0) + kept (is_tombstone x.entry)) (cell-highest area cells r g x m c)
        ∙ go (is_highest log x.entry) refl (is_tombstone x.entry)
        ∙ sym
        (ap (λ (b : Bool). pick (both b (both (is_highest log x.entry) (either (not (is_tombstone x.entry)) outside))) size 0)
        (ap (named (pair_of i j)) own ∙ own-victim))
      where
        c : KeyCell area cells r g (key_of x.entry)
        c = key-cell area cells r g few x m

        size : ℕ
        size = size_of W x.entry

        n : ℕ
        n = get_or notes (spot_of (place_of r.size x)) 0

        kept : Bool → ℕ
        kept t = pick (share_kept (pick t (note_share n) Share.Nothing) j) size 0

        outside : Bool
        outside = object_outside (pair_of i j) log (key_of x.entry)

        place : is_highest log x.entry ≡ true → get_or cells c.cell.cell 0 ≡ place_of r.size x + 1
        place h = eqb-true (get_or cells c.cell.cell 0) (place_of r.size x + 1) (cell-highest area cells r g x m c ∙ h)

        top-slot : is_highest log x.entry ≡ true → c.top.slot ≡ i
        top-slot h =
            let same : place_of r.size c.top ≡ place_of r.size x = omega (arith, c.cell.holds, place h) in
            ap (λ (y : Placed). y.slot) (place-one area cells r g c.top x (latest-some log (key_of x.entry) c.top c.is).member m same) ∙ own

        told : is_highest log x.entry ≡ true → share_kept (note_share n) j ≡ outside
        told h =
            let at = top-slot h in
            let spot : spot_of (place_of r.size x) ≡ cell_spot cells c.cell.cell = omega (arith, place h) in
            note-kept n j low
            ∙ ap (λ (q : ℕ). tells_but (get_or notes q 0) j) spot
            ∙ note-means (key_of x.entry) c j low (λ e. apart (sym at ∙ e))
            ∙ ap (λ (s : ℕ). object_outside (pair_of s j) log (key_of x.entry)) at

        untold : is_highest log x.entry ≡ false → share_kept (note_share n) j ≡ false
        untold h = ap (λ (k : ℕ). share_kept (note_share k) j) (no_note x m h)

        go : (h : Bool) → is_highest log x.entry ≡ h → (t : Bool) →
            pick t 0 (pick h size 0) + kept t ≡ pick (both true (both h (either (not t) outside))) size 0
        go false p true = zero-add _ ∙ ap (λ (b : Bool). pick b size 0) (untold p)
        go false p false = refl
        go true p true = zero-add _ ∙ ap (λ (b : Bool). pick b size 0) (told p)
        go true p false = omega arith

    weight-same : (xs : List Placed) → Within xs log → ((x : Placed) → In x xs → x.slot ≡ i) →
        objects_of W area cells r.size xs + weight_of W notes r.size j xs ≡ length (all_encoded W (kept_of (pair_of i j) log xs))
    unfolding objects_of weight_of all_encoded kept_of
    weight-same [] w f = refl
    weight-same (x ∷ xs) w f = go (is_kept (pair_of i j) log x) refl (weight-same xs (λ y m. w y (Memᴰ.tail m)) (λ y m. f y (Memᴰ.tail m)))
      where
        object : ℕ
        object = object_at area cells (header_of W x.entry) (place_of r.size x)

        tombstone : ℕ
        tombstone = weight_at notes j (header_of W x.entry) (place_of r.size x)

        one : (t : Bool) → is_kept (pair_of i j) log x ≡ t → object + tombstone ≡ pick t (size_of W x.entry) 0
        one t e = entry-same x (w x first) (f x first) ∙ ap (λ (b : Bool). pick b (size_of W x.entry) 0) e

        go : (t : Bool) → is_kept (pair_of i j) log x ≡ t →
            objects_of W area cells r.size xs + weight_of W notes r.size j xs ≡ length (all_encoded W (kept_of (pair_of i j) log xs)) →
            object + objects_of W area cells r.size xs + (tombstone + weight_of W notes r.size j xs)
            ≡ length (all_encoded W (kept_of (pair_of i j) log (x ∷ xs)))
        go true e ih =
            omega (
              arith,
              one true e ∙ pick_true true (size_of W x.entry) 0 refl,
              ih,
              length-encoded W x.entry,
              length-append (encoded W x.entry) (all_encoded W (kept_of (pair_of i j) log xs)),
            )
            ∙ ap (λ (es : List Entry). length (all_encoded W es)) (sym (kept-front (pair_of i j) log x xs e))
        go false e ih =
            omega (arith, one false e ∙ pick-false false (size_of W x.entry) 0 refl, ih)
            ∙ ap (λ (es : List Entry). length (all_encoded W es)) (sym (kept-behind (pair_of i j) log x xs e))

  -- ---- the part of the log that one slot is

  part-slot : (i : ℕ) (x : Placed) → In x (part_of v (named r.map) i) → x.slot ≡ i
  part-slot i x m = go (named r.map i) refl
    where
      go : (t : Bool) → named r.map i ≡ t → x.slot ≡ i
      go true e = (mem-placed (v i).layout i x (items_of (v i).scan) (rw (part-picked v (named r.map) i e) at m)).slot
      go false e = absurd (Memᴰ.not-nil (rw (part-passed v (named r.map) i e) at m))

  part_in : (i : ℕ) → i < r.slots → named r.map i ≡ true → Within (part_of v (named r.map) i) log
  part_in i h e x m =
      let w = mem-placed (v i).layout i x (items_of (v i).scan) (rw (part-picked v (named r.map) i e) at m) in
      in-log v (named r.map) r.slots x
      (record {
        below = omega (arith, w.slot);
        picked = ap (named r.map) w.slot ∙ e;
        layout = w.layout ∙ ap (λ (s : ℕ). (v s).layout) (sym w.slot);
        item = subst (λ (s : ℕ). In (item_of x) (items_of (v s).scan)) (sym w.slot) w.item;
      })

  -- what is kept of slot s, where the victims are these
  abbrev part_length : Layout → ℕ → ℕ → ℕ
  part_length W victims s = length (all_encoded W (kept_of victims log (part_of v (named r.map) s)))

  module _ (W : Layout) where
    slot-weight : (i j : ℕ) → (i ≡ j → ⊥) → j < 32 → i < r.slots → named r.map i ≡ true →
        slot_weight W area cells notes r.size i j ≡ part_length W (pair_of i j) i
    slot-weight i j apart low h e =
        ap (λ (xs : List Placed). objects_of W area cells r.size xs + weight_of W notes r.size j xs)
        (ap (placed_in (v i).layout i) (slot-items area r.size r.map r.slots g.scans i h e) ∙ sym (part-picked v (named r.map) i e))
        ∙ weight-same W i j apart low (part_of v (named r.map) i) (part_in i h e) (part-slot i)

    -- all that is kept, slot by slot
    parts-sum : (victims n : ℕ) → length (all_encoded W (kept_of victims log (log_of v (named r.map) n))) ≡ sum_below (part_length W victims) n
    unfolding log_of kept_of all_encoded sum_below
    parts-sum victims zero = refl
    parts-sum victims (suc n) =
        ap (λ (es : List Entry). length (all_encoded W es)) (kept_append victims log (log_of v (named r.map) n) (part_of v (named r.map) n))
        ∙ ap length (encoded-append W (kept_of victims log (log_of v (named r.map) n)) (kept_of victims log (part_of v (named r.map) n)))
        ∙ length-append (all_encoded W (kept_of victims log (log_of v (named r.map) n))) (all_encoded W (kept_of victims log (part_of v (named r.map) n)))
        ∙ ap (λ (m : ℕ). m + part_length W victims n) (parts-sum victims n)

    swap : (i j : ℕ) → pair_of i j ≡ pair_of j i
    swap i j = omega arith

    -- 02, R-7: a cleaning of two slots keeps of each what is kept of it by the other.
    pub pair-kept : r.slots ≤ 32 → (i j : ℕ) → i < j → j < r.slots → named r.map i ≡ true → named r.map j ≡ true →
        kept_length W log (pair_of i j) ≡ slot_weight W area cells notes r.size i j + slot_weight W area cells notes r.size j i
    unfolding all_encoded either
    pair-kept most i j l h p q =
        parts-sum (pair_of i j) r.slots
        ∙ sum-two (part_length W (pair_of i j)) i j r.slots l h others
        ∙ (λ t. first_part t + second-part t)
      where
        apart : i ≡ j → ⊥
        apart e = omega arith

        others : (s : ℕ) → s < r.slots → (s ≡ i → ⊥) → (s ≡ j → ⊥) → part_length W (pair_of i j) s ≡ 0
        others s b a c =
            ap (λ (es : List Entry). length (all_encoded W es))
            (kept-none (pair_of i j) log (part_of v (named r.map) s)
            (λ x m. ap (named (pair_of i j)) (part-slot s x m) ∙ pair-named i j apart s ∙ rw (ne_eqb s i a, ne_eqb s j c)))

        first_part : part_length W (pair_of i j) i ≡ slot_weight W area cells notes r.size i j
        first_part = sym (slot-weight i j apart (omega arith) (omega arith) p)

        second-part : part_length W (pair_of i j) j ≡ slot_weight W area cells notes r.size j i
        second-part = ap (λ (m : ℕ). part_length W m j) (swap i j) ∙ sym (slot-weight j i (λ e. apart (sym e)) (omega arith) h q)

  fits-model : r.slots ≤ 32 → (i j : ℕ) → i < j → j < r.slots → weights_fit (new_layout r) area cells notes (log_split r) i j ≡ join_fits r log i j
  unfolding weights_fit join_fits
  fits-model most i j l h = go (named r.map i) refl (named r.map j) refl
    where
      weights : ℕ
      weights = slot_weight (new_layout r) area cells notes r.size i j + slot_weight (new_layout r) area cells notes r.size j i

      negated : (a b : ℕ) → leb a b ≡ not (ltb b a)
      negated a b = at (ltb b a) refl
        where
          at : (t : Bool) → ltb b a ≡ t → leb a b ≡ not t
          at true e = lt-leb a b (ltb-true b a e)
          at false e = le-leb a b (omega (arith, ltb-false b a e))

      test : named r.map i ≡ true → named r.map j ≡ true →
          leb (digest_size (new_layout r) + weights) r.size ≡ not (kept_too_long r (kept_length (new_layout r) log (pair_of i j)))
      test p q =
          negated (digest_size (new_layout r) + weights) r.size
          ∙ ap (λ (n : ℕ). not (ltb r.size (digest_size (new_layout r) + n))) (sym (pair-kept (new_layout r) most i j l h p q))

      go : (p : Bool) → named r.map i ≡ p → (q : Bool) → named r.map j ≡ q →
          both (both (named r.map i) (named r.map j)) (leb (digest_size (new_layout r) + weights) r.size)
          ≡ both (both (named r.map i) (named r.map j)) (not (kept_too_long r (kept_length (new_layout r) log (pair_of i j))))
      go true p true q = ap (both (both (named r.map i) (named r.map j))) (test p q)
      go true p false q = both-false-left _ _ (both-false-right _ _ q) ∙ sym (both-false-left _ _ (both-false-right _ _ q))
      go false p b q = both-false-left _ _ (both-false-left _ _ p) ∙ sym (both-false-left _ _ (both-false-left _ _ p))

  -- The pair by the code's weights is the model's.
  pub pair-model : r.slots ≤ 32 → lowest_pair (weights_fit (new_layout r) area cells notes (log_split r)) r.slots ≡ join_pair r log
  pair-model most = pair_same (weights_fit (new_layout r) area cells notes (log_split r)) (join_fits r log) r.slots (fits-model most)
