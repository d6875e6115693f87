-- On an undamaged store the bytes that the code gathers are those of the entries that the model keeps.
-- What is proved of the definitions in `specs/KeptModel.antt`.
use Prim.Native.Nat.{ℕ, zero, suc, ◌+◌, ◌*◌, ◌≤◌, ◌<◌}
use Rattle.std.specs.Prelude.{◌≡◌, Bool, not, ltb, length, get_or, take, drop, replicate}
use Rattle.std.proofs.Math.Path.{refl, sym, ap, subst}
use Rattle.std.proofs.Common.{◌∙◌, arith}
use Rattle.std.proofs.Math.Bool.{true, false}
use Rattle.std.proofs.Math.Option.{Option, none, some}
use mathlib.Core.List.Memᴰ
use mathlib.Core.List.{List, [], ◌∷◌, ◌++◌, append_assoc}
use Rattle.std.proofs.Math.Decide.{ℕ_discrete}
use Rattle.std.proofs.Math.Dec.{eqb}
use Rattle.std.proofs.lemmas.List.{length-replicate}
use borrow.Author.Tests.{eq-eqb, ne_eqb, eqb-true, eqb-false, ltb-true, ltb-false}
use Rattle.word.specs.Number.{Bytes}
use Rattle.word.specs.Laws.{bytes_take, bytes_drop}
use Rattle.segment.specs.Choice.{pick, both, either}
use Rattle.segment.proofs.Choice.{pick_true, pick-false, both_left}
use Rattle.segment.specs.Layout.{Layout, same_layout}
use Rattle.segment.proofs.LayoutLaws.{same_layout_lem}
use Rattle.segment.specs.Entries.{header_of}
use Rattle.segment.proofs.Packed.{field_at}
use Rattle.segment.specs.Entry.{Entry, entry, entry_at, encoded, key_of, is_tombstone}
use Rattle.segment.proofs.EntryLaws.{found-fits, found-stands}
use Rattle.segment.proofs.Rewritten.{entry-own, bytes-around}
use Rattle.segment.specs.declared.Key.{Key}
use Rattle.slot_map.specs.Bit.{named, within, less}
use Rattle.slot_map.proofs.BitLaws.{bit_le, within-le, named-true, set-named}
use Rattle.record.specs.declared.Record.{Record}
use Rattle.model.specs.Log.{View, Item, Placed, place_of, placed_size, segment_of, views_of, items_of, placed_in, log_of, same_keys, same_key, latest}
use Rattle.model.specs.Index.{HasCell}
use Rattle.model.specs.Operations.{log_now, is_version, is_highest, object_outside, is_kept, kept_of, kept, all_encoded}
use Rattle.laws.specs.Members.{clash, In, first, Within}
use Rattle.laws.specs.Latest.{Apart, own_key, same_key_lem, latest-some, latest-none}
use Rattle.laws.specs.LogLaws.{InLog, part_of, part-picked, part-passed, item_of, placed_at, mem-placed, in-log, log-in}
use Rattle.laws.specs.Versions.{shared-apart}
use Rattle.laws.specs.Stores.{slots_apart, slot-inside, length-segment}
use Rattle.index.specs.Search.{cell_has, search_for}
use Rattle.index.proofs.SearchLaws.{search-within}
use Rattle.index.proofs.Finds.{search-known}
use Rattle.index.proofs.Area.{area-picks}
use Rattle.index.proofs.BuildLaws.{log-reads, log-in-area}
use Rattle.index.specs.declared.Found.{Found}
use Rattle.cleaning.specs.Entries.{slot_layout, slot_items, placed_header}
use Rattle.cleaning.specs.Kept.{cell_kept, kept_at, kept_test, moved_bytes, kept_entry, gather_by, gathered, kept_part, kept_below, kept_bytes}
use Rattle.cleaning.proofs.KeptLaws.{moved_same, moved_other, part-victim, part-other}
use Rattle.cleaning.specs.Tombstones.{any_tombstone}
use Rattle.cleaning.proofs.TombstonesLaws.{no-tombstone}
use Rattle.cleaning.specs.Marks.{is_marked, mark_outside, mark_needed, marks_of}
use Rattle.cleaning.proofs.MarksFacts.{clear-marks}
use Rattle.cleaning.specs.MarksLaws.{Tells}
use Rattle.cleaning.proofs.MarksLaws.{below-mark}
use Rattle.cleaning.proofs.OutsideLaws.{outside-named, slot-items, object-same}
use Rattle.cleaning.specs.KeptModel.{Indexed, split_of}

-- ---- what is kept, and its bytes, part by part

pub encoded-append : (W : Layout) (a b : List Entry) → all_encoded W (a ++ b) ≡ all_encoded W a ++ all_encoded W b
unfolding all_encoded
encoded-append W [] b = refl
encoded-append W (x ∷ a) b =
    ap (λ (l : List ℕ). encoded W x ++ l) (encoded-append W a b) ∙ sym (append_assoc (encoded W x) (all_encoded W a) (all_encoded W b))

module _ (victims : ℕ) (log : List Placed) where
  pub kept-front : (x : Placed) (xs : List Placed) → is_kept victims log x ≡ true → kept_of victims log (x ∷ xs) ≡ x.entry ∷ kept_of victims log xs
  unfolding kept_of
  kept-front x xs e = pick_true (is_kept victims log x) (x.entry ∷ kept_of victims log xs) (kept_of victims log xs) e

  pub kept-behind : (x : Placed) (xs : List Placed) → is_kept victims log x ≡ false → kept_of victims log (x ∷ xs) ≡ kept_of victims log xs
  unfolding kept_of
  kept-behind x xs e = pick-false (is_kept victims log x) (x.entry ∷ kept_of victims log xs) (kept_of victims log xs) e

  pub kept_append : (a b : List Placed) → kept_of victims log (a ++ b) ≡ kept_of victims log a ++ kept_of victims log b
  unfolding kept_of
  kept_append [] b = refl
  kept_append (x ∷ a) b = go (is_kept victims log x) refl (kept_append a b)
    where
      go : (t : Bool) → is_kept victims log x ≡ t → kept_of victims log (a ++ b) ≡ kept_of victims log a ++ kept_of victims log b →
          kept_of victims log (x ∷ (a ++ b)) ≡ kept_of victims log (x ∷ a) ++ kept_of victims log b
      go true e ih =
          kept-front x (a ++ b) e
          ∙ ap (λ (l : List Entry). x.entry ∷ l) ih
          ∙ ap (λ (l : List Entry). l ++ kept_of victims log b) (sym (kept-front x a e))
      go false e ih = kept-behind x (a ++ b) e ∙ ih ∙ ap (λ (l : List Entry). l ++ kept_of victims log b) (sym (kept-behind x a e))

  -- of slots that are no victims nothing is kept
  pub kept-none : (xs : List Placed) → ((x : Placed) → In x xs → named victims x.slot ≡ false) → kept_of victims log xs ≡ []
  unfolding kept_of both
  kept-none [] f = refl
  kept-none (x ∷ xs) f = kept-behind x xs (rw (f x first)) ∙ kept-none xs (λ y m. f y (Memᴰ.tail m))

module _ (area cells : List ℕ) (r : Record) (g : Indexed area r cells) where
  abbrev v : ℕ → View
  v = views_of area r.size

  abbrev log : List Placed
  log = log_now area r

  apart : Apart log
  apart = shared-apart log g.versions

  -- the entries of a log slot
  own-items : (i : ℕ) → i < r.slots → named r.map i ≡ true → slot_items area r.size i ≡ items_of (v i).scan
  own-items = slot-items area r.size r.map r.slots g.scans

  -- ---- an entry of the log, and its place

  module _ (x : Placed) (m : In x log) where
    stands : InLog v (named r.map) r.slots x
    stands = log-in v (named r.map) r.slots x m

    found : entry_at x.layout (segment_of area r.size x.slot) x.offset ≡ entry x.entry
    found = log-reads area r.size (named r.map) r.slots g.scans x m

    pub inside : x.offset + placed_size x ≤ r.size
    inside =
        omega (
          arith,
          found-fits x.layout (segment_of area r.size x.slot) x.offset x.entry found,
          length-segment area r.size x.slot (slot-inside area r.slots r.size x.slot g.long stands.below),
        )

    module _ (bytes : Bytes area) where
      own-part : take (placed_size x) (drop (place_of r.size x) area) ≡ encoded x.layout x.entry
      own-part =
          sym (field_at (placed_size x) x.offset r.size (x.slot * r.size) area inside)
          ∙ (found-stands x.layout (segment_of area r.size x.slot) x.offset x.entry found
          (bytes_take r.size _ (bytes_drop (x.slot * r.size) area bytes))).same

      -- moved to a head of the layout W, its bytes are the entry's there
      pub own-moved : (W : Layout) → moved_bytes W area x.layout (placed_header x) (place_of r.size x) ≡ encoded W x.entry
      own-moved W = go (same_layout x.layout W) refl
        where
          go : (t : Bool) → same_layout x.layout W ≡ t → moved_bytes W area x.layout (placed_header x) (place_of r.size x) ≡ encoded W x.entry
          go true e =
              moved_same W area x.layout (placed_header x) (place_of r.size x) e
              ∙ own-part
              ∙ ap (λ (M : Layout). encoded M x.entry) (same_layout_lem x.layout W e)
          go false e =
              moved_other W area x.layout (placed_header x) (place_of r.size x) e
              ∙ bytes-around x.layout W area (x.slot * r.size) r.size x.offset (placed_header x) (omega arith) inside
              ∙ entry-own x.layout W (segment_of area r.size x.slot) x.offset x.entry found refl

  -- entries of one place are one
  pub place-one : (x y : Placed) → In x log → In y log → place_of r.size x ≡ place_of r.size y → x ≡ y
  place-one x y mx my e = go (ℕ_discrete x.slot y.slot)
    where
      low : x.slot < y.slot → ⊥
      low h = omega (arith, slots_apart r.size h, inside x mx)

      high : y.slot < x.slot → ⊥
      high h = omega (arith, slots_apart r.size h, inside y my)

      go : Dec (x.slot ≡ y.slot) → x ≡ y
      go (yes s) =
          let o : x.offset ≡ y.offset = omega (arith, ap (λ (k : ℕ). k * r.size) s) in
          let l : x.layout ≡ y.layout = (stands x mx).layout ∙ ap (λ (k : ℕ). (v k).layout) s ∙ sym (stands y my).layout in
          let there :
          entry_at x.layout (segment_of area r.size x.slot) x.offset ≡ entry_at y.layout (segment_of area r.size y.slot) y.offset =
          λ i. entry_at (l i) (segment_of area r.size (s i)) (o i) in
          let both : entry x.entry ≡ entry y.entry = sym (found x mx) ∙ there ∙ found y my in
          let own : x.entry ≡ y.entry = cc in
          λ i. record { slot = s i; layout = l i; offset = o i; entry = own i }
      go (no n) = absurd (apart-slots (ltb x.slot y.slot) refl)
        where
          apart-slots : (t : Bool) → ltb x.slot y.slot ≡ t → ⊥
          apart-slots true p = low (ltb-true x.slot y.slot p)
          apart-slots false p = high (omega (arith, ltb-false x.slot y.slot p))

  -- ---- the cell of a key

  -- The latest entry of a key, and the cell in which the search for the key ends.
  pub record KeyCell (k : Key) : Type 0 where
    pub top : Placed
    pub is : latest log k ≡ some top
    pub cell : HasCell r.size cells top
    pub finds : search_for area cells k ≡ Found.At cell.cell

  pub key-cell : length cells ≤ 4096 → (x : Placed) → In x log → KeyCell (key_of x.entry)
  key-cell few x m = go (latest log (key_of x.entry)) refl
    where
      go : (o : Option Placed) → latest log (key_of x.entry) ≡ o → KeyCell (key_of x.entry)
      go none e = absurd (clash _ (own_key x.entry) (latest-none log (key_of x.entry) e x m))
      go (some y) e =
          let (c, s) =
          search-known r.size log cells g.rule (cell_has area (key_of x.entry)) (key_of x.entry)
          (area-picks area r.size log (key_of x.entry) (log-in-area area r.size (named r.map) r.slots g.scans)) y e in
          record { top = y; is = e; cell = c; finds = search-within area cells (key_of x.entry) few ∙ s }

  -- keys with one cell are one
  one_cell : (j k : Key) (a : KeyCell j) (b : KeyCell k) → a.cell.cell ≡ b.cell.cell → j ≡ k
  one_cell j k a b e =
      let p = latest-some log j a.top a.is in
      let q = latest-some log k b.top b.is in
      let place : place_of r.size a.top ≡ place_of r.size b.top =
      omega (arith, a.cell.holds, b.cell.holds, ap (λ (i : ℕ). get_or cells i 0) e) in
      let same : a.top ≡ b.top = place-one a.top b.top p.member q.member place in
      same_key_lem j a.top.entry p.of-key ∙ ap (λ (x : Placed). key_of x.entry) same ∙ sym (same_key_lem k b.top.entry q.of-key)

  -- the cell has the place of an entry exactly if it is its key's highest version
  pub cell-highest : (x : Placed) → In x log → (c : KeyCell (key_of x.entry)) →
      eqb (get_or cells c.cell.cell 0) (place_of r.size x + 1) ≡ is_highest log x.entry
  unfolding is_version
  cell-highest x m c =
      ap (λ (k : ℕ). eqb k (place_of r.size x + 1)) c.cell.holds
      ∙ tests c.top (latest-some log (key_of x.entry) c.top c.is).member (eqb c.top.entry.version x.entry.version) refl
      ∙ sym (ap (λ (o : Option Placed). is_version o x.entry.version) c.is)
    where
      tests : (y : Placed) → In y log → (t : Bool) → eqb y.entry.version x.entry.version ≡ t →
          eqb (place_of r.size y + 1) (place_of r.size x + 1) ≡ t
      tests y n true e =
          let same : y ≡ x = apart y x n m (eqb-true y.entry.version x.entry.version e) in
          eq-eqb (place_of r.size y + 1) (place_of r.size x + 1) (ap (λ (z : Placed). place_of r.size z + 1) same)
      tests y n false e =
          ne_eqb (place_of r.size y + 1) (place_of r.size x + 1)
          (λ p.
          let same : y ≡ x = place-one y x n m (omega arith) in
          eqb-false y.entry.version x.entry.version e (ap (λ (z : Placed). z.entry.version) same))

  -- the search for the key of an entry of a log slot tells it from another key
  pub tells-in : length cells ≤ 4096 → (k : Key) (c : KeyCell k) (i : ℕ) → i < r.slots → named r.map i ≡ true → (y : Item) →
      In y (slot_items area r.size i) → Tells area cells k c.cell.cell (header_of (slot_layout area r.size i) y.entry)
  unfolding same_key same_keys
  tells-in few k c i h in_map y m =
      record {
        own = λ e. sym (ap (search_for area cells) (same_key_lem k y.entry e)) ∙ c.finds;
        other =
            λ e. (
              own.cell.cell,
              omega (arith, own.cell.below),
              λ q. clash (same_key k y.entry) (ap (λ (j : Key). same_key j y.entry) (sym (one_cell (key_of y.entry) k own c q)) ∙ own_key y.entry) e,
              own.finds,
            );
      }
    where
      own : KeyCell (key_of y.entry)
      own =
          key-cell few (placed_at (v i).layout i y)
          (in-log v (named r.map) r.slots (placed_at (v i).layout i y)
          (record { below = h; picked = in_map; layout = refl; item = subst (λ (is : List Item). In y is) (own-items i h in_map) m }))

  -- ---- a cleaning

  module _ (victims : ℕ) (sub : within victims r.map ≡ true) (few : length cells ≤ 4096) where
    abbrev marks : List ℕ
    marks = marks_of area cells (split_of r victims)

    -- the search for the key of an entry of a slot outside the victims tells it from another key
    tells : (k : Key) (c : KeyCell k) (i : ℕ) → i < r.slots → named (less r.map victims) i ≡ true → (y : Item) →
        In y (slot_items area r.size i) → Tells area cells k c.cell.cell (header_of (slot_layout area r.size i) y.entry)
    tells k c i h out =
        tells-in few k c i h (both_left (named r.map i) (not (named victims i)) (sym (outside-named r.map victims i) ∙ out))

    -- a key's cell is marked exactly if an object of the key stands outside the victims, once the walk is made
    abbrev pub walked : List ℕ
    walked = mark_outside area cells (split_of r victims) (replicate 128 0)

    pub marked-outside : (k : Key) (c : KeyCell k) → is_marked walked c.cell.cell ≡ object_outside victims log k
    marked-outside k c =
        below-mark area cells k c.cell.cell (omega (arith, c.cell.below)) (split_of r victims) (replicate 128 0) (length-replicate {A = ℕ} 128 0)
        (clear-marks c.cell.cell) (tells k c) r.slots (omega arith)
        ∙ object-same area r.size r.map victims r.slots g.scans k

    -- where it is not made, no victim's entry is a tombstone
    no_dead : any_tombstone area (split_of r victims) ≡ false → (x : Placed) → In x log → named victims x.slot ≡ true → is_tombstone x.entry ≡ false
    no_dead e x m n =
        let w = stands x m in
        no-tombstone area (split_of r victims) e x.slot w.below n (item_of x)
        (subst (λ (is : List Item). In (item_of x) is) (sym (own-items x.slot w.below w.picked)) w.item)

    -- marks by which a victim's tombstones are kept as the model keeps them
    abbrev pub MarksTell : List ℕ → Type 0
    MarksTell ms =
        (x : Placed) → In x log → named victims x.slot ≡ true → (c : KeyCell (key_of x.entry)) →
        either (not (is_tombstone x.entry)) (is_marked ms c.cell.cell) ≡
        either (not (is_tombstone x.entry)) (object_outside victims log (key_of x.entry))

    pub walked-tells : MarksTell walked
    walked-tells x m n c = ap (either (not (is_tombstone x.entry))) (marked-outside (key_of x.entry) c)

    needed-same : MarksTell marks
    unfolding mark_needed pick either
    needed-same x m n c = go (any_tombstone area (split_of r victims)) refl
      where
        go : (t : Bool) → any_tombstone area (split_of r victims) ≡ t →
            either (not (is_tombstone x.entry)) (is_marked (pick t walked (replicate 128 0)) c.cell.cell) ≡
            either (not (is_tombstone x.entry)) (object_outside victims log (key_of x.entry))
        go true e = ap (either (not (is_tombstone x.entry))) (marked-outside (key_of x.entry) c)
        go false e = rw (no_dead e x m n)

    pub kept_same : (ms : List ℕ) → MarksTell ms → (x : Placed) → In x log → named victims x.slot ≡ true →
        kept_test area cells ms (placed_header x) (place_of r.size x) ≡ is_kept victims log x
    unfolding kept_at cell_kept both
    kept_same ms tell x m e =
        let c = key-cell few x m in
        ap (cell_kept cells ms (is_tombstone x.entry) (place_of r.size x)) c.finds
        ∙ ap (λ (b : Bool). both b (either (not (is_tombstone x.entry)) (is_marked ms c.cell.cell))) (cell-highest x m c)
        ∙ ap (both (is_highest log x.entry)) (tell x m e c)
        ∙ sym (ap (λ (b : Bool). both b (both (is_highest log x.entry) (either (not (is_tombstone x.entry)) (object_outside victims log (key_of x.entry))))) e)

    module _ (bytes : Bytes area) (W : Layout) where
      gathered-kept : (xs : List Placed) → Within xs log → ((x : Placed) → In x xs → named victims x.slot ≡ true) →
          gathered W area cells marks r.size xs ≡ all_encoded W (kept_of victims log xs)
      unfolding gather_by all_encoded kept_of
      gathered-kept [] w f = refl
      gathered-kept (x ∷ xs) w f = go (is_kept victims log x) refl (gathered-kept xs (λ y m. w y (Memᴰ.tail m)) (λ y m. f y (Memᴰ.tail m)))
        where
          entry-part : List ℕ
          entry-part = kept_entry W area cells marks x.layout (placed_header x) (place_of r.size x)

          same : (t : Bool) → is_kept victims log x ≡ t → kept_test area cells marks (placed_header x) (place_of r.size x) ≡ t
          same t e = kept_same marks needed-same x (w x first) (f x first) ∙ e

          go : (t : Bool) → is_kept victims log x ≡ t → gathered W area cells marks r.size xs ≡ all_encoded W (kept_of victims log xs) →
              entry-part ++ gathered W area cells marks r.size xs ≡ all_encoded W (kept_of victims log (x ∷ xs))
          go true e ih =
              ap (λ (l : List ℕ). l ++ gathered W area cells marks r.size xs) (pick_true _ _ _ (same true e) ∙ own-moved x (w x first) bytes W)
              ∙ ap (λ (l : List ℕ). encoded W x.entry ++ l) ih
              ∙ ap (all_encoded W) (sym (kept-front victims log x xs e))
          go false e ih =
              ap (λ (l : List ℕ). l ++ gathered W area cells marks r.size xs) (pick-false _ _ _ (same false e))
              ∙ ih
              ∙ ap (all_encoded W) (sym (kept-behind victims log x xs e))

      -- the part of the log that one slot is
      part_in : (i : ℕ) → i < r.slots → Within (part_of v (named r.map) i) log
      part_in i h x m = go (named r.map i) refl
        where
          go : (t : Bool) → named r.map i ≡ t → In x log
          go true e =
              let w = mem-placed (v i).layout i x (items_of (v i).scan) (rw (part-picked v (named r.map) i e) at m) in
              in-log v (named r.map) r.slots x
              (record {
                below = omega (arith, w.slot);
                picked = ap (named r.map) w.slot ∙ e;
                layout = w.layout ∙ ap (λ (j : ℕ). (v j).layout) (sym w.slot);
                item = subst (λ (j : ℕ). In (item_of x) (items_of (v j).scan)) (sym w.slot) w.item;
              })
          go false e = absurd (Memᴰ.not-nil (rw (part-passed v (named r.map) i e) at m))

      part-slot : (i : ℕ) (x : Placed) → In x (part_of v (named r.map) i) → x.slot ≡ i
      part-slot i x m = go (named r.map i) refl
        where
          go : (t : Bool) → named r.map i ≡ t → x.slot ≡ i
          go true e = (mem-placed (v i).layout i x (items_of (v i).scan) (rw (part-picked v (named r.map) i e) at m)).slot
          go false e = absurd (Memᴰ.not-nil (rw (part-passed v (named r.map) i e) at m))

      part-kept : (i : ℕ) → i < r.slots →
          kept_part W area cells marks (split_of r victims) i ≡ all_encoded W (kept_of victims log (part_of v (named r.map) i))
      unfolding all_encoded
      part-kept i h = go (named victims i) refl
        where
          go : (t : Bool) → named victims i ≡ t →
              kept_part W area cells marks (split_of r victims) i ≡ all_encoded W (kept_of victims log (part_of v (named r.map) i))
          go true e =
              let in_map : named r.map i ≡ true =
              set-named r.map i (omega (arith, within-le victims r.map sub i, named-true victims i e, bit_le r.map i)) in
              let whole : placed_in (v i).layout i (slot_items area r.size i) ≡ part_of v (named r.map) i =
              ap (placed_in (v i).layout i) (own-items i h in_map) ∙ sym (part-picked v (named r.map) i in_map) in
              sym (part-victim W area cells marks (split_of r victims) i (v i).layout refl e)
              ∙ ap (gathered W area cells marks r.size) whole
              ∙ gathered-kept (part_of v (named r.map) i) (part_in i h) (λ x m. ap (named victims) (part-slot i x m) ∙ e)
          go false e =
              part-other W area cells marks (split_of r victims) i e
              ∙ sym (ap (all_encoded W) (kept-none victims log (part_of v (named r.map) i) (λ x m. ap (named victims) (part-slot i x m) ∙ e)))

      below-kept : (n : ℕ) → n ≤ r.slots →
          kept_below W area cells marks (split_of r victims) n ≡ all_encoded W (kept_of victims log (log_of v (named r.map) n))
      unfolding kept_below log_of kept_of all_encoded
      below-kept zero h = refl
      below-kept (suc n) h =
          (λ i. below-kept n (omega arith) i ++ part-kept n h i)
          ∙ sym (encoded-append W (kept_of victims log (log_of v (named r.map) n)) (kept_of victims log (part_of v (named r.map) n)))
          ∙ ap (all_encoded W) (sym (kept_append victims log (log_of v (named r.map) n) (part_of v (named r.map) n)))

      pub bytes-kept : kept_bytes W area cells marks (split_of r victims) ≡ all_encoded W (kept victims log)
      bytes-kept = below-kept r.slots (omega arith)
