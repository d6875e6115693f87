-- Laws of: What recovery counts over the cells is, under the index rule, what a scan of the log counts: both are sums of a number for each
use Prim.Native.Nat.{ℕ, zero, suc, ◌+◌, ◌*◌, ◌-◌, ◌/◌, ◌%◌, ◌≤◌, ◌<◌}
use Rattle.std.specs.Prelude.{◌≡◌, Bool, ◌⊎◌, eqb, drop, replicate}
use Rattle.std.proofs.Math.Path.{refl, sym, ap, ap₂}
use Rattle.std.proofs.Common.{◌∙◌, inl, inr, add-one, length-take, drop_of_length-le, eq-eqb, ne_eqb}
use Rattle.std.proofs.Math.Bool.{true, false}
use mathlib.Core.List.Memᴰ
use mathlib.Core.List.{List, [], ◌∷◌}
use Rattle.std.proofs.Math.Option.{Option, none, some}
use Rattle.std.proofs.Math.Decide.{ℕ_discrete, dec_lt}
use native.Mathlib.Omega.{arith}
use Rattle.std.proofs.Math.ListN.{length, get_or}
use Rattle.std.proofs.lemmas.List.{length-replicate, get_or-replicate}
use Rattle.std.proofs.Math.Seq.{drop-cons}
use Rattle.segment.specs.Choice.{pick}
use Rattle.segment.proofs.Choice.{pick_true, pick-false, either-false-right}
use Rattle.segment.specs.Layout.{Layout}
use Rattle.segment.specs.Area.{layout_at, found_at, object_length, object_at}
use Rattle.segment.proofs.AreaLaws.{object-place, place-slot, place-offset}
use Rattle.segment.specs.Digest.{layout_in}
use Rattle.segment.specs.Entry.{Entry, Found, entry, end, damage, entry_at, is_tombstone, bytes_in, size_of, key_of, answer, kind_of}
use Rattle.segment.proofs.EntryLaws.{found-fits, found-known}
use Rattle.segment.specs.declared.Read.{Read}
use Rattle.model.specs.Log.{Placed, place_of, placed_size, segment_of, latest, object_only, present, is_version, has_version, version_shared}
use Rattle.model.specs.Counts.{is_present, present_size, more_bytes, counts_of, object_size}
use Rattle.model.specs.Index.{IsLatest, IndexRule}
use Rattle.laws.specs.Members.{In, first, Once, empty, more, those, total}
use Rattle.laws.specs.Latest.{latest-some}
use Rattle.laws.specs.Versions.{shared-apart, shared-count, counted, count-member}
use Rattle.laws.specs.Forgotten.{present-live}
use Rattle.laws.specs.OperationsKept.{edition-roomy}
use Rattle.laws.specs.Counted.{length_more, more-at, slot_total, slot-total-cons, counts-are}
use Rattle.index.proofs.Area.{place-back}
use Rattle.index.proofs.Finds.{held}
use Rattle.recovery.specs.Counting.{count_cell, count_cells, counted_in, NoneAbove}
use Rattle.recovery.specs.CountLaws.{Left, left, sum}

-- a list without repeats sums to no more than one that has its members, those that add nothing aside
sum-most : {A : Type 0} (f : A → ℕ) (a b : List A) → Once a → ((x : A) → In x a → (f x ≡ 0 → ⊥) → In x b) → sum f a ≤ sum f b
unfolding sum
sum-most f [] b o w = omega arith
sum-most {A} f (x ∷ a) b (more n o) w = go (ℕ_discrete (f x) 0) (λ l h. sum-most f a l o h)
  where
    Bound : Type 0
    Bound = (l : List A) → ((y : A) → In y a → (f y ≡ 0 → ⊥) → In y l) → sum f a ≤ sum f l

    apart : (rest : List A) (y : A) → In y a → (y ≡ x) ⊎ In y rest → In y rest
    apart rest y m (inl d) = absurd (n (Memᴰ.cast (sym d) m))
    apart rest y m (inr i) = i

    with_rest : Left f x b → Bound → f x + sum f a ≤ sum f b
    with_rest l ih =
        omega (arith, l.sums, ih l.rest (λ y m d. apart l.rest y m (l.others y (w y (Memᴰ.tail m) d))))

    go : Dec (f x ≡ 0) → Bound → f x + sum f a ≤ sum f b
    go (yes e) ih = omega (arith, ih b (λ y m d. w y (Memᴰ.tail m) d))
    go (no e) ih = with_rest (left f x b (w x first e)) ih

-- two lists without repeats that have the same members, those that add nothing aside, have the same sum
sum_same : {A : Type 0} (f : A → ℕ) (a b : List A) → Once a → Once b → ((x : A) → In x a → In x b) → ((x : A) → In x b → (f x ≡ 0 → ⊥) → In x a)
    → sum f a ≡ sum f b
sum_same f a b p q to from = omega (arith, sum-most f a b p (λ x m d. to x m), sum-most f b a q from)

-- ---- the numbers stay small

-- no entry is longer than the smallest segment
pub object-most : (area : List ℕ) (p : ℕ) → object_at area p ≤ 256
unfolding object_length answer
object-most area p = go (found_at area p) refl
  where
    by_kind : (L : Layout) (e : Entry) → size_of L e ≤ 256 → (t : Bool)
        → object_length (pick t (Read.Tombstone (key_of e) (record { 0 = e.version }) (size_of L e)) (Read.Object (key_of e) (record { 0 = e.version }) (kind_of L e) (size_of L e))) ≤ 256
    by_kind L e h true = unfold pick in omega arith
    by_kind L e h false = unfold pick in h

    go : (f : Found) → found_at area p ≡ f → object_length (answer (layout_at area p) f) ≤ 256
    go (entry e) q =
        let L : Layout = layout_at area p in
        let room = (edition-roomy L).room (kind_of L e) (length (bytes_in e.value)) (found-known L area p e q) in
        by_kind L e (omega arith) (is_tombstone e)
    go end q = omega arith
    go damage q = omega arith

more-most : (i n k m : ℕ) (c : List ℕ) → n ≤ k → NoneAbove m c → NoneAbove (m + k) (more_bytes i n c)
more-most i n k m c h low j = go (dec_lt j (length c)) (eqb i j) refl
  where
    go : Dec (j < length c) → (t : Bool) → eqb i j ≡ t → get_or (more_bytes i n c) j 0 ≤ m + k
    go (yes l) true e = omega (arith, more-at i j n c l, pick_true (eqb i j) n 0 e, low j)
    go (yes l) false e = omega (arith, more-at i j n c l, pick-false (eqb i j) n 0 e, low j)
    go (no l) t e = omega (arith, past (more_bytes i n c) j (omega (arith, length_more i n c)))
      where
        past : (l : List ℕ) (j : ℕ) → length l ≤ j → get_or l j 0 ≡ 0
        past [] zero h = refl
        past [] (suc j) h = refl
        past (x ∷ l) zero h = absurd (omega arith)
        past (x ∷ l) (suc j) h = past l j (omega arith)

pub cell-most : (S : ℕ) (area : List ℕ) (c m : ℕ) (counts : List ℕ) → NoneAbove m counts
    → NoneAbove (m + 256) (count_cell S area c counts)
unfolding count_cell
cell-most S area c m counts low = go (eqb c 0)
  where
    go : (t : Bool) → NoneAbove (m + 256) (pick t counts (more_bytes ((c - 1) / S) (object_at area (c - 1)) counts))
    go true = unfold pick in λ j. omega (arith, low j)
    go false = unfold pick in more-most ((c - 1) / S) (object_at area (c - 1)) 256 m counts (object-most area (c - 1)) low

-- ---- the loop over the cells

module _ (S : ℕ) (area : List ℕ) where
  pub count-free : (c : ℕ) (counts : List ℕ) → c ≡ 0 → counts ≡ count_cell S area c counts
  unfolding count_cell
  count-free c counts e = sym (pick_true (eqb c 0) counts _ (eq-eqb c 0 e))

  pub count_held : (c bytes : ℕ) (counts after : List ℕ) → (c ≡ 0 → ⊥) → bytes ≡ object_at area (c - 1) → after ≡ more_bytes ((c - 1) / S) bytes counts
      → after ≡ count_cell S area c counts
  unfolding count_cell
  count_held c bytes counts after e b a =
      a ∙ ap (λ (n : ℕ). more_bytes ((c - 1) / S) n counts) b
      ∙ sym (pick-false (eqb c 0) counts (more_bytes ((c - 1) / S) (object_at area (c - 1)) counts) (ne_eqb c 0 e))

  length-cell : (c : ℕ) (counts : List ℕ) → length (count_cell S area c counts) ≡ length counts
  unfolding count_cell
  length-cell c counts = go (eqb c 0)
    where
      go : (t : Bool) → length (pick t counts (more_bytes ((c - 1) / S) (object_at area (c - 1)) counts)) ≡ length counts
      go true = unfold pick in refl
      go false = unfold pick in length_more ((c - 1) / S) (object_at area (c - 1)) counts

  length-cells : (cells counts : List ℕ) → length (count_cells S area cells counts) ≡ length counts
  unfolding count_cells
  length-cells [] counts = refl
  length-cells (c ∷ cells) counts = length-cells cells (count_cell S area c counts) ∙ length-cell c counts

  -- After i cells the 32 numbers are small, and the cells left, counted on top of them, give the whole answer.
  pub record Counting (cells : List ℕ) (i : ℕ) (counts : List ℕ) : Type 0 where
    pub few : i ≤ length cells
    pub size : length counts ≡ 32
    pub low : NoneAbove (256 * i) counts
    pub counted : count_cells S area (drop i cells) counts ≡ counted_in S area cells

  pub count-starts : (cells : List ℕ) → Counting cells 0 (replicate 32 0)
  count-starts cells = record { few = omega arith; size = length-replicate {A = ℕ} 32 0; low = zeros 32; counted = refl }
    where
      zeros : (n i : ℕ) → get_or (replicate n 0) i 0 ≤ 0
      zeros zero zero = omega arith
      zeros zero (suc i) = omega arith
      zeros (suc n) zero = omega arith
      zeros (suc n) (suc i) = zeros n i

  pub count_turn : (cells : List ℕ) (i : ℕ) (counts after : List ℕ) → i < length cells → Counting cells i counts
      → after ≡ count_cell S area (get_or cells i 0) counts → Counting cells (i + 1) after
  unfolding count_cells
  count_turn cells i counts after l c e =
      record {
        few = omega arith;
        size = ap length e ∙ length-cell (get_or cells i 0) counts ∙ c.size;
        low = λ j. omega (arith, ap (λ (n : List ℕ). get_or n j 0) e, cell-most S area (get_or cells i 0) (256 * i) counts c.low j);
        counted = ap (count_cells S area (drop (i + 1) cells)) e ∙ turn ∙ c.counted;
      }
    where
      turn : count_cells S area (drop (i + 1) cells) (count_cell S area (get_or cells i 0) counts) ≡ count_cells S area (drop i cells) counts
      turn = rw (add-one i, drop-cons cells i 0 l)

  pub count-ends : (cells : List ℕ) (i : ℕ) (counts : List ℕ) → length cells ≤ i → Counting cells i counts → counts ≡ counted_in S area cells
  unfolding count_cells
  count-ends cells i counts h c = sym (ap (λ (l : List ℕ). count_cells S area l counts) (drop_of_length-le cells {i = i} h)) ∙ c.counted

  -- ---- what is counted is a sum over the cells

  module _ (i : ℕ) where
    -- what a cell adds to the number of slot i
    unfoldable cell_bytes : ℕ → ℕ
    cell_bytes c = pick (eqb c 0) 0 (pick (eqb ((c - 1) / S) i) (object_at area (c - 1)) 0)

    cell_at : (c : ℕ) (counts : List ℕ) → i < length counts → get_or (count_cell S area c counts) i 0 ≡ get_or counts i 0 + cell_bytes c
    unfolding count_cell cell_bytes
    cell_at c counts l = go (eqb c 0)
      where
        go : (t : Bool) → get_or (pick t counts (more_bytes ((c - 1) / S) (object_at area (c - 1)) counts)) i 0
            ≡ get_or counts i 0 + pick t 0 (pick (eqb ((c - 1) / S) i) (object_at area (c - 1)) 0)
        go true = unfold pick in omega arith
        go false = unfold pick in more-at ((c - 1) / S) i (object_at area (c - 1)) counts l

    cells_at : (cells counts : List ℕ) → i < length counts → get_or (count_cells S area cells counts) i 0 ≡ get_or counts i 0 + sum cell_bytes cells
    unfolding count_cells sum
    cells_at [] counts l = omega arith
    cells_at (c ∷ cells) counts l =
        omega (arith, cells_at cells (count_cell S area c counts) (omega (arith, length-cell c counts)), cell_at c counts l)

-- ---- the log's side

-- no entry stands twice in a log whose versions are not shared
log-once : (log : List Placed) → version_shared log ≡ false → Once log
unfolding version_shared total counted
log-once [] e = empty
log-once (x ∷ xs) e =
    more {x = x} {l = xs}
    (λ m.
    omega (
      arith,
      shared-count (x ∷ xs) e x.entry.version,
      count-member x.entry.version m refl,
      pick_true {A = ℕ} (eqb x.entry.version x.entry.version) 1 0 (eq-eqb x.entry.version x.entry.version refl),
    ))
    (log-once xs (either-false-right (has_version xs x.entry.version) (version_shared xs) e))

slot-sum : (f : Placed → ℕ) (i : ℕ) (log : List Placed) → slot_total f i log ≡ sum (λ (x : Placed). pick (eqb x.slot i) (f x) 0) log
unfolding sum those total
slot-sum f i [] = refl
slot-sum f i (x ∷ xs) = slot-total-cons f i x xs ∙ ap (λ (n : ℕ). pick (eqb x.slot i) (f x) 0 + n) (slot-sum f i xs)

-- the latest entry of a key is present if it is an object
latest-size : (log : List Placed) (x : Placed) → IsLatest log x → present_size log x ≡ object_size x.layout x.entry
unfolding present object_only
latest-size log x l =
    ap (λ (o : Option Placed). pick (is_version (object_only o) x.entry.version) (placed_size x) 0) l ∙ go (is_tombstone x.entry)
  where
    go : (t : Bool) → pick (is_version (pick t none (some x)) x.entry.version) (placed_size x) 0 ≡ pick t 0 (placed_size x)
    go true = unfold pick is_version in refl
    go false = unfold pick is_version in pick_true (eqb x.entry.version x.entry.version) (placed_size x) 0 (eq-eqb x.entry.version x.entry.version refl)

-- an entry that adds something is the latest of its key
present-latest : (log : List Placed) (x : Placed) → version_shared log ≡ false → In x log → (present_size log x ≡ 0 → ⊥) → IsLatest log x
unfolding is_version
present-latest log x apart m some_size = go (present log (key_of x.entry)) refl
  where
    go : (o : Option Placed) → present log (key_of x.entry) ≡ o → IsLatest log x
    go none e =
        absurd (some_size (pick-false (is_present log x.entry) (placed_size x) 0 (ap (λ (o : Option Placed). is_version o x.entry.version) e)))
    go (some z) e = by-version (ℕ_discrete z.entry.version x.entry.version)
      where
        live : latest log (key_of x.entry) ≡ some z
        live = (present-live log (key_of x.entry) z e).latest-of

        by-version : Dec (z.entry.version ≡ x.entry.version) → IsLatest log x
        by-version (yes d) = live ∙ ap some (shared-apart log apart z x (latest-some log (key_of x.entry) z live).member m d)
        by-version (no d) =
            absurd
            (some_size
            (pick-false (is_present log x.entry) (placed_size x) 0
            (ap (λ (o : Option Placed). is_version o x.entry.version) e ∙ ne_eqb z.entry.version x.entry.version d)))

-- ---- the cells' side, under the index rule

module _ (S : ℕ) (area : List ℕ) (log : List Placed) (cells : List ℕ) (rule : IndexRule S log cells) (apart : version_shared log ≡ false)
    (own : (x : Placed) → In x log → x.layout ≡ layout_in (segment_of area S x.slot))
    (stands : (x : Placed) → In x log → entry_at x.layout (segment_of area S x.slot) x.offset ≡ entry x.entry) where
  inside : (x : Placed) → In x log → x.offset < S
  inside x m =
      omega (
        arith,
        found-fits x.layout (segment_of area S x.slot) x.offset x.entry (stands x m),
        length-take S (drop (x.slot * S) area),
      )

  -- one entry stands at a place
  place-one : (x y : Placed) → In x log → In y log → place_of S x ≡ place_of S y → x ≡ y
  place-one x y m n e =
      let slot : x.slot ≡ y.slot =
      sym (place-slot S x.slot x.offset (inside x m)) ∙ ap (λ (p : ℕ). p / S) e ∙ place-slot S y.slot y.offset (inside y n) in
      let offset : x.offset ≡ y.offset =
      sym (place-offset S x.slot x.offset (inside x m)) ∙ ap (λ (p : ℕ). p % S) e ∙ place-offset S y.slot y.offset (inside y n) in
      let layout : x.layout ≡ y.layout = own x m ∙ ap (λ (i : ℕ). layout_in (segment_of area S i)) slot ∙ sym (own y n) in
      let read : entry x.entry ≡ entry y.entry =
      sym (stands x m) ∙ (λ j. entry_at (layout j) (segment_of area S (slot j)) (offset j)) ∙ stands y n in
      let same : x.entry ≡ y.entry = cc in
      λ j. record { slot = slot j; layout = layout j; offset = offset j; entry = same j }

  member : (x : Placed) → IsLatest log x → In x log
  member x l = (latest-some log (key_of x.entry) x l).member

  object-here : (x : Placed) → In x log → object_at area (place_of S x) ≡ object_size x.layout x.entry
  object-here x m = object-place S area x.slot x.offset x.layout x.entry (stands x m)

  module _ (i : ℕ) where
    abbrev added : ℕ → ℕ
    added c = cell_bytes S area i c

    -- what an entry of the log adds to the number of slot i
    abbrev share : Placed → ℕ
    share x = pick (eqb x.slot i) (present_size log x) 0

    free-share : (c : ℕ) → c ≡ 0 → added c ≡ 0
    unfolding cell_bytes
    free-share c e = pick_true (eqb c 0) 0 _ (eq-eqb c 0 e)

    held_share : (c : ℕ) (x : Placed) → IsLatest log x → c ≡ place_of S x + 1 → added c ≡ share x
    unfolding cell_bytes
    held_share c x l e =
        pick-false (eqb c 0) 0 (pick (eqb ((c - 1) / S) i) (object_at area (c - 1)) 0) (ne_eqb c 0 (λ z. omega arith))
        ∙ ap (λ (p : ℕ). pick (eqb (p / S) i) (object_at area p) 0) (ap (λ (d : ℕ). d - 1) e ∙ place-back (place_of S x))
        ∙ ap₂ (λ (j n : ℕ). pick (eqb j i) n 0) (place-slot S x.slot x.offset (inside x (member x l)))
        (object-here x (member x l) ∙ sym (latest-size log x l))

    -- the entries that the cells from n on hold
    record Gathered (n : ℕ) : Type 0 where
      items : List Placed
      once : Once items
      from : (x : Placed) → In x items → IsLatest log x × (j : ℕ) × (n ≤ j) × (j < length cells) × (get_or cells j 0 ≡ place_of S x + 1)
      all : (j : ℕ) → n ≤ j → j < length cells → (x : Placed) → IsLatest log x → get_or cells j 0 ≡ place_of S x + 1 → In x items
      sums : sum added (drop n cells) ≡ sum share items

    gather : (k n : ℕ) → n + k ≡ length cells → Gathered n
    unfolding sum
    gather zero n e =
        record {
          items = [];
          once = empty;
          from = λ x m. absurd (Memᴰ.not-nil m);
          all = λ j low high x l c. absurd (omega arith);
          sums = ap (sum added) (drop_of_length-le cells {i = n} (omega arith));
        }
    gather (suc k) n e = go (ℕ_discrete (get_or cells n 0) 0) (gather k (suc n) (omega arith))
      where
        below : n < length cells
        below = omega arith

        turn : sum added (drop n cells) ≡ added (get_or cells n 0) + sum added (drop (suc n) cells)
        turn = ap (sum added) (drop-cons cells n 0 below)

        later : (x : Placed) → IsLatest log x × (j : ℕ) × (suc n ≤ j) × (j < length cells) × (get_or cells j 0 ≡ place_of S x + 1)
            → IsLatest log x × (j : ℕ) × (n ≤ j) × (j < length cells) × (get_or cells j 0 ≡ place_of S x + 1)
        later x (l, j, low, high, c) = (l, j, omega arith, high, c)

        passed : get_or cells n 0 ≡ 0 → Gathered (suc n) → Gathered n
        passed z w =
            record {
              items = w.items;
              once = w.once;
              from = λ x m. later x (w.from x m);
              all = λ j low high x l c. other j (ℕ_discrete j n) low high x l c;
              sums = omega (arith, turn, free-share (get_or cells n 0) z, w.sums);
            }
          where
            other : (j : ℕ) → Dec (j ≡ n) → n ≤ j → j < length cells → (x : Placed) → IsLatest log x → get_or cells j 0 ≡ place_of S x + 1 → In x w.items
            other j (yes d) low high x l c = absurd (omega (arith, ap (λ (p : ℕ). get_or cells p 0) d))
            other j (no d) low high x l c = w.all j (omega arith) high x l c

        taken : (get_or cells n 0 ≡ 0 → ⊥) → (y : Placed) × IsLatest log y × (get_or cells n 0 ≡ place_of S y + 1) → Gathered (suc n) → Gathered n
        taken z (y, ly, cy) w =
            record {
              items = y ∷ w.items;
              once = more (λ m. apart_from (w.from y m)) w.once;
              from = from;
              all = λ j low high x l c. other j (ℕ_discrete j n) low high x l c;
              sums = omega (arith, turn, held_share (get_or cells n 0) y ly cy, w.sums);
            }
          where
            apart_from : IsLatest log y × (j : ℕ) × (suc n ≤ j) × (j < length cells) × (get_or cells j 0 ≡ place_of S y + 1) → ⊥
            apart_from (l, j, low, high, c) = absurd (omega (arith, rule.once n j below high z (cy ∙ sym c)))

            from : (x : Placed) → In x (y ∷ w.items) → IsLatest log x × (j : ℕ) × (n ≤ j) × (j < length cells) × (get_or cells j 0 ≡ place_of S x + 1)
            from x (Memᴰ.head d) =
                (ap (λ (u : Placed). latest log (key_of u.entry)) d ∙ ly ∙ ap some (sym d), n, omega arith, below, cy ∙ ap (λ (u : Placed). place_of S u + 1) (sym d))
            from x (Memᴰ.tail m) = later x (w.from x m)

            other : (j : ℕ) → Dec (j ≡ n) → n ≤ j → j < length cells → (x : Placed) → IsLatest log x → get_or cells j 0 ≡ place_of S x + 1 → In x (y ∷ w.items)
            other j (yes d) low high x l c =
                Memᴰ.head (place-one x y (member x l) (member y ly) (omega (arith, c, cy, ap (λ (p : ℕ). get_or cells p 0) d)))
            other j (no d) low high x l c = Memᴰ.tail (w.all j (omega arith) high x l c)

        go : Dec (get_or cells n 0 ≡ 0) → Gathered (suc n) → Gathered n
        go (yes z) w = passed z w
        go (no z) w = taken z (held S log cells rule n below z) w

    cells-log : sum added cells ≡ slot_total (present_size log) i log
    cells-log = go (gather (length cells) 0 (omega arith))
      where
        nothing : (t : Bool) → ◌≡◌ {A = ℕ} (pick t 0 0) 0
        nothing true = unfold pick in refl
        nothing false = unfold pick in refl

        counts : (w : Gathered 0) (x : Placed) → In x log → (share x ≡ 0 → ⊥) → In x w.items
        counts w x m d =
            let l = present-latest log x apart m (λ z. d (ap (λ (n : ℕ). pick (eqb x.slot i) n 0) z ∙ nothing (eqb x.slot i))) in
            let c = rule.found x l in
            w.all c.cell (omega arith) c.below x l c.holds

        go : Gathered 0 → sum added cells ≡ slot_total (present_size log) i log
        go w =
            w.sums
            ∙ sum_same share w.items log w.once (log-once log apart) (λ x m. member x (w.from x m).0) (counts w)
            ∙ sym (slot-sum (present_size log) i log)

  pub counted-log : counted_in S area cells ≡ counts_of log
  counted-log =
      sym
      (counts-are log (counted_in S area cells) (length-cells S area cells (replicate 32 0) ∙ length-replicate {A = ℕ} 32 0)
      (λ i l.
      omega (
        arith,
        cells_at S area i cells (replicate 32 0) (omega (arith, length-replicate {A = ℕ} 32 0)),
        get_or-replicate {A = ℕ} 32 i 0 0 l,
        cells-log i,
      )))
