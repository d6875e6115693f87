-- Laws of: The search at each test of the code. Premises are the tests as the code has them, and what its callees give.
use Rattle.std.specs.Prelude.{ℕ, ◌+◌, ◌-◌, ◌%◌, ◌≤◌, ◌<◌, Bool, true, false, List, ◌⊎◌, eqb, leb, length, take, drop}
use Rattle.std.proofs.Math.Path.{◌≡◌, sym, ap}
use Rattle.std.proofs.Common.{◌∙◌, inl, inr, eq-zero-or-pos, mod-lt}
use Rattle.std.proofs.Math.Decide.{dec_lt}
use native.Mathlib.Omega.{arith}
use Rattle.std.proofs.Math.ListN.{get_or}
use borrow.Author.Tests.{le-leb, lt-leb, leb-true, eq-eqb, ne_eqb}
use Rattle.word.specs.Fnv.{key_hash}
use Rattle.word.specs.Number.{number_of}
use Rattle.segment.specs.Area.{layout_at}
use Rattle.segment.specs.Choice.{pick, both}
use Rattle.segment.proofs.Choice.{pick_true, pick-false, both_left, both-false-left, both-false-right}
use Rattle.segment.specs.Layout.{Layout, edition1, entry_size, table}
use Rattle.segment.specs.declared.Key.{Key}
use Rattle.model.specs.Index.{around, start_cell}
use Rattle.index.proofs.Around.{around-below, start-below}
use Rattle.index.specs.Search.{table_at, key_at, version_at, has_key_at, cell_has, probe, most_cells, search_for}
use Rattle.index.proofs.Probe.{or_else, or-full, probe-none, probe-free, probe-at, probe-up, probe-split, Probed, probed, reached-below}
use Rattle.index.specs.declared.Found.{Found}
use Rattle.index.specs.SearchLaws.{Inside}

-- ---- whether the entry at a place has a key

module _ (area : List ℕ) (k : Key) (p : ℕ) where
  pub key-no-room : length area < p + entry_size edition1 0 → false ≡ has_key_at area k p
  unfolding has_key_at
  key-no-room h = sym (both-false-left (leb (p + entry_size edition1 0) (length area)) _ (lt-leb (p + entry_size edition1 0) (length area) h))

  pub key-other-table : (t : ℕ) → t ≡ table_at area p → (k.table ≡ t → ⊥) → false ≡ has_key_at area k p
  unfolding has_key_at
  key-other-table t e n =
      sym
      (both-false-right (leb (p + entry_size edition1 0) (length area)) _
      (both-false-left (eqb k.table (table_at area p)) _ (ne_eqb k.table (table_at area p) (λ q. n (q ∙ sym e)))))

  pub key-by-key :
      p + entry_size edition1 0 ≤ length area → (t : ℕ) → t ≡ table_at area p → k.table ≡ t → (j : ℕ) → j ≡ key_at area p →
      eqb k.key j ≡ has_key_at area k p
  unfolding has_key_at both
  key-by-key h t et q j ej =
      rw (le-leb (p + entry_size edition1 0) (length area) h, eq-eqb k.table (table_at area p) (q ∙ et), ej)

-- ---- the version at a place

module _ (area : List ℕ) (p : ℕ) (L : Layout) (own : L ≡ layout_at area p) (head : ℕ) (long : head ≡ entry_size L 0) where
  abbrev read : ℕ
  read = number_of (take (table L).width (drop (p + 7) area))

  by-own : pick (leb (p + entry_size L 0) (length area)) read 0 ≡ version_at area p
  by-own = ap (λ (K : Layout). pick (leb (p + entry_size K 0) (length area)) (number_of (take (table K).width (drop (p + 7) area))) 0) own

  pub version-none : length area - p < head → 0 ≡ version_at area p
  version-none h = sym (pick-false (leb (p + entry_size L 0) (length area)) read 0 (lt-leb (p + entry_size L 0) (length area) (omega arith))) ∙ by-own

  pub version-whole : p < length area → head ≤ length area - p → read ≡ version_at area p
  version-whole l h = sym (pick_true (leb (p + entry_size L 0) (length area)) read 0 (le-leb (p + entry_size L 0) (length area) (omega arith))) ∙ by-own

-- ---- a turn of the search up to an end: the whole answer is the answer from here

module _ (t : ℕ → Bool) (cells : List ℕ) (whole : Found) (end at : ℕ) (from : probe t cells (end - at) at ≡ whole) where
  pub turn-full : end ≤ at → Found.Full ≡ whole
  turn-full h = sym (probe-none t cells at) ∙ ap (λ (n : ℕ). probe t cells n at) (omega arith) ∙ from

  module _ (below : at < end) where
    pub turn-free : get_or cells at 0 ≡ 0 → Found.Free at ≡ whole
    turn-free z = sym (probe-free t cells (end - at) (end - (at + 1)) at (omega arith) z) ∙ from

    pub turn_at : (get_or cells at 0 ≡ 0 → ⊥) → t (get_or cells at 0) ≡ true → Found.At at ≡ whole
    turn_at n e = sym (probe-at t cells (end - at) (end - (at + 1)) at (omega arith) n e) ∙ from

    pub turn-next :
        end ≤ length cells → (get_or cells at 0 ≡ 0 → ⊥) → t (get_or cells at 0) ≡ false →
        probe t cells (end - (at + 1)) (at + 1) ≡ whole
    turn-next h n e = sym (probe-up t cells (end - at) (end - (at + 1)) at (omega arith) (omega arith) n e) ∙ from

module _ (area cells : List ℕ) (k : Key) where
  -- up to the most cells all are searched, and above that none
  pub search-within : length cells ≤ most_cells → search_for area cells k ≡ probe (cell_has area k) cells (length cells) (start_cell (length cells) k)
  unfolding search_for
  search-within h = pick_true (leb (length cells) most_cells) _ _ (le-leb (length cells) most_cells h)

  pub search-above : most_cells < length cells → Found.Full ≡ search_for area cells k
  unfolding search_for
  search-above h = sym (pick-false (leb (length cells) most_cells) _ _ (lt-leb (length cells) most_cells h))

  pub search-empty : length cells ≡ 0 → Found.Full ≡ search_for area cells k
  search-empty z =
      sym
      (search-within (omega arith)
      ∙ ap (λ (f : ℕ). probe (cell_has area k) cells f (start_cell (length cells) k)) z
      ∙ probe-none (cell_has area k) cells (start_cell (length cells) k))

-- the first cell to look at is one of the cells
pub first_below : (m at hash : ℕ) → 0 < m → at ≡ hash % m → at < m
first_below m at hash some first = rw first (mod-lt hash some)

-- The search in two runs, m being the number of cells and at the first to look at, as the code holds them.
pub search-runs :
    (area cells : List ℕ) (k : Key) {m at hash : ℕ} → m ≡ length cells → 0 < m → length cells ≤ most_cells →
    hash ≡ key_hash k.table k.key → at ≡ hash % m →
    or_else (probe (cell_has area k) cells (m - at) at) (probe (cell_has area k) cells at 0) ≡ search_for area cells k
search-runs area cells k {m} {at} {hash} long some most hashed first =
    sym
    (search-within area cells k most
    ∙ (λ i. t (all i) (start i))
    ∙ probe-split (cell_has area k) cells at (m - at) at (omega (arith, below)))
  where
    t : ℕ → ℕ → Found
    t = probe (cell_has area k) cells

    below : at < m
    below = first_below m at hash some first

    all : length cells ≡ m - at + at
    all = omega (arith, below)

    start : start_cell (length cells) k ≡ around (length cells) at
    start = sym (around-below (length cells) at (omega (arith, below)) ∙ first ∙ λ i. hashed i % long i)

-- ---- a run from a cell up to an end, by its answer: the whole answer is that of this run, or of one from 0 up to the cell

module _ (t : ℕ → Bool) (cells : List ℕ) (whole : Found) (from end : ℕ)
    (runs : or_else (probe t cells (end - from) from) (probe t cells from 0) ≡ whole) where
  pub runs-over : from ≤ end → end ≤ 0 → Found.Full ≡ whole
  unfolding or_else
  runs-over h z = sym (λ i. or_else (none (end - from) from (omega arith) i) (none from 0 (omega arith) i)) ∙ runs
    where
      none : (f at : ℕ) → f ≡ 0 → probe t cells f at ≡ Found.Full
      none f at e = ap (λ (n : ℕ). probe t cells n at) e ∙ probe-none t cells at

  module _ (run : Found) (is : run ≡ probe t cells (end - from) from) where
    by-run : (a : Found) → run ≡ a → or_else a (probe t cells from 0) ≡ whole
    by-run a e = ap (λ (x : Found). or_else x (probe t cells from 0)) (sym e ∙ is) ∙ runs

    pub run_at : (i : ℕ) → run ≡ Found.At i → Found.At i ≡ whole
    unfolding or_else
    run_at i e = by-run (Found.At i) e

    pub run-free : (i : ℕ) → run ≡ Found.Free i → Found.Free i ≡ whole
    unfolding or_else
    run-free i e = by-run (Found.Free i) e

    -- after the run from 0 nothing is left
    pub run-next : run ≡ Found.Full → or_else (probe t cells (from - 0) 0) (probe t cells 0 0) ≡ whole
    unfolding or_else
    run-next e =
        ap (or_else (probe t cells (from - 0) 0)) (probe-none t cells 0)
        ∙ or-full (probe t cells (from - 0) 0)
        ∙ ap (λ (f : ℕ). probe t cells f 0) (omega arith)
        ∙ by-run Found.Full e

module _ (area cells : List ℕ) (k : Key) (i : ℕ) where
  -- an answer that is not full came from some cell, of no more than the most
  some-cell : (a : Found) → search_for area cells k ≡ a → (Found.Full ≡ a → ⊥) → (0 < length cells) × (length cells ≤ most_cells)
  some-cell a e n = go (eq-zero-or-pos (length cells)) (dec_lt most_cells (length cells))
    where
      go : (length cells ≡ 0) ⊎ (0 < length cells) → Dec (most_cells < length cells) → (0 < length cells) × (length cells ≤ most_cells)
      go (inl z) d = absurd (n (search-empty area cells k z ∙ e))
      go (inr h) (yes l) = absurd (n (search-above area cells k l ∙ e))
      go (inr h) (no l) = (h, omega arith)

  pub search-inside : search_for area cells k ≡ Found.At i → Inside area cells i
  unfolding Probed has_key_at
  search-inside e =
      let h = some-cell (Found.At i) e (λ q. let z : ◌≡◌ {A = ℕ} 0 1 = cc in omega arith) in
      let s = start-below (length cells) k h.0 in
      let w : Probed (cell_has area k) cells (start_cell (length cells) k) (Found.At i) = rw (sym (search-within area cells k h.1) ∙ e) at (probed (cell_has area k) cells (start_cell (length cells) k) s) in
      record {
        below = reached-below (cell_has area k) cells (start_cell (length cells) k) i s w.0;
        taken = nonzero w.1;
        fits = leb-true (get_or cells i 0 - 1 + entry_size edition1 0) (length area) (both_left (leb (get_or cells i 0 - 1 + entry_size edition1 0) (length area)) _ w.2);
      }
    where
      nonzero : (get_or cells i 0 ≡ 0 → ⊥) → 0 < get_or cells i 0
      nonzero n = omega arith

  pub search-free : search_for area cells k ≡ Found.Free i → i < length cells
  unfolding Probed
  search-free e =
      let h = some-cell (Found.Free i) e (λ q. let z : ◌≡◌ {A = ℕ} 0 1 = cc in omega arith) in
      let s = start-below (length cells) k h.0 in
      let w : Probed (cell_has area k) cells (start_cell (length cells) k) (Found.Free i) = rw (sym (search-within area cells k h.1) ∙ e) at (probed (cell_has area k) cells (start_cell (length cells) k) s) in
      reached-below (cell_has area k) cells (start_cell (length cells) k) i s w.0
