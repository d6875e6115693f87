-- Laws of: Under the index rule a search finds the latest entry of its key, or a free cell while there are fewer keys than cells.
use Rattle.std.specs.Prelude.{ℕ, zero, suc, ◌+◌, ◌≤◌, ◌<◌, Bool, true, false, List, [], ◌∷◌, ltb}
use Rattle.std.proofs.Math.Path.{◌≡◌, refl}
use Rattle.std.proofs.Common.{sym, ◌∙◌, ap, subst, inl, inr, ltb-true, ltb-false}
use mathlib.Core.List.Memᴰ
use Rattle.std.proofs.Math.Option.{none, some}
use native.Mathlib.Omega.{arith}
use Rattle.std.proofs.Math.ListN.{length, get_or}
use Rattle.segment.specs.Entry.{key_of}
use Rattle.segment.specs.declared.Key.{Key}
use Rattle.model.specs.Log.{Placed, place_of, same_key, latest, keys_of}
use Rattle.model.specs.Index.{around, start_cell, Met, IsLatest, CellGood, HasCell, IndexRule}
use Rattle.laws.specs.Members.{clash, In, Once, empty, more, Within, once-length}
use Rattle.laws.specs.Latest.{same_key_lem, latest-some, latest-has}
use Rattle.laws.specs.Keys.{key-listed}
use Rattle.index.specs.Search.{probe}
use Rattle.index.proofs.Around.{around-onto, start-below}
use Rattle.index.proofs.Probe.{Pass, Reached, Probed, probed, reached-met, reached-below}
use Rattle.index.specs.declared.Found.{Found}
use Rattle.index.specs.declared.Found.TheVariants.{At, Free, Full}
use Rattle.index.specs.Finds.{FreeCell, Picks}

module _ (S : ℕ) (log : List Placed) (cells : List ℕ) (rule : IndexRule S log cells) where
  -- what a cell that is not 0 holds
  pub held : (i : ℕ) → i < length cells → (get_or cells i 0 ≡ 0 → ⊥) → (x : Placed) × IsLatest log x × (get_or cells i 0 ≡ place_of S x + 1)
  held i h n = go (rule.good i h)
    where
      go : CellGood S log (get_or cells i 0) → (x : Placed) × IsLatest log x × (get_or cells i 0 ≡ place_of S x + 1)
      go (inl e) = absurd (n e)
      go (inr w) = w

  -- ---- the cells that are not 0 are no more than the keys

  -- the keys of the entries in the first n cells, where none of these is 0
  record Filled (n : ℕ) : Type 0 where
    keys : List Key
    once : Once keys
    within : Within keys (keys_of log)
    long : length keys ≡ n
    from : (k : Key) → In k keys → (i : ℕ) × (i < n) × (x : Placed) × (latest log k ≡ some x) × (get_or cells i 0 ≡ place_of S x + 1)

  fill : (n : ℕ) → n ≤ length cells → ((i : ℕ) → i < length cells → get_or cells i 0 ≡ 0 → ⊥) → Filled n
  fill zero h f =
      record { keys = []; once = empty; within = λ k m. absurd (Memᴰ.not-nil m); long = refl; from = λ k m. absurd (Memᴰ.not-nil m) }
  fill (suc n) h f = go (held n h (f n h)) (fill n (omega arith) f)
    where
      go : (x : Placed) × IsLatest log x × (get_or cells n 0 ≡ place_of S x + 1) → Filled n → Filled (suc n)
      go (x, l, c) w =
          record { keys = key_of x.entry ∷ w.keys; once = more new w.once; within = within; long = ap suc w.long; from = from }
        where
          new : In (key_of x.entry) w.keys → ⊥
          new m = apart (w.from (key_of x.entry) m)
            where
              apart : (i : ℕ) × (i < n) × (y : Placed) × (latest log (key_of x.entry) ≡ some y) × (get_or cells i 0 ≡ place_of S y + 1) → ⊥
              apart (i, b, y, ly, cy) =
                  let same : y ≡ x = cc in
                  absurd (omega (arith, rule.once i n (omega arith) h (f i (omega arith)) (cy ∙ ap (λ (z : Placed). place_of S z + 1) same ∙ sym c)))

          within : Within (key_of x.entry ∷ w.keys) (keys_of log)
          within k (Memᴰ.head e) = subst (λ (j : Key). In j (keys_of log)) (sym e) (key-listed log (key_of x.entry) (latest-has log (key_of x.entry) x l))
          within k (Memᴰ.tail m) = w.within k m

          from : (k : Key) → In k (key_of x.entry ∷ w.keys)
              → (i : ℕ) × (i < suc n) × (y : Placed) × (latest log k ≡ some y) × (get_or cells i 0 ≡ place_of S y + 1)
          from k (Memᴰ.head e) = (n, omega arith, x, ap (latest log) e ∙ l, c)
          from k (Memᴰ.tail m) = later (w.from k m)
            where
              later : (i : ℕ) × (i < n) × (y : Placed) × (latest log k ≡ some y) × (get_or cells i 0 ≡ place_of S y + 1)
                  → (i : ℕ) × (i < suc n) × (y : Placed) × (latest log k ≡ some y) × (get_or cells i 0 ≡ place_of S y + 1)
              later (i, b, y, ly, cy) = (i, omega arith, y, ly, cy)

  pub not-all-held : length (keys_of log) < length cells → ((i : ℕ) → i < length cells → get_or cells i 0 ≡ 0 → ⊥) → ⊥
  not-all-held h f =
      let w : Filled (length cells) = fill (length cells) (omega arith) f in
      omega (arith, once-length w.keys (keys_of log) w.once w.within, w.long)

  -- ---- the search for a key

  module _ (t : ℕ → Bool) (k : Key) (picks : Picks t S log k) where
    -- a cell that the test picks holds the latest entry of the key
    picked :
        (i : ℕ) → i < length cells → (get_or cells i 0 ≡ 0 → ⊥) → t (get_or cells i 0) ≡ true →
        (x : Placed) × (latest log k ≡ some x) × (get_or cells i 0 ≡ place_of S x + 1)
    picked i h n e = go (held i h n)
      where
        go : (x : Placed) × IsLatest log x × (get_or cells i 0 ≡ place_of S x + 1) →
            (x : Placed) × (latest log k ≡ some x) × (get_or cells i 0 ≡ place_of S x + 1)
        go (x, l, c) =
            let m = latest-some log (key_of x.entry) x l in
            let s : same_key k x.entry ≡ true = sym (picks x m.member) ∙ ap t (sym c) ∙ e in
            (x, ap (latest log) (same_key_lem k x.entry s) ∙ l, c)

    module _ (x : Placed) (l : latest log k ≡ some x) where
      its-key : k ≡ key_of x.entry
      its-key = same_key_lem k x.entry (latest-some log k x l).of-key

      its-cell : HasCell S cells x
      its-cell = rule.found x (ap (latest log) (sym its-key) ∙ l)

      its-met : Met cells (start_cell (length cells) k) its-cell.cell
      its-met = subst (λ (j : Key). Met cells (start_cell (length cells) j) its-cell.cell) (sym its-key) its-cell.met

      -- its cell is not passed over
      not-passed : Pass t cells (start_cell (length cells) k) its-met.distance → ⊥
      not-passed p =
          clash (t (get_or cells its-cell.cell 0))
          (ap t its-cell.holds ∙ picks x (latest-some log k x l).member ∙ (latest-some log k x l).of-key)
          (ap (λ (i : ℕ). t (get_or cells i 0)) (sym its-met.arrives) ∙ p.other)

      -- nor does the search end before it
      not_free : (i : ℕ) → Reached t cells (start_cell (length cells) k) i → get_or cells i 0 ≡ 0 → ⊥
      not_free i r z = go (ltb r.distance its-met.distance) refl (ltb its-met.distance r.distance) refl
        where
          go : (a : Bool) → ltb r.distance its-met.distance ≡ a → (b : Bool) → ltb its-met.distance r.distance ≡ b → ⊥
          go true e b d =
              its-met.full r.distance (ltb-true r.distance its-met.distance e) (ap (λ (j : ℕ). get_or cells j 0) r.arrives ∙ z)
          go false e true d = not-passed (r.passed its-met.distance (ltb-true its-met.distance r.distance d))
          go false e false d =
              let same : r.distance ≡ its-met.distance =
              omega (arith, ltb-false r.distance its-met.distance e, ltb-false its-met.distance r.distance d) in
              let cell : i ≡ its-cell.cell =
              sym r.arrives ∙ ap (λ (n : ℕ). around (length cells) (start_cell (length cells) k + n)) same ∙ its-met.arrives in
              absurd (omega (arith, sym z ∙ ap (λ (j : ℕ). get_or cells j 0) cell ∙ its-cell.holds))

      known : (a : Found) → Probed t cells (start_cell (length cells) k) a → a ≡ At its-cell.cell
      unfolding Probed
      known (At i) (r, n, e) = go (picked i below n e)
        where
          below : i < length cells
          below = reached-below t cells (start_cell (length cells) k) i (start-below (length cells) k (omega (arith, its-cell.below))) r

          go : (y : Placed) × (latest log k ≡ some y) × (get_or cells i 0 ≡ place_of S y + 1) → At i ≡ At its-cell.cell
          go (y, ly, cy) =
              let same : y ≡ x = cc in
              ap At (rule.once i its-cell.cell below its-cell.below n (cy ∙ ap (λ (z : Placed). place_of S z + 1) same ∙ sym its-cell.holds))
      known (Free i) (r, z) = absurd (not_free i r z)
      known Full p = absurd (not-passed (p its-met.distance its-met.short))

      pub search-known : (c : HasCell S cells x) × (probe t cells (length cells) (start_cell (length cells) k) ≡ At c.cell)
      search-known = (
        its-cell,
        known (probe t cells (length cells) (start_cell (length cells) k))
            (probed t cells (start_cell (length cells) k) (start-below (length cells) k (omega (arith, its-cell.below)))),
      )

    module _ (l : latest log k ≡ none) (few : length (keys_of log) < length cells) where
      start : start_cell (length cells) k < length cells
      start = start-below (length cells) k (omega arith)

      new : (a : Found) → Probed t cells (start_cell (length cells) k) a → (c : FreeCell cells k) × (a ≡ Free c.cell)
      unfolding Probed
      new (At i) (r, n, e) = absurd (go (picked i (reached-below t cells (start_cell (length cells) k) i start r) n e))
        where
          go : (x : Placed) × (latest log k ≡ some x) × (get_or cells i 0 ≡ place_of S x + 1) → ⊥
          go (x, lx, c) = let z : ◌≡◌ {A = ℕ} 0 1 = cc in omega arith
      new (Free i) (r, z) = (
        record {
          cell = i;
          below = reached-below t cells (start_cell (length cells) k) i start r;
          free = z;
          met = reached-met t cells (start_cell (length cells) k) i r;
        },
        refl,
      )
      new Full p = absurd (not-all-held few (λ i h. go i (around-onto (length cells) (start_cell (length cells) k) i start h)))
        where
          go : (i : ℕ) → (d : ℕ) × (d < length cells) × (around (length cells) (start_cell (length cells) k + d) ≡ i) → get_or cells i 0 ≡ 0 → ⊥
          go i (d, h, e) z = (p d h).held (ap (λ (j : ℕ). get_or cells j 0) e ∙ z)

      pub search-new : (c : FreeCell cells k) × (probe t cells (length cells) (start_cell (length cells) k) ≡ Free c.cell)
      search-new =
          new (probe t cells (length cells) (start_cell (length cells) k)) (probed t cells (start_cell (length cells) k) start)
