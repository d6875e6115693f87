-- A table of numbers in ascending order, its empty cells last: what it holds, the search by halves, and a number put in.
use Rattle.std.specs.Prelude.{ℕ, zero, suc, ◌+◌, ◌-◌, ◌*◌, ◌≤◌, ◌<◌, ◌≡◌, Bool, true, false, List, [], ◌∷◌, eqb, ltb, length, get_or, set, drop, replicate}
use Rattle.std.specs.Int.{from_bool}
use Rattle.std.proofs.Math.Path.{refl, ap}
use Rattle.std.proofs.Common.{sym, ◌∙◌, arith, length-set, drop_of_length-le, get_or-set_same, get_or-set_other, drop-cons, add-one}
use Rattle.std.proofs.Math.Decide.{dec_le}
use Rattle.std.proofs.lemmas.List.{get_or-replicate}
use borrow.Author.Tests.{eq-eqb, ne_eqb, eqb-true, eqb-false, lt-ltb, le-ltb, ltb-true, ltb-false}
use Rattle.segment.specs.Choice.{pick}
use Rattle.segment.proofs.Choice.{pick_true, pick-false}

-- What an empty cell has: the highest number of 64 bits, above the version of any entry.
abbrev pub vacant : ℕ
vacant = 18446744073709551615

-- ---- what a table holds

-- the sum over the cells
unfoldable pub over : (ℕ → ℕ) → List ℕ → ℕ
over f [] = 0
over f (x ∷ xs) = f x + over f xs

-- a cell exchanged for another number
over-set : (f : ℕ → ℕ) (table : List ℕ) (i x : ℕ) → i < length table → over f (set table i x) + f (get_or table i 0) ≡ over f table + f x
unfolding over
over-set f [] i x h = absurd (omega arith)
over-set f (y ∷ ys) zero x h = omega arith
over-set f (y ∷ ys) (suc i) x h = omega (arith, over-set f ys i x (omega arith))

-- 1 for a cell that holds u, else 0
unfoldable pub held : ℕ → ℕ → ℕ
held u x = pick (eqb x u) 1 0

held-own : (u x : ℕ) → x ≡ u → held u x ≡ 1
unfolding held
held-own u x e = pick_true (eqb x u) 1 0 (eq-eqb x u e)

held-other : (u x : ℕ) → (x ≡ u → ⊥) → held u x ≡ 0
unfolding held
held-other u x n = pick-false (eqb x u) 1 0 (ne_eqb x u n)

-- 1 for a cell that is not empty, else 0
unfoldable pub filled : ℕ → ℕ
filled x = pick (ltb x vacant) 1 0

filled-some : (x : ℕ) → x < vacant → filled x ≡ 1
unfolding filled
filled-some x p = pick_true (ltb x vacant) 1 0 (lt-ltb x vacant p)

filled_none : (x : ℕ) → x ≡ vacant → filled x ≡ 0
unfolding filled
filled_none x e = pick-false (ltb x vacant) 1 0 (le-ltb x vacant (omega arith))

abbrev pub occupied : List ℕ → ℕ
occupied table = over filled table

unfoldable pub holds : List ℕ → ℕ → Bool
holds table u = ltb 0 (over (held u) table)

-- a cell that holds it, and that there is one
over-at : (u : ℕ) (table : List ℕ) (i : ℕ) → i < length table → get_or table i 0 ≡ u → 0 < over (held u) table
unfolding over
over-at u [] i h e = absurd (omega arith)
over-at u (x ∷ xs) zero h e = omega (arith, held-own u x e)
over-at u (x ∷ xs) (suc i) h e = omega (arith, over-at u xs i (omega arith) e)

over-found : (u : ℕ) (table : List ℕ) → 0 < over (held u) table → (i : ℕ) × (i < length table) × (get_or table i 0 ≡ u)
unfolding over
over-found u [] h = absurd (omega arith)
over-found u (x ∷ xs) h = go (eqb x u) refl (λ l. over-found u xs l)
  where
    go : (t : Bool) → eqb x u ≡ t → (0 < over (held u) xs → (i : ℕ) × (i < length xs) × (get_or xs i 0 ≡ u))
        → (i : ℕ) × (i < length (x ∷ xs)) × (get_or (x ∷ xs) i 0 ≡ u)
    go true e later = (zero, omega arith, eqb-true x u e)
    go false e later =
        let r = later (omega (arith, held-other u x (eqb-false x u e))) in
        (suc r.0, omega (arith, r.1), r.2)

module _ (table : List ℕ) (u : ℕ) where
  pub holds_at : (i : ℕ) → i < length table → get_or table i 0 ≡ u → holds table u ≡ true
  unfolding holds
  holds_at i h e = lt-ltb 0 (over (held u) table) (over-at u table i h e)

  pub holds-found : holds table u ≡ true → (i : ℕ) × (i < length table) × (get_or table i 0 ≡ u)
  unfolding holds
  holds-found e = over-found u table (ltb-true 0 (over (held u) table) e)

  pub holds_not : ((i : ℕ) → i < length table → get_or table i 0 ≡ u → ⊥) → holds table u ≡ false
  holds_not n = go (holds table u) refl
    where
      go : (t : Bool) → holds table u ≡ t → holds table u ≡ false
      go true e = let r = holds-found e in absurd (n r.0 r.1 r.2)
      go false e = e

-- ---- the count of the cells that are not empty

-- 1 for true and 0 for false, as a conversion gives it
pub one-pick : (t : Bool) → from_bool t ≡ pick t 1 0
unfolding pick
one-pick true = refl
one-pick false = refl

pub one-few : (t : Bool) (d : ℕ) → d ≡ pick t 1 0 → d ≤ 1
unfolding pick
one-few true d e = omega arith
one-few false d e = omega arith

pub occupied-turn : (table : List ℕ) (i k d : ℕ) → i < length table → k + occupied (drop i table) ≡ occupied table → d ≡ pick (ltb (get_or table i 0) vacant) 1 0
    → k + d + occupied (drop (i + 1) table) ≡ occupied table
unfolding over filled
occupied-turn table i k d h e q =
    let rest : occupied (drop i table) ≡ pick (ltb (get_or table i 0) vacant) 1 0 + occupied (drop (i + 1) table) =
    ap occupied (drop-cons table i 0 h) ∙ ap (λ (j : ℕ). pick (ltb (get_or table i 0) vacant) 1 0 + occupied (drop j table)) (sym (add-one i)) in
    omega arith

pub occupied-end : (table : List ℕ) (i k : ℕ) → length table ≤ i → k + occupied (drop i table) ≡ occupied table → k ≡ occupied table
unfolding over
occupied-end table i k h e =
    let none : occupied (drop i table) ≡ 0 = ap occupied (drop_of_length-le table h) in
    omega arith

-- ---- a table with nothing in it

pub record Empty (table : List ℕ) : Type 0 where
  pub size : length table ≡ 192
  pub cells : (c : ℕ) → c < 192 → get_or table c 0 ≡ vacant

pub empty-new : Empty (replicate 192 vacant)
empty-new = record { size = refl; cells = λ c l. get_or-replicate 192 c vacant 0 l }

vacant-occupied : (table : List ℕ) → ((c : ℕ) → c < length table → get_or table c 0 ≡ vacant) → occupied table ≡ 0
unfolding over
vacant-occupied [] h = refl
vacant-occupied (x ∷ xs) h =
    omega (arith, filled_none x (h 0 (omega arith)), vacant-occupied xs (λ c l. h (suc c) (omega arith)))

-- the cells before i are empty
abbrev pub ClearedTo : ℕ → List ℕ → Type 0
ClearedTo i table = (c : ℕ) → c < i → get_or table c 0 ≡ vacant

pub clear-turn : (i : ℕ) (table : List ℕ) → ClearedTo i table → i < length table → ClearedTo (i + 1) (set table i vacant)
clear-turn i table h l c below = go (eqb c i) refl
  where
    go : (t : Bool) → eqb c i ≡ t → get_or (set table i vacant) c 0 ≡ vacant
    go true e = ap (λ (k : ℕ). get_or (set table i vacant) k 0) (eqb-true c i e) ∙ get_or-set_same table i vacant 0 l
    go false e =
        let apart = eqb-false c i e in
        get_or-set_other table i c vacant 0 apart ∙ h c (omega arith)

pub clear-end : (i : ℕ) (table : List ℕ) → ClearedTo i table → length table ≡ 192 → length table ≤ i → Empty table
clear-end i table h size l = record { size = size; cells = λ c k. h c (omega arith) }

module _ (table : List ℕ) (h : Empty table) where
  pub empty-occupied : occupied table ≡ 0
  empty-occupied = vacant-occupied table (λ c l. h.cells c (omega (arith, h.size)))

  pub empty_holds : (u : ℕ) → u < vacant → holds table u ≡ false
  empty_holds u p = holds_not table u (λ i l e. omega (arith, h.cells i (omega (arith, h.size))))

-- ---- the search by halves

abbrev pub Ascending : List ℕ → Type 0
Ascending table = (i j : ℕ) → i ≤ j → j < length table → get_or table i 0 ≤ get_or table j 0

pub record Sorted (table : List ℕ) : Type 0 where
  pub size : length table ≡ 192
  pub ascending : Ascending table

pub empty-sorted : (table : List ℕ) → Empty table → Sorted table
empty-sorted table h =
    record {
      size = h.size;
      ascending = λ i j l k. omega (arith, h.cells i (omega (arith, h.size)), h.cells j (omega (arith, h.size)));
    }

-- The cells before low are below x, and those from high on are not.
pub record Between (table : List ℕ) (x low high : ℕ) : Type 0 where
  pub ordered : low ≤ high
  pub within : high ≤ length table
  pub below : (i : ℕ) → i < low → get_or table i 0 < x
  pub above : (i : ℕ) → high ≤ i → i < length table → x ≤ get_or table i 0

pub between-all : (table : List ℕ) (x high : ℕ) → high ≡ length table → Between table x 0 high
between-all table x high e =
    record { ordered = omega arith; within = omega arith; below = λ i h. absurd (omega arith); above = λ i l h. absurd (omega arith) }

pub empty-between : (table : List ℕ) → Empty table → (x : ℕ) → x < vacant → Between table x 0 0
empty-between table h x p =
    record {
      ordered = omega arith;
      within = omega arith;
      below = λ i l. absurd (omega arith);
      above = λ i l k. omega (arith, h.cells i (omega (arith, h.size)));
    }

module _ (table : List ℕ) (sorted : Sorted table) (x low high : ℕ) (so_far : Between table x low high) (middle : ℕ) where
  pub between-up : middle < high → get_or table middle 0 < x → Between table x (middle + 1) high
  between-up m h =
      record {
        ordered = omega arith;
        within = so_far.within;
        below = λ i l. omega (arith, sorted.ascending i middle (omega arith) (omega (arith, so_far.within)));
        above = so_far.above;
      }

  pub between-down : low ≤ middle → middle < high → x ≤ get_or table middle 0 → Between table x low middle
  between-down l m h =
      record {
        ordered = l;
        within = omega (arith, so_far.within);
        below = so_far.below;
        above = λ i a k. omega (arith, sorted.ascending middle i a k);
      }

-- What it means that r is low, or size cells further if these are below x: where keep more were in question, keep are left.
pub record Halved (table : List ℕ) (x low size r : ℕ) : Type 0 where
  pub left : (keep high : ℕ) → size ≤ keep + 1 → high ≡ low + size + keep → Between table x low high → Between table x r (r + keep)

module _ (size : ℕ) (t : Bool) (d : ℕ) (e : d ≡ pick t 1 0) where
  pub times-one : size * d ≡ pick t size 0
  times-one = go t e
    where
      once : size * 1 ≡ size
      once = omega arith

      never : size * 0 ≡ 0
      never = omega arith

      go : (t : Bool) → d ≡ pick t 1 0 → size * d ≡ pick t size 0
      go true q = ap (λ (k : ℕ). size * k) (q ∙ pick_true true 1 0 refl) ∙ once ∙ sym (pick_true true size 0 refl)
      go false q = ap (λ (k : ℕ). size * k) (q ∙ pick-false false 1 0 refl) ∙ never ∙ sym (pick-false false size 0 refl)

  pub times-few : size * d ≤ size
  times-few = go t times-one
    where
      go : (t : Bool) → size * d ≡ pick t size 0 → size * d ≤ size
      go true q = omega (arith, q, pick_true {A = ℕ} true size 0 refl)
      go false q = omega (arith, q, pick-false {A = ℕ} false size 0 refl)

module _ (table : List ℕ) (sorted : Sorted table) (x low size : ℕ) (some : 0 < size) (inside : low + size ≤ 192) where
  pub halves : (d : ℕ) → d ≡ pick (ltb (get_or table (low + size - 1) 0) x) 1 0 → Halved table x low size (low + size * d)
  halves d e =
      record { left = λ keep high h w b. go keep high h w b (ltb (get_or table (low + size - 1) 0) x) refl (times-one size (ltb (get_or table (low + size - 1) 0) x) d e) }
    where
      go : (keep high : ℕ) → size ≤ keep + 1 → high ≡ low + size + keep → Between table x low high → (t : Bool) → ltb (get_or table (low + size - 1) 0) x ≡ t → size * d ≡ pick t size 0
          → Between table x (low + size * d) (low + size * d + keep)
      go keep high h w b true q m =
          let l = ltb-true (get_or table (low + size - 1) 0) x q in
          let r : size * d ≡ size = m ∙ pick_true true size 0 refl in
          record {
            ordered = omega arith;
            within = omega (arith, b.within);
            below =
                λ i k. omega (
                  arith,
                  sorted.ascending i (low + size - 1) (omega arith) (omega (arith, sorted.size)),
                );
            above = λ i k. b.above i (omega arith);
          }
      go keep high h w b false q m =
          let l = ltb-false (get_or table (low + size - 1) 0) x q in
          let r : size * d ≡ 0 = m ∙ pick-false false size 0 refl in
          record {
            ordered = omega arith;
            within = omega (arith, b.within);
            below = λ i k. b.below i (omega arith);
            above = λ i k n. omega (arith, sorted.ascending (low + size - 1) i (omega arith) n);
          }

pub between_done : (table : List ℕ) (x r : ℕ) → Between table x r (r + 0) → Between table x r r
between_done table x r b =
    record { ordered = omega arith; within = omega (arith, b.within); below = b.below; above = λ i l. b.above i (omega arith) }

-- Where the search ends, the number stands there or nowhere.
module _ (table : List ℕ) (x at : ℕ) (here : Between table x at at) where
  elsewhere : (i : ℕ) → i < length table → (i ≡ at → ⊥) → Ascending table → (get_or table at 0 ≡ x → ⊥) → get_or table i 0 ≡ x → ⊥
  elsewhere i l n asc not e = go (dec_le at i)
    where
      go : Dec (at ≤ i) → ⊥
      go (yes h) = not (omega (arith, asc at i h l, here.above at (omega arith) (omega arith)))
      go (no h) = omega (arith, here.below i (omega arith))

  pub search-here : Sorted table → at < length table → eqb (get_or table at 0) x ≡ holds table x
  search-here sorted l = go (eqb (get_or table at 0) x) refl
    where
      go : (t : Bool) → eqb (get_or table at 0) x ≡ t → eqb (get_or table at 0) x ≡ holds table x
      go true e = e ∙ sym (holds_at table x at l (eqb-true (get_or table at 0) x e))
      go false e =
          let not = eqb-false (get_or table at 0) x e in
          e ∙ sym (holds_not table x (λ i k q. elsewhere i k (λ s. not (ap (λ (j : ℕ). get_or table j 0) (sym s) ∙ q)) sorted.ascending not q))

  pub search-past : length table ≤ at → false ≡ holds table x
  search-past l = sym (holds_not table x (λ i k e. omega (arith, here.below i (omega arith))))

-- ---- a number put in

-- What it means that more is the table with v put in for an empty cell: whatever is summed over the cells.
pub record Put (table : List ℕ) (v : ℕ) (more : List ℕ) : Type 0 where
  pub sorted : Sorted more
  pub sums : (f : ℕ → ℕ) → over f more + f vacant ≡ over f table + f v

-- The numbers above v go one cell up, each carried to the cell after its own until an empty one is met: x is carried, and the
-- cell at is next.
pub record Putting (table : List ℕ) (v : ℕ) (now : List ℕ) (at x : ℕ) : Type 0 where
  pub sorted : Sorted now
  pub within : at ≤ 192
  pub below : (i : ℕ) → i < at → get_or now i 0 ≤ x
  pub above : (i : ℕ) → at ≤ i → i < 192 → x ≤ get_or now i 0
  pub sums : (f : ℕ → ℕ) → over f now + f x ≡ over f table + f v
  pub room : at < 192 → get_or now 191 0 ≡ vacant
  pub last : at ≡ 192 → x ≡ vacant

pub put-start : (table : List ℕ) → Sorted table → (v at : ℕ) → v < vacant → Between table v at at → get_or table 191 0 ≡ vacant → Putting table v table at v
put-start table sorted v at p here empty =
    record {
      sorted = sorted;
      within = omega (arith, here.within, sorted.size);
      below = λ i l. omega (arith, here.below i l);
      above = λ i l k. here.above i l (omega (arith, sorted.size));
      sums = λ f. refl;
      room = λ l. empty;
      last = λ e. absurd (omega (arith, here.below 191 (omega arith)));
    }

module _ (table : List ℕ) (v : ℕ) (now : List ℕ) (c x : ℕ) (so_far : Putting table v now c x) where
  pub put_some : (x ≡ vacant → ⊥) → c < 192
  put_some n = go (dec_le 192 c)
    where
      go : Dec (192 ≤ c) → c < 192
      go (yes h) = absurd (n (so_far.last (omega (arith, so_far.within))))
      go (no h) = omega arith

  pub put-end : x ≡ vacant → Put table v now
  put-end e = record { sorted = so_far.sorted; sums = λ f. ap (λ (k : ℕ). over f now + f k) (sym e) ∙ so_far.sums f }

  module _ (inside : c < 192) where
    -- the cells after the exchange
    own : get_or (set now c x) c 0 ≡ x
    own = get_or-set_same now c x 0 (omega (arith, so_far.sorted.size))

    other : (i : ℕ) → (i ≡ c → ⊥) → get_or (set now c x) i 0 ≡ get_or now i 0
    other i n = get_or-set_other now c i x 0 n

    upper : (i : ℕ) → c ≤ i → i < 192 → x ≤ get_or (set now c x) i 0
    upper i l k = go (eqb i c) refl
      where
        go : (t : Bool) → eqb i c ≡ t → x ≤ get_or (set now c x) i 0
        go true e = omega (arith, ap (λ (j : ℕ). get_or (set now c x) j 0) (eqb-true i c e), own)
        go false e = let apart = eqb-false i c e in omega (arith, other i apart, so_far.above i l k)

    lower : (i : ℕ) → i ≤ c → get_or (set now c x) i 0 ≤ x
    lower i l = go (eqb i c) refl
      where
        go : (t : Bool) → eqb i c ≡ t → get_or (set now c x) i 0 ≤ x
        go true e = omega (arith, ap (λ (j : ℕ). get_or (set now c x) j 0) (eqb-true i c e), own)
        go false e = let apart = eqb-false i c e in omega (arith, other i apart, so_far.below i (omega arith))

    ascends : Ascending (set now c x)
    ascends i j l k = go (dec_le i c) (dec_le c j)
      where
        short : j < 192
        short = omega (arith, length-set now c x, so_far.sorted.size)

        go : Dec (i ≤ c) → Dec (c ≤ j) → get_or (set now c x) i 0 ≤ get_or (set now c x) j 0
        go (yes p) (yes q) = omega (arith, lower i p, upper j q short)
        go (yes p) (no q) =
            omega (arith, other i (λ e. omega arith), other j (λ e. omega arith), so_far.sorted.ascending i j l (omega (arith, so_far.sorted.size, short)))
        go (no p) q =
            omega (arith, other i (λ e. omega arith), other j (λ e. omega arith), so_far.sorted.ascending i j l (omega (arith, so_far.sorted.size, short)))

    pub put-turn : Putting table v (set now c x) (c + 1) (get_or now c 0)
    put-turn =
        record {
          sorted = record { size = length-set now c x ∙ so_far.sorted.size; ascending = ascends };
          within = omega arith;
          below = λ i l. omega (arith, lower i (omega arith), so_far.above c (omega arith) inside);
          above =
              λ i l k. omega (
                arith,
                other i (λ e. omega arith),
                so_far.sorted.ascending c i (omega arith) (omega (arith, so_far.sorted.size)),
              );
          sums = λ f. over-set f now c x (omega (arith, so_far.sorted.size)) ∙ so_far.sums f;
          room = λ l. other 191 (λ e. omega arith) ∙ so_far.room inside;
          last = λ e. let z : c ≡ 191 = omega arith in ap (λ (j : ℕ). get_or now j 0) z ∙ so_far.room inside;
        }

-- What has been put in is held, no other number more than before.
module _ (table : List ℕ) (v : ℕ) (below : v < vacant) (more : List ℕ) (put : Put table v more) where
  pub put_has : holds more v ≡ true
  unfolding holds
  put_has = lt-ltb 0 (over (held v) more) (omega (arith, put.sums (held v), held-own v v refl, held-other v vacant (λ e. omega arith)))

  pub put-others : (u : ℕ) → u < vacant → (u ≡ v → ⊥) → holds more u ≡ holds table u
  unfolding holds
  put-others u p n =
      let same : over (held u) more ≡ over (held u) table =
      omega (arith, put.sums (held u), held-other u v (λ e. n (sym e)), held-other u vacant (λ e. omega arith)) in
      ap (ltb 0) same

  pub put-occupied : occupied more ≡ occupied table + 1
  put-occupied = omega (arith, put.sums filled, filled-some v below, filled_none vacant refl)
