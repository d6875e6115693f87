-- Laws of: Laws of the next free slot.
use Rattle.std.specs.Prelude.{◌≡◌, refl, ◌≢◌, ◌⊎◌, ℕ, zero, suc, ◌+◌, ◌-◌, ◌≤◌, ◌<◌}
use Rattle.std.proofs.Common.{sym, ap, ◌∙◌, inl, inr, add-zero, zero-add, suc-add, eq-or-lt_of_le, arith, lt-ltb, le-ltb}
use Rattle.std.proofs.Math.Decide.{dec_le, dec_lt}
use Rattle.slot_map.specs.Bit.{bit}
use Rattle.slot_map.proofs.BitLaws.{bit-cases, set-named, clear-named}
use Rattle.slot_map.specs.Count.{used}
use Rattle.slot_map.proofs.CountLaws.{used_le, used_all, all-used}
use Rattle.slot_map.specs.Next.{slot_after, free_from, next_free}
use Rattle.slot_map.specs.NextLaws.{FirstFree}

-- ---- the equations of the definitions

pub after_next : (n i : ℕ) → i + 1 < n → slot_after n i ≡ i + 1
unfolding slot_after
after_next n i h = rw (lt-ltb (i + 1) n h, slot_after)

pub after_last : (n i : ℕ) → n ≤ i + 1 → slot_after n i ≡ 0
unfolding slot_after
after_last n i h = rw (le-ltb (i + 1) n h, slot_after)

pub after-below : (n i : ℕ) → 0 < n → slot_after n i < n
after-below n i p = go (dec_lt (i + 1) n)
  where
    go : Dec (i + 1 < n) → slot_after n i < n
    go (yes h) = omega (arith, after_next n i h)
    go (no h) = omega (arith, after_last n i (omega arith))

pub from-none : (n m i : ℕ) → free_from 0 n m i ≡ n
unfolding free_from
from-none n m i = refl

pub from-set : (f n m i : ℕ) → bit m i ≡ 1 → free_from (suc f) n m i ≡ free_from f n m (slot_after n i)
unfolding free_from
from-set f n m i h = rw (set-named m i h, free_from)

pub from-clear : (f n m i : ℕ) → bit m i ≡ 0 → free_from (suc f) n m i ≡ i
unfolding free_from
from-clear f n m i h = rw (clear-named m i h, free_from)

-- named slots are passed by
passed : (f n m i k : ℕ) → i + k < n → ((j : ℕ) → i ≤ j → j < i + k → bit m j ≡ 1) → free_from (k + f) n m i ≡ free_from f n m (i + k)
passed f n m i zero l h = ap (λ (x : ℕ). free_from x n m i) (zero-add f) ∙ ap (free_from f n m) (sym (add-zero i))
passed f n m i (suc k) l h =
    let e : i + 1 + k ≡ i + suc k = omega arith in
    ap (λ (x : ℕ). free_from x n m i) (suc-add k f) ∙ from-set (k + f) n m i (h i (omega arith) (omega arith))
    ∙ ap (free_from (k + f) n m) (after_next n i (omega arith))
    ∙ passed f n m (i + 1) k (omega arith) (λ j a b. h j (omega arith) (omega arith)) ∙ ap (free_from f n m) e

-- so the search from i with enough fuel comes to the first free slot r from i on
reached : (f n m i r : ℕ) → i ≤ r → r < n → r < i + f → bit m r ≡ 0 → ((j : ℕ) → i ≤ j → j < r → bit m j ≡ 1) → free_from f n m i ≡ r
reached f n m i r a l g z h =
    let k : ℕ = r - i in
    let d : ℕ = f - suc k in
    let ef : f ≡ k + suc d = omega arith in
    let er : i + k ≡ r = omega arith in
    ap (λ (x : ℕ). free_from x n m i) ef ∙ passed (suc d) n m i k (omega arith) (λ j b c. h j b (omega arith))
    ∙ ap (free_from (suc d) n m) er ∙ from-clear d n m r z

-- and where it finds none up to the last slot, it goes on from slot 0
round : (f n m i : ℕ) → i < n → ((j : ℕ) → i ≤ j → j < n → bit m j ≡ 1) → free_from (n - i + f) n m i ≡ free_from f n m 0
round f n m i l h =
    let k : ℕ = n - suc i in
    let e : n - i + f ≡ k + suc f = omega arith in
    let last : i + k ≡ n - 1 = omega arith in
    ap (λ (x : ℕ). free_from x n m i) e ∙ passed (suc f) n m i k (omega arith) (λ j b c. h j b (omega arith))
    ∙ ap (free_from (suc f) n m) last ∙ from-set f n m (n - 1) (h (n - 1) (omega arith) (omega arith))
    ∙ ap (free_from f n m) (after_last n (n - 1) (omega arith))

-- only one slot is the first free one, and the search gives it
pub next-is : (n m head r : ℕ) → head < n → FirstFree n m head r → next_free n m head ≡ r
unfolding next_free
next-is n m head r l p = go (dec_le r head)
  where
    start : r ≤ head → free_from (head + 1) n m 0 ≡ r
    start g = reached (head + 1) n m 0 r (omega arith) p.below (omega arith) p.clear (λ j a b. p.from_zero g j b)

    turn : r ≤ head → Dec (head + 1 < n) → free_from n n m (slot_after n head) ≡ r
    turn g (yes b) =
        let e : n ≡ n - (head + 1) + (head + 1) = omega arith in
        ap (free_from n n m) (after_next n head b) ∙ ap (λ (x : ℕ). free_from x n m (head + 1)) e
        ∙ round (head + 1) n m (head + 1) b (λ j a c. p.to_last g j (omega arith) c) ∙ start g
    turn g (no b) =
        let e : n ≡ head + 1 = omega arith in
        ap (free_from n n m) (after_last n head (omega arith)) ∙ ap (λ (x : ℕ). free_from x n m 0) e ∙ start g

    go : Dec (r ≤ head) → free_from n n m (slot_after n head) ≡ r
    go (yes g) = turn g (dec_lt (head + 1) n)
    go (no g) =
        let above : head < r = omega arith in
        let b : r < n = p.below in
        ap (free_from n n m) (after_next n head (omega arith))
        ∙ reached n n m (head + 1) r (omega arith) b (omega arith) p.clear (λ j a c. p.ahead j (omega arith) c)

-- where all n slots are named there is none
all-passed : (f n m i : ℕ) → ((j : ℕ) → j < n → bit m j ≡ 1) → i < n → free_from f n m i ≡ n
all-passed zero n m i h l = from-none n m i
all-passed (suc f) n m i h l =
    from-set f n m i (h i l) ∙ all-passed f n m (slot_after n i) h (after-below n i (omega arith))

pub next-none : (n m head : ℕ) → head < n → ((i : ℕ) → i < n → bit m i ≡ 1) → next_free n m head ≡ n
unfolding next_free
next-none n m head l h = all-passed n n m (slot_after n head) h (after-below n head (omega arith))

pub next-full : (n m head : ℕ) → head < n → used n m ≡ n → next_free n m head ≡ n
next-full n m head l e = next-none n m head l (all-used n m e)

-- ---- there is a first free slot whenever fewer than n are named

-- the lowest free slot from lo on, or none below n
lowest : (n m lo : ℕ) → ((r : ℕ) × (lo ≤ r) × (r < n) × (bit m r ≡ 0) × ((i : ℕ) → lo ≤ i → i < r → bit m i ≡ 1)) ⊎ ((i : ℕ) → lo ≤ i → i < n → bit m i ≡ 1)
lowest zero m lo = inr (λ i a b. absurd (omega arith))
lowest (suc n) m lo = go (lowest n m lo) (dec_le lo n) (bit-cases m n)
  where
    go : ((r : ℕ) × (lo ≤ r) × (r < n) × (bit m r ≡ 0) × ((i : ℕ) → lo ≤ i → i < r → bit m i ≡ 1)) ⊎ ((i : ℕ) → lo ≤ i → i < n → bit m i ≡ 1)
        → Dec (lo ≤ n) → (bit m n ≡ 0) ⊎ (bit m n ≡ 1)
        → ((r : ℕ) × (lo ≤ r) × (r < suc n) × (bit m r ≡ 0) × ((i : ℕ) → lo ≤ i → i < r → bit m i ≡ 1)) ⊎ ((i : ℕ) → lo ≤ i → i < suc n → bit m i ≡ 1)
    go (inl p) d b = inl (p.0, p.1, omega arith, p.3, p.4)
    go (inr h) (no g) b = inr (λ i a c. absurd (omega arith))
    go (inr h) (yes g) (inl z) = inl (n, g, omega arith, z, h)
    go (inr h) (yes g) (inr s) = inr (λ i a c. pick i a (eq-or-lt_of_le c))
      where
        pick : (i : ℕ) → lo ≤ i → (suc i ≡ suc n) ⊎ (suc i < suc n) → bit m i ≡ 1
        pick i a (inl e) = let q : i ≡ n = omega arith in ap (bit m) q ∙ s
        pick i a (inr l) = h i a (omega arith)

pub first-free : (n m head : ℕ) → head < n → used n m < n → (r : ℕ) × FirstFree n m head r
first-free n m head l u = go (lowest n m (suc head)) (lowest n m 0)
  where
    none : ((i : ℕ) → 0 ≤ i → i < n → bit m i ≡ 1) → ⊥
    none h = omega (arith, used_all n m (λ i g. h i (omega arith) g))

    go : ((r : ℕ) × (suc head ≤ r) × (r < n) × (bit m r ≡ 0) × ((i : ℕ) → suc head ≤ i → i < r → bit m i ≡ 1)) ⊎ ((i : ℕ) → suc head ≤ i → i < n → bit m i ≡ 1)
        → ((r : ℕ) × (0 ≤ r) × (r < n) × (bit m r ≡ 0) × ((i : ℕ) → 0 ≤ i → i < r → bit m i ≡ 1)) ⊎ ((i : ℕ) → 0 ≤ i → i < n → bit m i ≡ 1)
        → (r : ℕ) × FirstFree n m head r
    go (inl p) q =
        (p.0, record { below = p.2; clear = p.3; ahead = p.4; to_last = λ g. absurd (omega arith); from_zero = λ g. absurd (omega arith) })
    go (inr h) (inl p) =
        (p.0, record { below = p.2; clear = p.3; ahead = λ i a b. h i a (omega arith); to_last = λ g. h; from_zero = λ g i b. p.4 i (omega arith) b })
    go (inr h) (inr k) = absurd (none k)

pub next-first : (n m head : ℕ) → head < n → used n m < n → FirstFree n m head (next_free n m head)
next-first n m head l u = let p = first-free n m head l u in rw (next-is n m head p.0 l p.1) p.1

pub next-below : (n m head : ℕ) → head < n → used n m < n → next_free n m head < n
next-below n m head l u = (next-first n m head l u).below

pub next-clear : (n m head : ℕ) → head < n → used n m < n → bit m (next_free n m head) ≡ 0
next-clear n m head l u = (next-first n m head l u).clear

-- it is never a slot that m names, the head among them
pub next-other : (n m head i : ℕ) → head < n → i < n → bit m i ≡ 1 → next_free n m head ≢ i
next-other n m head i l g s e = go (eq-or-lt_of_le (used_le n m))
  where
    go : (used n m ≡ n) ⊎ (used n m < n) → ⊥
    go (inl f) = omega (arith, next-full n m head l f)
    go (inr u) = omega (arith, next-clear n m head l u, ap (bit m) e)

pub next-not-head : (n m head : ℕ) → head < n → bit m head ≡ 1 → next_free n m head ≢ head
next-not-head n m head l s = next-other n m head head l l s
