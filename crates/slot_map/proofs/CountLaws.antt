-- Laws of the number of slots that a map names.
use Rattle.std.specs.Prelude.{◌≡◌, refl, ◌≢◌, ◌⊎◌, true, ℕ, zero, suc, ◌+◌, ◌-◌, ◌/◌, ◌%◌, ◌^◌, ◌≤◌, ◌<◌}
use Rattle.std.proofs.Common.{sym, ap, ◌∙◌, inl, inr, eq-or-lt_of_le, pow-suc, add-zero, add-suc, arith, pow_pos}
use Rattle.std.proofs.Math.Decide.{ℕ_discrete, dec_lt}
use Rattle.std.specs.Int.Count.{ones, ones_in, ones_step}
use Rattle.slot_map.specs.Bit.{bit, with_bit, less, within}
use Rattle.slot_map.proofs.BitLaws.{bit-zero, bit-suc, bit_le, bit-cases, bit-with-same, bit-with-other, bit-less, bit-of-zero, bit-above, with-clear, bit-sub, less-within, within-le, within-sub-le}
use Rattle.slot_map.specs.Count.{used, all_slots}

pub used-none : (m : ℕ) → used 0 m ≡ 0
unfolding used
used-none m = refl

pub used-suc : (n m : ℕ) → used (suc n) m ≡ used n m + bit m n
unfolding used
used-suc n m = refl

pub used_le : (n m : ℕ) → used n m ≤ n
used_le zero m = omega (arith, used-none m)
used_le (suc n) m = omega (arith, used-suc n m, used_le n m, bit_le m n)

-- the count goes by the bits below n alone
pub used-same : (n a b : ℕ) → ((i : ℕ) → i < n → bit a i ≡ bit b i) → used n a ≡ used n b
used-same zero a b h = used-none a ∙ sym (used-none b)
used-same (suc n) a b h =
    omega (arith, used-suc n a, used-suc n b, used-same n a b (λ i l. h i (omega arith)), h n (omega arith))

pub used-more : (n a b : ℕ) → ((i : ℕ) → i < n → bit a i ≤ bit b i) → used n a ≤ used n b
used-more zero a b h = omega (arith, used-none a)
used-more (suc n) a b h =
    omega (arith, used-suc n a, used-suc n b, used-more n a b (λ i l. h i (omega arith)), h n (omega arith))

-- a map whose bit at i alone is another: the counts differ as the bits do
pub used-one : (n a b i : ℕ) → i < n → ((j : ℕ) → i ≢ j → bit a j ≡ bit b j) → used n a + bit b i ≡ used n b + bit a i
used-one zero a b i l h = absurd (omega arith)
used-one (suc n) a b i l h = go (λ g. used-one n a b i g h) (ℕ_discrete i n)
  where
    go : (i < n → used n a + bit b i ≡ used n b + bit a i) → Dec (i ≡ n) → used (suc n) a + bit b i ≡ used (suc n) b + bit a i
    go rest (yes e) =
        let f : used n a ≡ used n b = used-same n a b (λ j g. h j (λ e'. omega arith)) in
        omega (arith, used-suc n a, used-suc n b, ap (bit a) e, ap (bit b) e)
    go rest (no d) = omega (arith, used-suc n a, used-suc n b, rest (omega (arith, d)), h n d)

-- a slot added
pub used-with : (n m i : ℕ) → i < n → used n (with_bit m i) ≡ used n m + (1 - bit m i)
used-with n m i l =
    omega (arith, used-one n (with_bit m i) m i l (λ j d. bit-with-other m i j d), bit-with-same m i, bit_le m i)

pub used-with-clear : (n m i : ℕ) → i < n → bit m i ≡ 0 → used n (with_bit m i) ≡ used n m + 1
used-with-clear n m i l h = omega (arith, used-with n m i l)

pub used-add : (n m i : ℕ) → i < n → bit m i ≡ 0 → used n (m + 2 ^ i) ≡ used n m + 1
used-add n m i l h = ap (used n) (sym (with-clear m i h)) ∙ used-with-clear n m i l h

-- the slots of v taken out
pub used-less : (n m v : ℕ) → ((i : ℕ) → i < n → bit v i ≤ bit m i) → used n (less m v) ≡ used n m - used n v
used-less zero m v h = omega (arith, used-none (less m v), used-none m)
used-less (suc n) m v h =
    omega (
      arith,
      used-suc n (less m v),
      used-suc n m,
      used-suc n v,
      used-less n m v (λ i l. h i (omega arith)),
      used-more n v m (λ i l. h i (omega arith)),
      bit-less m v n,
      h n (omega arith),
    )

pub used-sub : (n m v : ℕ) → within v m ≡ true → used n (m - v) ≡ used n m - used n v
used-sub n m v h = ap (used n) (sym (less-within m v h)) ∙ used-less n m v (λ i l. within-le v m h i)

pub used-within : (n m v : ℕ) → within v m ≡ true → used n v ≤ used n m
used-within n m v h = used-more n v m (λ i l. within-le v m h i)

-- all n slots are named, or there is a free one
pub used_all : (n m : ℕ) → ((i : ℕ) → i < n → bit m i ≡ 1) → used n m ≡ n
used_all zero m h = used-none m
used_all (suc n) m h = omega (arith, used-suc n m, used_all n m (λ i l. h i (omega arith)), h n (omega arith))

pub all-used : (n m : ℕ) → used n m ≡ n → (i : ℕ) → i < n → bit m i ≡ 1
all-used zero m e i l = absurd (omega arith)
all-used (suc n) m e i l = go (λ f g. all-used n m f i g) (ℕ_discrete i n)
  where
    go : (used n m ≡ n → i < n → bit m i ≡ 1) → Dec (i ≡ n) → bit m i ≡ 1
    go rest (yes q) = omega (arith, ap (bit m) q, used-suc n m, used_le n m, bit_le m n)
    go rest (no d) = rest (omega (arith, used-suc n m, used_le n m, bit_le m n)) (omega (arith, d))

pub some-free : (n m : ℕ) → used n m < n → (i : ℕ) × (i < n) × (bit m i ≡ 0)
some-free zero m h = absurd (omega arith)
some-free (suc n) m h = go (λ g. some-free n m g) (bit-cases m n)
  where
    go : (used n m < n → (i : ℕ) × (i < n) × (bit m i ≡ 0)) → (bit m n ≡ 0) ⊎ (bit m n ≡ 1) → (i : ℕ) × (i < suc n) × (bit m i ≡ 0)
    go rest (inl e) = (n, omega arith, e)
    go rest (inr e) = let r = rest (omega (arith, used-suc n m)) in (r.0, omega arith, r.2)

pub used-free : (n m i : ℕ) → i < n → bit m i ≡ 0 → used n m < n
used-free n m i l h = go (eq-or-lt_of_le (used_le n m))
  where
    go : (used n m ≡ n) ⊎ (used n m < n) → used n m < n
    go (inl e) = absurd (omega (arith, all-used n m e i l))
    go (inr g) = g

-- a slot that is named counts
pub used-some : (n m i : ℕ) → i < n → bit m i ≡ 1 → 1 ≤ used n m
used-some zero m i l h = absurd (omega arith)
used-some (suc n) m i l h = go (ℕ_discrete i n) (λ g. used-some n m i g h)
  where
    go : Dec (i ≡ n) → (i < n → 1 ≤ used n m) → 1 ≤ used (suc n) m
    go (yes e) rest = omega (arith, used-suc n m, ap (bit m) e)
    go (no d) rest = omega (arith, used-suc n m, rest (omega (arith, d)))

pub used-of-zero : (n : ℕ) → used n 0 ≡ 0
used-of-zero zero = used-none 0
used-of-zero (suc n) = omega (arith, used-suc n 0, used-of-zero n, bit-of-zero n)

-- a map below 2 ^ n that is not 0 names one of the n slots
pub some-set : (n m : ℕ) → m < 2 ^ n → 0 < m → (i : ℕ) × (i < n) × (bit m i ≡ 1)
some-set zero m h p = absurd (omega arith)
some-set (suc n) m h p = go (λ g. some-set n (m / 2) (omega (arith, pow-suc 2 n)) g) (bit-cases m 0)
  where
    go : (0 < m / 2 → (i : ℕ) × (i < n) × (bit (m / 2) i ≡ 1)) → (bit m 0 ≡ 0) ⊎ (bit m 0 ≡ 1) → (i : ℕ) × (i < suc n) × (bit m i ≡ 1)
    go rest (inl e) =
        let r = rest (omega (arith, bit-zero m)) in (suc r.0, omega arith, bit-suc m r.0 ∙ r.2)
    go rest (inr e) = (0, omega arith, e)

pub used_pos : (n m : ℕ) → m < 2 ^ n → 0 < m → 1 ≤ used n m
used_pos n m h p = let s = some-set n m h p in used-some n m s.0 s.1 s.2

-- the lowest bit, and the count of the rest
pub used_step : (n m : ℕ) → used (suc n) m ≡ m % 2 + used n (m / 2)
used_step zero m = omega (arith, used-suc 0 m, used-none m, used-none (m / 2), bit-zero m)
used_step (suc n) m = omega (arith, used-suc (suc n) m, used_step n m, bit-suc m n, used-suc n (m / 2))

-- slots from n on add nothing to a map below 2 ^ n
pub used-wide : (n k m : ℕ) → m < 2 ^ n → used (n + k) m ≡ used n m
used-wide n zero m h = ap (λ (x : ℕ). used x m) (add-zero n)
used-wide n (suc k) m h =
    omega (arith, ap (λ (x : ℕ). used x m) (add-suc n k), used-suc (n + k) m, used-wide n k m h, bit-above m n (n + k) h (omega arith))

-- the used slots are the ones of the map
pub used-ones : (n m : ℕ) → m < 2 ^ n → used n m ≡ ones m
unfolding ones ones_in
used-ones zero m h = let e : m ≡ 0 = omega arith in used-none m ∙ ap ones (sym e)
used-ones (suc n) m h =
    omega (arith, used_step n m, ones_step m, used-ones n (m / 2) (omega (arith, pow-suc 2 n)))

-- the map of all n slots, and every lower one
pub all_named : (n m : ℕ) → m ≡ all_slots n → used n m ≡ n
all_named zero m e = used-none m
all_named (suc n) m e =
    let half : m / 2 ≡ 2 ^ n - 1 = omega (arith, pow-suc 2 n, pow_pos n, e) in
    omega (arith, used_step n m, all_named n (m / 2) half, pow-suc 2 n, pow_pos n, e)

pub not-all : (n m : ℕ) → m < all_slots n → used n m < n
not-all zero m b = absurd (omega arith)
not-all (suc n) m b = go (dec_lt (m / 2) (2 ^ n - 1)) (not-all n (m / 2))
  where
    go : Dec (m / 2 < 2 ^ n - 1) → (m / 2 < 2 ^ n - 1 → used n (m / 2) < n) → used (suc n) m < suc n
    go (yes k) rest = omega (arith, used_step n m, rest k)
    go (no k) rest = omega (arith, used_step n m, used_le n (m / 2), pow-suc 2 n, pow_pos n)

-- ---- the map of a new head: the victims v go and the slot i, which was free, comes

pub clear-sub : (m v i : ℕ) → within v m ≡ true → bit m i ≡ 0 → bit (m - v) i ≡ 0
clear-sub m v i h z = omega (arith, bit-sub m v i h)

pub with-less : (m v i : ℕ) → within v m ≡ true → bit m i ≡ 0 → with_bit (less m v) i ≡ m - v + 2 ^ i
with-less m v i h z = ap (λ (x : ℕ). with_bit x i) (less-within m v h) ∙ with-clear (m - v) i (clear-sub m v i h z)

pub used-renewed : (n m v i : ℕ) → within v m ≡ true → i < n → bit m i ≡ 0 → used n (m - v + 2 ^ i) ≡ used n m - used n v + 1
used-renewed n m v i h l z = omega (arith, used-add n (m - v) i l (clear-sub m v i h z), used-sub n m v h)

-- with at least one victim no more slots are used than before
pub renewed-le : (n m v i : ℕ) → within v m ≡ true → m < 2 ^ n → 0 < v → i < n → bit m i ≡ 0 → used n (m - v + 2 ^ i) ≤ used n m
renewed-le n m v i h b p l z =
    omega (arith, used-renewed n m v i h l z, used-within n m v h, used_pos n v (omega (arith, within-sub-le v m h)) p)
