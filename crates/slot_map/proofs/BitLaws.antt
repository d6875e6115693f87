-- Laws of a slot's bit. Each goes by the lowest bit, `m % 2`, and the map of the bits above it, `m / 2`.
use Rattle.std.specs.Prelude.{◌≡◌, refl, ◌≢◌, ◌⊎◌, ℕ, zero, suc, ◌+◌, ◌-◌, ◌*◌, ◌/◌, ◌%◌, ◌^◌, ◌≤◌, ◌<◌, min, max, true, false}
use Rattle.std.proofs.Common.{sym, ap, ap₂, ◌∙◌, inl, inr, div-one, lt_of_lt_of_le, mul_assoc, pow-suc, one-add, arith, ltb-true, ltb-false, eqb-true, eq-eqb, ne_eqb, pow_pos, pow_mono, shr-shr}
use Rattle.std.proofs.Math.Nat.{div-eq_of_lt, min-eq_left}
use Rattle.std.proofs.Math.Decide.{dec_lt, ℕ_discrete}
use Rattle.std.proofs.lemmas.Bool.{eqb-false}
use Rattle.std.proofs.Math.Arith.{bin_ind}
use Rattle.std.specs.Int.Bits.{bit_and, bit_or, and_step, or_step}
use Rattle.std.proofs.lemmas.Nat.{and_le_l, and_le_r, and_comm}
use Rattle.slot_map.specs.Bit.{bit, named, names_below, with_bit, less, within}

-- ---- one bit

pub bit-zero : (m : ℕ) → bit m zero ≡ m % 2
unfolding bit
bit-zero m = ap (λ (x : ℕ). x % 2) (div-one m)

pub bit-shr : (m k i : ℕ) → bit (m / 2 ^ k) i ≡ bit m (k + i)
unfolding bit
bit-shr m k i = ap (λ (x : ℕ). x % 2) (shr-shr m k i)

pub bit-suc : (m i : ℕ) → bit m (suc i) ≡ bit (m / 2) i
bit-suc m i = ap (bit m) (sym (one-add i)) ∙ sym (bit-shr m 1 i)

pub bit_le : (m i : ℕ) → bit m i ≤ 1
unfolding bit
bit_le m i = omega arith

pub bit-cases : (m i : ℕ) → (bit m i ≡ 0) ⊎ (bit m i ≡ 1)
bit-cases m i = go (bit m i) (bit_le m i)
  where
    go : (b : ℕ) → b ≤ 1 → (b ≡ 0) ⊎ (b ≡ 1)
    go zero h = inl refl
    go (suc b) h = inr (omega arith)

pub bit-of-zero : (i : ℕ) → bit 0 i ≡ 0
unfolding bit
bit-of-zero i = ap (λ (x : ℕ). x % 2) (div-eq_of_lt (pow_pos i))

-- ---- a slot added: what happens to the lowest bit and to the rest

doubled : (b i : ℕ) → b * 2 ^ suc i ≡ b * 2 ^ i * 2
doubled b i = ap (λ (x : ℕ). b * x) (pow-suc 2 i) ∙ sym (mul_assoc b (2 ^ i) 2)

pub with-zero : (m : ℕ) → with_bit m zero ≡ m / 2 * 2 + 1
unfolding with_bit
with-zero m = omega (arith, bit-zero m)

pub with-suc : (m i : ℕ) → with_bit m (suc i) ≡ with_bit (m / 2) i * 2 + m % 2
unfolding with_bit
with-suc m i = omega (arith, ap (λ (x : ℕ). (1 - x) * 2 ^ suc i) (bit-suc m i), doubled (1 - bit (m / 2) i) i)

-- ---- a map by its lowest bit d and the rest q

pub bit-cons-zero : (q d : ℕ) → d ≤ 1 → bit (q * 2 + d) zero ≡ d
bit-cons-zero q d h = omega (arith, bit-zero (q * 2 + d))

pub bit-cons-suc : (q d i : ℕ) → d ≤ 1 → bit (q * 2 + d) (suc i) ≡ bit q i
bit-cons-suc q d i h = let e : (q * 2 + d) / 2 ≡ q = omega arith in bit-suc (q * 2 + d) i ∙ ap (λ (x : ℕ). bit x i) e

low-le : (m : ℕ) → m % 2 ≤ 1
low-le m = omega arith

pub bit-with-same : (m i : ℕ) → bit (with_bit m i) i ≡ 1
bit-with-same m zero = ap (λ (x : ℕ). bit x zero) (with-zero m) ∙ bit-cons-zero (m / 2) 1 (omega arith)
bit-with-same m (suc i) =
    ap (λ (x : ℕ). bit x (suc i)) (with-suc m i) ∙ bit-cons-suc (with_bit (m / 2) i) (m % 2) i (low-le m) ∙ bit-with-same (m / 2) i

pub bit-with-other : (m i j : ℕ) → i ≢ j → bit (with_bit m i) j ≡ bit m j
bit-with-other m zero zero h = absurd (h refl)
bit-with-other m zero (suc j) h =
    ap (λ (x : ℕ). bit x (suc j)) (with-zero m) ∙ bit-cons-suc (m / 2) 1 j (omega arith) ∙ sym (bit-suc m j)
bit-with-other m (suc i) zero h =
    ap (λ (x : ℕ). bit x zero) (with-suc m i) ∙ bit-cons-zero (with_bit (m / 2) i) (m % 2) (low-le m) ∙ sym (bit-zero m)
bit-with-other m (suc i) (suc j) h =
    ap (λ (x : ℕ). bit x (suc j)) (with-suc m i) ∙ bit-cons-suc (with_bit (m / 2) i) (m % 2) j (low-le m)
    ∙ bit-with-other (m / 2) i j (λ e. h (ap suc e)) ∙ sym (bit-suc m j)

-- as a plain sum, or the map itself, where the bit is known
pub with-clear : (m i : ℕ) → bit m i ≡ 0 → with_bit m i ≡ m + 2 ^ i
unfolding with_bit
with-clear m i h = omega (arith, ap (λ (x : ℕ). (1 - x) * 2 ^ i) h)

pub with-set : (m i : ℕ) → bit m i ≡ 1 → with_bit m i ≡ m
unfolding with_bit
with-set m i h = omega (arith, ap (λ (x : ℕ). (1 - x) * 2 ^ i) h)

pub bit-add-same : (m i : ℕ) → bit m i ≡ 0 → bit (m + 2 ^ i) i ≡ 1
bit-add-same m i h = ap (λ (x : ℕ). bit x i) (sym (with-clear m i h)) ∙ bit-with-same m i

pub bit-add-other : (m i j : ℕ) → bit m i ≡ 0 → i ≢ j → bit (m + 2 ^ i) j ≡ bit m j
bit-add-other m i j h d = ap (λ (x : ℕ). bit x j) (sym (with-clear m i h)) ∙ bit-with-other m i j d

-- a slot's own map
pub bit-pow-same : (i : ℕ) → bit (2 ^ i) i ≡ 1
bit-pow-same i = ap (λ (x : ℕ). bit x i) e ∙ bit-add-same 0 i (bit-of-zero i)
  where
    e : 2 ^ i ≡ 0 + 2 ^ i
    e = omega arith

pub bit-pow-other : (i j : ℕ) → i ≢ j → bit (2 ^ i) j ≡ 0
bit-pow-other i j d = ap (λ (x : ℕ). bit x j) e ∙ bit-add-other 0 i j (bit-of-zero i) d ∙ bit-of-zero j
  where
    e : 2 ^ i ≡ 0 + 2 ^ i
    e = omega arith

-- ---- two maps together

min-le-one : (a b : ℕ) → min (a % 2) (b % 2) ≤ 1
min-le-one a b = omega arith

max-le-one : (a b : ℕ) → max (a % 2) (b % 2) ≤ 1
max-le-one a b = omega arith

pub bit-and : (a b i : ℕ) → bit (bit_and a b) i ≡ min (bit a i) (bit b i)
bit-and a b zero =
    ap (λ (x : ℕ). bit x zero) (and_step a b) ∙ bit-cons-zero (bit_and (a / 2) (b / 2)) (min (a % 2) (b % 2)) (min-le-one a b)
    ∙ ap₂ min (sym (bit-zero a)) (sym (bit-zero b))
bit-and a b (suc i) =
    ap (λ (x : ℕ). bit x (suc i)) (and_step a b)
    ∙ bit-cons-suc (bit_and (a / 2) (b / 2)) (min (a % 2) (b % 2)) i (min-le-one a b)
    ∙ bit-and (a / 2) (b / 2) i ∙ ap₂ min (sym (bit-suc a i)) (sym (bit-suc b i))

pub bit-or : (a b i : ℕ) → bit (bit_or a b) i ≡ max (bit a i) (bit b i)
bit-or a b zero =
    ap (λ (x : ℕ). bit x zero) (or_step a b) ∙ bit-cons-zero (bit_or (a / 2) (b / 2)) (max (a % 2) (b % 2)) (max-le-one a b)
    ∙ ap₂ max (sym (bit-zero a)) (sym (bit-zero b))
bit-or a b (suc i) =
    ap (λ (x : ℕ). bit x (suc i)) (or_step a b)
    ∙ bit-cons-suc (bit_or (a / 2) (b / 2)) (max (a % 2) (b % 2)) i (max-le-one a b)
    ∙ bit-or (a / 2) (b / 2) i ∙ ap₂ max (sym (bit-suc a i)) (sym (bit-suc b i))

-- the slots that v names go, and no other
less-digits : (m v q : ℕ) → q ≤ m / 2 → m - (q * 2 + min (m % 2) (v % 2)) ≡ (m / 2 - q) * 2 + (m % 2 - v % 2)
less-digits m v q h = omega arith

pub less-step : (m v : ℕ) → less m v ≡ less (m / 2) (v / 2) * 2 + (m % 2 - v % 2)
unfolding less
less-step m v =
    ap (λ (x : ℕ). m - x) (and_step m v) ∙ less-digits m v (bit_and (m / 2) (v / 2)) (and_le_l (m / 2) (v / 2))

sub-le-one : (a b : ℕ) → a % 2 - b % 2 ≤ 1
sub-le-one a b = omega arith

pub bit-less : (m v i : ℕ) → bit (less m v) i ≡ bit m i - bit v i
bit-less m v zero =
    ap (λ (x : ℕ). bit x zero) (less-step m v) ∙ bit-cons-zero (less (m / 2) (v / 2)) (m % 2 - v % 2) (sub-le-one m v)
    ∙ ap₂ (λ (x y : ℕ). x - y) (sym (bit-zero m)) (sym (bit-zero v))
bit-less m v (suc i) =
    ap (λ (x : ℕ). bit x (suc i)) (less-step m v)
    ∙ bit-cons-suc (less (m / 2) (v / 2)) (m % 2 - v % 2) i (sub-le-one m v)
    ∙ bit-less (m / 2) (v / 2) i ∙ ap₂ (λ (x y : ℕ). x - y) (sym (bit-suc m i)) (sym (bit-suc v i))

pub less-le : (m v : ℕ) → less m v ≤ m
unfolding less
less-le m v = omega arith

-- ---- maps of n slots

pub bit-above : (m n i : ℕ) → m < 2 ^ n → n ≤ i → bit m i ≡ 0
unfolding bit
bit-above m n i h l = ap (λ (x : ℕ). x % 2) (div-eq_of_lt (lt_of_lt_of_le h (pow_mono l)))

half-below : (m n : ℕ) → m < 2 ^ suc n → m / 2 < 2 ^ n
half-below m n h = omega (arith, pow-suc 2 n)

pub below-of-half : (m n : ℕ) → m / 2 < 2 ^ n → m < 2 ^ suc n
below-of-half m n h = omega (arith, pow-suc 2 n)

-- a map that names no slot is 0
pub no_bits : (m : ℕ) → ((i : ℕ) → bit m i ≡ 0) → m ≡ 0
no_bits =
    bin_ind (λ (m : ℕ). ((i : ℕ) → bit m i ≡ 0) → m ≡ 0) (λ h. refl)
    (λ m ih h. omega (arith, h 0, bit-zero m, ih (λ i. sym (bit-suc m i) ∙ h (suc i))))

-- a map is below 2 ^ n exactly where it names no slot from n on
pub below-of-bits : (m n : ℕ) → ((i : ℕ) → n ≤ i → bit m i ≡ 0) → m < 2 ^ n
below-of-bits m zero h = let e : m ≡ 0 = no_bits m (λ i. h i (omega arith)) in omega arith
below-of-bits m (suc n) h =
    below-of-half m n (below-of-bits (m / 2) n (λ i l. sym (bit-suc m i) ∙ h (suc i) (omega arith)))

pub below_true : (n m : ℕ) → names_below n m ≡ true → m < 2 ^ n
below_true n m h = ltb-true m (2 ^ n) h

pub below_false : (n m : ℕ) → names_below n m ≡ false → 2 ^ n ≤ m
below_false n m h = ltb-false m (2 ^ n) h

-- maps below 2 ^ n that name the same slots below n are equal
pub same_bits : (n a b : ℕ) → a < 2 ^ n → b < 2 ^ n → ((i : ℕ) → i < n → bit a i ≡ bit b i) → a ≡ b
same_bits zero a b ha hb h = omega arith
same_bits (suc n) a b ha hb h =
    let e : a / 2 ≡ b / 2 =
    same_bits n (a / 2) (b / 2) (half-below a n ha) (half-below b n hb)
    (λ i l. sym (bit-suc a i) ∙ h (suc i) (omega arith) ∙ bit-suc b i) in
    omega (arith, bit-zero a, bit-zero b, h 0 (omega arith))

-- maps that name the same slots are equal
pub all-bits : (a b : ℕ) → ((i : ℕ) → bit a i ≡ bit b i) → a ≡ b
all-bits =
    bin_ind (λ (a : ℕ). (b : ℕ) → ((i : ℕ) → bit a i ≡ bit b i) → a ≡ b)
    (λ b h. sym (no_bits b (λ i. sym (h i) ∙ bit-of-zero i)))
    (λ a ih b h. omega (arith, h 0, bit-zero a, bit-zero b, ih (b / 2) (λ i. sym (bit-suc a i) ∙ h (suc i) ∙ bit-suc b i)))

-- ---- within

pub within-le : (v m : ℕ) → within v m ≡ true → (i : ℕ) → bit v i ≤ bit m i
within-le v m h i = omega (arith, bit-and v m i, ap (λ (x : ℕ). bit x i) (eqb-true (bit_and v m) v h))

pub within-of-le : (v m : ℕ) → ((i : ℕ) → bit v i ≤ bit m i) → within v m ≡ true
within-of-le v m h = eq-eqb (bit_and v m) v (all-bits (bit_and v m) v (λ i. bit-and v m i ∙ min-eq_left (h i)))

-- it is enough to look at the slots below n where v names no other
pub within-of-below : (n v m : ℕ) → v < 2 ^ n → ((i : ℕ) → i < n → bit v i ≤ bit m i) → within v m ≡ true
within-of-below n v m hv h = within-of-le v m (λ i. go i (dec_lt i n))
  where
    go : (i : ℕ) → Dec (i < n) → bit v i ≤ bit m i
    go i (yes l) = h i l
    go i (no g) = omega (arith, bit-above v n i hv (omega arith))

pub within-sub-le : (v m : ℕ) → within v m ≡ true → v ≤ m
within-sub-le v m h = omega (arith, and_le_r v m, eqb-true (bit_and v m) v h)

pub less-within : (m v : ℕ) → within v m ≡ true → less m v ≡ m - v
unfolding less
less-within m v h = ap (λ (x : ℕ). m - x) (and_comm m v ∙ eqb-true (bit_and v m) v h)

pub bit-sub : (m v i : ℕ) → within v m ≡ true → bit (m - v) i ≡ bit m i - bit v i
bit-sub m v i h = ap (λ (x : ℕ). bit x i) (sym (less-within m v h)) ∙ bit-less m v i

-- a slot's own map is within a map that names the slot
pub within-pow : (m i : ℕ) → bit m i ≡ 1 → within (2 ^ i) m ≡ true
within-pow m i h = within-of-le (2 ^ i) m (λ j. go j (ℕ_discrete i j))
  where
    go : (j : ℕ) → Dec (i ≡ j) → bit (2 ^ i) j ≤ bit m j
    go j (yes e) = omega (arith, bit_le (2 ^ i) j, ap (bit m) e)
    go j (no d) = omega (arith, bit-pow-other i j d)

-- whether a slot is named, and its bit
pub named-true : (m i : ℕ) → named m i ≡ true → bit m i ≡ 1
named-true m i h = eqb-true (bit m i) 1 h

pub named-false : (m i : ℕ) → named m i ≡ false → bit m i ≡ 0
named-false m i h = go (bit-cases m i)
  where
    go : (bit m i ≡ 0) ⊎ (bit m i ≡ 1) → bit m i ≡ 0
    go (inl e) = e
    go (inr e) = absurd (eqb-false (bit m i) 1 h e)

pub set-named : (m i : ℕ) → bit m i ≡ 1 → named m i ≡ true
set-named m i h = eq-eqb (bit m i) 1 h

pub clear-named : (m i : ℕ) → bit m i ≡ 0 → named m i ≡ false
clear-named m i h = ne_eqb (bit m i) 1 (λ e. omega arith)

-- ---- the maps stay maps of n slots

pub with-below : (n m i : ℕ) → m < 2 ^ n → i < n → with_bit m i < 2 ^ n
with-below n m i h l = below-of-bits (with_bit m i) n (λ j g. bit-with-other m i j (λ e. omega arith) ∙ bit-above m n j h g)

pub add-below : (n m i : ℕ) → m < 2 ^ n → i < n → bit m i ≡ 0 → m + 2 ^ i < 2 ^ n
add-below n m i h l z = omega (arith, with-below n m i h l, with-clear m i z)

-- a map below 2 ^ n names only slots below n
pub set_below : (n m i : ℕ) → m < 2 ^ n → bit m i ≡ 1 → i < n
set_below n m i h s = go (dec_lt i n)
  where
    go : Dec (i < n) → i < n
    go (yes l) = l
    go (no g) = absurd (omega (arith, bit-above m n i h (omega arith)))
