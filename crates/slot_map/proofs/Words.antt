-- Laws of: What shifts and masks on words of k bits give, in the terms of a slot's bit.
use Rattle.std.specs.Prelude.{◌≡◌, ℕ, zero, suc, ◌+◌, ◌-◌, ◌*◌, ◌/◌, ◌%◌, ◌^◌, ◌≤◌, ◌<◌, ltb}
use Rattle.std.proofs.Common.{sym, ap, ◌∙◌, pow-suc, one-mul, mod-eq_of_lt, mod-lt, add-sub_of_le, arith, lit<, pow_pos}
use Rattle.std.proofs.Math.Decide.{ℕ_discrete}
use Rattle.std.proofs.Math.Arith.{mod-mul}
use Rattle.std.specs.Int.Bits.{bit_and, bit_or}
use Rattle.std.proofs.lemmas.Nat.{and_mask, and_le_l}
use Rattle.std.proofs.Math.Pow.{pow-lt, ones_split, ones_lt, high}
use Rattle.slot_map.specs.Bit.{bit, with_bit, less}
use Rattle.slot_map.specs.Count.{all_slots}
use Rattle.slot_map.proofs.BitLaws.{bit-zero, bit-suc, bit_le, bit-and, bit-or, bit-less, bit-cons-zero, bit-cons-suc, bit-with-same, bit-with-other, bit-pow-same, bit-pow-other, same_bits, all-bits, less-le}
use Rattle.slot_map.specs.Words.{FreeMap}

-- `(m >> i) & 1`
pub tested : (m i : ℕ) → bit_and (m / 2 ^ i) 1 ≡ bit m i
unfolding bit
tested m i = and_mask (m / 2 ^ i) 1

-- `1 << i`, in a word of k bits
pub own-bit : (k i : ℕ) → i < k → 1 * 2 ^ i % 2 ^ k ≡ 2 ^ i
own-bit k i l = ap (λ (x : ℕ). x % 2 ^ k) (one-mul (2 ^ i)) ∙ mod-eq_of_lt (pow-lt l)

-- `m | (1 << i)`
pub or-own : (m i : ℕ) → bit_or m (2 ^ i) ≡ with_bit m i
or-own m i = all-bits (bit_or m (2 ^ i)) (with_bit m i) (λ j. go j (ℕ_discrete i j))
  where
    go : (j : ℕ) → Dec (i ≡ j) → bit (bit_or m (2 ^ i)) j ≡ bit (with_bit m i) j
    go j (yes e) =
        rw (← e) (omega (arith, bit-or m (2 ^ i) i, bit-pow-same i, bit_le m i, bit-with-same m i))
    go j (no d) = omega (arith, bit-or m (2 ^ i) j, bit-pow-other i j d, bit-with-other m i j d)

-- `!m`: every one of the k bits is the other
not-digits : (k m : ℕ) → m < 2 ^ suc k → 2 ^ suc k - 1 - m ≡ (2 ^ k - 1 - m / 2) * 2 + (1 - m % 2)
not-digits k m h = omega (arith, pow-suc 2 k)

pub bit_not : (k m i : ℕ) → m < 2 ^ k → i < k → bit (2 ^ k - 1 - m) i ≡ 1 - bit m i
bit_not zero m i h l = absurd (omega arith)
bit_not (suc k) m zero h l =
    ap (λ (x : ℕ). bit x zero) (not-digits k m h) ∙ bit-cons-zero (2 ^ k - 1 - m / 2) (1 - m % 2) (omega arith)
    ∙ ap (λ (x : ℕ). 1 - x) (sym (bit-zero m))
bit_not (suc k) m (suc i) h l =
    ap (λ (x : ℕ). bit x (suc i)) (not-digits k m h) ∙ bit-cons-suc (2 ^ k - 1 - m / 2) (1 - m % 2) i (omega arith)
    ∙ bit_not k (m / 2) i (omega (arith, pow-suc 2 k)) (omega arith) ∙ ap (λ (x : ℕ). 1 - x) (sym (bit-suc m i))

-- `m & !v`
pub and-not : (k m v : ℕ) → m < 2 ^ k → v < 2 ^ k → bit_and m (2 ^ k - 1 - v) ≡ less m v
and-not k m v hm hv =
    same_bits k (bit_and m (2 ^ k - 1 - v)) (less m v) (omega (arith, and_le_l m (2 ^ k - 1 - v))) (omega (arith, less-le m v))
    (λ i l. omega (arith, bit-and m (2 ^ k - 1 - v) i, bit_not k v i hv l, bit-less m v i, bit_le m i, bit_le v i))

-- ---- the free slots of n as a map, and the first of them

-- `0xffff_ffff >> (k - n)`: a one for each slot below n
pub slot-mask : (k n : ℕ) → n ≤ k → (2 ^ k - 1) / 2 ^ (k - n) ≡ 2 ^ n - 1
slot-mask k n l =
    ap (λ (x : ℕ). (2 ^ x - 1) / 2 ^ (k - n)) (sym (add-sub_of_le l))
    ∙ ap (λ (x : ℕ). x / 2 ^ (k - n)) (ones_split n (k - n)) ∙ high (2 ^ n - 1) (k - n) (ones_lt (k - n))

-- `m < 0xffff_ffff >> (k - n)`
pub leaves_free : (k n m : ℕ) → n ≤ k → ltb m ((2 ^ k - 1) / 2 ^ (k - n)) ≡ ltb m (all_slots n)
leaves_free k n m l = ap (ltb m) (slot-mask k n l)

low-digits : (m n : ℕ) → m % 2 ^ suc n ≡ m / 2 % 2 ^ n * 2 + m % 2
low-digits m n = ap (λ (x : ℕ). m % x) (pow-suc 2 n) ∙ mod-mul m (pow_pos n) (lit< tt)

pub bit-low : (m n i : ℕ) → i < n → bit (m % 2 ^ n) i ≡ bit m i
bit-low m zero i l = absurd (omega arith)
bit-low m (suc n) zero l =
    ap (λ (x : ℕ). bit x zero) (low-digits m n) ∙ bit-cons-zero (m / 2 % 2 ^ n) (m % 2) (omega arith) ∙ sym (bit-zero m)
bit-low m (suc n) (suc i) l =
    ap (λ (x : ℕ). bit x (suc i)) (low-digits m n) ∙ bit-cons-suc (m / 2 % 2 ^ n) (m % 2) i (omega arith)
    ∙ bit-low (m / 2) n i (omega arith) ∙ sym (bit-suc m i)

-- `!m & (0xffff_ffff >> (k - n))`
pub free-map : (k n m : ℕ) → n ≤ k → m < 2 ^ k → FreeMap n m (bit_and (2 ^ k - 1 - m) ((2 ^ k - 1) / 2 ^ (k - n)))
free-map k n m l h = rw e (record { below = mod-lt (2 ^ k - 1 - m) (pow_pos n); other = other })
  where
    e : bit_and (2 ^ k - 1 - m) ((2 ^ k - 1) / 2 ^ (k - n)) ≡ (2 ^ k - 1 - m) % 2 ^ n
    e = ap (bit_and (2 ^ k - 1 - m)) (slot-mask k n l) ∙ and_mask (2 ^ k - 1 - m) n

    other : (i : ℕ) → i < n → bit ((2 ^ k - 1 - m) % 2 ^ n) i ≡ 1 - bit m i
    other i g = bit-low (2 ^ k - 1 - m) n i g ∙ bit_not k m i h (omega arith)
