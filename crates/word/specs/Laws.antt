-- Laws of numbers as bytes and of FNV-1a.
use Rattle.std.specs.Prelude.{ℕ, zero, suc, ◌+◌, ◌-◌, ◌*◌, ◌/◌, ◌%◌, ◌^◌, ◌≤◌, ◌<◌, ◌≡◌, refl, List, [], ◌∷◌, ◌++◌, length, get_or, take, drop, set}
use Rattle.std.proofs.Common.{sym, ◌∙◌, ap, append_assoc, add-zero, zero-add, add-suc, suc-add, add_assoc, lt_of_lt_of_le, pow-suc, mod-lt, mul_assoc, mul-le-mul, div-one, add-one, arith, lit<, length-take, length-drop, drop_of_length-le, get_or-drop, drop-cons, drop-drop, take-add, take_at, drop_at, length-take-le}
use Rattle.std.proofs.Math.Nat.{pow-succ', pow-le-pow_right, div-div-eq-div-mul}
use Rattle.std.proofs.Math.Arith.{mod-mul}
use Rattle.std.specs.Int.{bytes_low_first}
use Rattle.std.specs.Int.Bits.{bit_xor}
use Rattle.std.proofs.lemmas.List.Edits.{sets, sets-eq}
use borrow.Rule.Slice.PartMut.{put_mid}
use Rattle.std.proofs.Math.Seq.{take-nil, drop-nil}
use Rattle.word.specs.Number.{Bytes, number_of, bytes_of}
use Rattle.word.specs.Fnv.{wrapped, fnv_step, fnv_from, fnv1a, key_hash}

-- ---- from numbers to bytes and back

pub length-bytes_of : (w x : ℕ) → length (bytes_of w x) ≡ w
unfolding bytes_of
length-bytes_of zero x = refl
length-bytes_of (suc w) x = ap suc (length-bytes_of w (x / 256))

pub bytes-bytes_of : (w x : ℕ) → Bytes (bytes_of w x)
unfolding bytes_of
bytes-bytes_of zero x i = omega arith
bytes-bytes_of (suc w) x zero = omega arith
bytes-bytes_of (suc w) x (suc i) = bytes-bytes_of w (x / 256) i

pub number-bytes : (w x : ℕ) → x < 256 ^ w → number_of (bytes_of w x) ≡ x
unfolding number_of bytes_of
number-bytes zero x h = omega arith
number-bytes (suc w) x h = omega (arith, number-bytes w (x / 256) (omega arith))

-- a first byte and what follows, put together and taken apart again
low_byte : (b n : ℕ) → b < 256 → (b + 256 * n) % 256 ≡ b
low_byte b n h = omega arith

high-bytes : (b n : ℕ) → b < 256 → (b + 256 * n) / 256 ≡ n
high-bytes b n h = omega arith

pub bytes-number : (s : List ℕ) → Bytes s → bytes_of (length s) (number_of s) ≡ s
unfolding number_of bytes_of
bytes-number [] h = refl
bytes-number (b ∷ bs) h =
    cc (low_byte b (number_of bs) (h 0), high-bytes b (number_of bs) (h 0), bytes-number bs (λ i. h (suc i)))

pub number_lt : (s : List ℕ) → Bytes s → number_of s < 256 ^ length s
unfolding number_of
number_lt [] h = omega arith
number_lt (b ∷ bs) h = rw (pow-succ' 256 (length bs)) (omega (arith, h 0, number_lt bs (λ i. h (suc i))))

-- lists of bytes of one length that stand for one number are the same
pub number-injective : (s t : List ℕ) → Bytes s → Bytes t → length s ≡ length t → number_of s ≡ number_of t → s ≡ t
number-injective s t hs ht e n = cc (bytes-number s hs, bytes-number t ht)

pub number_of-append : (a b : List ℕ) → number_of (a ++ b) ≡ number_of a + 256 ^ length a * number_of b
unfolding number_of
number_of-append [] b = omega arith
number_of-append (x ∷ a) b = rw (pow-succ' 256 (length a)) (omega (arith, number_of-append a b))

pub get_d-bytes_of : (w x i : ℕ) → i < w → get_or (bytes_of w x) i 0 ≡ x / 256 ^ i % 256
unfolding bytes_of
get_d-bytes_of zero x i h = absurd (omega arith)
get_d-bytes_of (suc w) x zero h = omega arith
get_d-bytes_of (suc w) x (suc i) h =
    get_d-bytes_of w (x / 256) i (omega arith)
    ∙ rw (div-div-eq-div-mul x 256 (256 ^ i), ← (pow-succ' 256 i))

pub bytes_of-two : (x : ℕ) → bytes_of 2 x ≡ x % 256 ∷ x / 256 % 256 ∷ []
unfolding bytes_of
bytes_of-two x = refl

pub bytes_of-four : (x : ℕ) → bytes_of 4 x ≡ x % 256 ∷ x / 256 % 256 ∷ x / 65536 % 256 ∷ x / 16777216 % 256 ∷ []
unfolding bytes_of
bytes_of-four x = rw (div-div-eq-div-mul x 256 256, div-div-eq-div-mul x 65536 256)

pub bytes_of-append : (v w x : ℕ) → bytes_of (v + w) x ≡ bytes_of v x ++ bytes_of w (x / 256 ^ v)
unfolding bytes_of
bytes_of-append zero w x = rw (zero-add w, div-one x)
bytes_of-append (suc v) w x =
    rw (suc-add v w, bytes_of-append v w (x / 256), div-div-eq-div-mul x 256 (256 ^ v), ← (pow-succ' 256 v))

power_pos : (w : ℕ) → 0 < 256 ^ w
power_pos zero = omega arith
power_pos (suc w) = rw (pow-suc 256 w) (omega (arith, power_pos w))

-- only the w lowest bytes matter
pub bytes_of-low : (w x : ℕ) → bytes_of w (x % 256 ^ w) ≡ bytes_of w x
unfolding bytes_of
bytes_of-low zero x = refl
bytes_of-low (suc w) x =
    let parts : x % 256 ^ suc w ≡ (x / 256 % 256 ^ w) * 256 + x % 256 = rw (pow-suc 256 w) (mod-mul x (power_pos w) (lit< tt)) in
    let low : x % 256 ^ suc w % 256 ≡ x % 256 = omega (arith, parts) in
    let high : x % 256 ^ suc w / 256 ≡ x / 256 % 256 ^ w = omega (arith, parts) in
    rw (low, high, bytes_of-low w (x / 256))

-- a number in two parts
pub bytes_of-parts : (v w x : ℕ) → bytes_of (v + w) x ≡ bytes_of v (x % 256 ^ v) ++ bytes_of w (x / 256 ^ v)
bytes_of-parts v w x = bytes_of-append v w x ∙ rw (bytes_of-low v x)

-- ---- lists of bytes

pub bytes-append : (a b : List ℕ) → Bytes a → Bytes b → Bytes (a ++ b)
bytes-append [] b ha hb i = hb i
bytes-append (x ∷ a) b ha hb zero = ha 0
bytes-append (x ∷ a) b ha hb (suc i) = bytes-append a b (λ j. ha (suc j)) hb i

pub bytes_take : (n : ℕ) (s : List ℕ) → Bytes s → Bytes (take n s)
bytes_take zero s h i = omega arith
bytes_take (suc n) [] h i = omega arith
bytes_take (suc n) (b ∷ s) h zero = h 0
bytes_take (suc n) (b ∷ s) h (suc i) = bytes_take n s (λ j. h (suc j)) i

pub bytes_drop : (n : ℕ) (s : List ℕ) → Bytes s → Bytes (drop n s)
bytes_drop n s h i = rw (get_or-drop n s i 0) (h (n + i))

pub bytes-set : (s : List ℕ) (i b : ℕ) → Bytes s → b < 256 → Bytes (set s i b)
bytes-set [] i b h hb j = h j
bytes-set (x ∷ s) zero b h hb zero = hb
bytes-set (x ∷ s) zero b h hb (suc j) = h (suc j)
bytes-set (x ∷ s) (suc i) b h hb zero = h 0
bytes-set (x ∷ s) (suc i) b h hb (suc j) = bytes-set s i b (λ k. h (suc k)) hb j

pub bytes-sets : (s : List ℕ) (i : ℕ) (t : List ℕ) → Bytes s → Bytes t → Bytes (sets s i t)
bytes-sets s i [] hs ht = hs
bytes-sets s i (b ∷ t) hs ht = bytes-sets (set s i b) (suc i) t (bytes-set s i b hs (ht 0)) (λ k. ht (suc k))

-- ---- a number that stands at an offset

number-first : (w : ℕ) (s : List ℕ) → number_of (take (suc w) s) ≡ get_or s 0 0 + 256 * number_of (take w (drop 1 s))
unfolding number_of
number-first w [] = simp (take-nil, drop-nil)
number-first w (b ∷ s) = refl

-- its lowest byte, and the bytes after it; bytes past the end count as 0
pub number_at : (w at : ℕ) (s : List ℕ) → number_of (take (suc w) (drop at s)) ≡ get_or s at 0 + 256 * number_of (take w (drop (at + 1) s))
number_at w at s = number-first w (drop at s) ∙ rw (get_or-drop at s 0 0, drop-drop 1 at s, add-zero at)

number-none : (s : List ℕ) → number_of (take 0 s) ≡ 0
unfolding number_of
number-none s = refl

pub number-two : (at : ℕ) (s : List ℕ) → number_of (take 2 (drop at s)) ≡ get_or s at 0 + 256 * get_or s (at + 1) 0
number-two at s = omega (arith, number_at 1 at s, number_at 0 (at + 1) s, number-none (drop (at + 1 + 1) s))

pub number-four : (at : ℕ) (s : List ℕ)
    → number_of (take 4 (drop at s)) ≡ get_or s at 0 + 256 * get_or s (at + 1) 0 + 65536 * get_or s (at + 2) 0 + 16777216 * get_or s (at + 3) 0
number-four at s =
    number_at 3 at s
    ∙ rw (number_at 2 (at + 1) s, number_at 1 (at + 1 + 1) s, number_at 0 (at + 1 + 1 + 1) s, number-none (drop (at + 1 + 1 + 1 + 1) s))
    (rw (add_assoc at 1 1, add_assoc at 2 1) (omega arith))

-- a number in two parts
pub number-parts : (v w at : ℕ) (s : List ℕ)
    → number_of (take (v + w) (drop at s)) ≡ number_of (take v (drop at s)) + 256 ^ v * number_of (take w (drop (at + v) s))
number-parts zero w at s = rw (zero-add w, number-none (drop at s), add-zero at) (omega arith)
number-parts (suc v) w at s =
    let rest = number_of (take w (drop (at + suc v) s)) in
    let next : at + 1 + v ≡ at + suc v = omega arith in
    rw (suc-add v w, number_at (v + w) at s, number_at v at s, number-parts v w (at + 1) s, pow-succ' 256 v, next, mul_assoc 256 (256 ^ v) rest)
    (omega arith)

pub number-eight : (at : ℕ) (s : List ℕ)
    → number_of (take 8 (drop at s))
    ≡ get_or s at 0 + 256 * get_or s (at + 1) 0 + 65536 * get_or s (at + 2) 0 + 16777216 * get_or s (at + 3) 0
    + 4294967296 * get_or s (at + 4) 0 + 1099511627776 * get_or s (at + 5) 0 + 281474976710656 * get_or s (at + 6) 0
    + 72057594037927936 * get_or s (at + 7) 0
number-eight at s =
    number-parts 4 4 at s
    ∙ rw (number-four at s, number-four (at + 4) s, add_assoc at 4 1, add_assoc at 4 2, add_assoc at 4 3) (omega arith)

pub number-at-lt : (w at : ℕ) (s : List ℕ) → Bytes s → number_of (take w (drop at s)) < 256 ^ w
number-at-lt w at s h =
    lt_of_lt_of_le (number_lt (take w (drop at s)) (bytes_take w (drop at s) (bytes_drop at s h)))
    (pow-le-pow_right (lit< tt) (simp length-take (omega arith)))

-- the bytes of the number at an offset are those that stand there
pub bytes-at : (w at : ℕ) (s : List ℕ) → Bytes s → at + w ≤ length s → bytes_of w (number_of (take w (drop at s))) ≡ take w (drop at s)
bytes-at w at s h fits =
    let e : length (take w (drop at s)) ≡ w = simp (length-take, length-drop) (omega arith) in
    rw e at (bytes-number (take w (drop at s)) (bytes_take w (drop at s) (bytes_drop at s h)))

-- a number that was written is read back, at the front of a list and at an offset of a slice
pub number-front : (w x : ℕ) (t : List ℕ) → x < 256 ^ w → number_of (take w (bytes_of w x ++ t)) ≡ x
number-front w x t h = ap number_of (take_at (bytes_of w x) t w (length-bytes_of w x)) ∙ number-bytes w x h

pub drop-front : (w x : ℕ) (t : List ℕ) → drop w (bytes_of w x ++ t) ≡ t
drop-front w x t = drop_at (bytes_of w x) t w (length-bytes_of w x)

pub taken-sets : (s : List ℕ) (at : ℕ) (t : List ℕ) (w : ℕ) → length t ≡ w → at + w ≤ length s → take w (drop at (sets s at t)) ≡ t
taken-sets s at t w e fits =
    rw (sets-eq t s at (omega arith), append_assoc (take at s) t (drop (at + length t) s), drop_at (take at s) (t ++ drop (at + length t) s) at (length-take-le at s (omega arith)))
    (take_at t (drop (at + length t) s) w e)

pub number-written : (w at x : ℕ) (s : List ℕ) → at + w ≤ length s → x < 256 ^ w
    → number_of (take w (drop at (sets s at (bytes_of w x)))) ≡ x
number-written w at x s fits h =
    ap number_of (taken-sets s at (bytes_of w x) w (length-bytes_of w x) fits) ∙ number-bytes w x h

-- ---- numbers as the library's methods write and read them

bytes_from : (i w x : ℕ) → bytes_low_first i w x ≡ bytes_of w (x / 256 ^ i)
unfolding bytes_of
bytes_from i zero x = refl
bytes_from zero (suc w) x = rw (bytes_from 1 w x, div-one x)
bytes_from (suc i) (suc w) x = rw (bytes_from (suc (suc i)) w x, div-div-eq-div-mul x (256 ^ suc i) 256, ← (pow-suc 256 (suc i)))

-- the library's bytes of a number are `bytes_of` it
pub low-first : (w x : ℕ) → bytes_low_first 0 w x ≡ bytes_of w x
low-first w x = bytes_from 0 w x ∙ rw (div-one x)

-- a part of a slice that is written over
pub sets-part : (s t : List ℕ) (at k : ℕ) → k ≡ length t → at + k ≤ length s → put_mid at k s t ≡ sets s at t
sets-part s t at k e fits =
    ap (λ (l : List ℕ). take at s ++ (t ++ l)) (drop-drop k at s ∙ ap (λ (m : ℕ). drop (at + m) s) e)
    ∙ sym (append_assoc (take at s) t (drop (at + length t) s))
    ∙ sym (sets-eq t s at (omega arith))

-- the bytes of a number are written over the w bytes from an offset on
pub number-stored : (w at x : ℕ) (s t : List ℕ) → t ≡ bytes_of w x → at + w ≤ length s → put_mid at (at + w - at) s t ≡ sets s at (bytes_of w x)
number-stored w at x s t e fits =
    let same : at + w - at ≡ w = omega arith in
    rw (e, same) (sets-part s (bytes_of w x) at w (sym (length-bytes_of w x)) fits)

-- ---- bytes stored one after the other

-- what the stores of the code leave
pub sets-two : (s : List ℕ) (at x : ℕ) → set (set s at (x % 256)) (at + 1) (x / 256 % 256) ≡ sets s at (bytes_of 2 x)
sets-two s at x = rw (bytes_of-two, add-one)

pub sets-append : (s : List ℕ) (at : ℕ) (a b : List ℕ) → sets s at (a ++ b) ≡ sets (sets s at a) (at + length a) b
sets-append s at [] b = rw (add-zero at)
sets-append s at (x ∷ a) b = sets-append (set s at x) (suc at) a b ∙ rw (suc-add, add-suc)

pub sets-parts : (v w : ℕ) (s : List ℕ) (at x : ℕ)
    → sets (sets s at (bytes_of v (x % 256 ^ v))) (at + v) (bytes_of w (x / 256 ^ v)) ≡ sets s at (bytes_of (v + w) x)
sets-parts v w s at x =
    rw (bytes_of-parts v w x, sets-append s at (bytes_of v (x % 256 ^ v)) (bytes_of w (x / 256 ^ v)), length-bytes_of v (x % 256 ^ v))

-- ---- FNV-1a

pub fnv_from-append : (h : ℕ) (a b : List ℕ) → fnv_from h (a ++ b) ≡ fnv_from (fnv_from h a) b
unfolding fnv_from
fnv_from-append h [] b = refl
fnv_from-append h (x ∷ a) b = fnv_from-append (fnv_step h x) a b

-- the product of two 32-bit numbers fits 64 bits
pub product_lt : {x y : ℕ} → x < 4294967296 → y < 4294967296 → x * y < 18446744073709551616
product_lt {x} {y} hx hy = omega (arith, mul-le-mul {n₁ = x} {m₁ = y} {n₂ = 4294967295} {m₂ = 4294967295} (omega arith) (omega arith))

pub wrapped-lt : (x y : ℕ) → wrapped x y < 4294967296
wrapped-lt x y = mod-lt (x * y) (lit< tt)

pub fnv_step-lt : (h b : ℕ) → fnv_step h b < 4294967296
unfolding fnv_step
fnv_step-lt h b = wrapped-lt (bit_xor h b) 16777619

-- the same by two bytes at a time, for code that makes them one by one
pub fnv_from-two : (h x : ℕ) → fnv_from h (bytes_of 2 x) ≡ fnv_step (fnv_step h (x % 256)) (x / 256 % 256)
unfolding fnv_from
fnv_from-two h x = rw (bytes_of-two x)

pub key_hash-halves : (table key : ℕ)
    → key_hash table key ≡ fnv_from (fnv_from (fnv_from 2166136261 (bytes_of 2 table)) (bytes_of 2 (key % 65536))) (bytes_of 2 (key / 65536))
key_hash-halves table key = simp (bytes_of-parts 2 2 key, fnv_from-append)

pub fnv_from-lt : (h : ℕ) (s : List ℕ) → h < 4294967296 → fnv_from h s < 4294967296
unfolding fnv_from
fnv_from-lt h [] k = k
fnv_from-lt h (b ∷ s) k = fnv_from-lt (fnv_step h b) s (fnv_step-lt h b)

pub fnv1a-lt : (s : List ℕ) → fnv1a s < 4294967296
fnv1a-lt s = fnv_from-lt 2166136261 s (lit< tt)

-- the hash of a key is that of its six bytes where they are stored
pub key_hash-at : (at : ℕ) (s : List ℕ) → Bytes s → at + 6 ≤ length s
    → fnv1a (take 6 (drop at s)) ≡ key_hash (number_of (take 2 (drop at s))) (number_of (take 4 (drop (at + 2) s)))
key_hash-at at s h fits =
    rw (bytes-at 2 at s h (omega arith), bytes-at 4 (at + 2) s h (omega arith), take-add 2 4 (drop at s), drop-drop 2 at s)

-- a turn of a loop over a slice, and its end
pub fnv_from-turn : (h i : ℕ) (s : List ℕ) → i < length s → fnv_from h (drop i s) ≡ fnv_from (fnv_step h (get_or s i 0)) (drop (i + 1) s)
unfolding fnv_from
fnv_from-turn h i s k = rw (add-one, drop-cons s i 0 k)

pub fnv_from-end : (h i : ℕ) (s : List ℕ) → length s ≤ i → fnv_from h (drop i s) ≡ h
unfolding fnv_from
fnv_from-end h i s k = rw (drop_of_length-le s k)
