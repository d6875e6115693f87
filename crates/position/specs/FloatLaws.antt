-- Laws of a float's bits: what they mean is the value that the language's account of IEEE 754 gives them, and so the casts of
-- the code, which are defined only where they lose nothing, give the counts and the bits of the definitions.
use Rattle.std.specs.Prelude.{ℕ, zero, suc, ◌+◌, ◌-◌, ◌*◌, ◌/◌, ◌%◌, ◌^◌, ◌≤◌, ◌<◌, ◌≡◌, refl, Bool, true, false, not, T, eqb, ltb, leb, pos, Float}
use Rattle.std.proofs.Common.{sym, ◌∙◌, subst, true≢false, le_antisymm, lt_of_lt_of_le, le_trans, le_of_mul-le-mul_right, div-add-mod', lt_irrefl, lt_of_le_of_lt, mul-one, zero-add, mul_right_comm, mul_assoc, mul_comm, mul-div_cancel, div-one, mul-le-mul_right, arith, ltb-true, leb-true, eqb-true, lt-ltb, le-leb, eq-eqb, ne_eqb, lit<, lit≤, pow-add, pow_pos, pow_mono, shl_lt}
use Rattle.std.proofs.Math.Path.{ap}
use Rattle.std.proofs.Math.Nat.{mul-div-mul_right, mul-mod_left, eq_of_mul-eq-mul_right}
use Rattle.std.proofs.lemmas.Bool.{lt-leb}
use Rattle.std.proofs.Math.Decide.{dec_lt}
use Rattle.std.proofs.lemmas.Nat.{shl-shr}
use Rattle.std.proofs.Math.Pow.{shr_mono}
use Rattle.std.specs.Float.{nan, inf, fin, binary32, binary64}
use Rattle.std.specs.Float.Ieee.{up, down, size, odd, of_int, of_bits, of_fields, to_bits, is_nan, fits}
use Rattle.std.specs.Float.Ieee.Digits.{size-lt, size-le, size_reaches}
use Rattle.std.specs.Float.Ieee.Fits.{down_pos, kept-lt, of_int-fits}
use Rattle.std.specs.Float.Ieee.Exact.{HasValue, odd_sign}
use Rattle.std.specs.Float.Ieee.Back.{round_whole, whole_unique}
use Rattle.std.specs.Float.Ieee.Bits.{to_bits-of_bits}
use Rattle.segment.proofs.Choice.{both_left, both_right, both_true}
use Rattle.position.specs.Float.{highest_count, sign_of, field_of, fraction_of, units_of_one, units_from, units_of, Holds, is_count, count_in, dropped, cut_float, float_of, is_held}

-- ---- bits and values

pub no_nan : (x : Float) (s : Bool) (a c : ℕ) → HasValue x s a c → T (not (is_nan x))
unfolding is_nan
no_nan nan s a c v = absurd v
no_nan (inf t) s a c v = tt
no_nan (fin t m e) s a c v = tt

fields : (x t : ℕ) → x < 255 → HasValue (of_fields binary32 false x t) false (units_from x t) units_of_one
unfolding of_fields units_from
fields zero t h = subst (λ (a : ℕ). HasValue (odd 24 false t 0 149) false a units_of_one) (mul-one t) (odd_sign 24 false t 0 149)
fields (suc x) t h = rw (ne_eqb (suc x) 255 (λ e. omega arith)) (odd_sign 24 false (8388608 + t) x 149)

low_field : (b : ℕ) → sign_of b ≡ 0 → b % 2147483648 / 8388608 ≡ field_of b
low_field b s = omega arith

pub value_of : (b : ℕ) → sign_of b ≡ 0 → field_of b < 255 → HasValue (of_bits binary32 b) false (units_of b) units_of_one
unfolding of_bits units_of
value_of b s f = rw (lt-leb 2147483648 b (omega arith), low_field b s) (fields (field_of b) (fraction_of b) f)

-- the bits of a value
pub bits_of : (x : Float) (u : ℕ) → HasValue x false u units_of_one → to_bits binary32 x ≡ cut_float u
unfolding to_bits cut_float dropped
bits_of nan u v = absurd v
bits_of (inf s) u v = absurd v
bits_of (fin true m e) u v = absurd (true≢false v.0)
bits_of (fin false m e) u v =
    let n : m * up e * 2 ^ 149 / down e ≡ u = ap (λ (x : ℕ). x / down e) v.1 ∙ mul-div_cancel u (down_pos e) in
    rw (n, zero-add ((size u - 24) * 8388608))

pub cut-own : (b : ℕ) → sign_of b ≡ 0 → field_of b < 255 → cut_float (units_of b) ≡ b
cut-own b s f =
    let v = value_of b s f in
    sym (bits_of (of_bits binary32 b) (units_of b) v)
    ∙ to_bits-of_bits binary32 b (omega arith) (no_nan (of_bits binary32 b) false (units_of b) units_of_one v)

-- a whole number of units as a whole number
scaled : (one : ℕ) → 0 < one → (x : Float) (c : ℕ) → HasValue x false (c * one) one → HasValue x false c 1
scaled one p nan c v = v
scaled one p (inf s) c v = v
scaled one p (fin t m e) c v = (
  v.0,
  eq_of_mul-eq-mul_right one p (m * up e * 1) (c * down e)
      (rw (mul-one (m * up e)) v.1 ∙ mul_right_comm c one (down e)),
)

pub as-count : (x : Float) (c : ℕ) → T (fits binary64 x) → c ≤ highest_count → HasValue x false (c * units_of_one) units_of_one → x ≡ of_int binary64 (pos c)
unfolding of_int
as-count x c f h v =
    whole_unique binary64 x (of_int binary64 (pos c)) false c f (of_int-fits binary64 (pos c)) (scaled units_of_one (pow_pos 149) x c v)
    (round_whole binary64 false c (le_trans h (lit≤ tt)))

-- ---- a number of units cut to 24 digits

size-at : (n j : ℕ) → 2 ^ j ≤ n → n < 2 ^ suc j → size n ≡ suc j
size-at n j l h = le_antisymm (size-le n (suc j) h) (go (dec_lt j (size n)))
  where
    go : Dec (j < size n) → j < size n
    go (yes p) = p
    go (no p) = absurd (lt_irrefl n (lt_of_lt_of_le (size-lt n) (le_trans (pow_mono (omega arith)) l)))

-- what is kept has 24 digits, unless there were fewer
kept-le : (u : ℕ) → 8388608 ≤ u → 8388608 ≤ u / 2 ^ dropped u
unfolding dropped
kept-le u h = go (dec_lt 24 (size u))
  where
    go : Dec (24 < size u) → 8388608 ≤ u / 2 ^ (size u - 24)
    go (yes p) =
        let up : 2 ^ (23 + (size u - 24)) ≤ u = size_reaches u (23 + (size u - 24)) (omega arith) in
        subst (λ (x : ℕ). x ≤ u / 2 ^ (size u - 24)) (shl-shr 8388608 (size u - 24))
        (shr_mono (size u - 24) (subst (λ (x : ℕ). x ≤ u) (pow-add 2 23 (size u - 24)) up))
    go (no p) =
        let z : size u - 24 ≡ 0 = omega arith in
        rw (z, div-one u) h

kept-most : (u : ℕ) → u / 2 ^ dropped u < 16777216
unfolding dropped
kept-most u = kept-lt 24 u

pub record CutTo (u k : ℕ) : Type 0 where
  pub clear : sign_of (cut_float u) ≡ 0
  pub finite : field_of (cut_float u) < 255
  pub keeps : units_of (cut_float u) ≡ u / 2 ^ k * 2 ^ k

-- a field and a fraction with its leading digit, put together and taken apart
field_back : (k q : ℕ) → k < 254 → 8388608 ≤ q → q < 16777216 → field_of (k * 8388608 + q) ≡ suc k
field_back k q h l m = omega arith

fraction-back : (k q : ℕ) → 8388608 ≤ q → q < 16777216 → 8388608 + fraction_of (k * 8388608 + q) ≡ q
fraction-back k q l m = omega arith

sign-back : (k q : ℕ) → k < 254 → q < 16777216 → sign_of (k * 8388608 + q) ≡ 0
sign-back k q h m = omega arith

pub cut-to : (u k : ℕ) → 8388608 ≤ u → dropped u ≡ k → k < 254 → CutTo u k
unfolding cut_float units_of units_from
cut-to u k h e small =
    let q = u / 2 ^ k in
    let l : 8388608 ≤ q = rw e at (kept-le u h) in
    let m : q < 16777216 = rw e at (kept-most u) in
    record {
      clear = rw e (sign-back k q small m);
      finite = rw (e, field_back k q small l m) (omega arith);
      keeps = rw (e, field_back k q small l m, fraction-back k q l m);
    }

-- ---- the float of a count

-- how many digits of a count are dropped: at most 149 of its units' where it has 24 digits, j more where it has 24 + j
dropped-low : (c : ℕ) → c < 16777216 → dropped (c * units_of_one) ≤ 149
unfolding dropped
dropped-low c h = omega (arith, size-le (c * units_of_one) (24 + 149) (shl_lt 24 149 h))

dropped-high : (c j : ℕ) → 2 ^ (23 + j) ≤ c → c < 2 ^ (24 + j) → dropped (c * units_of_one) ≡ 149 + j
unfolding dropped
dropped-high c j l h =
    let at : size (c * units_of_one) ≡ suc (23 + j + 149) =
    size-at (c * units_of_one) (23 + j + 149) (subst (λ (x : ℕ). x ≤ c * units_of_one) (sym (pow-add 2 (23 + j) 149)) (mul-le-mul_right units_of_one l))
    (subst (λ (x : ℕ). c * units_of_one < 2 ^ x) (omega arith) (shl_lt (24 + j) 149 h)) in
    omega arith

-- units that are cut to a multiple of a power below their own, and to one above it
exact-low : (c n k : ℕ) → k ≤ n → c * 2 ^ n / 2 ^ k * 2 ^ k ≡ c * 2 ^ n
exact-low c n k h =
    let e : c * 2 ^ n ≡ c * 2 ^ (n - k) * 2 ^ k =
    ap (λ (x : ℕ). c * x) (ap (λ (x : ℕ). 2 ^ x) (omega arith) ∙ pow-add 2 (n - k) k) ∙ sym (mul_assoc c (2 ^ (n - k)) (2 ^ k)) in
    ap (λ (x : ℕ). x / 2 ^ k * 2 ^ k) e ∙ ap (λ (x : ℕ). x * 2 ^ k) (shl-shr (c * 2 ^ (n - k)) k) ∙ sym e

cut_high : (c n j : ℕ) → c * 2 ^ n / 2 ^ (n + j) * 2 ^ (n + j) ≡ c / 2 ^ j * 2 ^ j * 2 ^ n
cut_high c n j =
    let e : 2 ^ (n + j) ≡ 2 ^ j * 2 ^ n = pow-add 2 n j ∙ mul_comm (2 ^ n) (2 ^ j) in
    rw (e, mul-div-mul_right c (2 ^ j) (pow_pos n)) (sym (mul_assoc (c / 2 ^ j) (2 ^ j) (2 ^ n)))

-- from 1 on a count has units enough for a leading digit
units-large : (c : ℕ) → 0 < c → 8388608 ≤ c * units_of_one
units-large c h = le_trans (lit≤ tt) (mul-le-mul_right units_of_one h)

pub low-kept : (c : ℕ) → c < 16777216 → units_of (float_of c) ≡ c * units_of_one
unfolding float_of units_of
low-kept zero h = refl
low-kept (suc c) h =
    let k = dropped (suc c * units_of_one) in
    let d : k ≤ 149 = dropped-low (suc c) h in
    (cut-to (suc c * units_of_one) k (units-large (suc c) (omega arith)) refl (omega arith)).keeps ∙ exact-low (suc c) 149 k d

pub high-kept : (c j : ℕ) → 2 ^ (23 + j) ≤ c → c < 2 ^ (24 + j) → j < 100 → units_of (float_of c) ≡ c / 2 ^ j * 2 ^ j * units_of_one
unfolding float_of
high-kept c j l h small =
    (cut-to (c * units_of_one) (149 + j) (units-large c (lt_of_lt_of_le (pow_pos (23 + j)) l)) (dropped-high c j l h) (omega arith)).keeps
    ∙ cut_high c 149 j

-- ---- what the definitions mean

count-equal : (u one : ℕ) → u % one ≡ 0 → u ≡ u / one * one
count-equal u one e = omega (arith, div-add-mod' u one)

pub below-highest : (c one : ℕ) → 0 < one → c * one ≤ highest_count * one → c ≤ highest_count
below-highest c one p h = le_of_mul-le-mul_right h p

-- From float is accepted exactly for the floats that are counts up to the highest, and gives the count that the float is.
pub count-holds : (b : ℕ) → is_count b ≡ true → Holds b (count_in b) × (count_in b ≤ highest_count)
unfolding is_count count_in
count-holds b e =
    let s = both_left (eqb (sign_of b) 0) _ e in
    let e1 = both_right (eqb (sign_of b) 0) _ e in
    let f = both_left (ltb (field_of b) 255) _ e1 in
    let e2 = both_right (ltb (field_of b) 255) _ e1 in
    let w = eqb-true (units_of b % units_of_one) 0 (both_left (eqb (units_of b % units_of_one) 0) _ e2) in
    let h = leb-true (units_of b) (highest_count * units_of_one) (both_right (eqb (units_of b % units_of_one) 0) _ e2) in
    let u = count-equal (units_of b) units_of_one w in (
      record { clear = eqb-true (sign_of b) 0 s; finite = ltb-true (field_of b) 255 f; equal = u },
      below-highest (units_of b / units_of_one) units_of_one (pow_pos 149) (subst (λ (x : ℕ). x ≤ highest_count * units_of_one) u h),
    )

pub holds-count : (b c : ℕ) → Holds b c → c ≤ highest_count → (is_count b ≡ true) × (count_in b ≡ c)
unfolding is_count count_in
holds-count b c x h = (
  both_true (eqb (sign_of b) 0) _ (eq-eqb (sign_of b) 0 x.clear)
      (both_true (ltb (field_of b) 255) _ (lt-ltb (field_of b) 255 x.finite)
      (both_true (eqb (units_of b % units_of_one) 0) _ (eq-eqb (units_of b % units_of_one) 0 (ap (λ (y : ℕ). y % units_of_one) x.equal ∙ mul-mod_left c units_of_one))
      (le-leb (units_of b) (highest_count * units_of_one) (subst (λ (y : ℕ). y ≤ highest_count * units_of_one) (sym x.equal) (mul-le-mul_right units_of_one h))))),
  ap (λ (y : ℕ). y / units_of_one) x.equal ∙ mul-div_cancel c (pow_pos 149),
)

-- To float is accepted exactly for the counts up to the highest that some float is, and gives that float.
few-dropped : (c : ℕ) → c ≤ highest_count → dropped (c * units_of_one) < 254
unfolding dropped
few-dropped c h = omega (arith, size-le (c * units_of_one) (27 + 149) (shl_lt 27 149 (lt_of_le_of_lt h (lit< tt))))

float-finite : (c : ℕ) → c ≤ highest_count → (sign_of (float_of c) ≡ 0) × (field_of (float_of c) < 255)
unfolding float_of
float-finite zero h = (refl, lit< tt)
float-finite (suc c) h =
    let k = dropped (suc c * units_of_one) in
    let d : k < 254 = few-dropped (suc c) h in
    let t = cut-to (suc c * units_of_one) k (units-large (suc c) (omega arith)) refl d in
    (t.clear, t.finite)

pub float-holds : (c : ℕ) → is_held c ≡ true → Holds (float_of c) c × (c ≤ highest_count)
unfolding is_held
float-holds c e =
    let h = leb-true c highest_count (both_left (leb c highest_count) _ e) in
    let f = float-finite c h in (
      record { clear = f.0; finite = f.1; equal = eqb-true (units_of (float_of c)) (c * units_of_one) (both_right (leb c highest_count) _ e) },
      h,
    )

pub holds-float : (b c : ℕ) → Holds b c → c ≤ highest_count → (is_held c ≡ true) × (float_of c ≡ b)
unfolding is_held
holds-float b c x h =
    let e : float_of c ≡ b = unfold float_of in ap cut_float (sym x.equal) ∙ cut-own b x.clear x.finite in (
      both_true (leb c highest_count) _ (le-leb c highest_count h)
          (eq-eqb (units_of (float_of c)) (c * units_of_one) (ap units_of e ∙ x.equal)),
      e,
    )
