-- Laws of the code's tests: by integers alone they decide what the definitions say of units.
use Rattle.std.specs.Prelude.{ℕ, zero, suc, ◌+◌, ◌-◌, ◌*◌, ◌/◌, ◌%◌, ◌^◌, ◌≤◌, ◌<◌, ◌≡◌, refl, Bool, true, false, eqb, ltb, leb}
use Rattle.std.proofs.Common.{sym, ◌∙◌, subst, lt_of_lt_of_le, lt_of_le_of_lt, le_trans, lt_irrefl, le_of_lt, mul_assoc, mul-pos, mod-eq_of_lt, mod-lt, add-mul, add_comm, mul-le-mul, mul-le-mul_left, mul-lt-mul_of_pos_right, div-add-mod', zero-mul, one-mul, arith, le-ltb, lt-ltb, le-leb, eq-eqb, ne_eqb, eqb-true, lit<, lit≤, pow-add, pow_pos, pow_mono}
use Rattle.std.proofs.Math.Path.{ap}
use Rattle.std.proofs.lemmas.Bool.{false≢true, lt-leb}
use Rattle.std.proofs.Math.Nat.{mul-mod_left, add-mul-mod_self_right, eq_of_mul-eq-mul_right}
use Rattle.std.proofs.Math.Decide.{dec_lt}
use Rattle.segment.specs.Choice.{both}
use Rattle.segment.proofs.Choice.{both-false-left, both-false-right}
use Rattle.position.specs.Float.{highest_count, sign_of, field_of, fraction_of, units_of_one, units_from, units_of, is_count, float_of, is_held}
use Rattle.position.specs.FloatLaws.{low-kept, high-kept}

-- two numbers that are equal exactly together, compared
eqb_same : (a b c d : ℕ) → (a ≡ b → c ≡ d) → (c ≡ d → a ≡ b) → eqb a b ≡ eqb c d
eqb_same a b c d f g = go (eqb a b) refl
  where
    go : (t : Bool) → eqb a b ≡ t → eqb a b ≡ eqb c d
    go true e = e ∙ sym (eq-eqb c d (f (eqb-true a b e)))
    go false e = e ∙ sym (ne_eqb c d (λ h. false≢true (sym e ∙ eq-eqb a b (g h))))

eqb-scaled : (r n : ℕ) → 0 < n → eqb r 0 ≡ eqb (r * n) 0
eqb-scaled r n p = eqb_same r 0 (r * n) 0 (λ e. ap (λ (x : ℕ). x * n) e ∙ zero-mul n) (λ e. eq_of_mul-eq-mul_right n p r 0 (e ∙ sym (zero-mul n)))

scaled-rest : (a m n : ℕ) → 0 < n → 0 < m → a * n % (m * n) ≡ a % m * n
scaled-rest a m n p q =
    ap (λ (x : ℕ). x % (m * n)) (parts (a / m) (a % m) (sym (div-add-mod' a m)))
    ∙ add-mul-mod_self_right (a % m * n) (a / m) (m * n)
    ∙ mod-eq_of_lt (mul-lt-mul_of_pos_right (mod-lt a q) p)
  where
    parts : (k r : ℕ) → a ≡ k * m + r → a * n ≡ r * n + k * (m * n)
    parts k r e = ap (λ (x : ℕ). x * n) e ∙ add-mul (k * m) r n ∙ add_comm (k * m * n) (r * n) ∙ ap (λ (x : ℕ). r * n + x) (mul_assoc k m n)

-- ---- counts as floats

pub held-above : (c : ℕ) → highest_count < c → false ≡ is_held c
unfolding is_held
held-above c h = sym (both-false-left (leb c highest_count) _ (lt-leb c highest_count h))

held_by : (c : ℕ) (t : Bool) → c ≤ highest_count → t ≡ eqb (units_of (float_of c)) (c * units_of_one) → t ≡ is_held c
unfolding is_held both
held_by c t h e = rw (le-leb c highest_count h) e

pub held_low : (c : ℕ) → c < 16777216 → true ≡ is_held c
held_low c h = held_by c true (omega arith) (sym (eq-eqb (units_of (float_of c)) (c * units_of_one) (low-kept c h)))

held_high : (c j : ℕ) → c ≤ highest_count → 2 ^ (23 + j) ≤ c → c < 2 ^ (24 + j) → j < 100
    → (c % 2 ^ j ≡ 0 → c / 2 ^ j * 2 ^ j ≡ c) → (c / 2 ^ j * 2 ^ j ≡ c → c % 2 ^ j ≡ 0) → eqb (c % 2 ^ j) 0 ≡ is_held c
held_high c j m l h s there back =
    held_by c (eqb (c % 2 ^ j) 0) m
    (rw (high-kept c j l h s)
    (eqb_same (c % 2 ^ j) 0 (c / 2 ^ j * 2 ^ j * units_of_one) (c * units_of_one) (λ e. ap (λ (x : ℕ). x * units_of_one) (there e))
    (λ e. back (eq_of_mul-eq-mul_right units_of_one (pow_pos 149) (c / 2 ^ j * 2 ^ j) c e))))

pub held_two : (c : ℕ) → 16777216 ≤ c → c < 33554432 → eqb (c % 2) 0 ≡ is_held c
held_two c l h = held_high c 1 (omega arith) l h (omega arith) (λ e. omega arith) (λ e. omega arith)

pub held-four : (c : ℕ) → 33554432 ≤ c → c ≤ 67108864 → eqb (c % 4) 0 ≡ is_held c
unfolding is_held both
held-four c l h = go (dec_lt c 67108864)
  where
    go : Dec (c < 67108864) → eqb (c % 4) 0 ≡ is_held c
    go (yes p) = held_high c 2 h l p (omega arith) (λ e. omega arith) (λ e. omega arith)
    go (no p) = let e : c ≡ 67108864 = omega arith in subst (λ (x : ℕ). eqb (x % 4) 0 ≡ is_held x) (sym e) refl

-- ---- floats as counts

-- of four tests three are known
sole : (p q w r : Bool) → p ≡ true → q ≡ true → r ≡ true → w ≡ both p (both q (both w r))
unfolding both
sole p q true r a b c = rw (a, b, c)
sole p q false r a b c = rw (a, b)

units-at : (x t : ℕ) → 1 ≤ x → units_from x t ≡ (8388608 + t) * 2 ^ (x - 1)
unfolding units_from
units-at zero t h = absurd (omega arith)
units-at (suc x) t h = ap (λ (y : ℕ). (8388608 + t) * 2 ^ y) (omega arith)

-- units below 1, of none, not above those of the highest count, and above them
small_units : (x t : ℕ) → x < 127 → t < 8388608 → units_from x t < units_of_one
unfolding units_from
small_units zero t h l = lt_of_lt_of_le l (lit≤ tt)
small_units (suc y) t h l =
    lt_of_lt_of_le (mul-lt-mul_of_pos_right {m = 8388608 + t} {n = 16777216} {k = 2 ^ y} (omega arith) (pow_pos y))
    (le_trans (mul-le-mul_left 16777216 (pow_mono {i = y} {j = 125} (omega arith))) (lit≤ tt))

no-units : (x t : ℕ) → units_from x t ≡ 0 → (x ≡ 0) × (t ≡ 0)
unfolding units_from
no-units zero t e = (refl, e)
no-units (suc y) t e = absurd (lt_irrefl 0 (subst (λ (n : ℕ). 0 < n) e (mul-pos {m = 8388608 + t} (omega arith) (pow_pos y))))

most-units : (x t : ℕ) → x * 8388608 + t ≤ 1283457024 → t < 8388608 → units_from x t ≤ highest_count * units_of_one
unfolding units_from
most-units zero t h l = le_trans (le_of_lt l) (lit≤ tt)
most-units (suc y) t h l = go (dec_lt y 152)
  where
    go : Dec (y < 152) → (8388608 + t) * 2 ^ y ≤ highest_count * units_of_one
    go (yes p) = le_trans (mul-le-mul {n₁ = 8388608 + t} {m₁ = 2 ^ y} {n₂ = 16777216} {m₂ = 2 ^ 151} (omega arith) (pow_mono {i = y} {j = 151} (omega arith))) (lit≤ tt)
    go (no p) =
        le_trans (mul-le-mul {n₁ = 8388608 + t} {m₁ = 2 ^ y} {n₂ = 8388608} {m₂ = 2 ^ 152} (omega arith) (pow_mono {i = y} {j = 152} (omega arith))) (lit≤ tt)

more-units : (x t : ℕ) → 1283457024 < x * 8388608 + t → t < 8388608 → highest_count * units_of_one < units_from x t
unfolding units_from
more-units zero t h l = absurd (omega arith)
more-units (suc y) t h l = go (dec_lt 152 y)
  where
    go : Dec (152 < y) → highest_count * units_of_one < (8388608 + t) * 2 ^ y
    go (yes p) = lt_of_lt_of_le (lit< tt) (mul-le-mul {n₁ = 8388608} {m₁ = 2 ^ 153} {n₂ = 8388608 + t} {m₂ = 2 ^ y} (omega arith) (pow_mono p))
    go (no p) =
        lt_of_lt_of_le (lit< tt) (mul-le-mul {n₁ = 8388609} {m₁ = 2 ^ 152} {n₂ = 8388608 + t} {m₂ = 2 ^ y} (omega arith) (pow_mono {i = 152} {j = y} (omega arith)))

-- the units of floats whose bits are not above the highest count's, by the part of the field
module _ (b : ℕ) (h : b ≤ 1283457024) where
  pub field-low : field_of b ≡ b / 8388608
  field-low = omega arith

  units-field : 1 ≤ b / 8388608 → units_of b ≡ (8388608 + fraction_of b) * 2 ^ (b / 8388608 - 1)
  unfolding units_of
  units-field l = rw field-low (units-at (b / 8388608) (fraction_of b) l)

  pub whole-high : 150 ≤ b / 8388608 → true ≡ eqb (units_of b % units_of_one) 0
  whole-high l =
      let x = b / 8388608 in
      let e : units_of b ≡ (8388608 + fraction_of b) * 2 ^ (x - 150) * units_of_one =
      units-field (omega arith)
      ∙ ap (λ (y : ℕ). (8388608 + fraction_of b) * 2 ^ y) (split x l)
      ∙ ap (λ (y : ℕ). (8388608 + fraction_of b) * y) (pow-add 2 (x - 150) 149)
      ∙ sym (mul_assoc (8388608 + fraction_of b) (2 ^ (x - 150)) units_of_one) in
      sym (eq-eqb (units_of b % units_of_one) 0 (ap (λ (y : ℕ). y % units_of_one) e ∙ mul-mod_left ((8388608 + fraction_of b) * 2 ^ (x - 150)) units_of_one))
    where
      split : (x : ℕ) → 150 ≤ x → x - 1 ≡ x - 150 + 149
      split x l = omega arith

  -- the digits below 1 are the lowest 150 less the field
  pub whole-middle : 127 ≤ b / 8388608 → b / 8388608 < 150
      → eqb ((8388608 + fraction_of b) % 2 ^ (150 - b / 8388608)) 0 ≡ eqb (units_of b % units_of_one) 0
  whole-middle l m =
      let x = b / 8388608 in
      let s = 8388608 + fraction_of b in
      let one : units_of_one ≡ 2 ^ (150 - x) * 2 ^ (x - 1) = ap (λ (y : ℕ). 2 ^ y) (split x l m) ∙ pow-add 2 (150 - x) (x - 1) in
      let e : units_of b % units_of_one ≡ s % 2 ^ (150 - x) * 2 ^ (x - 1) =
      ap (λ (y : ℕ). y % units_of_one) (units-field (omega arith))
      ∙ ap (λ (y : ℕ). s * 2 ^ (x - 1) % y) one
      ∙ scaled-rest s (2 ^ (150 - x)) (2 ^ (x - 1)) (pow_pos (x - 1)) (pow_pos (150 - x)) in
      rw e (eqb-scaled (s % 2 ^ (150 - x)) (2 ^ (x - 1)) (pow_pos (x - 1)))
    where
      split : (x : ℕ) → 127 ≤ x → x < 150 → 149 ≡ 150 - x + (x - 1)
      split x l m = omega arith

  pub whole-low : b / 8388608 < 127 → eqb b 0 ≡ eqb (units_of b % units_of_one) 0
  unfolding units_of
  whole-low m =
      let u = units_of b in
      rw (mod-eq_of_lt (small_units (field_of b) (fraction_of b) (omega arith) (omega arith)))
      (eqb_same b 0 u 0 (λ e. ap units_of e) (λ e. let n = no-units (field_of b) (fraction_of b) e in omega arith))

  pub count-below : eqb (units_of b % units_of_one) 0 ≡ is_count b
  unfolding is_count units_of
  count-below =
      sole (eqb (sign_of b) 0) (ltb (field_of b) 255) (eqb (units_of b % units_of_one) 0) (leb (units_of b) (highest_count * units_of_one))
      (eq-eqb (sign_of b) 0 (omega arith)) (lt-ltb (field_of b) 255 (omega arith))
      (le-leb (units_of b) (highest_count * units_of_one) (most-units (field_of b) (fraction_of b) (omega arith) (omega arith)))

pub count-above : (b : ℕ) → 1283457024 < b → false ≡ is_count b
unfolding is_count units_of
count-above b h = go (dec_lt b 2147483648) (dec_lt (field_of b) 255)
  where
    go : Dec (b < 2147483648) → Dec (field_of b < 255) → false ≡ is_count b
    go (no p) d = sym (both-false-left (eqb (sign_of b) 0) _ (ne_eqb (sign_of b) 0 (λ e. omega arith)))
    go (yes p) (no q) = sym (both-false-right (eqb (sign_of b) 0) _ (both-false-left (ltb (field_of b) 255) _ (le-ltb (field_of b) 255 (omega arith))))
    go (yes p) (yes q) =
        sym
        (both-false-right (eqb (sign_of b) 0) _
        (both-false-right (ltb (field_of b) 255) _
        (both-false-right (eqb (units_of b % units_of_one) 0) _
        (lt-leb (units_of b) (highest_count * units_of_one) (more-units (field_of b) (fraction_of b) (omega arith) (omega arith))))))

-- the power of two that the code shifts to
pub one-moved : (x : ℕ) → 127 ≤ x → x < 150 → 1 * 2 ^ (150 - x) % 4294967296 ≡ 2 ^ (150 - x)
one-moved x l h =
    ap (λ (y : ℕ). y % 4294967296) (one-mul (2 ^ (150 - x)))
    ∙ mod-eq_of_lt (lt_of_le_of_lt (pow_mono {i = 150 - x} {j = 23} (omega arith)) (lit< tt))
