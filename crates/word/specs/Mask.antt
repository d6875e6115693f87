-- A number that has no bit in common with the number below it is a power of two, and a remainder by it is a mask.
use Rattle.std.specs.Prelude.{ℕ, ◌+◌, ◌-◌, ◌*◌, ◌/◌, ◌%◌, ◌<◌, min, ◌≡◌, refl, Bool, true, false, eqb}
use Rattle.std.proofs.Common.{sym, ◌∙◌, ap, ap₂, arith, eqb-true}
use Rattle.std.proofs.Math.Nat.{mod-one}
use Rattle.std.proofs.Math.Arith.{bin_ind, mod-mul}
use Rattle.std.specs.Int.Bits.{bit_and, and_step, and_zero_r, and_self}
use Rattle.std.proofs.lemmas.Bool.{eqb-false}

-- what is to be shown of m
abbrev Masks : ℕ → Type 0
Masks m = 0 < m → bit_and m (m - 1) ≡ 0 → (n : ℕ) → bit_and n (m - 1) ≡ n % m

-- by an even number, from its half
even-masks : (m q : ℕ) → m ≡ q * 2 → 0 < q → Masks q → Masks m
even-masks m q e pos half h k n =
    and_step n (m - 1)
    ∙ ap₂ (λ (x y : ℕ). bit_and (n / 2) x * 2 + min (n % 2) y) below odd
    ∙ ap₂ (λ (x y : ℕ). x * 2 + y) (half pos apart (n / 2)) (omega arith)
    ∙ sym (ap (λ (x : ℕ). n % x) e ∙ mod-mul n pos (omega arith))
  where
    below : (m - 1) / 2 ≡ q - 1
    below = omega (arith, e, pos)

    odd : (m - 1) % 2 ≡ 1
    odd = omega (arith, e, pos)

    apart : bit_and q (q - 1) ≡ 0
    apart =
        let step : bit_and m (m - 1) ≡ bit_and (m / 2) ((m - 1) / 2) * 2 + min (m % 2) ((m - 1) % 2) = and_step m (m - 1) in
        let half_is : m / 2 ≡ q = omega (arith, e) in
        let same : bit_and (m / 2) ((m - 1) / 2) ≡ bit_and q (q - 1) = ap₂ (λ (x y : ℕ). bit_and x y) half_is below in
        omega (arith, step, same, k)

-- an odd number above 1 has its highest bit in common with the number below it
odd-masks : (m q : ℕ) → m ≡ q * 2 + 1 → 0 < q → Masks m
odd-masks m q e pos h k n = absurd (omega (arith, step, same, and_self q, k, pos))
  where
    step : bit_and m (m - 1) ≡ bit_and (m / 2) ((m - 1) / 2) * 2 + min (m % 2) ((m - 1) % 2)
    step = and_step m (m - 1)

    same : bit_and (m / 2) ((m - 1) / 2) ≡ bit_and q q
    same =
        let half_is : m / 2 ≡ q = omega (arith, e) in
        let below : (m - 1) / 2 ≡ q = omega (arith, e) in
        ap₂ (λ (x y : ℕ). bit_and x y) half_is below

masks : (m : ℕ) → Masks (m / 2) → Masks m
masks m half h k n = go (eqb (m / 2) 0) refl
  where
    go : (t : Bool) → eqb (m / 2) 0 ≡ t → bit_and n (m - 1) ≡ n % m
    go true p =
        let one : m ≡ 1 = omega (arith, eqb-true (m / 2) 0 p, h) in
        ap (λ (x : ℕ). bit_and n (x - 1)) one ∙ and_zero_r n ∙ sym (ap (λ (x : ℕ). n % x) one ∙ mod-one n)
    go false p = parity (eqb (m % 2) 0) refl
      where
        pos : 0 < m / 2
        pos = omega (arith, eqb-false (m / 2) 0 p)

        parity : (t : Bool) → eqb (m % 2) 0 ≡ t → bit_and n (m - 1) ≡ n % m
        parity true r = even-masks m (m / 2) (omega (arith, eqb-true (m % 2) 0 r)) pos half h k n
        parity false r = odd-masks m (m / 2) (omega (arith, eqb-false (m % 2) 0 r)) pos h k n

pub mask-remainder : (m n : ℕ) → 0 < m → bit_and m (m - 1) ≡ 0 → bit_and n (m - 1) ≡ n % m
mask-remainder m n h k = bin_ind Masks (λ h k n. absurd (omega arith)) masks m h k n
