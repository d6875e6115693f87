-- Laws of: Trailing zeros find the lowest slot that a map names.
use Rattle.std.specs.Prelude.{◌≡◌, ◌⊎◌, ℕ, zero, suc, ◌/◌, ◌%◌, ◌^◌, ◌<◌}
use Rattle.std.proofs.Common.{sym, ap, ◌∙◌, inl, inr, pow-suc, arith}
use Rattle.std.specs.Int.Count.{count_trailing_zeros, under}
use Rattle.slot_map.specs.Bit.{bit}
use Rattle.slot_map.proofs.BitLaws.{bit-zero, bit-suc, bit-cases}
use Rattle.slot_map.specs.Zeros.{Lowest}

pub trailing_odd : (k m : ℕ) → m % 2 ≡ 1 → count_trailing_zeros (suc k) m ≡ 0
unfolding count_trailing_zeros
trailing_odd k m h = ap (λ (d : ℕ). under d (count_trailing_zeros k (m / 2))) h

pub trailing_even : (k m : ℕ) → m % 2 ≡ 0 → count_trailing_zeros (suc k) m ≡ suc (count_trailing_zeros k (m / 2))
unfolding count_trailing_zeros
trailing_even k m h = ap (λ (d : ℕ). under d (count_trailing_zeros k (m / 2))) h

lowest-odd : (k m : ℕ) → m % 2 ≡ 1 → Lowest (suc k) m 0
lowest-odd k m e = record { below = omega arith; set = bit-zero m ∙ e; least = λ i l. absurd (omega arith) }

lowest-even : (k m r : ℕ) → m % 2 ≡ 0 → Lowest k (m / 2) r → Lowest (suc k) m (suc r)
lowest-even k m r e p = record { below = omega arith; set = bit-suc m r ∙ p.set; least = least }
  where
    least : (i : ℕ) → i < suc r → bit m i ≡ 0
    least zero l = bit-zero m ∙ e
    least (suc i) l = bit-suc m i ∙ p.least i (omega arith)

pub trailing-lowest : (k m : ℕ) → m < 2 ^ k → 0 < m → Lowest k m (count_trailing_zeros k m)
trailing-lowest zero m h p = absurd (omega arith)
trailing-lowest (suc k) m h p = go (λ q. trailing-lowest k (m / 2) (omega (arith, pow-suc 2 k)) q) (bit-cases m 0)
  where
    go : (0 < m / 2 → Lowest k (m / 2) (count_trailing_zeros k (m / 2))) → (bit m 0 ≡ 0) ⊎ (bit m 0 ≡ 1)
        → Lowest (suc k) m (count_trailing_zeros (suc k) m)
    go rest (inl e) =
        let z : m % 2 ≡ 0 = sym (bit-zero m) ∙ e in
        rw (trailing_even k m z) (lowest-even k m (count_trailing_zeros k (m / 2)) z (rest (omega arith)))
    go rest (inr e) = let z : m % 2 ≡ 1 = sym (bit-zero m) ∙ e in rw (trailing_odd k m z) (lowest-odd k m z)
