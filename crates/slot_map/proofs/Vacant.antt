-- Laws of: The first free slot after the head, by trailing zeros of the map of free slots.
use Rattle.std.specs.Prelude.{◌≡◌, ℕ, ◌+◌, ◌-◌, ◌/◌, ◌^◌, ◌≤◌, ◌<◌}
use Rattle.std.proofs.Common.{sym, ap, ◌∙◌, lt_of_lt_of_le, lt_of_le_of_lt, le_trans, arith, pow_mono}
use Rattle.std.proofs.Math.Decide.{dec_lt}
use Rattle.std.specs.Int.Count.{count_trailing_zeros}
use Rattle.std.proofs.lemmas.Nat.{shr_le}
use Rattle.slot_map.specs.Bit.{bit}
use Rattle.slot_map.proofs.BitLaws.{bit_le, bit-shr, bit-above, bit-of-zero}
use Rattle.slot_map.specs.Next.{next_free}
use Rattle.slot_map.specs.NextLaws.{FirstFree}
use Rattle.slot_map.proofs.NextLaws.{next-is, next-none}
use Rattle.slot_map.specs.Words.{FreeMap}
use Rattle.slot_map.specs.Zeros.{Lowest}
use Rattle.slot_map.proofs.Zeros.{trailing-lowest}
use Rattle.slot_map.specs.Vacant.{above}

module _ (n m f head : ℕ) (p : FreeMap n m f) where
  set_free : (i : ℕ) → bit f i ≡ 1 → (i < n) × (bit m i ≡ 0)
  set_free i s = go (dec_lt i n)
    where
      go : Dec (i < n) → (i < n) × (bit m i ≡ 0)
      go (yes l) = (l, omega (arith, p.other i l))
      go (no g) = absurd (omega (arith, bit-above f n i p.below (omega arith)))

  clear-named : (i : ℕ) → i < n → bit f i ≡ 0 → bit m i ≡ 1
  clear-named i l z = omega (arith, p.other i l, bit_le m i)

  bit-over : (i : ℕ) → head < i → bit (above f head) (i - (head + 1)) ≡ bit f i
  bit-over i l =
      let e : head + (1 + (i - (head + 1))) ≡ i = omega arith in
      bit-shr (f / 2 ^ head) 1 (i - (head + 1)) ∙ bit-shr f head (1 + (i - (head + 1))) ∙ ap (bit f) e

  -- the lowest free slot above the head is the first, where there is one
  first_above : (k t : ℕ) → Lowest k (above f head) t → FirstFree n m head (head + 1 + t)
  first_above k t low =
      record {
        below = s.0;
        clear = s.1;
        ahead =
            λ i a b.
            clear-named i (omega (arith, s.0)) (sym (bit-over i a) ∙ low.least (i - (head + 1)) (omega arith));
        to_last = λ h. absurd (omega arith);
        from_zero = λ h. absurd (omega arith);
      }
    where
      s : (head + 1 + t < n) × (bit m (head + 1 + t) ≡ 0)
      s =
          let e : head + 1 + t - (head + 1) ≡ t = omega arith in
          set_free (head + 1 + t) (sym (bit-over (head + 1 + t) (omega arith)) ∙ ap (bit (above f head)) e ∙ low.set)

  -- and otherwise the lowest free slot is
  first_round : (k t : ℕ) → above f head ≡ 0 → Lowest k f t → FirstFree n m head t
  first_round k t z low =
      record {
        below = s.0;
        clear = s.1;
        ahead = λ i a b. clear-named i (omega (arith, s.0)) (low.least i b);
        to_last =
            λ h i a b.
            clear-named i b
            (sym (bit-over i a) ∙ ap (λ (x : ℕ). bit x (i - (head + 1))) z ∙ bit-of-zero (i - (head + 1)));
        from_zero = λ h i b. clear-named i (omega (arith, s.0)) (low.least i b);
      }
    where
      s : (t < n) × (bit m t ≡ 0)
      s = set_free t low.set

  module _ (k : ℕ) (fits : n ≤ k) (at : head < n) where
    f-fits : f < 2 ^ k
    f-fits = lt_of_lt_of_le p.below (pow_mono fits)

    above-fits : above f head < 2 ^ k
    above-fits = lt_of_le_of_lt (le_trans (shr_le (f / 2 ^ head) 1) (shr_le f head)) f-fits

    free-above : 0 < above f head → FirstFree n m head (head + 1 + count_trailing_zeros k (above f head))
    free-above q =
        first_above k (count_trailing_zeros k (above f head)) (trailing-lowest k (above f head) above-fits q)

    -- one law for each way that the code returns
    pub next-above : (above f head ≡ 0 → ⊥) → head + 1 + count_trailing_zeros k (above f head) ≡ next_free n m head
    next-above q = sym (next-is n m head (head + 1 + count_trailing_zeros k (above f head)) at (free-above (omega (arith, q))))

    pub next-round : above f head ≡ 0 → (f ≡ 0 → ⊥) → count_trailing_zeros k f ≡ next_free n m head
    next-round z q =
        sym
        (next-is n m head (count_trailing_zeros k f) at
        (first_round k (count_trailing_zeros k f) z (trailing-lowest k f f-fits (omega (arith, q)))))

    pub next-nothing : f ≡ 0 → n ≡ next_free n m head
    next-nothing z =
        sym (next-none n m head at (λ i l. clear-named i l (ap (λ (x : ℕ). bit x i) z ∙ bit-of-zero i)))
