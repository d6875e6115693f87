-- Laws of the casts: at a float that is a count, and at a count that a float is, each is defined and loses nothing.
use Rattle.std.specs.Prelude.{ℕ, ◌*◌, ◌^◌, ◌≤◌, ◌≡◌, Bool, true, false, not, ◌&&◌, T, pos, Float}
use Rattle.std.proofs.Common.{sym, ◌∙◌, subst, le_trans, lt_of_le_of_lt, lit<, lit≤}
use Rattle.std.proofs.Math.Path.{ap}
use Rattle.std.proofs.Math.Dec.{le→leb}
use Rattle.std.specs.Float.Ieee.{binary32, of_int, to_unsigned, in_unsigned, in_float, of_bits, to_bits, is_nan, nan_bits, fits}
use Rattle.std.specs.Float.{binary64}
use Rattle.std.specs.Float.Ieee.Fits.{and_i, fits_widens}
use Rattle.std.specs.Float.Ieee.Exact.{HasValue}
use Rattle.std.specs.Float.Ieee.Back.{unsigned_back}
use Rattle.std.specs.Float.Ieee.Bits.{of_bits-fits, nan_bits_is}
use Rattle.position.specs.Float.{highest_count, units_of_one, Holds, is_count, count_in, float_of, is_held}
use Rattle.position.specs.FloatLaws.{no_nan, value_of, bits_of, as-count, count-holds, float-holds}

-- a float that is a count up to the highest, and the same count in the wider format
module _ (b c : ℕ) (x : Holds b c) (h : c ≤ highest_count) where
  narrow-value : HasValue (of_bits binary32 b) false (c * units_of_one) units_of_one
  narrow-value = subst (λ (u : ℕ). HasValue (of_bits binary32 b) false u units_of_one) x.equal (value_of b x.clear x.finite)

  narrow-number : T (not (is_nan (of_bits binary32 b)))
  narrow-number = no_nan (of_bits binary32 b) false (c * units_of_one) units_of_one narrow-value

  same_number : of_bits binary32 b ≡ of_int binary64 (pos c)
  same_number = as-count (of_bits binary32 b) c (fits_widens (of_bits binary32 b) (of_bits-fits binary32 b)) h narrow-value

  back : T (in_unsigned binary64 32 (of_int binary64 (pos c))) × (to_unsigned 32 (of_int binary64 (pos c)) ≡ c)
  back = unsigned_back binary64 32 c (unfold in_float in le→leb c (2 ^ 53) (le_trans h (lit≤ tt))) (lt_of_le_of_lt h (lit< tt))

module _ (b : ℕ) (e : is_count b ≡ true) where
  pub bits-no-nan : T (not (nan_bits binary32 b))
  bits-no-nan =
      subst (λ (t : Bool). T (not t)) (sym (nan_bits_is binary32 b)) (narrow-number b (count_in b) (count-holds b e).0 (count-holds b e).1)

  pub widens : T (fits binary64 (of_bits binary32 b) && not (is_nan (of_bits binary32 b)))
  widens =
      and_i (fits binary64 (of_bits binary32 b)) (not (is_nan (of_bits binary32 b))) (fits_widens (of_bits binary32 b) (of_bits-fits binary32 b))
      (narrow-number b (count_in b) (count-holds b e).0 (count-holds b e).1)

  same : of_bits binary32 b ≡ of_int binary64 (pos (count_in b))
  same = same_number b (count_in b) (count-holds b e).0 (count-holds b e).1

  pub counts : T (in_unsigned binary64 32 (of_bits binary32 b))
  counts =
      subst (λ (x : Float). T (in_unsigned binary64 32 x)) (sym same) (back b (count_in b) (count-holds b e).0 (count-holds b e).1).0

  pub count-cast : to_unsigned 32 (of_bits binary32 b) ≡ count_in b
  count-cast = ap (to_unsigned 32) same ∙ (back b (count_in b) (count-holds b e).0 (count-holds b e).1).1

module _ (c : ℕ) (e : is_held c ≡ true) where
  same_float : of_bits binary32 (float_of c) ≡ of_int binary64 (pos c)
  same_float = same_number (float_of c) c (float-holds c e).0 (float-holds c e).1

  pub wide-number : T (not (is_nan (of_int binary64 (pos c))))
  wide-number =
      subst (λ (x : Float). T (not (is_nan x))) same_float (narrow-number (float_of c) c (float-holds c e).0 (float-holds c e).1)

  pub narrows : T (fits binary32 (of_int binary64 (pos c)) && not (is_nan (of_int binary64 (pos c))))
  narrows =
      and_i (fits binary32 (of_int binary64 (pos c))) (not (is_nan (of_int binary64 (pos c))))
      (subst (λ (x : Float). T (fits binary32 x)) same_float (of_bits-fits binary32 (float_of c))) wide-number

  pub float-cast : to_bits binary32 (of_int binary64 (pos c)) ≡ float_of c
  unfolding float_of
  float-cast =
      ap (to_bits binary32) (sym same_float)
      ∙ bits_of (of_bits binary32 (float_of c)) (c * units_of_one) (narrow-value (float_of c) c (float-holds c e).0 (float-holds c e).1)
