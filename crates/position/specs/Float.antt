-- 02, R-10: what the 32 bits of a float mean, by the fields of the interchange format, and which floats are counts. A float is
-- given by its bit pattern, a number below 2 ^ 32.
use Rattle.std.specs.Prelude.{ℕ, zero, suc, ◌+◌, ◌-◌, ◌*◌, ◌/◌, ◌%◌, ◌^◌, ◌<◌, ◌≡◌, Bool, eqb, ltb, leb}
use Rattle.std.specs.Float.Ieee.{size}
use Rattle.segment.specs.Choice.{both}

-- the highest count (02, R-10)
abbrev pub highest_count : ℕ
highest_count = 67108864

-- ---- the fields: the sign is the highest bit, the exponent's field the next eight, the fraction the lowest 23

abbrev pub sign_of : ℕ → ℕ
sign_of b = b / 2147483648

abbrev pub field_of : ℕ → ℕ
field_of b = b / 8388608 % 256

abbrev pub fraction_of : ℕ → ℕ
fraction_of b = b % 8388608

-- ---- the value

-- The unit is 2 ^ -149, the least float above 0, of which every finite float is a multiple. This many make 1.
abbrev pub units_of_one : ℕ
units_of_one = 2 ^ 149

-- How many units a finite float is in size: its significand, moved up by its exponent. Behind the leading digit stand the
-- fraction's 23; a field of 0 has no leading digit and the exponent of a field of 1.
unfoldable pub units_from : ℕ → ℕ → ℕ
units_from zero fraction = fraction
units_from (suc exponent) fraction = (8388608 + fraction) * 2 ^ exponent

unfoldable pub units_of : ℕ → ℕ
unfolding units_from
units_of b = units_from (field_of b) (fraction_of b)

-- The float is the count c: its sign is clear (so that negative zero is none), it is finite (a field of 255 is that of the
-- infinities and of what is no number), and it is c in size.
pub record Holds (b c : ℕ) : Type 0 where
  pub clear : sign_of b ≡ 0
  pub finite : field_of b < 255
  pub equal : units_of b ≡ c * units_of_one

-- ---- both ways

-- the float is a whole number up to the highest count, and which
unfoldable pub is_count : ℕ → Bool
unfolding units_of
is_count b =
    both (eqb (sign_of b) 0)
    (both (ltb (field_of b) 255) (both (eqb (units_of b % units_of_one) 0) (leb (units_of b) (highest_count * units_of_one))))

unfoldable pub count_in : ℕ → ℕ
unfolding units_of
count_in b = units_of b / units_of_one

-- How many digits a number has beyond the 24 of a significand, and the positive float of a number of units cut to 24 digits:
-- the field is one more than the digits dropped, which the leading digit adds where it stands above the fraction.
unfoldable pub dropped : ℕ → ℕ
unfolding size
dropped u = size u - 24

unfoldable pub cut_float : ℕ → ℕ
unfolding dropped
cut_float u = dropped u * 8388608 + u / 2 ^ dropped u

unfoldable pub float_of : ℕ → ℕ
unfolding cut_float
float_of c = cut_float (c * units_of_one)

-- the count is not above the highest, and the float made of it means it still
unfoldable pub is_held : ℕ → Bool
unfolding float_of units_of
is_held c = both (leb c highest_count) (eqb (units_of (float_of c)) (c * units_of_one))
