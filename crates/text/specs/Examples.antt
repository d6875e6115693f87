-- The text of some numbers.
use Rattle.std.specs.Prelude.{◌≡◌, refl}
use Rattle.segment.specs.Choice.{pick}
use Rattle.text.specs.Ascii.{ascii}
use Rattle.text.specs.Digits.{digits_in, digits}

zero-has-one : digits 0 ≡ ascii "0"
unfolding digits_in
zero-has-one = refl

nine-and-ten : (digits 9 ≡ ascii "9") × (digits 10 ≡ ascii "10")
unfolding digits_in pick
nine-and-ten = (refl, refl)

highest : digits 18446744073709551615 ≡ ascii "18446744073709551615"
unfolding digits_in pick
highest = refl
