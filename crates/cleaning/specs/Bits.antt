-- Bits by number, 32 in each of W words.
use Rattle.std.specs.Prelude.{ℕ, ◌/◌, ◌%◌, Bool, List, get_or, set}
use Rattle.slot_map.specs.Bit.{named, with_bit}

-- the word that has the bit of a number
abbrev pub bit_word : ℕ → ℕ → ℕ
bit_word W n = n / 32 % W

unfoldable pub has_bit : ℕ → List ℕ → ℕ → Bool
has_bit W bits n = named (get_or bits (bit_word W n) 0) (n % 32)

unfoldable pub bits_with : ℕ → List ℕ → ℕ → List ℕ
bits_with W bits n = set bits (bit_word W n) (with_bit (get_or bits (bit_word W n) 0) (n % 32))
