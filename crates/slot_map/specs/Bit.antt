-- The slot map of 01, "Bytes of a segment": a number whose binary digits say which slots it names, slot 0 by the lowest.
use Rattle.std.specs.Prelude.{ℕ, ◌+◌, ◌-◌, ◌*◌, ◌/◌, ◌%◌, ◌^◌, Bool, eqb, ltb}
use Rattle.std.specs.Int.Bits.{bit_and}

-- the bit of slot i in the map m: 1 where m names slot i, else 0
unfoldable pub bit : ℕ → ℕ → ℕ
bit m i = m / 2 ^ i % 2

-- whether m names slot i
abbrev pub named : ℕ → ℕ → Bool
named m i = eqb (bit m i) 1

-- m with slot i: m itself where it has it already
unfoldable pub with_bit : ℕ → ℕ → ℕ
with_bit m i = m + (1 - bit m i) * 2 ^ i

-- m without the slots that v names
unfoldable pub less : ℕ → ℕ → ℕ
less m v = m - bit_and m v

-- whether every slot that m names is below n
abbrev pub names_below : ℕ → ℕ → Bool
names_below n m = ltb m (2 ^ n)

-- whether m names every slot that v names
abbrev pub within : ℕ → ℕ → Bool
within v m = eqb (bit_and v m) v
