-- 02, R-10: the two conversions of a value of eight bytes, of which the first four are the position and the others stay.
use Rattle.std.specs.Prelude.{ℕ, Ok, Err, Bool, not, List, [], ◌∷◌, ◌++◌, ◌≡◌, eqb, length, take, drop}
use Rattle.std.proofs.Math.Option.{Option, none, some}
use Rattle.word.specs.Number.{number_of, bytes_of}
use Rattle.record.specs.declared.Refusal.{Refusal}
use Rattle.record.specs.declared.Refusal.TheVariants.{ValueLength, NotWhole, CountLost}
use Rattle.record.specs.Refusals.{number_of_refusal}
use Rattle.model.specs.Causes.{Cause, when, first_cause}
use Rattle.record.specs.Answered.{Check}
use Rattle.position.specs.declared.Conversion.{Conversion}
use Rattle.position.specs.Float.{is_count, count_in, is_held, float_of}

-- the number of its first four bytes, in the log's byte order
abbrev pub position_in : List ℕ → ℕ
position_in v = number_of (take 4 v)

-- the value with another position
abbrev pub with_position : ℕ → List ℕ → List ℕ
with_position n v = bytes_of 4 n ++ drop 4 v

-- the causes of a conversion in 02's order: the length, then what the position's test turns away
abbrev pub conversion_causes : (ℕ → Bool) → Refusal → List ℕ → List Cause
conversion_causes good cause v = when (not (eqb (length v) 8)) ValueLength ∷ when (not (good (position_in v))) cause ∷ []

-- the eight bytes beside a refusal
abbrev pub no_bytes : List ℕ
no_bytes = 0 ∷ 0 ∷ 0 ∷ 0 ∷ 0 ∷ 0 ∷ 0 ∷ 0 ∷ []

unfoldable pub outcome : Option Refusal → List ℕ → Conversion
outcome none v = record { answer = Ok tt; value = v }
outcome (some r) v = record { answer = Err r; value = no_bytes }

unfoldable pub conversion : (ℕ → Bool) → Refusal → (ℕ → ℕ) → List ℕ → Conversion
unfolding outcome first_cause
conversion good cause other v = outcome (first_cause (conversion_causes good cause v)) (with_position (other (position_in v)) v)

abbrev pub from_float : List ℕ → Conversion
from_float = conversion is_count NotWhole count_in

abbrev pub to_float : List ℕ → Conversion
to_float = conversion is_held CountLost float_of

-- what an answer says in 01's numbers: 0 for an accepted conversion
unfoldable pub answer_said : Check → ℕ
answer_said (Ok u) = 0
answer_said (Err r) = number_of_refusal r

-- What an exported call answers and leaves in the eight bytes that it is lent.
pub record ConversionCrossed (made : Conversion) (after : List ℕ) (r : ℕ) : Type 0 where
  pub says : r ≡ answer_said made.answer
  pub bytes : after ≡ made.value
