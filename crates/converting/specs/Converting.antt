-- What 29 and 30 decide, once the image is known to be sound.
use Rattle.std.specs.Prelude.{ℕ, ◌≡◌, Bool, List}
use Rattle.segment.specs.Layout.{Layout, other_layout}
use Rattle.record.specs.Answered.{ConvertAnswer}
use Rattle.model.specs.Log.{View}
use Rattle.model.specs.Causes.{first_cause}
use Rattle.model.specs.Conversion.{fit_causes, converted_slots, convert_answer}
use Rattle.model.specs.Promises.{area_unless}

-- The log of the layout L that p picks is in the target, in the other layout, or the first of 29 and 30 refuses it.
pub record LogConverted (L : Layout) (v : ℕ → View) (p : ℕ → Bool) (S n : ℕ) (target target' : List ℕ) (a : ConvertAnswer) : Type 0 where
  pub answers : a ≡ convert_answer (first_cause (fit_causes (other_layout L) v p S n))
  pub leaves : target' ≡ area_unless (first_cause (fit_causes (other_layout L) v p S n)) (converted_slots (other_layout L) v p S n) target
