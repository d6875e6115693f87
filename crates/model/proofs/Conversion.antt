-- Laws of: 02, R-12: an image of one edition put into the other. The call takes N, S, an area to read and a second buffer of the same length; the
use Rattle.std.specs.Prelude.{ℕ, zero, suc, ◌-◌, ◌≡◌, refl, Bool, false, not, List, [], ◌∷◌, ◌++◌, map, ltb, length, replicate}
use Rattle.std.proofs.Math.Option.{Option, none, some}
use Rattle.record.specs.Refusals.{number_of_refusal}
use Rattle.model.specs.Conversion.{convert_causes}

-- These are its numbers in order, whatever the areas hold.
convert-order :
    (n s : ℕ) (source : List ℕ) (target_length : ℕ) →
    map (λ c. number_of_refusal c.refusal) (convert_causes n s source target_length) ≡ 1 ∷ 16 ∷ 17 ∷ 24 ∷ 25 ∷ 28 ∷ 18 ∷ 19 ∷ 29 ∷ 30 ∷ []
convert-order n s source target_length = refl
