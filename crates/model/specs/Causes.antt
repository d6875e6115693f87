-- How a call picks the refusal: its causes stand in 01's order, and the first that holds is the answer.
use Rattle.std.specs.Prelude.{Bool, List, [], ◌∷◌}
use Rattle.std.proofs.Math.Option.{Option, none, some}
use Rattle.segment.specs.Choice.{pick}
use Rattle.record.specs.declared.Refusal.{Refusal}

-- A test, and the refusal where it holds.
pub record Cause : Type 0 where
  pub holds : Bool
  pub refusal : Refusal

abbrev pub when : Bool → Refusal → Cause
when t r = record { holds = t; refusal = r }

unfoldable pub first_cause : List Cause → Option Refusal
first_cause [] = none
first_cause (c ∷ cs) = pick c.holds (some c.refusal) (first_cause cs)
