-- 02, R-7: what the call that names two slots to join answers, in 02's terms: the number of the refusal, or 0 with the two slots.
use Rattle.std.specs.Prelude.{ℕ, Ok, Err}
use Rattle.std.proofs.Math.Option.{Option, none, some}
use Rattle.record.specs.Refusals.{number_of_refusal}
use Rattle.record.specs.declared.Refusal.{Refusal}
use Rattle.record.specs.Answered.{JoinAnswer}

pub record PairSaid : Type 0 where
  pub refused : ℕ
  pub first : ℕ
  pub second : ℕ

-- where it is refused it names no slots, and both are 0
abbrev pub none_said : ℕ → PairSaid
none_said n = record { refused = n; first = 0; second = 0 }

abbrev pub join_said : JoinAnswer → PairSaid
join_said (Ok s) = record { refused = 0; first = s.first; second = s.second }
join_said (Err r) = none_said (number_of_refusal r)
