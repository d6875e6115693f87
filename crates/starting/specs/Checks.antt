-- 01, "Refused calls": tests that every start makes.
use Rattle.std.specs.Prelude.{ℕ, List, [], ◌∷◌, ltb, Ok, Err}
use Rattle.std.proofs.Math.Option.{Option, none, some}
use Rattle.record.specs.declared.Refusal.{Refusal}
use Rattle.record.specs.declared.Refusal.TheVariants.{WorkShort, Busy}
use Rattle.record.specs.declared.Record.{Record}
use Rattle.model.specs.Causes.{Cause, when}
use Rattle.model.specs.Refused.{is_pending}
use Rattle.record.specs.Answered.{Check}

-- the answer of a check: the first cause, if any
unfoldable pub checked : Option Refusal → Check
checked none = (Ok tt)
checked (some c) = Err c

-- 3 and 5, for a work buffer of n bytes
unfoldable pub idle_causes : Record → ℕ → List Cause
idle_causes r n = when (ltb n r.size) WorkShort ∷ when (is_pending r.pending) Busy ∷ []
