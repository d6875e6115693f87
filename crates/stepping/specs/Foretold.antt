-- What is told of the next store and what the step that follows does, for every input: one theorem about the two calls.
use Rattle.std.specs.Prelude.{ℕ, ◌≡◌, List, ◌⊎◌, length, set, Ok, Err}
use Rattle.std.proofs.Math.Path.{refl}
use Rattle.std.proofs.Common.{sym, ◌∙◌, ap, subst, ne_eqb}
use Rattle.std.proofs.Math.Bool.{not}
use Rattle.std.proofs.Math.Logic.{inl, inr}
use Rattle.std.proofs.Math.Option.{Option, none, some}
use Rattle.std.proofs.Math.Decide.{ℕ_discrete}
use Rattle.record.specs.declared.Refusal.TheVariants.{BadRecord}
use Rattle.record.specs.declared.Record.{Record}
use Rattle.record.specs.Answered.{Stepped, TellAnswer}
use Rattle.model.specs.Promises.{StepRefused}

-- An index of another length than the record's was lent, which only the step looks at: it is refused with 4 and changes nothing.
pub record OtherIndex (r : Record) (area area' cells cells' : List ℕ) (a : Stepped) : Type 0 where
  pub other : length cells ≡ r.cells → ⊥
  pub refused : StepRefused r area area' cells cells' a BadRecord

-- What the step does that gets the same record, area and work buffer, and any index. The store that was told is the one that it makes;
-- where a refusal was told it is refused so too, and changes nothing.
unfoldable pub Follows : Record → List ℕ → List ℕ → List ℕ → List ℕ → Stepped → TellAnswer → Type 0
Follows r area area' cells cells' a (Ok s) = (area' ≡ set area s.place s.byte) ⊎ OtherIndex r area area' cells cells' a
Follows r area area' cells cells' a (Err c) = StepRefused r area area' cells cells' a c ⊎ OtherIndex r area area' cells cells' a
