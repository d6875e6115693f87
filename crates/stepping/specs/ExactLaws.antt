-- The last step of an operation that was started on a recovered store gives 01's own record, version, and an index that keeps its
-- rule.
use Prim.Native.Nat.{ℕ, ◌+◌, ◌*◌, ◌-◌, ◌^◌, ◌<◌}
use Rattle.std.specs.Prelude.{◌≡◌, set, Ok}
use Rattle.std.proofs.Math.Path.{refl, ap, subst}
use Rattle.std.proofs.Common.{sym, ◌∙◌, arith, leb-true}
use Rattle.std.proofs.Math.Bool.{Bool, true, false}
use mathlib.Core.List.{List, ◌∷◌, ◌++◌}
use Rattle.std.proofs.Math.Option.{some}
use Rattle.std.proofs.Math.Nat.{sub-zero}
use Rattle.std.proofs.Math.ListN.{length}
use Rattle.record.specs.Answered.{StepAnswer}
use Rattle.record.specs.declared.Progress.{Progress}
use Rattle.record.specs.declared.Record.{Record}
use Rattle.model.specs.Index.{IndexRule}
use Rattle.model.specs.Operations.{log_now}
use Rattle.stepping.specs.Finish.{After}

-- What the last step is to give: this version, this record, and cells that keep the rule.
pub record Ends (area : List ℕ) (fin : Record) (version : ℕ) (a : After) : Type 0 where
  pub answers : a.stepped ≡ record { answer = Ok (Progress.Done (record { 0 = version })); rec = fin }
  pub rule : IndexRule fin.size (log_now area fin) a.cells
