-- The step's promise, from what its code does.
use Prim.Native.Nat.{ℕ, zero, suc, ◌-◌, ◌≤◌, ◌<◌}
use Rattle.std.proofs.Math.Path.{◌≡◌, refl, ap, subst}
use Rattle.std.proofs.Common.{sym, ◌∙◌, inl, inr}
use Rattle.std.specs.Prelude.{Bool, not, List, [], ◌∷◌, ltb, get_or, take}
use Rattle.std.proofs.Math.Bool.{true, false}
use Rattle.std.proofs.Math.Option.{Option, none, some}
use native.Mathlib.Omega.{arith}
use Rattle.std.proofs.Math.ListN.{length, set}
use borrow.Author.Tests.{lt-ltb, le-ltb, ltb-false, not-false}
use Rattle.record.specs.Answers.{step_said}
use Rattle.record.specs.declared.Refusal.{Refusal}
use Rattle.record.specs.Answered.{Stepped}
use Rattle.record.specs.declared.Record.{Record}
use Rattle.model.specs.Promises.{StepRefused}
use Rattle.stepping.specs.Finish.{refused_step}

pub refused-same : (r : Record) (area cells : List ℕ) (c : Refusal) {x : Stepped} → x ≡ refused_step r c → StepRefused r area area cells cells x c
refused-same r area cells c e =
    record { answers = e; says = ap (λ (y : Stepped). step_said y.answer) e; area_same = refl; index_same = refl }
