-- For a started operation the next store is the one of its plan whose turn it is.
use Prim.Native.Nat.{ℕ, zero, suc, ◌+◌, ◌*◌, ◌-◌, ◌≤◌, ◌<◌}
use Rattle.std.specs.Prelude.{◌≡◌, Bool, List, ◌∷◌, ◌++◌, ltb, get_or, take, Some}
use Rattle.std.proofs.Math.Path.{refl, ap}
use Rattle.std.proofs.Common.{sym, ◌∙◌, subst, length-append, get_or-take}
use Rattle.std.proofs.Math.Bool.{true, false}
use Rattle.std.proofs.Math.Decide.{ℕ_discrete}
use native.Mathlib.Omega.{arith}
use Rattle.std.proofs.Math.ListN.{length}
use borrow.Author.Tests.{ltb-true, ltb-false, leb-true, lt-ltb, le-ltb}
use Rattle.record.specs.Answers.{with_pending}
use Rattle.record.specs.declared.Record.{Record}
use Rattle.model.specs.Operations.{Laid, plan_of}
use Rattle.telling.specs.Next.{next_store, NextStore}

-- a store of a plan as the next one
abbrev pub at_of : ℕ × ℕ → NextStore
at_of p = Some (record { place = p.0; byte = p.1 })

-- ---- the operations

-- What is laid down leads to its plan: with so many stores done the next one is that of the plan.
abbrev pub NextOf : ℕ → List ℕ → Record → Laid → ℕ → Type 0
NextOf a work r l since =
    next_store a work (with_pending r (l.pending (length (plan_of r (l.pending 0) l.bytes) - since))) ≡
    at_of (get_or (plan_of r (l.pending 0) l.bytes) since (0, 0))
