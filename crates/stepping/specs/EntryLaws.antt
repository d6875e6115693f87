-- An entry that has come to stand goes into the index: the rule holds for the new log, and the number of keys is the new record's.
use Prim.Native.Nat.{ℕ, ◌+◌, ◌*◌, ◌-◌, ◌≤◌, ◌<◌}
use Rattle.std.specs.Prelude.{◌≡◌, Bool, length, drop, Ok}
use Rattle.std.proofs.Math.Path.{refl, ap, subst}
use Rattle.std.proofs.Common.{sym, ◌∙◌, length-take, lt-ltb, ltb-true, ltb-false}
use Rattle.std.proofs.Math.Bool.{true, false}
use mathlib.Core.List.Memᴰ
use mathlib.Core.List.{List, ◌∷◌}
use Rattle.std.proofs.Math.Option.{Option, none, some}
use native.Mathlib.Omega.{arith}
use Rattle.std.proofs.Math.Dec.{ltb}
use Rattle.segment.specs.Entry.{entry, entry_at}
use Rattle.record.specs.Committed.{committed}
use Rattle.record.specs.declared.Commit.{Commit}
use Rattle.record.specs.Answered.{StepAnswer}
use Rattle.record.specs.declared.Progress.{Progress}
use Rattle.record.specs.declared.Record.{Record}
use Rattle.model.specs.Log.{Placed, segment_of}
use Rattle.model.specs.Index.{IndexRule}
use Rattle.laws.specs.Members.{In}
use Rattle.stepping.specs.Finish.{After}

-- ---- an entry more in a recovered log

-- The reader finds every entry of a log at its place, by the edition of its slot.
abbrev pub AllFound : List ℕ → ℕ → List Placed → Type 0
AllFound area S log = (x : Placed) → In x log → entry_at x.layout (segment_of area S x.slot) x.offset ≡ entry x.entry

-- What the last step gives where the entry goes in: the version, the record with k keys and these present bytes, and cells that keep
-- the rule.
pub record Finished (S : ℕ) (log : List Placed) (r : Record) (done : Commit) (version k : ℕ) (counts : List ℕ) (a : After) : Type 0 where
  pub answers : a.stepped ≡ record { answer = Ok (Progress.Done (record { 0 = version })); rec = committed r done k counts }
  pub rule : IndexRule S log a.cells
