-- Laws of the loops that play a letter, a history and all histories.
use Prim.Native.Nat.{ℕ, zero, suc, ◌+◌, ◌-◌, ◌%◌, ◌^◌, ◌≤◌, ◌<◌}
use Rattle.std.proofs.Math.Path.{◌≡◌, refl, ap}
use Rattle.std.proofs.Common.{sym, ◌∙◌, subst, lit<}
use Rattle.std.specs.Prelude.{Bool}
use Rattle.std.proofs.Math.Bool.{true, false}
use mathlib.Core.List.{List, [], ◌∷◌, ◌++◌}
use Rattle.std.proofs.Math.Option.{Option, none, some}
use native.Mathlib.Omega.{arith}
use lib.ListN.{length, take, replicate}
use Rattle.segment.specs.Choice.{either}
use Rattle.segment.specs.Layout.{edition1}
use Rattle.record.specs.declared.Record.{Record}
use Rattle.model.specs.Operations.{formatted}
use Rattle.histories.specs.declared.Letter.{Letter}
use Rattle.histories.specs.declared.book.Book.{Book}
use Rattle.histories.specs.Letters.{Word}
use Rattle.rig_model.specs.Verdict.{word_wrong}
use Rattle.rig_model.specs.RunLaws.{Ready}

-- ---- a letter

-- What playing a letter shows: it is wrong, and then so is the history, or the rest decides on the store that it leaves.
pub record Plays (from_log : Bool) (l : Letter) (place : ℕ) (area : List ℕ) (b : Book) (area' : List ℕ) (r' : Record) (cells' : List ℕ) (b' : Book) (wrong : Bool) : Type 0 where
  pub decides : (w : Word) → word_wrong from_log (l ∷ w) place area b ≡ either wrong (word_wrong from_log w (place + 1) area' b')
  pub ready : wrong ≡ false → Ready area' r' cells'

-- ---- a fresh store

abbrev pub fresh_area : List ℕ
fresh_area = formatted edition1 4 256 (replicate 1024 0)
