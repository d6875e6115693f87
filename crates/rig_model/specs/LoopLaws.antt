-- What the two loops of a run keep: the one over a letter's stores, and the one over a history's letters.
use Rattle.std.specs.Prelude.{ℕ, ◌+◌, ◌-◌, ◌≡◌, Bool, List, length}
use Rattle.std.proofs.Math.Option.{none}
use Rattle.record.specs.declared.Record.{Record}
use Rattle.model.specs.Operations.{Operation}
use Rattle.laws.specs.Operated.{plan_at}
use Rattle.histories.specs.declared.Letter.{Letter}
use Rattle.histories.specs.declared.book.Book.{Book}
use Rattle.histories.specs.Letters.{Word}
use Rattle.rig_model.specs.Verdict.{operation_at, cause_at, cuts_wrong, record_at, word_wrong}
use Rattle.rig_model.specs.RunLaws.{Ready, Under}

-- ---- the stores of a letter

abbrev pub operation_on : Letter → ℕ → List ℕ → Operation
operation_on l place area = operation_at l place (record_at area)

abbrev pub stores_on : Letter → ℕ → List ℕ → ℕ
stores_on l place area = length (plan_at (record_at area).edition area (record_at area) (operation_on l place area))

pub record Playing (from_log : Bool) (l : Letter) (place : ℕ) (b : Book) (before cells₀ work : List ℕ) (area cells : List ℕ) (r : Record) (left : ℕ) : Type 0 where
  pub ready : Ready before (record_at before) cells₀
  pub accepted : cause_at before (record_at before) (operation_on l place before) ≡ none
  pub under : Under before (record_at before) (operation_on l place before) left area r cells work
  pub cuts :
      cuts_wrong from_log before (record_at before) (operation_on l place before) b 0 (stores_on l place before)
      ≡ cuts_wrong from_log before (record_at before) (operation_on l place before) b (stores_on l place before - left) left
  pub area_same : length area ≡ length before
  pub cells_same : length cells ≡ length cells₀

-- ---- the letters of a history

pub record Running (from_log whole : Bool) (left : Word) (place : ℕ) (area cells work : List ℕ) (r : Record) (b : Book) : Type 0 where
  pub ready : Ready area r cells
  pub work-long : length work ≡ 256
  pub decides : whole ≡ word_wrong from_log left (place + 1) area b
