-- Laws of a run: what the promises of start and step give on a store that is idle and recovered, and on one whose operation is under way.
use Prim.Native.Nat.{ℕ, suc, ◌+◌, ◌-◌, ◌≤◌, ◌<◌}
use Rattle.std.specs.Prelude.{◌≡◌, Bool, true, false, not, length}
use Rattle.std.proofs.Math.Path.{refl, ap, subst, subst⁻¹}
use Rattle.std.proofs.Common.{sym, ◌∙◌, arith, take_all, le-ltb, le-leb}
use mathlib.Core.List.{List, [], ◌∷◌}
use Rattle.std.proofs.Math.Option.{none, some}
use Rattle.std.proofs.Math.ListN.{take}
use Rattle.word.specs.Number.{Bytes}
use Rattle.segment.specs.Layout.{Layout}
use Rattle.record.specs.Answers.{with_pending}
use Rattle.record.specs.Range.{between, left_good}
use Rattle.record.specs.declared.Record.{Record}
use Rattle.record.specs.Answered.{Stepped}
use Rattle.model.specs.Recovery.{recovered}
use Rattle.model.specs.Index.{IndexRule}
use Rattle.model.specs.Operations.{Operation, log_now, Laid, laid, stored}
use Rattle.model.specs.Refused.{is_pending}
use Rattle.model.specs.Promises.{StepPromise}
use Rattle.laws.specs.Operated.{Accepted, plan_at}

-- ---- an idle store

-- Nothing is pending, the record is recovery's, and the index keeps its rule.
pub record Ready (area : List ℕ) (r : Record) (cells : List ℕ) : Type 0 where
  pub bytes : Bytes area
  pub long : length cells ≡ 16
  pub recovers : recovered r.edition 4 256 16 area ≡ some r
  pub rule : IndexRule r.size (log_now area r) cells

-- ---- an operation under way: k of its stores are done, and some are left

pub record Going (before : List ℕ) (idle : Record) (o : Operation) (k : ℕ) (area : List ℕ) (r : Record) (cells work : List ℕ) : Type 0 where
  pub ready : Ready before idle cells
  pub area-long : length before ≡ 1024
  pub work-long : length work ≡ 256
  pub accepted : Accepted idle.edition before idle o
  pub some_left : k < length (plan_at idle.edition before idle o)
  pub record-now : r ≡ with_pending idle ((laid idle.edition idle (log_now before idle) o).pending (length (plan_at idle.edition before idle o) - k))
  pub area-now : area ≡ stored before (take k (plan_at idle.edition before idle o))
  pub work-now : take (length (laid idle.edition idle (log_now before idle) o).bytes) work ≡ (laid idle.edition idle (log_now before idle) o).bytes

-- a pending operation has so many stores left
abbrev pub Left : ℕ → ℕ → Laid → Type 0
Left s k l = (left_good s (l.pending k) ≡ between 1 (s + 1) k) × (is_pending (l.pending k) ≡ true)

-- all stores are made, and the store is idle again
pub record Ended (before : List ℕ) (idle : Record) (o : Operation) (area : List ℕ) (r : Record) (cells : List ℕ) : Type 0 where
  pub stored-all : area ≡ stored before (plan_at idle.edition before idle o)
  pub ready : Ready area r cells

-- ---- the loop over the stores

pub record Under (before : List ℕ) (idle : Record) (o : Operation) (left : ℕ) (area : List ℕ) (r : Record) (cells work : List ℕ) : Type 0 where
  pub most : left ≤ length (plan_at idle.edition before idle o)
  pub going : 0 < left → Going before idle o (length (plan_at idle.edition before idle o) - left) area r cells work
  pub ended : left ≡ 0 → Ended before idle o area r cells
