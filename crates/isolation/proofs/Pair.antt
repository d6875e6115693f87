-- Two worlds that differ in hidden values alone: alike areas, one record, and where an operation is pending, operations that differ in
-- hidden values alone, started on alike areas, with as many stores done.
use Prim.Native.Nat.{ℕ, suc, ◌-◌, ◌≤◌, ◌<◌}
use native.Mathlib.Nat.{sub-zero}
use native.Mathlib.Omega.{arith}
use mathlib.Core.Path.{◌≡◌, refl, sym, ap}
use mathlib.Core.Bool.{Bool}
use mathlib.Core.List.{List}
use mathlib.Core.Option.{Option, none, some}
use lib.ListN.{length, take}
use lib.Seq.{sets}
use Rattle.word.specs.Laws.{taken-sets}
use Rattle.segment.specs.Layout.{Layout}
use Rattle.record.specs.Answers.{with_pending}
use Rattle.record.specs.declared.Pending.TheVariants.{Idle}
use Rattle.record.specs.declared.Record.{Record}
use Rattle.model.specs.Recovery.{record_from}
use Rattle.model.specs.Operations.{Operation, log_now, laid, plan_for, stores_for, started_record, stored}
use Rattle.model.specs.Promises.{Started}
use Rattle.laws.specs.Operated.{Accepted, OperationLaws}
use Rattle.history.specs.Runs.{Held, World}
use Rattle.isolation.proofs.Alike.{Alike}
use Rattle.isolation.proofs.Operations.{hidden_operation}

-- ---- one world with an operation pending

-- An operation that was started on this area and record, so many stores of which are done.
pub record Half (L : Layout) (area : List ℕ) (r : Record) (work : List ℕ) (idle : Record) (since : ℕ) (before : List ℕ) (o : Operation) : Type 0 where
  pub begun : Accepted L before idle o
  pub some_left : since < stores_for L idle (log_now before idle) o
  pub record-now : r ≡ with_pending idle ((laid L idle (log_now before idle) o).pending (stores_for L idle (log_now before idle) o - since))
  pub area-now : area ≡ stored before (take since (plan_for L idle (log_now before idle) o))
  pub work-now : take (length (laid L idle (log_now before idle) o).bytes) work ≡ (laid L idle (log_now before idle) o).bytes

abbrev pub half-started :
    {L : Layout} {area : List ℕ} {r : Record} {work : List ℕ} {idle : Record} {since : ℕ} {before : List ℕ} {o : Operation} →
    Half L area r work idle since before o → Started L area r work
half-started {L} {area} {r} {work} {idle} {since} {before} {o} h =
    record {
      operation = o;
      before = before;
      idle = idle;
      since = since;
      lengths = h.begun.lengths;
      typed = h.begun.typed;
      area-bytes = h.begun.area-bytes;
      recovers = h.begun.recovers;
      accepted = h.begun.no-cause;
      some_left = h.some_left;
      record-now = h.record-now;
      area-now = h.area-now;
      work-now = h.work-now;
    }

module _ (L : Layout) (laws : OperationLaws L) where
  -- once it is started
  pub half-first :
      (area : List ℕ) (r : Record) (work : List ℕ) (o : Operation) → Accepted L area r o → r.size ≤ length work →
      Half L area (started_record L r (log_now area r) o) (sets work 0 (laid L r (log_now area r) o).bytes) r 0 area o
  unfolding stored
  half-first area r work o acc long =
      record {
        begun = acc;
        some_left = laws.some-stores area r o acc;
        record-now = rw sub-zero refl;
        area-now = refl;
        work-now =
            taken-sets work 0 (laid L r (log_now area r) o).bytes (length (laid L r (log_now area r) o).bytes) refl
            (omega (arith, laws.bytes_fit area r o acc));
      }

-- one store on
pub half-next :
    {L : Layout} {area : List ℕ} {r : Record} {work : List ℕ} {idle : Record} {since : ℕ} {before : List ℕ} {o : Operation} →
    Half L area r work idle since before o → (left : ℕ) → stores_for L idle (log_now before idle) o - suc since ≡ suc left →
    Half L (stored before (take (suc since) (plan_for L idle (log_now before idle) o)))
    (with_pending idle ((laid L idle (log_now before idle) o).pending (suc left))) work idle (suc since) before o
half-next {L} {area} {r} {work} {idle} {since} {before} {o} h left e =
    record {
      begun = h.begun;
      some_left = omega (arith, e);
      record-now = ap (λ (k : ℕ). with_pending idle ((laid L idle (log_now before idle) o).pending k)) (sym e);
      area-now = refl;
      work-now = h.work-now;
    }

-- ---- two worlds

-- both with an operation pending
pub record Running (of : ℕ → Bool) (L : Layout) (area area' : List ℕ) (r : Record) (work work' : List ℕ) : Type 0 where
  pub idle : Record
  pub since : ℕ
  pub before : List ℕ
  pub before' : List ℕ
  pub operation : Operation
  pub operation' : Operation
  pub one : Half L area r work idle since before operation
  pub other : Half L area' r work' idle since before' operation'
  pub alike : Alike of idle.slots idle.size idle.map before before'
  pub same : hidden_operation of operation ≡ hidden_operation of operation'

pub data Together (of : ℕ → Bool) (L : Layout) (area area' : List ℕ) (r : Record) (work work' : List ℕ) : Type 0 where
  resting : r.pending ≡ Idle → Together of L area area' r work work'
  running : Running of L area area' r work work' → Together of L area area' r work work'

-- what the two hold
pub record HeldPair (of : ℕ → Bool) (L : Layout) (area area' : List ℕ) (h h' : Held) : Type 0 where
  pub rec-same : h.rec ≡ h'.rec
  pub index-long : length h.cells ≡ length h'.cells
  pub phase : Together of L area area' h.rec h.work h'.work

unfoldable pub HeldBoth : (ℕ → Bool) → Layout → List ℕ → List ℕ → Option Held → Option Held → Type 0
HeldBoth of L area area' none none = Unit
HeldBoth of L area area' none (some h) = ⊥
HeldBoth of L area area' (some h) none = ⊥
HeldBoth of L area area' (some h) (some h') = HeldPair of L area area' h h'

pub record Pair (of : ℕ → Bool) (L : Layout) (n s : ℕ) (w w' : World) : Type 0 where
  pub alike : Alike of n s (record_from L n s 16 w.area).map w.area w'.area
  pub held : HeldBoth of L w.area w'.area w.held w'.held
