-- A step in two worlds that differ in hidden values alone: it answers the same, and they differ so again.
use Rattle.std.specs.Prelude.{Ok, Err}
use Prim.Native.Nat.{ℕ, zero, suc, ◌-◌}
use native.Mathlib.Omega.{arith}
use mathlib.Core.Path.{◌≡◌, refl, sym, ap, ◌∙◌, subst, subst⁻¹}
use mathlib.Core.Bool.{Bool, true}
use mathlib.Core.List.{List}
use mathlib.Core.Option.{Option, none, some}
use lib.ListN.{length, take}
use lib.Seq.{take_all}
use borrow.Author.Tests.{not-false}
use Rattle.segment.specs.Layout.{Layout}
use Rattle.record.specs.Answers.{step_said, with_pending}
use Rattle.record.specs.Switch.{unswitched, as_recovered}
use Rattle.record.specs.declared.Refusal.{Refusal}
use Rattle.record.specs.Answered.{Stepped, StepAnswer}
use Rattle.record.specs.declared.Progress.{Progress}
use Rattle.record.specs.declared.Record.{Record}
use Rattle.model.specs.Log.{Placed}
use Rattle.model.specs.Causes.{first_cause}
use Rattle.model.specs.Recovery.{image_layout, recovered, record_from}
use Rattle.model.specs.Operations.{Operation, write, delete, clean, log_now, laid, plan_for, stored, finished_record, told_version}
use Rattle.model.specs.Refused.{Lengths, is_pending, step_causes}
use Rattle.model.specs.Promises.{Genuine, StepPromise, StepExact, stepped, lent_lengths}
use Rattle.laws.specs.Members.{clash}
use Rattle.laws.specs.Passed.{step-passed}
use Rattle.laws.specs.Operated.{OperationLaws}
use Rattle.laws.specs.OperationsKept.{edition-laws}
use Rattle.laws.specs.RecoverLaws.{recovered-image}
use Rattle.history.specs.Runs.{Held}
use Rattle.history.proofs.Invariant.{recovered-is, idle-of, with-geometry}
use Rattle.isolation.proofs.HiddenBytes.{hidden_log}
use Rattle.isolation.proofs.Alike.{Alike, logs-same}
use Rattle.isolation.proofs.Operations.{hidden_operation, pending-same, stores_same, cut-alike, done-alike, finished-same}
use Rattle.isolation.proofs.Pair.{Half, half-started, half-next, Running, Together, resting, running, HeldPair}

told-hidden : (of : ℕ → Bool) (r : Record) (o : Operation) → told_version r (hidden_operation of o) ≡ told_version r o
unfolding told_version hidden_operation
told-hidden of r (write k v) = refl
told-hidden of r (delete k) = refl
told-hidden of r (clean victims) = refl

-- alike under a record that recovery gives is alike under the map of the area
as-found :
    (of : ℕ → Bool) (L : Layout) (n n' s s' m : ℕ) (area area' : List ℕ) (r : Record) → n ≡ n' → s ≡ s' → recovered L n s m area ≡ some r →
    Alike of n s r.map area area' → Alike of n' s' (record_from L n' s' 16 area).map area area'
as-found of L n n' s s' m area area' r p q e a =
    subst (λ (k : ℕ). Alike of k s' (record_from L k s' 16 area).map area area') p
    (subst (λ (k : ℕ). Alike of n k (record_from L n k 16 area).map area area') q
    (subst (λ (k : ℕ). Alike of n s k area area') (ap (λ (x : Record). x.map) (recovered-is L n s m area r e)) a))

-- and the head's slot is of the edition in which recovery is accepted
own-image :
    (L : Layout) (n n' s s' m : ℕ) (area : List ℕ) (r : Record) → n ≡ n' → s ≡ s' → recovered L n s m area ≡ some r → image_layout n' s' area ≡ L
own-image L n n' s s' m area r p q e = recovered-image L n' s' m area r (with-geometry L n n' s s' m area (some r) p q e)

module _ (of : ℕ → Bool) (L : Layout) (n s : ℕ) (h h' : Held) where
  -- What is to be shown of a step that leaves these areas and cells and answers so. A last step may leave a head of another edition
  -- (02, R-13).
  abbrev pub StepBoth : List ℕ → List ℕ → Stepped → List ℕ → List ℕ → Stepped → Type 0
  StepBoth area cells a area' cells' a' =
      Alike of n s (record_from L n s 16 area).map area area'
      × ((K : Layout) → image_layout n s area ≡ K →
      HeldPair of K area area' (record { rec = a.rec; cells = cells; work = h.work }) (record { rec = a'.rec; cells = cells'; work = h'.work }))
      × (step_said a.answer ≡ step_said a'.answer)

  -- ---- one store of a pending operation

  module _ (area area' : List ℕ) (x : Running of L area area' h.rec h.work h'.work) (slots : h.rec.slots ≡ n) (size : h.rec.size ≡ s)
      (cells cells' : List ℕ) (long : length cells ≡ length cells')
    where
      laws : OperationLaws L
      laws = edition-laws L

      abbrev log : List Placed
      log = log_now x.before x.idle

      abbrev log' : List Placed
      log' = log_now x.before' x.idle

      abbrev plan : List (ℕ × ℕ)
      plan = plan_for L x.idle log x.operation

      abbrev plan' : List (ℕ × ℕ)
      plan' = plan_for L x.idle log' x.operation'

      logs : hidden_log of log ≡ hidden_log of log'
      logs = logs-same of x.idle x.before x.before' x.alike

      stores : length plan ≡ length plan'
      stores = stores_same of of L x.idle log log' x.operation x.operation' logs x.same

      -- the areas after one more store
      abbrev after : List ℕ
      after = stored x.before (take (suc x.since) plan)

      abbrev after' : List ℕ
      after' = stored x.before' (take (suc x.since) plan')

      idle-slots : x.idle.slots ≡ n
      idle-slots = ap (λ (y : Record). y.slots) (sym x.one.record-now) ∙ slots

      idle-size : x.idle.size ≡ s
      idle-size = ap (λ (y : Record). y.size) (sym x.one.record-now) ∙ size

      abbrev Goal : Stepped → Stepped → Type 0
      Goal a a' = StepBoth after cells a after' cells' a'

      -- not the last
      goes_on :
          (k : ℕ) → length plan - suc x.since ≡ suc k →
          Goal (stepped L x.before x.idle x.operation (suc k)) (stepped L x.before' x.idle x.operation' (suc k))
      unfolding stepped
      goes_on k e = (
        as-found of L x.idle.slots n x.idle.size s x.idle.cells after after' (unswitched x.idle) idle-slots idle-size recovers
            (cut-alike of L x.before x.before' x.idle x.operation x.operation' x.one.begun x.other.begun x.alike x.same
            (suc x.since) (omega (arith, e)) (omega (arith, e, stores))),
        λ K own.
            subst (λ (M : Layout). HeldPair of M after after' (now log x.operation cells h.work) (now log' x.operation' cells' h'.work))
            (sym (own-image L x.idle.slots n x.idle.size s x.idle.cells after (unswitched x.idle) idle-slots idle-size recovers) ∙ own)
            (record {
              rec-same = records;
              index-long = long;
              phase =
                  running
                  (record {
                    idle = x.idle;
                    since = suc x.since;
                    before = x.before;
                    before' = x.before';
                    operation = x.operation;
                    operation' = x.operation';
                    one = half-next x.one k e;
                    other =
                        subst⁻¹ (λ (r : Record). Half L after' r h'.work x.idle (suc x.since) x.before' x.operation') records
                        (half-next x.other k (ap (λ (j : ℕ). j - suc x.since) (sym stores) ∙ e));
                    alike = x.alike;
                    same = x.same;
                  });
            }),
        refl,
      )
        where
          now : List Placed → Operation → List ℕ → List ℕ → Held
          now l o c w = record { rec = with_pending x.idle ((laid L x.idle l o).pending (suc k)); cells = c; work = w }

          recovers : recovered L x.idle.slots x.idle.size x.idle.cells after ≡ some (unswitched x.idle)
          recovers = laws.prefix-recovers x.before x.idle x.operation x.one.begun (suc x.since) (omega (arith, e))

          records :
              with_pending x.idle ((laid L x.idle log x.operation).pending (suc k)) ≡
              with_pending x.idle ((laid L x.idle log' x.operation').pending (suc k))
          records =
              ap (with_pending x.idle) (pending-same of of L x.idle log log' x.operation x.operation' logs x.same (suc k))

      -- the last
      ends :
          length plan - suc x.since ≡ 0 →
          Goal (stepped L x.before x.idle x.operation 0) (stepped L x.before' x.idle x.operation' 0)
      unfolding stepped
      ends e = (
        as-found of fin.edition x.idle.slots n x.idle.size s x.idle.cells after after' (unswitched fin) idle-slots idle-size recovers
            (subst⁻¹ (λ (l : List ℕ). Alike of x.idle.slots x.idle.size fin.map l after') whole
            (subst⁻¹ (λ (l : List ℕ). Alike of x.idle.slots x.idle.size fin.map (stored x.before plan) l) whole'
            (done-alike of L x.before x.before' x.idle x.operation x.operation' x.one.begun x.other.begun x.alike x.same))),
        λ K own.
            record {
              rec-same = finished-same of L x.before x.before' x.idle x.operation x.operation' x.one.begun x.other.begun x.alike x.same;
              index-long = long;
              phase = resting (idle-of fin.edition x.idle.slots x.idle.size x.idle.cells after (unswitched fin) recovers);
            },
        ap (λ (v : ℕ). step_said (Ok (Progress.Done (record { 0 = v }))))
            (sym (told-hidden of x.idle x.operation) ∙ ap (told_version x.idle) x.same ∙ told-hidden of x.idle x.operation'),
      )
        where
          fin : Record
          fin = finished_record L x.before x.idle x.operation

          whole : after ≡ stored x.before plan
          whole = ap (stored x.before) (take_all (suc x.since) plan (omega (arith, e)))

          whole' : after' ≡ stored x.before' plan'
          whole' = ap (stored x.before') (take_all (suc x.since) plan' (omega (arith, e, stores)))

          recovers : recovered fin.edition x.idle.slots x.idle.size x.idle.cells after ≡ some (unswitched fin)
          recovers =
              ap (recovered fin.edition x.idle.slots x.idle.size x.idle.cells) whole ∙
              laws.finish-recovers x.before x.idle x.operation x.one.begun

      whichever :
          (k : ℕ) → length plan - suc x.since ≡ k →
          Goal (stepped L x.before x.idle x.operation k) (stepped L x.before' x.idle x.operation' k)
      whichever zero e = ends e
      whichever (suc k) e = goes_on k e

      pub store_both : (a a' : Stepped) (area₁ area₁' : List ℕ) →
          StepExact L h.rec area area₁ h.cells cells h.work a (half-started x.one) →
          StepExact L h.rec area' area₁' h'.cells cells' h'.work a' (half-started x.other) → StepBoth area₁ cells a area₁' cells' a'
      store_both a a' area₁ area₁' p p' =
          subst⁻¹ (λ (l : List ℕ). StepBoth l cells a area₁' cells' a') p.stores
          (subst⁻¹ (λ (l : List ℕ). StepBoth after cells a l cells' a') p'.stores
          (subst⁻¹ (λ (y : Stepped). Goal y a') p.answers
          (subst⁻¹ (λ (y : Stepped). Goal (stepped L x.before x.idle x.operation (length plan - suc x.since)) y) answers'
          (whichever (length plan - suc x.since) refl))))
        where
          answers' : a' ≡ stepped L x.before' x.idle x.operation' (length plan - suc x.since)
          answers' = p'.answers ∙ ap (λ (j : ℕ). stepped L x.before' x.idle x.operation' (j - suc x.since)) (sym stores)

  -- A step answers the same, and leaves a pair again.
  pub step_both :
      (area area' area₁ area₁' cells₁ cells₁' work work' : List ℕ) (a a' : Stepped) → h.rec.slots ≡ n → h.rec.size ≡ s →
      Alike of n s (record_from L n s 16 area).map area area' → HeldPair of L area area' h h' → Genuine L area h.rec h.cells →
      Genuine L area' h'.rec h'.cells → lent_lengths area h.cells work ≡ lent_lengths area' h'.cells work' →
      (is_pending h.rec.pending ≡ true → work ≡ h.work) → (is_pending h'.rec.pending ≡ true → work' ≡ h'.work) →
      StepPromise L h.rec area area₁ h.cells cells₁ work a → StepPromise L h'.rec area' area₁' h'.cells cells₁' work' a' →
      StepBoth area₁ cells₁ a area₁' cells₁' a'
  unfolding is_pending
  step_both area area' area₁ area₁' cells₁ cells₁' work work' a a' slots size alike p g g' lent own own' promise promise₁ = go cause refl
    where
      lengths : Lengths
      lengths = lent_lengths area h.cells work

      cause : Option Refusal
      cause = first_cause (step_causes L h.rec lengths)

      genuine : Genuine L area' h.rec h'.cells
      genuine = subst⁻¹ (λ (r : Record). Genuine L area' r h'.cells) p.rec-same g'

      promise' : StepPromise L h.rec area' area₁' h'.cells cells₁' work' a'
      promise' = subst⁻¹ (λ (r : Record). StepPromise L r area' area₁' h'.cells cells₁' work' a') p.rec-same promise₁

      cause' : (c : Option Refusal) → cause ≡ c → first_cause (step_causes L h.rec (lent_lengths area' h'.cells work')) ≡ c
      cause' c e = ap (λ (l : Lengths). first_cause (step_causes L h.rec l)) (sym lent) ∙ e

      go : (c : Option Refusal) → cause ≡ c → StepBoth area₁ cells₁ a area₁' cells₁' a'
      go (some c) e =
          let one = promise.refused c e in
          let other = promise'.refused c (cause' (some c) e) in
          subst⁻¹ (λ (l : List ℕ). StepBoth l cells₁ a area₁' cells₁' a') one.area_same
          (subst⁻¹ (λ (l : List ℕ). StepBoth area cells₁ a l cells₁' a') other.area_same
          (subst⁻¹ (λ (y : Stepped). StepBoth area cells₁ y area' cells₁' a') one.answers
          (subst⁻¹ (λ (y : Stepped). StepBoth area cells₁ (record { answer = Err c; rec = h.rec }) area' cells₁' y) other.answers (
            alike,
            λ K image.
                subst (λ (M : Layout). HeldPair of M area area' (record { rec = h.rec; cells = cells₁; work = h.work }) (record { rec = h.rec; cells = cells₁'; work = h'.work }))
                (sym (own-image L h.rec.slots n h.rec.size s h.rec.cells area (as_recovered h.rec) slots size g.recovers) ∙ image)
                (record { rec-same = refl; index-long = promise.same_length ∙ p.index-long ∙ sym promise'.same_length; phase = p.phase }),
            refl,
          ))))
      go none e = by-phase p.phase
        where
          some-pending : is_pending h.rec.pending ≡ true
          some-pending = not-false (is_pending h.rec.pending) (step-passed L h.rec lengths e).some-pending

          same-work : work ≡ h.work
          same-work = own some-pending

          same-work' : work' ≡ h'.work
          same-work' = own' (subst (λ (r : Record). is_pending r.pending ≡ true) p.rec-same some-pending)

          by-phase : Together of L area area' h.rec h.work h'.work → StepBoth area₁ cells₁ a area₁' cells₁' a'
          by-phase (resting q) = absurd (clash (is_pending h.rec.pending) some-pending (ap is_pending q))
          by-phase (running x) =
              store_both area area' x slots size cells₁ cells₁' (promise.same_length ∙ p.index-long ∙ sym promise'.same_length) a a' area₁ area₁'
              ((subst (λ (l : List ℕ). StepPromise L h.rec area area₁ h.cells cells₁ l a) same-work promise).exact
              (subst (λ (l : List ℕ). first_cause (step_causes L h.rec (lent_lengths area h.cells l)) ≡ none) same-work e) g (half-started x.one))
              ((subst (λ (l : List ℕ). StepPromise L h.rec area' area₁' h'.cells cells₁' l a') same-work' promise').exact
              (subst (λ (l : List ℕ). first_cause (step_causes L h.rec (lent_lengths area' h'.cells l)) ≡ none) same-work' (cause' none e)) genuine
              (half-started x.other))
