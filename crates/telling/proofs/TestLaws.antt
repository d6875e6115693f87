-- The causes of a step at each test of the code, and that a started operation passes what is tested behind them: its next store is the
-- one of its plan whose turn it is.
use Rattle.std.specs.Prelude.{ℕ, ◌-◌, ◌≤◌, ◌<◌, ◌≡◌, refl, Bool, true, false, not, List, [], length, get_or, None}
use Rattle.std.proofs.Common.{sym, ◌∙◌, ap, subst, arith, lt-ltb, le-ltb}
use Rattle.std.proofs.Math.Option.{Option, none, some}
use Rattle.std.proofs.lemmas.Bool.{not-false}
use Rattle.segment.proofs.Choice.{pick_true}
use Rattle.segment.specs.Layout.{Layout}
use Rattle.record.specs.Answers.{stores_left}
use Rattle.record.specs.Range.{fits_lent}
use Rattle.record.specs.RangeLaws.{Lent, lent}
use Rattle.record.specs.declared.Pending.{Pending}
use Rattle.record.specs.declared.Pending.TheVariants.{Idle, Append, NewHead, Clean, Forget}
use Rattle.record.specs.declared.Refusal.{Refusal}
use Rattle.record.specs.declared.Refusal.TheVariants.{BadRecord, WorkShort, NonePending}
use Rattle.record.specs.declared.Record.{Record}
use Rattle.model.specs.Operations.{log_now, plan_for}
use Rattle.model.specs.Causes.{first_cause}
use Rattle.model.specs.Refused.{Lengths, record_bad, is_pending, step_causes}
use Rattle.model.specs.Promises.{Started}
use Rattle.laws.specs.CauseLaws.{cause-none, cause-first, cause-skip}
use Rattle.laws.specs.Operated.{OperationLaws}
use Rattle.telling.specs.Agree.{agrees_with, tested_store}
use Rattle.telling.proofs.AgreeLaws.{laid-agrees}
use Rattle.telling.specs.PlanLaws.{at_of}
use Rattle.telling.proofs.PlanLaws.{accepted, next-started}

-- ---- the causes

pending-left : (p : Pending) → stores_left p ≡ 0 → ((p ≡ Idle → ⊥) → 0 < stores_left p) → is_pending p ≡ false
unfolding is_pending
pending-left Idle e h = refl
pending-left (Append n k) e h = absurd (omega (arith, h (λ q. let z : ◌≡◌ {A = ℕ} 0 1 = cc in absurd (omega arith))))
pending-left (NewHead i n k) e h = absurd (omega (arith, h (λ q. let z : ◌≡◌ {A = ℕ} 0 1 = cc in absurd (omega arith))))
pending-left (Clean i v n k) e h = absurd (omega (arith, h (λ q. let z : ◌≡◌ {A = ℕ} 0 1 = cc in absurd (omega arith))))
pending-left (Forget i v n k) e h = absurd (omega (arith, h (λ q. let z : ◌≡◌ {A = ℕ} 0 1 = cc in absurd (omega arith))))

left-pending : (p : Pending) → (stores_left p ≡ 0 → ⊥) → is_pending p ≡ true
unfolding is_pending
left-pending Idle h = absurd (h refl)
left-pending (Append n k) h = refl
left-pending (NewHead i n k) h = refl
left-pending (Clean i v n k) h = refl
left-pending (Forget i v n k) h = refl

no-causes : first_cause [] ≡ none
unfolding first_cause
no-causes = refl

-- t is what the code finds for the test of range and lengths
module _ (L : Layout) (r : Record) (l : Lengths) {t : Bool} (found : t ≡ fits_lent L r l.area l.index) where
  abbrev First : Option Refusal → Type 0
  First o = first_cause (step_causes L r l) ≡ o

  pub step-bad : not t ≡ true → First (some BadRecord)
  step-bad e = cause-first _ _ (ap not (sym found) ∙ e)

  module _ (fits : not t ≡ false) where
    pub step-lent : Lent L r l.area l.index
    step-lent = lent L r l.area l.index (sym found ∙ not-false t fits)

    past_first : record_bad L r l ≡ false
    past_first = ap not (sym found) ∙ fits

    pub step-short : l.work < r.size → First (some WorkShort)
    step-short h = cause-skip _ _ past_first ∙ cause-first _ _ (lt-ltb l.work r.size h)

    module _ (long : r.size ≤ l.work) {k : ℕ} (left : k ≡ stores_left r.pending) where
      pub step-none : k ≡ 0 → First (some NonePending)
      step-none e =
          cause-skip _ _ past_first ∙ cause-skip _ _ (le-ltb l.work r.size long)
          ∙ cause-first _ _ (ap not (pending-left r.pending (sym left ∙ e) step-lent.left-some))

      pub step-goes : (k ≡ 0 → ⊥) → First none
      step-goes h =
          cause-none _ _ past_first
          (cause-none _ _ (le-ltb l.work r.size long)
          (cause-none _ _ (ap not (left-pending r.pending (λ e. h (left ∙ e)))) no-causes))

-- ---- a started operation

module _ (L : Layout) (laws : OperationLaws L) (r : Record) (area work : List ℕ) (long : r.size ≤ length work) (s : Started L area r work) where
  abbrev plan : List (ℕ × ℕ)
  plan = plan_for L s.idle (log_now s.before s.idle) s.operation

  started-agrees : agrees_with L r r.pending ≡ true
  started-agrees =
      ap (λ (x : Record). agrees_with L x x.pending) s.record-now
      ∙ laid-agrees L s.before s.idle s.operation (accepted L laws area r work s) (length plan - s.since)

  long-enough : s.idle.size ≤ length work
  long-enough = subst (λ (x : Record). x.size ≤ length work) s.record-now long

  pub tested-turn : tested_store L (length area) work r ≡ at_of (get_or plan s.since (0, 0))
  unfolding tested_store
  tested-turn = pick_true _ _ _ started-agrees ∙ next-started L laws area r work s long-enough

  pub never-bad : tested_store L (length area) work r ≡ None → ⊥
  never-bad e =
      let q : None ≡ at_of (get_or plan s.since (0, 0)) = sym e ∙ tested-turn in
      let z : ◌≡◌ {A = ℕ} 0 1 = cc in
      omega arith
