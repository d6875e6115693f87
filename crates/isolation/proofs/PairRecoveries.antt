-- A recovery and a cut in two worlds that differ in hidden values alone.
use Prim.Native.Nat.{ℕ}
use mathlib.Core.Path.{◌≡◌, refl, sym, ap, ◌∙◌, subst⁻¹}
use mathlib.Core.Bool.{Bool, true, false}
use mathlib.Core.List.{List, []}
use mathlib.Core.Option.{Option, none, some}
use lib.Dec.{eqb}
use lib.ListN.{length}
use Rattle.segment.specs.Choice.{pick}
use Rattle.segment.specs.Layout.{Layout}
use Rattle.record.specs.Answers.{recover_said}
use Rattle.record.specs.declared.Pending.TheVariants.{Idle}
use Rattle.record.specs.Answered.{Recovery}
use Rattle.record.specs.declared.Refusal.{Refusal}
use Rattle.record.specs.declared.Record.{Record}
use Rattle.model.specs.Causes.{first_cause}
use Rattle.model.specs.Recovery.{recovered, record_from, recover_causes, recovery, recovery_for}
use Rattle.model.specs.Refused.{Lengths}
use Rattle.model.specs.Promises.{read_lengths, RecoverPromise}
use Rattle.history.specs.Book.{saying, accepted}
use Rattle.history.specs.Runs.{World, recovered_world}
use Rattle.isolation.proofs.Alike.{recoveries-same}
use Rattle.isolation.proofs.Pair.{resting, HeldBoth, Pair}

-- no operation is pending in what recovery gives, nor in the blank record
recovery-idle : (c : Option Refusal) (r : Record) → r.pending ≡ Idle → (recovery_for c r).rec.pending ≡ Idle
unfolding recovery_for
recovery-idle none r e = e
recovery-idle (some c) r e = refl

-- whatever it answers, the area stays
pub recovered-area : (w : World) (cells' : List ℕ) (r : Recovery) → (recovered_world w cells' r).area ≡ w.area
unfolding pick
recovered-area w cells' r = go (accepted (saying (recover_said r.answer))) (eqb (recover_said r.answer).refused 20)
  where
    go :
        (t u : Bool) →
        (pick t (record { area = w.area; held = some (record { rec = r.rec; cells = cells'; work = [] }); cells = some (length cells') })
        (pick u (record { area = w.area; held = none; cells = w.cells }) w)).area ≡ w.area
    go true u = refl
    go false true = refl
    go false false = refl

module _ (of : ℕ → Bool) (L : Layout) (n s : ℕ) (w w' : World) (p : Pair of L n s w w') where
  pub cut-both :
      Pair of L n s (record { area = w.area; held = none; cells = w.cells }) (record { area = w'.area; held = none; cells = w'.cells })
  unfolding HeldBoth
  cut-both = record { alike = p.alike; held = tt }

  -- Recovery answers the same, and leaves a pair again.
  pub recover-both :
      (m : ℕ) (x : Record) → recovered L n s m w.area ≡ some x → (order cells cells' cells₁ cells₁' : List ℕ) (r r' : Recovery) →
      read_lengths w.area cells ≡ read_lengths w'.area cells' → RecoverPromise L n s order w.area cells cells₁ r →
      RecoverPromise L n s order w'.area cells' cells₁' r' →
      Pair of L n s (recovered_world w cells₁ r) (recovered_world w' cells₁' r') × (recover_said r.answer ≡ recover_said r'.answer)
  unfolding HeldBoth pick recovery
  recover-both m x e order cells cells' cells₁ cells₁' r r' lent q q' =
      subst⁻¹ (λ (y : Recovery). Pair of L n s (recovered_world w cells₁ r) (recovered_world w' cells₁' y) × (recover_said r.answer ≡ recover_said y.answer)) same
      (go (accepted (saying (recover_said r.answer))) (eqb (recover_said r.answer).refused 20), refl)
    where
      long : length cells ≡ length cells'
      long = ap (λ (l : Lengths). l.index) lent

      same : r' ≡ r
      same =
          q'.answers ∙ ap (λ (k : ℕ). recovery L n s k order w'.area) (sym long) ∙
          sym (recoveries-same of L n s w.area w'.area p.alike m (length cells) order x e) ∙ sym q.answers

      idle : r.rec.pending ≡ Idle
      idle =
          ap (λ (y : Recovery). y.rec.pending) q.answers ∙
          recovery-idle (first_cause (recover_causes L n s (length cells) order w.area)) (record_from L n s (length cells) w.area) refl

      -- the worlds by whether it was accepted, and refused with 20
      left : World → List ℕ → Bool → Bool → World
      left y c t u =
          pick t (record { area = y.area; held = some (record { rec = r.rec; cells = c; work = [] }); cells = some (length c) })
          (pick u (record { area = y.area; held = none; cells = y.cells }) y)

      go : (t u : Bool) → Pair of L n s (left w cells₁ t u) (left w' cells₁' t u)
      go true u =
          record {
            alike = p.alike;
            held = record { rec-same = refl; index-long = q.same_length ∙ long ∙ sym q'.same_length; phase = resting idle };
          }
      go false true = cut-both
      go false false = p
