-- The step's promise from what is found of its next store, whichever function made its tests.
use Rattle.std.specs.Prelude.{ℕ, ◌<◌, Bool, true, false, List, length, set, Ok, Err, None, Some}
use Rattle.std.proofs.Math.Path.{◌≡◌, refl, sym, ap, subst⁻¹}
use Rattle.std.proofs.Common.{◌∙◌, arith}
use Rattle.std.proofs.Math.Option.{Option, none, some}
use Rattle.segment.specs.Choice.{pick}
use Rattle.segment.proofs.Choice.{pick_true, pick-false}
use Rattle.segment.specs.Layout.{Layout}
use Rattle.record.specs.Answers.{stores_left}
use Rattle.record.specs.Range.{fits_lent}
use Rattle.record.specs.RangeLaws.{lent}
use Rattle.record.specs.declared.Record.{Record}
use Rattle.record.specs.declared.Refusal.{Refusal}
use Rattle.record.specs.declared.Refusal.TheVariants.{BadRecord}
use Rattle.record.specs.Answered.{Stepped, TellAnswer}
use Rattle.model.specs.Causes.{first_cause}
use Rattle.model.specs.Refused.{step_causes}
use Rattle.model.specs.Promises.{StepPromise, lent_lengths}
use Rattle.telling.specs.Agree.{agrees_with, tested_store}
use Rattle.record.specs.AnswerLaws.{ok-same}
use Rattle.record.specs.declared.ToldStore.{ToldStore}
use Rattle.telling.specs.Next.{next_store, PendingIn, NextStore}
use Rattle.telling.proofs.NextLaws.{next-inside}
use Rattle.telling.specs.Told.{told_store, told_unless, found_by, told_by}
use Rattle.stepping.specs.Tested.{StepTested}
use Rattle.stepping.specs.Finish.{refused_step, advanced}
use Rattle.stepping.proofs.StepLaws.{pending-not-idle, refused-promise, refused-tested, bad-promise, bad-tested, stored-promise, stored-tested}

same-refusal : {c d : Refusal} → ◌≡◌ {A = TellAnswer} (Err d) (Err c) → d ≡ c
same-refusal e = cc

module _ (L : Layout) (r : Record) (area cells work : List ℕ) where
  abbrev cause : Option Refusal
  cause = first_cause (step_causes L r (lent_lengths area cells work))

  -- what the step keeps
  abbrev pub Kept : List ℕ → List ℕ → Stepped → Type 0
  Kept area' cells' x = StepPromise L r area area' cells cells' work x × StepTested L r area area' cells cells' work x

  abbrev Unless : Option Refusal → TellAnswer
  Unless o = told_unless L r (length area) work o

  -- a refusal is the first cause, or there is no next store
  pub found-refused : (c : Refusal) → found_by L r area (length cells) work ≡ Err c → {x : Stepped} → x ≡ refused_step r c → Kept area cells x
  unfolding told_unless told_store
  found-refused c e is = subst⁻¹ (Kept area cells) is (go cause refl)
    where
      go : (o : Option Refusal) → cause ≡ o → Kept area cells (refused_step r c)
      go (some d) f =
          let first : cause ≡ some c = f ∙ ap some (same-refusal (sym (ap Unless f) ∙ e)) in
          (refused-promise L r area cells work c first refl, refused-tested L r area cells work c first refl)
      go none f = by (tested_store L (length area) work r) refl
        where
          by : (x : NextStore) → tested_store L (length area) work r ≡ x → Kept area cells (refused_step r c)
          by (Some s) t =
              let w : ◌≡◌ {A = TellAnswer} (Ok s) (Err c) = sym (ap Unless f ∙ ap told_store t) ∙ e in
              let z : ◌≡◌ {A = ℕ} 0 1 = cc in
              absurd (omega arith)
          by None t =
              let w : BadRecord ≡ c = same-refusal (sym (ap Unless f ∙ ap told_store t) ∙ e) in (
                bad-promise L r area cells work f t,
                bad-tested L r area cells work f t (ap (refused_step r) (sym w)),
              )

  -- a store that is found is made
  pub found-stored : (p b : ℕ) → found_by L r area (length cells) work ≡ Ok (record { place = p; byte = b }) → {x : Stepped} {cells' : List ℕ}
      → record { stepped = x; cells = cells' } ≡ advanced L r (set area p b) cells → length cells' ≡ length cells → Kept (set area p b) cells' x
  unfolding told_unless told_store
  found-stored p b e {x} {cells'} s same = go cause refl
    where
      go : (o : Option Refusal) → cause ≡ o → Kept (set area p b) cells' x
      go (some d) f =
          let w : ◌≡◌ {A = TellAnswer} (Err d) (Ok (record { place = p; byte = b })) = sym (ap Unless f) ∙ e in
          let z : ◌≡◌ {A = ℕ} 0 1 = cc in
          absurd (omega arith)
      go none f = by (tested_store L (length area) work r) refl
        where
          by : (y : NextStore) → tested_store L (length area) work r ≡ y → Kept (set area p b) cells' x
          by (Some next) t =
              let w : ◌≡◌ {A = TellAnswer} (Ok next) (Ok (record { place = p; byte = b })) = sym (ap Unless f ∙ ap told_store t) ∙ e in
              let at : tested_store L (length area) work r ≡ Some (record { place = p; byte = b }) = t ∙ ap (λ (n : ToldStore). Some n) (ok-same w) in
              (stored-promise L r area cells work f p b at s same, stored-tested L r area cells work f p b at s)
          by None t =
              let w : ◌≡◌ {A = TellAnswer} (Err BadRecord) (Ok (record { place = p; byte = b })) = sym (ap Unless f ∙ ap told_store t) ∙ e in
              let z : ◌≡◌ {A = ℕ} 0 1 = cc in
              absurd (omega arith)

-- ---- behind the test of range and lengths

module _ (L : Layout) (r : Record) (area cells work : List ℕ) (fit : fits_lent L r (length area) (length cells) ≡ true) where
  own : length cells ≡ r.cells
  own = (lent L r (length area) (length cells) fit).index-own

  pub fit-own : fits_lent L r (length area) r.cells ≡ true
  fit-own = ap (fits_lent L r (length area)) (sym own) ∙ fit

  -- what is told is what is found with this index
  pub told-found : {a : TellAnswer} → a ≡ (told_by L r area work).answer → a ≡ found_by L r area (length cells) work
  told-found e = e ∙ ap (λ (i : ℕ). found_by L r area i work) (sym own)

  module _ (p b : ℕ) (e : found_by L r area (length cells) work ≡ Ok (record { place = p; byte = b })) where
    -- what the last step may rely on
    pub record Found : Type 0 where
      pub left : 0 < stores_left r.pending
      pub inside : PendingIn r r.pending
      pub place : p < length area
      pub agrees : agrees_with L r r.pending ≡ true

    pub found-known : Found
    unfolding told_unless told_store tested_store
    found-known = go (first_cause (step_causes L r (lent_lengths area cells work))) refl
      where
        go : (o : Option Refusal) → first_cause (step_causes L r (lent_lengths area cells work)) ≡ o → Found
        go (some d) f =
            let w : ◌≡◌ {A = TellAnswer} (Err d) (Ok (record { place = p; byte = b })) = sym (ap (told_unless L r (length area) work) f) ∙ e in
            let z : ◌≡◌ {A = ℕ} 0 1 = cc in
            absurd (omega arith)
        go none f = by (agrees_with L r r.pending) refl (next_store (length area) work r) refl
          where
            told : told_store (pick (agrees_with L r r.pending) (next_store (length area) work r) None) ≡ Ok (record { place = p; byte = b })
            told = sym (ap (told_unless L r (length area) work) f) ∙ e

            by : (t : Bool) → agrees_with L r r.pending ≡ t → (y : NextStore) → next_store (length area) work r ≡ y → Found
            by false t y n =
                let w : ◌≡◌ {A = TellAnswer} (Err BadRecord) (Ok (record { place = p; byte = b })) = sym (ap told_store (pick-false _ _ _ t)) ∙ told in
                let z : ◌≡◌ {A = ℕ} 0 1 = cc in
                absurd (omega arith)
            by true t None n =
                let w : ◌≡◌ {A = TellAnswer} (Err BadRecord) (Ok (record { place = p; byte = b })) = sym (ap told_store (pick_true _ _ _ t ∙ n)) ∙ told in
                let z : ◌≡◌ {A = ℕ} 0 1 = cc in
                absurd (omega arith)
            by true t (Some s) n =
                let w : ◌≡◌ {A = TellAnswer} (Ok s) (Ok (record { place = p; byte = b })) = sym (ap told_store (pick_true _ _ _ t ∙ n)) ∙ told in
                let same : s.place ≡ p = ap (λ (n : ToldStore). n.place) (ok-same w) in
                let l = lent L r (length area) (length cells) fit in
                let inside = next-inside (length area) work r s.place s.byte l.head-below l.area-own r.pending n in
                record {
                  left = l.left-some (λ idle. pending-not-idle L r area cells work f idle);
                  inside = inside.0;
                  place = omega (arith, inside.1);
                  agrees = t;
                }
