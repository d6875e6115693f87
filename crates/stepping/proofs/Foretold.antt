-- Laws of: What is told of the next store and what the step that follows does, for every input: one theorem about the two calls.
use Rattle.std.specs.Prelude.{ℕ, ◌≡◌, List, ◌⊎◌, length, set, Ok, Err, None, Some}
use Rattle.std.proofs.Math.Path.{refl}
use Rattle.std.proofs.Common.{sym, ◌∙◌, ap, subst, ne_eqb}
use Rattle.std.proofs.Math.Bool.{not}
use Rattle.std.proofs.Math.Logic.{inl, inr}
use Rattle.std.proofs.Math.Option.{Option, none, some}
use Rattle.std.proofs.Math.Decide.{ℕ_discrete}
use Rattle.segment.proofs.Choice.{both-false-right}
use Rattle.segment.specs.Layout.{Layout}
use Rattle.record.specs.Range.{fits_lent, lengths_own}
use Rattle.record.specs.Answered.{Foretold, Stepped, TellAnswer}
use Rattle.record.specs.declared.Refusal.{Refusal}
use Rattle.record.specs.declared.Refusal.TheVariants.{BadRecord}
use Rattle.record.specs.declared.Record.{Record}
use Rattle.model.specs.Causes.{first_cause}
use Rattle.model.specs.Refused.{step_causes, tell_causes}
use Rattle.model.specs.Promises.{StepPromise, lent_lengths, tell_lengths}
use Rattle.laws.specs.CauseLaws.{cause-first}
use Rattle.telling.specs.Agree.{tested_store}
use Rattle.telling.specs.Told.{told_store, told_unless, told_by}
use Rattle.telling.specs.Next.{NextStore}
use Rattle.stepping.specs.Tested.{StepTested}
use Rattle.stepping.specs.Foretold.{Follows, OtherIndex}

module _ (L : Layout) (r : Record) (area area' cells cells' work : List ℕ) (a : Stepped) (promise : StepPromise L r area area' cells cells' work a)
    (tested : StepTested L r area area' cells cells' work a)
  where
    abbrev Following : TellAnswer → Type 0
    Following x = Follows r area area' cells cells' a x

    abbrev cause : Option Refusal
    cause = first_cause (tell_causes L r (tell_lengths area work))

    same-cause : length cells ≡ r.cells → first_cause (step_causes L r (lent_lengths area cells work)) ≡ cause
    same-cause e = ap (λ (i : ℕ). first_cause (step_causes L r (record { area = length area; index = i; work = length work }))) e

    found : first_cause (step_causes L r (lent_lengths area cells work)) ≡ none → (x : NextStore) → tested_store L (length area) work r ≡ x → Following (told_store x)
    unfolding Follows told_store
    found e (Some s) t = inl (tested.stores e s.place s.byte t)
    found e None t = inl (tested.before-store e t)

    own-index : length cells ≡ r.cells → (c : Option Refusal) → cause ≡ c → Following (told_unless L r (length area) work c)
    unfolding Follows told_unless
    own-index e none q = found (same-cause e ∙ q) (tested_store L (length area) work r) refl
    own-index e (some c) q = inl (promise.refused c (same-cause e ∙ q))

    unfit : (length cells ≡ r.cells → ⊥) → OtherIndex r area area' cells cells' a
    unfolding fits_lent lengths_own
    unfit n =
        record {
          other = n;
          refused =
              promise.refused BadRecord
              (cause-first _ _ (ap not (both-false-right _ _ (both-false-right _ _ (ne_eqb (length cells) r.cells n)))));
        }

    other-index : (length cells ≡ r.cells → ⊥) → (x : TellAnswer) → Following x
    unfolding Follows
    other-index n (Ok s) = inr (unfit n)
    other-index n (Err c) = inr (unfit n)

    -- For every input: the contracts of the two calls leave nothing else.
    pub tell-step : {x : Foretold} → x ≡ told_by L r area work → Following x.answer
    tell-step e = subst (λ (y : Foretold). Following y.answer) (sym e) (go (ℕ_discrete (length cells) r.cells))
      where
        go : Dec (length cells ≡ r.cells) → Following (told_unless L r (length area) work cause)
        go (yes q) = own-index q cause refl
        go (no n) = other-index n (told_unless L r (length area) work cause)
