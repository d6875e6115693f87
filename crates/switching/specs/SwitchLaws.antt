-- What the switch promises in each of its three cases.
use Rattle.std.specs.Prelude.{◌≡◌, true, false}
use Rattle.std.proofs.Math.Path.{refl, ap, subst⁻¹}
use Rattle.std.proofs.Common.{sym, ◌∙◌}
use Rattle.std.proofs.Math.Bool.{not}
use mathlib.Core.List.{List, [], ◌∷◌}
use Rattle.std.proofs.Math.Option.{Option, none, some}
use Rattle.segment.specs.Layout.{Layout}
use Rattle.record.specs.Answers.{taken, said_by}
use Rattle.record.specs.Range.{in_range}
use Rattle.record.specs.Switch.{switch_said}
use Rattle.record.specs.declared.Pending.{Pending}
use Rattle.record.specs.declared.Pending.TheVariants.{Idle, Append, NewHead, Clean, Forget}
use Rattle.record.specs.declared.Record.{Record}
use Rattle.record.specs.declared.Refusal.{Refusal}
use Rattle.record.specs.declared.Refusal.TheVariants.{BadRecord, Busy}
use Rattle.record.specs.Answered.{Switching}
use Rattle.model.specs.Causes.{when, first_cause}
use Rattle.model.specs.Refused.{is_pending}
use Rattle.model.specs.Switching.{switch_causes, switching, SwitchPromise}
use Rattle.laws.specs.CauseLaws.{cause-first, cause-skip}

module _ (L : Layout) (r : Record) where
  -- by the first cause, whichever it is
  by-cause : (c : Option Refusal) (a : Switching) → first_cause (switch_causes L r) ≡ c → a ≡ switching c r → SwitchPromise L r a
  unfolding switching said_by
  by-cause none a e q =
      record { answers = q ∙ ap (λ (o : Option Refusal). switching o r) (sym e); says = ap (λ (x : Switching). switch_said x.answer) q ∙ ap (λ (o : Option Refusal). said_by o taken) (sym e) }
  by-cause (some c) a e q =
      record { answers = q ∙ ap (λ (o : Option Refusal). switching o r) (sym e); says = ap (λ (x : Switching). switch_said x.answer) q ∙ ap (λ (o : Option Refusal). said_by o taken) (sym e) }

  -- 4: out of range
  pub bad-promise : (a : Switching) → in_range L r ≡ false → a ≡ switching (some BadRecord) r → SwitchPromise L r a
  bad-promise a e q = by-cause (some BadRecord) a (cause-first (when (not (in_range L r)) BadRecord) (when (is_pending r.pending) Busy ∷ []) (ap not e)) q

  -- 5: an operation is pending
  pub busy-promise : (a : Switching) → in_range L r ≡ true → (r.pending ≡ Idle → ⊥) → a ≡ switching (some Busy) r → SwitchPromise L r a
  busy-promise a e busy q =
      by-cause (some Busy) a
      (cause-skip (when (not (in_range L r)) BadRecord) (when (is_pending r.pending) Busy ∷ []) (ap not e)
      ∙ cause-first (when (is_pending r.pending) Busy) [] (go r.pending busy)) q
    where
      go : (p : Pending) → (p ≡ Idle → ⊥) → is_pending p ≡ true
      go Idle h = absurd (h refl)
      go (Append n k) h = unfold is_pending in refl
      go (NewHead i n k) h = unfold is_pending in refl
      go (Clean i v n k) h = unfold is_pending in refl
      go (Forget i v n k) h = unfold is_pending in refl

  -- accepted
  pub taken-promise : (a : Switching) → in_range L r ≡ true → r.pending ≡ Idle → a ≡ switching none r → SwitchPromise L r a
  unfolding is_pending first_cause
  taken-promise a e idle q =
      by-cause none a
      (cause-skip (when (not (in_range L r)) BadRecord) (when (is_pending r.pending) Busy ∷ []) (ap not e)
      ∙ cause-skip (when (is_pending r.pending) Busy) [] (ap is_pending idle)) q
