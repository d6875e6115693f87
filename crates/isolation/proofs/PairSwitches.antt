-- The switch to the second edition (02, R-13) in two worlds that differ in hidden values alone: it answers the same, and they differ so
-- again.
use Prim.Native.Nat.{ℕ}
use mathlib.Core.Path.{◌≡◌, refl, sym, ◌∙◌, subst⁻¹}
use mathlib.Core.Bool.{Bool}
use mathlib.Core.List.{List}
use mathlib.Core.Option.{Option, none, some}
use Rattle.segment.specs.Layout.{Layout}
use Rattle.record.specs.Switch.{switched_on, switch_said}
use Rattle.record.specs.declared.Record.{Record}
use Rattle.record.specs.declared.Refusal.{Refusal}
use Rattle.record.specs.Answered.{Switching}
use Rattle.model.specs.Causes.{first_cause}
use Rattle.model.specs.Refused.{is_pending}
use Rattle.model.specs.Switching.{switch_causes, switching, SwitchPromise}
use Rattle.laws.specs.CauseLaws.{no-cause}
use Rattle.laws.specs.Members.{clash}
use Rattle.history.specs.Runs.{Held}
use Rattle.history.proofs.Tellings.{started-pending}
use Rattle.isolation.proofs.Pair.{half-started, Together, resting, running, HeldPair}

module _ (of : ℕ → Bool) (L : Layout) (area area' : List ℕ) (h h' : Held) (held : HeldPair of L area area' h h') where
  abbrev pub SwitchBoth : Switching → Switching → Type 0
  SwitchBoth a a' =
      HeldPair of L area area' (record { rec = a.rec; cells = h.cells; work = h.work }) (record { rec = a'.rec; cells = h'.cells; work = h'.work })
      × (switch_said a.answer ≡ switch_said a'.answer)

  abbrev cause : Option Refusal
  cause = first_cause (switch_causes L h.rec)

  -- nothing is pending where it is accepted
  switched-phase : cause ≡ none → Together of L area area' h.rec h.work h'.work → Together of L area area' (switched_on h.rec) h.work h'.work
  switched-phase e (resting q) = resting q
  switched-phase e (running x) =
      absurd
      (clash (is_pending h.rec.pending) (started-pending L area h.rec h.work (half-started x.one))
      (no-cause (switch_causes L h.rec) e).1.0)

  by-cause : (c : Option Refusal) → cause ≡ c → SwitchBoth (switching c h.rec) (switching c h.rec)
  unfolding switching
  by-cause none e = (record { rec-same = refl; index-long = held.index-long; phase = switched-phase e held.phase }, refl)
  by-cause (some c) e = (record { rec-same = refl; index-long = held.index-long; phase = held.phase }, refl)

  -- A switch answers the same, and leaves a pair again.
  pub switch-both : (a a' : Switching) → SwitchPromise L h.rec a → SwitchPromise L h'.rec a' → SwitchBoth a a'
  switch-both a a' p p' = subst⁻¹ (SwitchBoth a) same (subst⁻¹ (λ (x : Switching). SwitchBoth x x) p.answers (by-cause cause refl))
    where
      same : a' ≡ a
      same = (subst⁻¹ (λ (r : Record). SwitchPromise L r a') held.rec-same p').answers ∙ sym p.answers
