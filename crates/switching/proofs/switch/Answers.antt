-- `switching::switch` meets its contract: out of range, idle, or with an operation pending.
use Rattle.std.specs.Prelude.{Ok}
use mathlib.Core.Path.{◌≡◌, refl, sym, ap, ◌∙◌}
use mathlib.Core.Bool.{true}
use Rattle.record.specs.Range.{in_range}
use Rattle.record.specs.declared.Record.{Record}
use Rattle.record.specs.Answered.{SwitchAnswer}
use Rattle.model.specs.Switching.{switching}
use Rattle.switching.specs.SwitchLaws.{bad-promise, busy-promise, taken-promise}
use Rattle.switching.proofs.switch.Goals as goal
use Rattle.switching.proofs.switch.Goals.{Else-not-in_range}

in-range : (c : Else-not-in_range) → in_range c.args.rec.edition c.args.rec ≡ true
in-range c = sym c.in_range.ensures ∙ c.if-not-in_range.false

pub returns-then-not-in_range : goal.returns-then-not-in_range
unfolding switching
returns-then-not-in_range c = bad-promise _ _ _ (sym c.in_range.ensures ∙ c.if-not-in_range.true) refl

pub returns-in-Idle : goal.returns-in-Idle
unfolding switching
returns-in-Idle c =
    taken-promise _ _ _ (in-range (goal.at.returns-in-Idle c).Else-not-in_range) c.in-Idle.is
    (ap (λ (x : Record). record { answer = (Ok tt); rec = x }) c.switched_on.ensures)

pub returns : goal.returns
unfolding switching
returns c = busy-promise _ _ _ (in-range (goal.at.returns c).Else-not-in_range) c.in_default.not-Idle refl
