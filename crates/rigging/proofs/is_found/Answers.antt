-- `rigging::is_found` meets its contract.
use mathlib.Core.Path.{sym, ◌∙◌}
use Rattle.segment.specs.Choice.{both}
use Rattle.segment.proofs.Choice.{both-false-left}
use Rattle.histories.specs.Numbered.{word}
use Rattle.rig_model.specs.Verdict.{history_wrong}
use Rattle.rigging.proofs.is_found.Goals as goal

pub returns-then-is_legal : goal.returns-then-is_legal
unfolding both
returns-then-is_legal c = rw (← c.is_legal.ensures, c.if-is_legal.true) c.is_wrong.ensures

pub returns-else-is_legal : goal.returns-else-is_legal
returns-else-is_legal c = c.if-is_legal.false ∙ sym (both-false-left _ (history_wrong c.args.faulty (word c.args.w.letters c.args.w.number)) (sym c.is_legal.ensures ∙ c.if-is_legal.false))
