-- `record::switched_on` meets its contract: only a record of the first edition changes.
use mathlib.Core.Path.{sym, ◌∙◌}
use Rattle.record.specs.Switch.{switch-first, switch-second}
use Rattle.record.proofs.switched_on.Goals as goal

pub returns-in-First : goal.returns-in-First
returns-in-First c = c.with_switch.ensures ∙ sym (switch-first c.args.rec c.in-First.is)

pub returns-in-Second : goal.returns-in-Second
returns-in-Second c = sym (switch-second c.args.rec c.in-Second.is)
