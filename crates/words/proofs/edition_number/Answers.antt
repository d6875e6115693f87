-- `words::edition_number` meets its contract: each arm is an edition's number.
use mathlib.Core.Path.{sym, ap}
use Rattle.segment.specs.Layout.{number_of_layout}
use Rattle.words.proofs.edition_number.Goals as goal

pub returns-in-First : goal.returns-in-First
unfolding number_of_layout
returns-in-First c = ap number_of_layout (sym c.in-First.is)

pub returns-in-Second : goal.returns-in-Second
unfolding number_of_layout
returns-in-Second c = ap number_of_layout (sym c.in-Second.is)
