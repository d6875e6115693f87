-- `writing::causes::check_first` meets its contract.
use mathlib.Core.Path.{ap}
use mathlib.Core.Bool.{not}
use mathlib.Core.Path.{refl, sym}
use Rattle.writing.specs.TestLaws.{first-outside, first-idle}
use Rattle.writing.proofs.causes.check_first.Goals as goal

pub returns-then-not-holds_table : goal.returns-then-not-holds_table
returns-then-not-holds_table c = first-outside _ _ _ _ _ (sym c.requires) refl c.holds_table.ensures (ap not c.if-not-holds_table.true)

pub returns : goal.returns
returns c =
    first-idle _ _ _ _ _ (sym c.requires) refl c.holds_table.ensures (ap not c.if-not-holds_table.false) c.check_idle.ensures
