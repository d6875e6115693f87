-- `fullness::fewest_present` meets its contract.
use mathlib.Core.Path.{◌≡◌, sym, ◌∙◌}
use mathlib.Core.Bool.{true}
use native.Mathlib.Omega.{arith}
use Rattle.record.specs.Range.{in_range}
use Rattle.fullness.specs.FewestLaws.{own-lengths, refused-promise, told-promise}
use Rattle.fullness.proofs.fewest_present.Goals as goal
use Rattle.fullness.proofs.fewest_present.Goals.{Else-not-in_range}

in-range : (c : Else-not-in_range) → in_range c.args.rec.edition c.args.rec ≡ true
in-range c = sym c.in_range.ensures ∙ c.if-not-in_range.false

pub returns-then-not-in_range : goal.returns-then-not-in_range
returns-then-not-in_range c = refused-promise _ _ (sym c.in_range.ensures ∙ c.if-not-in_range.true)

pub fewest_slot-slot-requires : goal.fewest_slot-slot-requires
fewest_slot-slot-requires c =
    let facts = own-lengths _ _ (in-range (goal.at.fewest_slot-slot-requires c).Else-not-in_range) in
    (facts.slots-high, omega (arith, facts.slots-high), facts.head-below, facts.head-named)

pub returns : goal.returns
returns c = told-promise _ _ _ (in-range (goal.at.returns c).Else-not-in_range) c.fewest_slot-slot.ensures
