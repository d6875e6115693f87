-- `kurdavel::fewest::kurdavel_fewest` meets its contract.
use mathlib.Core.Path.{ap}
use mathlib.Core.Bool.{not}
use native.Mathlib.Omega.{arith}
use Rattle.kurdavel.specs.CrossingLaws.{range-lent, range-counts, fewest-bad, fewest-told}
use Rattle.kurdavel.proofs.fewest.kurdavel_fewest.Goals as goal

pub returns-then-not-in_range : goal.returns-then-not-in_range
returns-then-not-in_range c = fewest-bad c.args.words.now c.in_range.ensures.said (ap not c.if-not-in_range.true)

pub fewest_slot-requires : goal.fewest_slot-requires
fewest_slot-requires c =
    let w = c.args.words.now in
    let in-range = c.in_range.ensures.said in
    let l = range-lent w in-range (ap not c.if-not-in_range.false) in
    (l.slots-high, omega (arith, l.slots-high, range-counts w in-range (ap not c.if-not-in_range.false)), l.head-below, l.head-named)

pub returns : goal.returns
returns c =
    fewest-told c.args.words.now c.in_range.ensures.said (ap not c.if-not-in_range.false) c.fewest_slot.ensures
