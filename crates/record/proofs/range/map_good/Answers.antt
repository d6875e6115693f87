-- `record::range::map_good` meets its contract.
use mathlib.Core.Path.{ap}
use mathlib.Core.Bool.{not}
use mathlib.Core.Path.{sym, ◌∙◌}
use borrow.Author.Tests.{not-false}
use Rattle.record.specs.RangeLaws.{map-test, past-slots, stop, go}
use Rattle.record.proofs.range.map_good.Goals as goal

pub returns-then-not-leaves_free : goal.returns-then-not-leaves_free
returns-then-not-leaves_free c =
    let a = c.args in
    stop _ c.leaves_free.ensures (ap not c.if-not-leaves_free.true) ∙ map-test a.slots a.head a.map

pub returns-then-slots-head : goal.returns-then-slots-head
returns-then-slots-head c =
    let a = c.args in
    let e = c.leaves_free.ensures in
    let f = (ap not c.if-not-leaves_free.false) in
    go _ e f (sym (past-slots a.slots a.head a.map (sym e ∙ not-false _ f) c.if-slots-head.true))
    ∙ map-test a.slots a.head a.map

pub returns : goal.returns
returns c =
    let a = c.args in
    go _ c.leaves_free.ensures (ap not c.if-not-leaves_free.false) c.has_slot.ensures
    ∙ map-test a.slots a.head a.map
