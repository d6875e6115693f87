-- `telling::agree::delete_agrees` meets its contract.
use mathlib.Core.Path.{◌∙◌, ap}
use Rattle.segment.specs.Layout.{Layout}
use Rattle.record.specs.RangeLaws.{ends, goes}
use Rattle.telling.specs.Agree.{forget_agrees}
use Rattle.telling.proofs.agree.delete_agrees.Goals as goal

pub returns-then-slot_agrees : goal.returns-then-slot_agrees
returns-then-slot_agrees c =
    let s = c.args in
    goes _ c.slot_agrees.ensures c.if-slot_agrees.true
    (c.forget_agrees.ensures ∙ ap (λ (W : Layout). forget_agrees W s.rec s.victims s.count) c.new_edition-edition.ensures)

pub returns-else-slot_agrees : goal.returns-else-slot_agrees
returns-else-slot_agrees c = ends _ c.slot_agrees.ensures c.if-slot_agrees.false
