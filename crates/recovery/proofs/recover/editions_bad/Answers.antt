-- `recovery::recover::editions_bad` meets its contract.
use mathlib.Core.Path.{sym, ◌∙◌, ap}
use mathlib.Core.Bool.{Bool}
use Rattle.slot_map.specs.Bit.{named}
use Rattle.model.specs.Log.{views_of}
use Rattle.recovery.specs.Recovering.{editions_bad}
use Rattle.recovery.proofs.recover.editions_bad.Goals as goal

pub returns-then-single : goal.returns-then-single
returns-then-single c =
    let a = c.args in
    c.names_other_edition.ensures ∙ ap (λ (t : Bool). editions_bad t a.edition (views_of a.area.now a.s) (named a.map) a.n) (sym c.if-single.true)

pub returns : goal.returns
returns c =
    let a = c.args in
    c.names_later_edition.ensures ∙ ap (λ (t : Bool). editions_bad t a.edition (views_of a.area.now a.s) (named a.map) a.n) (sym c.if-single.false)
