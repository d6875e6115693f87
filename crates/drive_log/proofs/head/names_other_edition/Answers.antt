use mathlib.Core.Path.{refl, sym, ◌∙◌, ap}
use Rattle.segment.specs.Digest.{layout_in}
use Rattle.segment.specs.Layout.{Layout, same_layout}
use Rattle.model.specs.Log.{views_of}
use Rattle.model.specs.Recovery.{other_edition}
use Rattle.slot_map.specs.Bit.{named}
use Rattle.drive_log.specs.Heads.{other-skip, other-turn, other-found}
use Rattle.drive_log.proofs.head.names_other_edition.Goals as goal

pub loop-slot-init : goal.loop-slot-init
unfolding other_edition
loop-slot-init c = refl

pub loop-slot-preserved-then-not-is_named : goal.loop-slot-preserved-then-not-is_named
loop-slot-preserved-then-not-is_named c =
    other-skip _ _ _ _ (sym c.is_named.ensures ∙ c.if-not-is_named.true) c.loop-slot.invariant

pub returns-then-not-same_edition : goal.returns-then-not-same_edition
returns-then-not-same_edition c =
    let a = c.args in
    other-found a.edition (views_of a.area.now a.s) (named a.map) _ _
    (c.same_edition.ensures ∙ ap (λ (L : Layout). same_layout L a.edition) (c.edition_of.ensures ∙ ap layout_in c.cut.ensures))
    c.if-not-same_edition.true (sym c.is_named.ensures ∙ c.if-not-is_named.false) _
    c.loop-slot-test.true

pub loop-slot-preserved : goal.loop-slot-preserved
loop-slot-preserved c =
    let a = c.args in
    other-turn a.edition (views_of a.area.now a.s) (named a.map) c.loop-slot.slot _
    (c.same_edition.ensures ∙ ap (λ (L : Layout). same_layout L a.edition) (c.edition_of.ensures ∙ ap layout_in c.cut.ensures))
    c.if-not-same_edition.false c.loop-slot.invariant
