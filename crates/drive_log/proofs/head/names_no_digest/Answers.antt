use mathlib.Core.Path.{refl, sym, ◌∙◌}
use Rattle.model.specs.Recovery.{names_no_digest}
use Rattle.slot_map.specs.Bit.{named}
use Rattle.drive_log.specs.Heads.{names-skip, names-turn, names-found}
use Rattle.drive_log.proofs.head.names_no_digest.Goals as goal

pub loop-slot-init : goal.loop-slot-init
unfolding names_no_digest
loop-slot-init c = refl

pub loop-slot-preserved-then-not-is_named : goal.loop-slot-preserved-then-not-is_named
loop-slot-preserved-then-not-is_named c =
    names-skip _ _ _ (sym c.is_named.ensures ∙ c.if-not-is_named.true) c.loop-slot.invariant

pub returns-then-not-is_digest : goal.returns-then-not-is_digest
returns-then-not-is_digest c =
    let a = c.args in
    names-found a.area.now a.s _ _ c.cut.ensures _ c.is_digest.ensures (named a.map) c.if-not-is_digest.true
    (sym c.is_named.ensures ∙ c.if-not-is_named.false) _ c.loop-slot-test.true

pub loop-slot-preserved : goal.loop-slot-preserved
loop-slot-preserved c =
    names-turn c.args.area.now c.args.s c.loop-slot.slot _ c.cut.ensures _ c.is_digest.ensures (named c.args.map) c.if-not-is_digest.false c.loop-slot.invariant
