use mathlib.Core.Path.{sym, ◌∙◌}
use Rattle.drive_log.specs.Shape.{inside}
use Rattle.scanning.specs.SeeingLaws.{walk_none, walk-skip, walk-take}
use Rattle.scanning.proofs.newest.newest.Goals as goal

pub loop-slot-init : goal.loop-slot-init
loop-slot-init c = walk_none _ _ _ _

pub loop-slot-preserved-then-not-is_named : goal.loop-slot-preserved-then-not-is_named
loop-slot-preserved-then-not-is_named c =
    walk-skip _ _ _ _ _ _ c.loop-slot.invariant (sym c.is_named.ensures ∙ c.if-not-is_named.true)

pub see_slot-seen-requires : goal.see_slot-seen-requires
see_slot-seen-requires c =
    record {
      s_in_bounds = inside c.requires.shape _ c.loop-slot-test.true;
      slot_value = c.requires.all_scanned _ c.loop-slot-test.true (sym c.is_named.ensures ∙ c.if-not-is_named.false);
    }

pub loop-slot-preserved : goal.loop-slot-preserved
loop-slot-preserved c =
    walk-take _ _ _ _ _ _ c.loop-slot.invariant (sym c.is_named.ensures ∙ c.if-not-is_named.false) _ c.see_slot-seen.ensures
