use mathlib.Core.Path.{refl}
use Rattle.model.specs.Log.{head_of}
use Rattle.drive_log.specs.Shape.{digest-inside}
use Rattle.drive_log.specs.Heads.{told, head-turn}
use Rattle.drive_log.proofs.head.find_head.Goals as goal

pub loop-slot-init : goal.loop-slot-init
unfolding told head_of
loop-slot-init c = refl

pub later-best-requires : goal.later-best-requires
later-best-requires c = digest-inside c.requires _ c.loop-slot-test.true _ c.cut.ensures

pub loop-slot-preserved : goal.loop-slot-preserved
loop-slot-preserved c =
    head-turn c.args.area.now c.args.s _ _ c.cut.ensures _ _ c.loop-slot.invariant c.later-best.ensures
