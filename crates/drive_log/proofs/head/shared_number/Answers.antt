use Prim.Native.Nat.{◌+◌}
use mathlib.Core.Path.{refl}
use native.Mathlib.Omega.{arith}
use Rattle.model.specs.Log.{views_of}
use Rattle.model.specs.Recovery.{sharing}
use Rattle.drive_log.specs.Shape.{digest-inside}
use Rattle.drive_log.specs.Heads.{number-turn, sharing-le}
use Rattle.drive_log.proofs.head.shared_number.Goals as goal

pub loop-slot-init : goal.loop-slot-init
unfolding sharing
loop-slot-init c = refl

pub has_number-count-requires : goal.has_number-count-requires
has_number-count-requires c = digest-inside c.requires _ c.loop-slot-test.true _ c.cut.ensures

pub overflow_add-count : goal.overflow_add-count
overflow_add-count c =
    let a = c.args in
    let i = c.loop-slot.slot in
    omega (
      arith,
      c.requires,
      number-turn a.area.now a.s i _ c.cut.ensures a.number.0 _ _ c.loop-slot.invariant c.has_number-count.ensures,
      sharing-le (views_of a.area.now a.s) a.number.0 (i + 1),
    )

pub loop-slot-preserved : goal.loop-slot-preserved
loop-slot-preserved c =
    number-turn c.args.area.now c.args.s c.loop-slot.slot _ c.cut.ensures _ _ _ c.loop-slot.invariant c.has_number-count.ensures
