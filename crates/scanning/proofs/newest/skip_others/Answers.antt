use Prim.Native.Nat.{ℕ}
use native.Mathlib.Omega.{arith}
use Rattle.drive_log.specs.Extents.{Meets}
use Rattle.drive_log.specs.Lengths.{no-size-of-end}
use Rattle.scanning.specs.SeeingLaws.{skip-none, skip-turn, kind_meets}
use Rattle.scanning.proofs.newest.skip_others.Goals as goal
use Rattle.scanning.proofs.newest.skip_others.Goals.{Else-length-eq0}

pub loop-at-init : goal.loop-at-init
loop-at-init c = (skip-none _ _ _ _ c.requires, no-size-of-end _)

-- the entry that the turn passes
met : (c : Else-length-eq0)
    → (v : ℕ) × Meets c.args.edition c.args.part.now c.loop-at.at v c.size_after-length.result
met c = kind_meets _ _ _ c.loop-at.invariant.0.sound _ c.size_after-length.ensures c.if-length-eq0.false

pub overflow_add-at : goal.overflow_add-at
overflow_add-at c = omega (arith, (met c).1.fits)

pub read32-requires : goal.read32-requires
read32-requires c = omega (arith, (met c).1.its-size, (met c).1.fits)

pub overflow_add-at-in-loop-at : goal.overflow_add-at-in-loop-at
overflow_add-at-in-loop-at c = omega (arith, (met (goal.at.overflow_add-at-in-loop-at c).Else-length-eq0).1.fits)

pub loop-at-smaller : goal.loop-at-smaller
loop-at-smaller c = omega (arith, (met (goal.at.loop-at-smaller c).Else-length-eq0).1.fits, (met (goal.at.loop-at-smaller c).Else-length-eq0).1.some_byte)

pub loop-at-preserved : goal.loop-at-preserved
loop-at-preserved c = (
  skip-turn _ _ _ _ c.loop-at.invariant.0 (met (goal.at.loop-at-preserved c).Else-length-eq0).1 _ c.read32.ensures c.if-read32-key.false,
  c.size_after-length.ensures,
)
