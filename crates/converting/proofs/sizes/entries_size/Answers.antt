use native.Mathlib.Omega.{arith}
use Rattle.segment.proofs.LayoutLaws.{width-high}
use Rattle.drive_log.specs.Lengths.{no-size-of-end}
use Rattle.converting.specs.PartLaws.{Sized, left-sized, left-unsized, left-past}
use Rattle.converting.specs.SizeLaws.{count-start, count-sized, count-end, count_small}
use Rattle.converting.proofs.sizes.entries_size.Goals as goal
use Rattle.converting.proofs.sizes.entries_size.Goals.{Else-length-eq0}

pub loop-at-init : goal.loop-at-init
loop-at-init c = rw c.digest_size-at.ensures (count-start _ _ _ c.requires.0, no-size-of-end _)

pub returns-then-length-eq0 : goal.returns-then-length-eq0
returns-then-length-eq0 c =
    let i = c.loop-at.invariant.0 in (
      count-end _ _ _ i (left-unsized i.left _ c.size_after-length.ensures c.if-length-eq0.true),
      count_small _ _ _ i c.requires.1,
    )

-- the entry that the turn passes
met : (c : Else-length-eq0)
    → Sized c.args.from c.args.part.now c.loop-at.at c.loop-at.invariant.0.entries c.size_after-length.result
met c = left-sized c.loop-at.invariant.0.left _ c.size_after-length.ensures c.if-length-eq0.false

pub overflow_sub-total : goal.overflow_sub-total
overflow_sub-total c = let z = met (goal.at.overflow_sub-total c).Else-length-eq0 in omega (arith, z.more.long, z.its-length, c.head_size.ensures)

pub overflow_add-total : goal.overflow_add-total
overflow_add-total c = let z = met (goal.at.overflow_add-total c).Else-length-eq0 in omega (arith, z.more.fits, z.its-length, c.requires.1, c.head_size-in-loop-at.ensures, width-high c.args.to)

pub overflow_add-total-in-loop-at : goal.overflow_add-total-in-loop-at
overflow_add-total-in-loop-at c = let z = met (goal.at.overflow_add-total-in-loop-at c).Else-length-eq0 in omega (arith, z.more.fits, z.its-length, c.requires.1, c.head_size-in-loop-at.ensures, width-high c.args.to, c.loop-at.invariant.0.small)

pub overflow_add-at : goal.overflow_add-at
overflow_add-at c = let z = met (goal.at.overflow_add-at c).Else-length-eq0 in omega (arith, z.more.fits, z.its-length, c.requires.1)

pub loop-at-smaller : goal.loop-at-smaller
loop-at-smaller c = let z = met (goal.at.loop-at-smaller c).Else-length-eq0 in omega (arith, z.more.fits, z.more.long, z.its-length)

pub loop-at-preserved : goal.loop-at-preserved
loop-at-preserved c = (rw (c.head_size.ensures, c.head_size-in-loop-at.ensures) (count-sized _ _ _ c.loop-at.invariant.0 (met (goal.at.loop-at-preserved c).Else-length-eq0)), c.size_after-length.ensures)

pub returns : goal.returns
returns c =
    let i = c.loop-at.invariant.0 in (
      count-end _ _ _ i (left-past i.left c.loop-at-test.false),
      count_small _ _ _ i c.requires.1,
    )
