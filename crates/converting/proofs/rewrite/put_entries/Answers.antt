use native.Mathlib.Omega.{arith}
use Rattle.converting.specs.PartLaws.{More, left-more, left-none, left-sound}
use Rattle.converting.specs.RewriteLaws.{put-start, put-room, put-turn, put-end}
use Rattle.converting.proofs.rewrite.put_entries.Goals as goal
use Rattle.converting.proofs.rewrite.put_entries.Goals.{In-Entry}

pub loop-header-init : goal.loop-header-init
loop-header-init c = rw c.digest_size-at.ensures (put-start _ _ _ _ _ c.requires.part_value)

met : (c : In-Entry)
    → More c.args.from c.args.part.now c.loop-header.at c.loop-header.invariant.entries c.in-Entry.header
met c = left-more c.loop-header.invariant.left _ c.next.ensures _ c.in-Entry.is

pub put_entry-place-requires : goal.put_entry-place-requires
put_entry-place-requires c =
    let m = met (goal.at.put_entry-place-requires c).In-Entry in
    record {
      length_in_bounds = m.fits;
      from_bound = m.long;
      from_in_bounds = put-room _ _ _ _ _ c.loop-header.invariant m c.requires.part_in_bounds;
    }

pub overflow_add-at : goal.overflow_add-at
overflow_add-at c = omega (arith, (met (goal.at.overflow_add-at c).In-Entry).fits)

pub loop-header-smaller : goal.loop-header-smaller
loop-header-smaller c = omega (arith, (met (goal.at.loop-header-smaller c).In-Entry).fits, (met (goal.at.loop-header-smaller c).In-Entry).long)

pub loop-header-preserved : goal.loop-header-preserved
loop-header-preserved c = put-turn _ _ _ _ _ c.loop-header.invariant (met (goal.at.loop-header-preserved c).In-Entry) _ _ c.put_entry-place.ensures

pub returns-in-End : goal.returns-in-End
returns-in-End c = put-end _ _ _ _ _ c.loop-header.invariant (left-none c.loop-header.invariant.left _ c.next.ensures c.in-End.is)

pub returns-in-Damage : goal.returns-in-Damage
returns-in-Damage c = absurd (left-sound c.loop-header.invariant.left _ c.next.ensures c.in-Damage.is)
