use Prim.Native.Nat.{◌+◌, ◌≤◌, ◌<◌}
use native.Mathlib.Omega.{arith}
use lib.ListN.{length}
use borrow.Author.Rules.{rules}
use Rattle.segment.proofs.LayoutLaws.{width-high}
use Rattle.segment.proofs.EntriesLaws.{next_fits}
use Rattle.counting.specs.CountingLaws.{bytes-start, bytes-more, bytes-at-end, bytes-at-damage, header-most}
use Rattle.counting.proofs.bytes_in.Goals as goal
use Rattle.counting.proofs.bytes_in.Goals.{After-object_bytes-sum, In-Entry}

pub loop-header-init : goal.loop-header-init
loop-header-init c = (search rules, omega (arith, c.digest_size-at.ensures, width-high c.args.edition), bytes-start _ _ _ c.digest_size-at.ensures)

-- an entry that is met lies within the segment, and an object's bytes are no more than its length
fits : (c : In-Entry) →
    (0 < c.in-Entry.header.length)
    × (c.loop-header.at + c.in-Entry.header.length ≤ length c.args.s.now)
fits c = next_fits _ _ _ _ c.next.ensures _ c.in-Entry.is

few : (c : After-object_bytes-sum) → c.object_bytes-sum.result ≤ c.in-Entry.header.length
few c = omega (arith, c.object_bytes-sum.ensures, header-most c.in-Entry.header)

pub overflow_add-sum : goal.overflow_add-sum
overflow_add-sum c = record { fits = omega (arith, few c, fits (goal.at.overflow_add-sum c).In-Entry, c.loop-header.invariant, c.requires) }

pub overflow_add-at : goal.overflow_add-at
overflow_add-at c = record { fits = omega (arith, fits (goal.at.overflow_add-at c).In-Entry, c.requires) }

pub loop-header-smaller : goal.loop-header-smaller
loop-header-smaller c = omega (arith, fits (goal.at.loop-header-smaller c).In-Entry, c.requires)

pub loop-header-preserved : goal.loop-header-preserved
loop-header-preserved c =
    let inside = fits (goal.at.loop-header-preserved c).In-Entry in (
      omega (arith, few (goal.at.loop-header-preserved c).After-object_bytes-sum, c.loop-header.invariant.0),
      omega (arith, inside, c.requires),
      omega (arith, c.object_bytes-sum.ensures, bytes-more _ _ _ _ c.next.ensures _ c.in-Entry.is, c.loop-header.invariant.2),
    )

pub returns-in-End : goal.returns-in-End
returns-in-End c =
    (omega (arith, bytes-at-end _ _ _ _ c.next.ensures c.in-End.is, c.loop-header.invariant.2), omega (arith, c.loop-header.invariant))

pub returns-in-Damage : goal.returns-in-Damage
returns-in-Damage c =
    (omega (arith, bytes-at-damage _ _ _ _ c.next.ensures c.in-Damage.is, c.loop-header.invariant.2), omega (arith, c.loop-header.invariant))
