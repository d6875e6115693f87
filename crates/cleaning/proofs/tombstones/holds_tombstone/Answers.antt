use native.Mathlib.Omega.{arith}
use Rattle.cleaning.specs.EntriesLaws.{Meets}
use Rattle.cleaning.proofs.EntriesLaws.{meets, stops_end, stops-damage}
use Rattle.cleaning.proofs.TombstonesLaws.{tombstone-none, tombstone-found, tombstone-next}
use Rattle.cleaning.proofs.tombstones.holds_tombstone.Goals as goal
use Rattle.cleaning.proofs.tombstones.holds_tombstone.Goals.{In-Entry}

-- the entry that the turn meets
met : (c : In-Entry)
    → Meets c.args.edition c.args.s.now c.loop-header.at c.in-Entry.header
met c = meets _ _ _ _ c.next.ensures _ c.in-Entry.is

pub returns-then-header : goal.returns-then-header
returns-then-header c = tombstone-found _ _ _ _ c.loop-header.invariant (met (goal.at.returns-then-header c).In-Entry) c.if-header.true

pub behind-at-requires-clause-length_bound : goal.behind-at-requires-clause-length_bound
behind-at-requires-clause-length_bound c =
    omega (arith, met (goal.at.behind-at-requires-clause-length_bound c).In-Entry, c.requires)

pub loop-header-smaller : goal.loop-header-smaller
loop-header-smaller c = omega (arith, c.behind-at.ensures, met (goal.at.loop-header-smaller c).In-Entry)

pub loop-header-preserved : goal.loop-header-preserved
loop-header-preserved c =
    tombstone-next _ _ _ _ c.loop-header.invariant (met (goal.at.loop-header-preserved c).In-Entry) c.if-header.false _ c.behind-at.ensures

pub returns-in-End : goal.returns-in-End
returns-in-End c = tombstone-none _ _ _ _ c.loop-header.invariant (stops_end _ _ _ _ c.next.ensures c.in-End.is)

pub returns-in-Damage : goal.returns-in-Damage
returns-in-Damage c = tombstone-none _ _ _ _ c.loop-header.invariant (stops-damage _ _ _ _ c.next.ensures c.in-Damage.is)
