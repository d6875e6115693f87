use Prim.Native.Nat.{ℕ, ◌+◌, ◌≤◌}
use mathlib.Core.Path.{sym}
use mathlib.Core.List.{List}
use native.Mathlib.Omega.{arith}
use Rattle.segment.proofs.EntriesLaws.{next-end, next-damage}
use Rattle.slot_map.specs.Bit.{named}
use Rattle.model.specs.Log.{views_of, log_of, Placed}
use Rattle.laws.specs.Versions.{count}
use Rattle.drive_log.specs.Shape.{own-layout, own-scan}
use Rattle.drive_log.specs.Extents.{Meets, meets}
use Rattle.drive_log.specs.Filter.{filter-start, slot-filtered, filter-stands, filter-turn, filter-end, filter-damage, slot-inside-log}
use Rattle.drive_log.proofs.versions.filter_slot.Goals as goal
use Rattle.drive_log.proofs.versions.filter_slot.Goals.{In-Entry, Start}

pub loop-header-init : goal.loop-header-init
loop-header-init c =
    let a = c.args in
    rw c.digest_size-at.ensures
    (filter-start _ (views_of a.area.now a.s) (named a.map) a.slot _ _ _ _ c.requires.entering
    (sym (own-layout a.area.now a.s a.slot _ c.cut-part.ensures _ c.edition_of-edition.ensures))
    (sym (own-scan a.area.now a.s a.slot _ c.cut-part.ensures _ c.edition_of-edition.ensures)))

-- the log of the slots below k
abbrev below : Start → ℕ → List Placed
below c k = log_of (views_of c.args.area.now c.args.s) (named c.args.map) k

within : (c : Start) (u : ℕ) → count u (below c (c.args.slot + 1)) ≤ count u (below c c.args.n)
within c = slot-inside-log _ _ _ _ c.requires.entering.below

-- the entry that the turn passes
met : (c : In-Entry)
    → Meets c.edition_of-edition.result c.cut-part.result.now c.loop-header.at c.in-Entry.header.version.0 c.in-Entry.header.length
met c = meets _ _ _ _ c.next.ensures _ c.in-Entry.is

pub pass-requires-clause-bound : goal.pass-requires-clause-bound
pass-requires-clause-bound c =
    let at = goal.at.pass-requires-clause-bound c in
    filter-stands _ _ _ _ _ _ _ _ c.loop-header.invariant (within at.Start) (met at.In-Entry)

pub overflow_add-at : goal.overflow_add-at
overflow_add-at c = omega (arith, met (goal.at.overflow_add-at c).In-Entry)

pub loop-header-smaller : goal.loop-header-smaller
loop-header-smaller c = omega (arith, met (goal.at.loop-header-smaller c).In-Entry)

pub loop-header-preserved : goal.loop-header-preserved
loop-header-preserved c = filter-turn _ _ _ _ _ _ _ _ c.loop-header.invariant (within (goal.at.loop-header-preserved c).Start) (met (goal.at.loop-header-preserved c).In-Entry) _ _ _ c.pass.ensures.suspecting c.if-pass.false c.pass.ensures.now

pub returns-in-End : goal.returns-in-End
returns-in-End c = slot-filtered _ _ (filter-end _ _ _ _ _ _ _ _ c.loop-header.invariant (next-end _ _ _ _ c.next.ensures c.in-End.is))

pub returns-in-Damage : goal.returns-in-Damage
returns-in-Damage c = absurd (filter-damage _ _ _ _ _ _ _ _ c.loop-header.invariant (next-damage _ _ _ _ c.next.ensures c.in-Damage.is))
