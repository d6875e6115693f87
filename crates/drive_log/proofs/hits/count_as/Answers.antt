use Prim.Native.Nat.{◌+◌}
use mathlib.Core.Path.{◌∙◌, ap}
use native.Mathlib.Omega.{arith}
use Rattle.segment.proofs.EntriesLaws.{next-end, next-damage}
use mathlib.Core.Bool.{not}
use Rattle.std.specs.Prelude.{eqb}
use Rattle.drive_log.specs.Editions.{edition_if}
use Rattle.drive_log.specs.Extents.{Meets, meets, rest-whole}
use Rattle.drive_log.specs.Tables.{one-pick}
use Rattle.drive_log.specs.Counts.{count_from, Counting, count_turn, count-end, count-damage}
use Rattle.drive_log.proofs.hits.count_as.Given as given
use Rattle.drive_log.proofs.hits.count_as.Goals as goal
use Rattle.drive_log.proofs.hits.count_as.Goals.{After-from-count, In-Entry}

pub loop-header-init : goal.loop-header-init
loop-header-init g c = rw (c.digest_size-at.ensures, c.edition_if-edition.ensures) (record { whole = ap (count_from _ 0) (rest-whole _ _); passed = omega arith })

-- the entry that the turn passes
met : (g : given.Over) (c : In-Entry g)
    → Meets (edition_if (not (eqb g.row.SECOND 0))) c.args.part.now c.loop-header.at c.in-Entry.header.version.0 c.in-Entry.header.length
met g c = rw (← c.edition_if-edition.ensures) (meets _ _ _ _ c.next.ensures _ c.in-Entry.is)

pub overflow_add-at : goal.overflow_add-at
overflow_add-at g c = omega (arith, met g (goal.at.overflow_add-at g c).In-Entry)

-- the count with it
turned : (g : given.Over) (c : After-from-count g)
    → Counting (edition_if (not (eqb g.row.SECOND 0))) c.args.part.now c.args.table.now (c.loop-header.at + c.in-Entry.header.length)
    (c.loop-header.count + c.from-count.result)
turned g c = count_turn _ _ _ _ _ c.loop-header.invariant (rw (← c.edition_if-edition.ensures) (meets _ _ _ _ c.next.ensures _ c.in-Entry.is)) _ c.is_suspect.ensures _ (c.from-count.ensures ∙ one-pick _)

pub overflow_add-count : goal.overflow_add-count
overflow_add-count g c = omega (arith, met g (goal.at.overflow_add-count g c).In-Entry, turned g c)

pub loop-header-smaller : goal.loop-header-smaller
loop-header-smaller g c = omega (arith, met g (goal.at.loop-header-smaller g c).In-Entry)

pub loop-header-preserved : goal.loop-header-preserved
loop-header-preserved g c = turned g c

pub returns-in-End : goal.returns-in-End
returns-in-End g c = count-end _ _ _ _ _ c.loop-header.invariant (rw (← c.edition_if-edition.ensures) (next-end _ _ _ _ c.next.ensures c.in-End.is))

pub returns-in-Damage : goal.returns-in-Damage
returns-in-Damage g c = count-damage _ _ _ _ _ c.loop-header.invariant (rw (← c.edition_if-edition.ensures) (next-damage _ _ _ _ c.next.ensures c.in-Damage.is))
