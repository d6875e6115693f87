use Prim.Native.Nat.{ℕ}
use mathlib.Core.Path.{◌∙◌, ap}
use native.Mathlib.Omega.{arith}
use Rattle.segment.proofs.EntriesLaws.{next-end, next-damage}
use Rattle.model.specs.Log.{end_of}
use Rattle.drive_log.specs.Extents.{rest_of, rest-whole, Meets, meets, end-turn, end-here, end-damage}
use Rattle.drive_log.proofs.scan.end_of.Goals as goal
use Rattle.drive_log.proofs.scan.end_of.Goals.{In-Entry}

pub loop-header-init : goal.loop-header-init
loop-header-init c =
    let a = c.args in
    ap (λ (n : ℕ). end_of (rest_of a.edition a.part.now n)) c.digest_size-at.ensures ∙ ap end_of (rest-whole a.edition a.part.now)

-- the entry that the turn passes
met : (c : In-Entry)
    → Meets c.args.edition c.args.part.now c.loop-header.at c.in-Entry.header.version.0 c.in-Entry.header.length
met c = meets _ _ _ _ c.next.ensures _ c.in-Entry.is

pub overflow_add-at : goal.overflow_add-at
overflow_add-at c = omega (arith, met (goal.at.overflow_add-at c).In-Entry)

pub loop-header-smaller : goal.loop-header-smaller
loop-header-smaller c = omega (arith, met (goal.at.loop-header-smaller c).In-Entry)

pub loop-header-preserved : goal.loop-header-preserved
loop-header-preserved c = end-turn _ _ _ _ c.loop-header.invariant (met (goal.at.loop-header-preserved c).In-Entry)

pub returns-in-End : goal.returns-in-End
returns-in-End c = end-here _ _ _ _ c.loop-header.invariant (next-end _ _ _ _ c.next.ensures c.in-End.is)

pub returns-in-Damage : goal.returns-in-Damage
returns-in-Damage c = end-damage _ _ _ _ c.loop-header.invariant (next-damage _ _ _ _ c.next.ensures c.in-Damage.is)
