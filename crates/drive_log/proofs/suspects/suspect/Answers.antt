-- `drive_log::suspects::suspect` meets its contract.
use Prim.Native.Nat.{◌≤◌, ◌<◌}
use mathlib.Core.Path.{sym, ◌∙◌}
use mathlib.Core.List.{List}
use Rattle.slot_map.specs.Bit.{named}
use Rattle.model.specs.Log.{Placed, views_of, log_of}
use Rattle.laws.specs.Versions.{count}
use Rattle.drive_log.specs.Tables.{vacant}
use Rattle.drive_log.specs.Suspects.{Suspects, suspect-put, suspect-anew, look-alone, w-below}
use Rattle.drive_log.proofs.suspects.suspect.Goals as goal
use Rattle.drive_log.proofs.suspects.suspect.Goals.{Start}

-- the whole log, its suspects, and the entry that has the version
abbrev log : Start → List Placed
log c = log_of (views_of c.args.area.now c.args.s) (named c.args.map) c.args.n

held : (c : Start) → Suspects (log c) c.args.table.now
held c = c.requires.suspects

stands : (c : Start) → 1 ≤ count c.args.version.0 (log c)
stands c = c.requires.bound

below : (c : Start) → c.args.version.0 < vacant
below c = w-below _ _ (held c) _ (stands c)

pub insert-requires-clause-version_lt_vacant : goal.insert-requires-clause-version_lt_vacant
insert-requires-clause-version_lt_vacant c = below (goal.at.insert-requires-clause-version_lt_vacant c).Start

pub returns-then-table : goal.returns-then-table
returns-then-table c = suspect-put _ _ (held (goal.at.returns-then-table c).Start) _ (stands (goal.at.returns-then-table c).Start) (sym c.stands_at.ensures ∙ c.if-stands_at.false) _ c.insert.ensures

pub insert-requires-2-clause-version_lt_vacant : goal.insert-requires-2-clause-version_lt_vacant
insert-requires-2-clause-version_lt_vacant c = below (goal.at.insert-requires-2-clause-version_lt_vacant c).Start

pub returns : goal.returns
returns c =
    let h = held (goal.at.returns c).Start in
    suspect-anew _ _ h _ (stands (goal.at.returns c).Start) (look-alone _ _ h _ c.suspect_shared.ensures c.if-suspect_shared.false) _ c.clear.ensures _ c.insert-2.ensures
