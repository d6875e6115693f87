-- `scanning::read::seek_in` meets its contract: a law for each return.
use mathlib.Core.Bool.{true}
use mathlib.Core.Path.{◌≡◌, sym, ◌∙◌}
use Rattle.record.specs.Reach.{holds_table}
use Rattle.scanning.specs.SeekingLaws.{seek-outside, seek-none, seek_found}
use Rattle.scanning.proofs.read.seek_in.Goals as goal
use Rattle.scanning.proofs.read.seek_in.Goals.{Else-not-holds_table}

held : (c : Else-not-holds_table) → let a = c.args in holds_table a.tables a.key.table ≡ true
held c = sym c.holds_table.ensures ∙ c.if-not-holds_table.false

pub returns-then-not-holds_table : goal.returns-then-not-holds_table
returns-then-not-holds_table c =
    let p = c.requires in
    seek-outside _ _ _ _ p.1 _ _ (sym c.holds_table.ensures ∙ c.if-not-holds_table.true)

pub returns-then-version-eq0 : goal.returns-then-version-eq0
returns-then-version-eq0 c =
    let p = c.requires in
    seek-none _ _ _ _ p.1 _ _ (held (goal.at.returns-then-version-eq0 c).Else-not-holds_table) _ c.newest-seen.ensures c.if-version-eq0.true

pub returns : goal.returns
returns c =
    let p = c.requires in
    seek_found _ _ _ _ p.1 _ _ (held (goal.at.returns c).Else-not-holds_table) _ c.newest-seen.ensures c.if-version-eq0.false _ c.found_at.ensures
