-- `report::gather::add_cell` meets its contract.
use mathlib.Core.Path.{◌≡◌, ◌∙◌, ap, sym}
use mathlib.Core.Option.{some}
use Rattle.report.specs.Gather.{cell_rank, rank_read}
use Rattle.report.proofs.GatherLaws.{cell_free, cell-read}
use Rattle.report.proofs.Inserting.{adds_none, adds-rank}
use Rattle.report.proofs.gather.add_cell.Goals as goal
use Rattle.report.proofs.gather.add_cell.Goals.{After-entry_at}

-- what the reader answered, as what the cell gives
given : (c : After-entry_at) → let a = c.args in cell_rank a.area.now a.cell ≡ rank_read c.entry_at.result
given c = cell-read _ _ _ c.if-cell-eq0.false c.entry_at.ensures

pub returns-then-cell-eq0 : goal.returns-then-cell-eq0
returns-then-cell-eq0 c = adds_none _ _ (cell_free _ _ c.if-cell-eq0.true)

pub returns-in-Object : goal.returns-in-Object
unfolding rank_read
returns-in-Object c =
    adds-rank (given (goal.at.returns-in-Object c).After-entry_at ∙ ap rank_read c.in-Object.is ∙ ap some (sym c.rank.ensures))
    c.insert.ensures

pub returns-in-Tombstone : goal.returns-in-Tombstone
unfolding rank_read
returns-in-Tombstone c = adds_none _ _ (given (goal.at.returns-in-Tombstone c).After-entry_at ∙ ap rank_read c.in-Tombstone.is)

pub returns-in-End : goal.returns-in-End
unfolding rank_read
returns-in-End c = adds_none _ _ (given (goal.at.returns-in-End c).After-entry_at ∙ ap rank_read c.in-End.is)

pub returns-in-Damage : goal.returns-in-Damage
unfolding rank_read
returns-in-Damage c = adds_none _ _ (given (goal.at.returns-in-Damage c).After-entry_at ∙ ap rank_read c.in-Damage.is)
