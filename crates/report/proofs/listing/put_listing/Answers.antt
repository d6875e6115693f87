-- `report::listing::put_listing` meets its contract.
use mathlib.Core.Path.{sym, ap}
use native.Mathlib.Omega.{arith}
use Rattle.text.specs.Put.{put-length}
use Rattle.report.specs.Report.{head_line}
use Rattle.report.proofs.GatherLaws.{cells-few}
use Rattle.report.proofs.PutLaws.{within_same, within-then, within_more}
use Rattle.report.specs.LineLaws.{Listed}
use Rattle.report.proofs.LineLaws.{gathered-listed}
use Rattle.report.proofs.listing.put_listing.Goals as goal
use Rattle.report.proofs.listing.put_listing.Goals.{After-gather-keys}

-- what is gathered are the ranks of the present keys
listed : (c : After-gather-keys)
    → let a = c.args in Listed a.area.now a.rec c.gather-keys.new.ranks c.gather-keys.result
listed c = gathered-listed _ _ _ _ _ _ c.requires.0 c.gather-keys.auto.ranks c.gather-keys.ensures

pub gather-keys-requires : goal.gather-keys-requires
gather-keys-requires c =
    let ready = c.requires.0 in
    cells-few _ _ _ _ ready

pub overflow_cast-keys : goal.overflow_cast-keys
overflow_cast-keys c = record { fits = omega (arith, (listed (goal.at.overflow_cast-keys c).After-gather-keys).few) }

pub slice_bounds-ranks-end : goal.slice_bounds-ranks-end
slice_bounds-ranks-end c = (listed (goal.at.slice_bounds-ranks-end c).After-gather-keys).inside

pub slice_bounds-put_lines-end : goal.slice_bounds-put_lines-end
slice_bounds-put_lines-end c = sym (listed (goal.at.slice_bounds-put_lines-end c).After-gather-keys).long

pub put_lines-requires : goal.put_lines-requires
put_lines-requires c =
    let g = listed (goal.at.put_lines-requires c).After-gather-keys in
    let head = c.put_head-at.ensures in
    (c.requires.0, g.stands, omega (arith, g.few, g.long, head.within, put-length head.put, c.requires.1))

pub returns : goal.returns
returns c =
    let g = listed (goal.at.returns c).After-gather-keys in
    within_more (omega (arith, g.few, g.long))
    (within-then (within_same (ap (head_line _ _) g.counts) c.put_head-at.ensures) c.put_lines.ensures)
