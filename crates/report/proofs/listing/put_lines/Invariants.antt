-- `report::listing::put_lines` meets its contract. The invariant: to put the lines of the keys that are left is to have put them all.
use Rattle.model.specs.Operations.{log_now}
use Rattle.report.specs.Listing.{present_keys}
use Rattle.report.specs.LineLaws.{LinesLeft}
use Rattle.report.proofs.listing.put_lines.Given as goal

abbrev pub invariant-loop-rank : goal.invariant-loop-rank
invariant-loop-rank l =
    LinesLeft (log_now l.area l.rec) (present_keys (log_now l.area l.rec)) l.initial.out l.at l.out l.end l.rank-index
