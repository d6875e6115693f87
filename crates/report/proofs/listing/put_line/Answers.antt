-- `report::listing::put_line` meets its contract: an arm for each answer of the lookup.
use mathlib.Core.Path.{◌≡◌, sym, ◌∙◌, ap}
use Rattle.model.specs.Log.{present}
use Rattle.model.specs.Operations.{log_now}
use Rattle.report.specs.Report.{line_of}
use Rattle.report.specs.LineLaws.{line_found}
use Rattle.report.proofs.LineLaws.{line-found}
use Rattle.report.proofs.PutLaws.{within_same, within_none}
use Rattle.report.proofs.listing.put_line.Goals as goal
use Rattle.report.proofs.listing.put_line.Goals.{After-find}

-- the line of what was found
line : (c : After-find)
    → let a = c.args in line_found a.key c.find.result ≡ line_of a.key (present (log_now a.area.now a.rec) a.key)
line c = line-found _ _ _ _ _ _ c.requires.0 c.find.ensures

pub returns-in-Ok : goal.returns-in-Ok
unfolding line_found
returns-in-Ok c = within_same (sym (ap (line_found _) c.in-Ok.is) ∙ line (goal.at.returns-in-Ok c).After-find) c.put_key.ensures

pub returns-in-Err : goal.returns-in-Err
unfolding line_found
returns-in-Err c = within_same (sym (ap (line_found _) c.in-Err.is) ∙ line (goal.at.returns-in-Err c).After-find) (within_none _ _ _)
