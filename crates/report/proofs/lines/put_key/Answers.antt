-- `report::lines::put_key` meets its contract.
use Rattle.report.proofs.PutLaws.{within-then}
use Rattle.report.proofs.lines.put_key.Goals as goal

pub returns : goal.returns
returns c =
    within-then
    (within-then (within-then c.put_field-at.ensures c.put_field-at-2.ensures) c.put_field-at-3.ensures)
    c.put_field.ensures
