-- `report::lines::put_head` meets its contract.
use native.Mathlib.Omega.{arith}
use Rattle.report.proofs.PutLaws.{within-then, within-put, within_more}
use Rattle.report.proofs.lines.put_head.Goals as goal

pub returns : goal.returns
returns c =
    within_more (omega arith)
    (within-then
    (within-then (within-then (within-put c.put-at.ensures) c.put_field-at.ensures) c.put_field-at-2.ensures)
    c.put_field.ensures)
