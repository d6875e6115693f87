-- `report::lines::put_refused` meets its contract.
use Prim.Native.Nat.{ℕ}
use mathlib.Core.Path.{ap}
use Rattle.text.specs.Ascii.{ascii}
use native.Mathlib.Omega.{arith}
use Rattle.report.specs.Report.{field}
use Rattle.report.proofs.PutLaws.{within-put, within_same, within-then, within_more}
use Rattle.report.proofs.lines.put_refused.Goals as goal

pub returns : goal.returns
returns c =
    within_more (omega arith)
    (within-then (within-put c.put-at.ensures)
    (within_same (ap (λ (n : ℕ). field n (ascii "\n")) c.number.ensures) c.put_field.ensures))
