-- `kurdavel::scan::kurdavel_scan_read` meets its contract.
use mathlib.Core.Path.{refl}
use Rattle.scanning.specs.Seeking.{answer_of}
use Rattle.kurdavel.specs.CrossingLaws.{scan-crossed}
use Rattle.kurdavel.proofs.scan.kurdavel_scan_read.Goals as goal

pub returns-in-Err : goal.returns-in-Err
unfolding answer_of
returns-in-Err c =
    scan-crossed c.seek.ensures c.in-Err.is c.number.ensures refl refl

pub returns-in-Ok : goal.returns-in-Ok
unfolding answer_of
returns-in-Ok c = scan-crossed c.seek.ensures c.in-Ok.is refl refl refl
