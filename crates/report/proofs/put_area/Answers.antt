-- `report::put_area` meets its contract: an arm for each answer of recovery.
use mathlib.Core.Path.{refl}
use native.Mathlib.Omega.{arith}
use Rattle.word.specs.Number.{Bytes}
use Rattle.report.proofs.PutLaws.{within_same, within_more}
use Rattle.report.proofs.Recovered.{text-refused, text-recovered, recovered-ready}
use Rattle.report.proofs.put_area.Goals as goal

pub put_listing-requires : goal.put_listing-requires
put_listing-requires c =
    let bytes : Bytes c.args.area.now = λ i. omega (arith, c.type_inv.area i) in (
      recovered-ready _ _ _ _ _ _ refl c.recover_area-recovery.ensures c.in-Ok.is (bytes),
      c.requires,
    )

pub returns-in-Err : goal.returns-in-Err
returns-in-Err c =
    within_more (omega arith)
    (within_same (text-refused _ _ _ _ _ _ refl c.recover_area-recovery.ensures _ c.in-Err.is) c.put_refused.ensures)

pub returns-in-Ok : goal.returns-in-Ok
returns-in-Ok c = within_same (text-recovered _ _ _ _ _ _ refl c.recover_area-recovery.ensures c.in-Ok.is) c.put_listing.ensures
