-- `report::lines::put_field` meets its contract.
use native.Mathlib.Omega.{arith}
use Rattle.text.specs.Put.{put-length}
use Rattle.report.proofs.PutLaws.{number-room, field-within}
use Rattle.report.proofs.lines.put_field.Goals as goal

pub put_number-end-requires : goal.put_number-end-requires
put_number-end-requires g c = omega (arith, number-room _ c.args.n c.requires.0 c.requires.1, c.requires.2)

pub put-requires : goal.put-requires
put-requires g c =
    let number = c.put_number-end.ensures in
    omega (arith, number-room _ c.args.n c.requires.0 c.requires.1, number.end, put-length number, c.requires.2)

pub returns : goal.returns
returns g c = field-within _ (number-room _ _ c.requires.0 c.requires.1) c.put_number-end.ensures c.put.ensures
