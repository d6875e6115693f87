-- `report::dump` meets its contract.
use native.Mathlib.Omega.{arith}
use Rattle.report.proofs.PutLaws.{within_same, within_none, within_more}
use Rattle.report.proofs.DumpLaws.{text-none, text-short, text-area}
use Rattle.report.proofs.dump.Goals as goal

pub returns-then-out-lt-ROOM : goal.returns-then-out-lt-ROOM
returns-then-out-lt-ROOM c = within_same (text-none _ _ c.if-out-lt-ROOM.true) (within_none _ _ _)

pub returns-then-input-lt3 : goal.returns-then-input-lt3
returns-then-input-lt3 c = within_more (omega arith) (within_same (text-short _ _ c.if-out-lt-ROOM.false c.if-input-lt3.true) c.put_refused.ensures)

pub overflow_cast-n : goal.overflow_cast-n
overflow_cast-n c = omega (arith, c.type_inv.input 0)

pub returns : goal.returns
returns c = within_more (omega arith) (within_same (text-area _ _ c.if-out-lt-ROOM.false c.if-input-lt3.false _ c.read16-s.ensures) c.put_area.ensures)
