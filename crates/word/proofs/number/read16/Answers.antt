-- `word::number::read16` meets its contract.
use native.Mathlib.Omega.{arith}
use Rattle.word.specs.Laws.{number-two}
use Rattle.word.proofs.number.read16.Goals as goal

pub returns : goal.returns
returns c = rw number-two (omega (arith, c.from_le_bytes.ensures))
