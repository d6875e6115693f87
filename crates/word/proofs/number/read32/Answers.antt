-- `word::number::read32` meets its contract.
use native.Mathlib.Omega.{arith}
use Rattle.word.specs.Laws.{number-four}
use Rattle.word.proofs.number.read32.Goals as goal

pub returns : goal.returns
returns c = rw number-four (omega (arith, c.from_le_bytes.ensures))
