-- `word::number::read64` meets its contract.
use native.Mathlib.Omega.{arith}
use Rattle.word.specs.Laws.{number-eight}
use Rattle.word.proofs.number.read64.Goals as goal

pub returns : goal.returns
returns c = rw number-eight (omega (arith, c.from_le_bytes.ensures))
