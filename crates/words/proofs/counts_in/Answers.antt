-- `words::counts_in` meets its contract.
use native.Mathlib.Omega.{arith}
use Rattle.words.proofs.WordLaws.{copied-counts}
use Rattle.words.proofs.counts_in.Goals as goal

pub returns : goal.returns
returns c = copied-counts c.args.words.now _ (omega arith) c.copy_words.ensures
