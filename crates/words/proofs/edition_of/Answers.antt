-- `words::edition_of` meets its contract.
use mathlib.Core.Path.{sym}
use native.Mathlib.Omega.{arith}
use Rattle.words.proofs.WordLaws.{first_of, second-of}
use Rattle.words.proofs.edition_of.Goals as goal

pub returns-in-2 : goal.returns-in-2
returns-in-2 c = sym (second-of _ (omega arith))

pub returns-in_default : goal.returns-in_default
returns-in_default c = sym (first_of _ (λ e. omega arith))
