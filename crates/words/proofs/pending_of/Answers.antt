-- `words::pending_of` meets its contract.
use mathlib.Core.Path.{sym}
use native.Mathlib.Omega.{arith}
use Rattle.words.proofs.WordLaws.{of-append, of-head, of-clean, of-forget, of-rest}
use Rattle.words.proofs.pending_of.Goals as goal

pub returns-in-1 : goal.returns-in-1
returns-in-1 c = sym (of-append _ _ _ _ _ (omega arith))

pub returns-in-2 : goal.returns-in-2
returns-in-2 c = sym (of-head _ _ _ _ _ (omega arith))

pub returns-in-3 : goal.returns-in-3
returns-in-3 c = sym (of-clean _ _ _ _ _ (omega arith))

pub returns-in-4 : goal.returns-in-4
returns-in-4 c = sym (of-forget _ _ _ _ _ (omega arith))

pub returns-in_default : goal.returns-in_default
returns-in_default c = sym (of-rest _ _ _ _ _ (λ e. omega arith) (λ e. omega arith) (λ e. omega arith) (λ e. omega arith))
