-- `words::pending_fits` meets its contract.
use mathlib.Core.Path.{sym, ◌∙◌}
use native.Mathlib.Omega.{arith}
use Rattle.record.specs.RangeLaws.{ends, goes}
use Rattle.words.proofs.WordLaws.{fits-idle, fits-append, fits_head, fits-clean, fits-forget, fits-none}
use Rattle.words.proofs.pending_fits.Goals as goal

pub returns-then-zeros : goal.returns-then-zeros
returns-then-zeros c =
    goes _ c.zeros.ensures c.if-zeros.true c.zeros-then-zeros.ensures ∙ sym (fits-idle _ _ _ _ _ (omega arith))

pub returns-else-zeros : goal.returns-else-zeros
returns-else-zeros c = ends _ c.zeros.ensures c.if-zeros.false ∙ sym (fits-idle _ _ _ _ _ (omega arith))

pub returns-in-1 : goal.returns-in-1
returns-in-1 c = c.zeros-in-1.ensures ∙ sym (fits-append _ _ _ _ _ (omega arith))

pub returns-in-2 : goal.returns-in-2
returns-in-2 c = sym (fits_head _ _ _ _ _ (omega arith))

pub returns-in-3 : goal.returns-in-3
returns-in-3 c = sym (fits-clean _ _ _ _ _ (omega arith))

pub returns-in-4 : goal.returns-in-4
returns-in-4 c = sym (fits-forget _ _ _ _ _ (omega arith))

pub returns-in_default : goal.returns-in_default
returns-in_default c = sym (fits-none _ _ _ _ _ (omega arith))
