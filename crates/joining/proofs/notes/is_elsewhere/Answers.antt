-- `joining::notes::is_elsewhere` meets its contract.
use native.Mathlib.Omega.{arith}
use Rattle.joining.specs.NotesLaws.{slot-low, lies-low, lies-on}
use mathlib.Core.Path.{refl}
use Rattle.joining.proofs.notes.is_elsewhere.Goals as goal

pub overflow_mul-low : goal.overflow_mul-low
overflow_mul-low c = omega (arith, slot-low c.args.slot c.args.size c.requires.slot_bound c.requires.size_bound)

pub returns-then-cell-low : goal.returns-then-cell-low
returns-then-cell-low c = lies-low _ _ _ c.if-cell-low.true

pub overflow_add-result : goal.overflow_add-result
overflow_add-result c = omega (arith, slot-low c.args.slot c.args.size c.requires.slot_bound c.requires.size_bound)

pub returns : goal.returns
returns c = lies-on _ _ _ (omega arith) refl
