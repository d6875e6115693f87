-- `record::range::lengths_own` meets its contract.
use mathlib.Core.Path.{refl}
use native.Mathlib.Nat.{mul-le-mul}
use native.Mathlib.Omega.{arith}
use borrow.Author.Tests.{eq-eqb, ne_eqb}
use Rattle.record.specs.Range.{lengths_own}
use Rattle.record.specs.RangeLaws.{ends, goes}
use Rattle.record.proofs.range.lengths_own.Goals as goal

pub overflow_mul-rec : goal.overflow_mul-rec
overflow_mul-rec c = let p = c.requires in omega (arith, mul-le-mul p.0 p.1)

pub returns-then-area-rec : goal.returns-then-area-rec
unfolding lengths_own
returns-then-area-rec c = goes _ refl (eq-eqb _ _ c.if-area-rec.true) refl

pub returns-else-area-rec : goal.returns-else-area-rec
unfolding lengths_own
returns-else-area-rec c = ends _ refl (ne_eqb _ _ c.if-area-rec.false)
