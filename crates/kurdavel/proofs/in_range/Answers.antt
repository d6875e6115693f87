-- `kurdavel::in_range` meets its contract.
use mathlib.Core.Path.{refl, ◌∙◌}
use native.Mathlib.Omega.{arith}
use Rattle.word.specs.Laws.{product_lt}
use Rattle.kurdavel.specs.CrossingLaws.{words-range, few-range, never_both}
use Rattle.kurdavel.proofs.in_range.Goals as goal

pub returns-then-words-lt-WORDS : goal.returns-then-words-lt-WORDS
returns-then-words-lt-WORDS c = record { said = few-range _ c.if-words-lt-WORDS.true; long = λ e. never_both e refl }

pub overflow_cast-area : goal.overflow_cast-area
overflow_cast-area c = omega (arith, c.type_inv.words 0)

pub overflow_cast-area-2 : goal.overflow_cast-area-2
overflow_cast-area-2 c = omega (arith, c.type_inv.words 1)

pub overflow_mul-area : goal.overflow_mul-area
overflow_mul-area c = record { fits = product_lt (omega (arith, c.type_inv.words 0)) (omega (arith, c.type_inv.words 1)) }

pub overflow_cast-words : goal.overflow_cast-words
overflow_cast-words c = omega (arith, c.type_inv.words 2)

pub returns : goal.returns
returns c = record { said = c.fits.ensures ∙ words-range _; long = λ e. c.if-words-lt-WORDS.false }
