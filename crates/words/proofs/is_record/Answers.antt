-- `words::is_record` meets its contract.
use mathlib.Core.Path.{ap}
use mathlib.Core.Bool.{not}
use mathlib.Core.Path.{refl, sym, ◌∙◌}
use native.Mathlib.Omega.{arith}
use borrow.Author.Tests.{le-leb, lt-leb}
use Rattle.record.specs.RangeLaws.{stop, go, ends, goes}
use Rattle.words.proofs.WordLaws.{too_short, long-enough}
use Rattle.words.proofs.is_record.Goals as goal

pub returns-then-words-lt-WORDS : goal.returns-then-words-lt-WORDS
returns-then-words-lt-WORDS c = sym (too_short _ (omega arith))

pub returns-then-not-edition_fits : goal.returns-then-not-edition_fits
returns-then-not-edition_fits c = stop _ c.edition_fits.ensures (ap not c.if-not-edition_fits.true) ∙ sym (long-enough _ (omega arith))

pub returns-then-words-le1 : goal.returns-then-words-le1
returns-then-words-le1 c =
    go _ c.edition_fits.ensures (ap not c.if-not-edition_fits.false)
    (goes _ refl (le-leb _ _ c.if-words-le1.true) c.pending_fits.ensures)
    ∙ sym (long-enough _ (omega arith))

pub returns-else-words-le1 : goal.returns-else-words-le1
returns-else-words-le1 c =
    go _ c.edition_fits.ensures (ap not c.if-not-edition_fits.false) (ends _ refl (lt-leb _ _ c.if-words-le1.false)) ∙ sym (long-enough _ (omega arith))
