-- `words::edition_fits` meets its contract.
use mathlib.Core.Path.{refl, sym, ◌∙◌}
use borrow.Author.Tests.{le-leb, lt-leb}
use Rattle.record.specs.RangeLaws.{ends, goes}
use Rattle.words.proofs.WordLaws.{edition-between}
use Rattle.words.proofs.edition_fits.Goals as goal

pub returns-then-number-ge1 : goal.returns-then-number-ge1
returns-then-number-ge1 c = goes _ refl (le-leb _ _ c.if-number-ge1.true) refl ∙ sym (edition-between _)

pub returns-else-number-ge1 : goal.returns-else-number-ge1
returns-else-number-ge1 c = ends _ refl (lt-leb _ _ c.if-number-ge1.false) ∙ sym (edition-between _)
