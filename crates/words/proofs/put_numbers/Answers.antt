-- `words::put_numbers` meets its contract.
use mathlib.Core.Path.{◌∙◌}
use Rattle.words.proofs.WordLaws.{switch-from}
use Rattle.words.proofs.put_numbers.Goals as goal

pub returns : goal.returns
returns c = rw (c.edition_number.ensures, c.from.ensures ∙ switch-from _)
