-- `writing::causes::versions_spent` meets its contract.
use Rattle.writing.proofs.causes.versions_spent.Goals as goal

pub returns : goal.returns
returns c = rw (c.version_limit.ensures, c.new_edition.ensures)
