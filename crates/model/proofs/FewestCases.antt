-- Laws of: Cases for the slot with the fewest present bytes (02, R-5). What each row computes: the refusal's number, and the slot that is told.
use Rattle.std.specs.Prelude.{ℕ, ◌≡◌, refl, false, List, [], ◌∷◌, ◌++◌, map, replicate}
use Rattle.record.specs.Answers.{told_by}
use Rattle.model.specs.Play.{opened}
use Rattle.model.specs.Fewest.{none_below, lowest_from}
use Rattle.model.specs.Table.{failing, Hold}
use Rattle.model.proofs.Table.{rows-hold}
use Rattle.model.specs.FewestCases.{fewest_rows}

computed-fewest : failing fewest_rows ≡ []
unfolding opened told_by none_below lowest_from
computed-fewest = refl

pub fewest-hold : Hold fewest_rows
fewest-hold = rows-hold fewest_rows computed-fewest
