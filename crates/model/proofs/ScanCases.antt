-- Laws of: Cases of 02, R-9: reads that scan the log. Rows are numbered as in RequestCases.
use Rattle.std.specs.Prelude.{ℕ, ◌≡◌, refl, List, [], ◌∷◌, ◌++◌, map, replicate}
use Rattle.model.specs.Play.{opened}
use Rattle.model.specs.Table.{failing, Hold}
use Rattle.model.proofs.Table.{rows-hold}
use Rattle.model.specs.ScanCases.{rows}

computed : failing rows ≡ []
unfolding opened
computed = refl

pub scan-cases-hold : Hold rows
scan-cases-hold = rows-hold rows computed
