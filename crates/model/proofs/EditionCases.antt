-- Laws of: Cases of 02, R-11: a store of edition 2, and images in which digests of both editions stand. Rows are numbered as in RequestCases.
use Rattle.std.specs.Prelude.{ℕ, ◌≡◌, refl, List, [], ◌∷◌, ◌++◌, map, take, drop, replicate}
use Rattle.model.specs.Play.{opened}
use Rattle.model.specs.Table.{failing, Hold}
use Rattle.model.proofs.Table.{rows-hold}
use Rattle.model.specs.EditionCases.{rows}

computed : failing rows ≡ []
unfolding opened
computed = refl

pub edition-cases-hold : Hold rows
edition-cases-hold = rows-hold rows computed
