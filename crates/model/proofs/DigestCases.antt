-- Laws of: Cases of 02, R-8: which part of the head's digest is bad, alone and with another. Rows are numbered as in RequestCases.
use Rattle.std.specs.Prelude.{ℕ, ◌≡◌, refl, List, [], ◌∷◌, ◌++◌, map, replicate}
use Rattle.model.specs.Play.{opened}
use Rattle.model.specs.Table.{failing, Hold}
use Rattle.model.proofs.Table.{rows-hold}
use Rattle.model.specs.DigestCases.{rows}

computed : failing rows ≡ []
unfolding opened
computed = refl

pub digest-cases-hold : Hold rows
digest-cases-hold = rows-hold rows computed
