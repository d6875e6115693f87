-- Laws of: Rows of the tables in crate `rows` that stand here instead, since an edit of a definition must be refused by them: an edit
use Rattle.std.specs.Prelude.{ℕ, ◌≡◌, refl, List, [], ◌∷◌, ◌++◌, drop, replicate}
use Rattle.model.specs.Play.{opened}
use Rattle.model.specs.Table.{failing, Hold}
use Rattle.model.proofs.Table.{rows-hold}
use Rattle.model.specs.Pinned.{rows}

computed : failing rows ≡ []
unfolding opened
computed = refl

pub pinned-hold : Hold rows
pinned-hold = rows-hold rows computed
