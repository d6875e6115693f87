-- Laws of: Cases for what 02 adds to 01. A row's number is the request's, times 100, and one that counts its rows.
use Rattle.std.specs.Prelude.{ℕ, ◌≡◌, refl, List, [], ◌∷◌, map, replicate}
use Rattle.model.specs.Play.{opened}
use Rattle.model.specs.Table.{failing, Hold}
use Rattle.model.proofs.Table.{rows-hold}
use Rattle.model.specs.RequestCases.{expected_rows, table_rows}

computed-expected : failing expected_rows ≡ []
unfolding opened
computed-expected = refl

pub expected-hold : Hold expected_rows
expected-hold = rows-hold expected_rows computed-expected

computed-tables : failing table_rows ≡ []
unfolding opened
computed-tables = refl

pub tables-hold : Hold table_rows
tables-hold = rows-hold table_rows computed-tables
