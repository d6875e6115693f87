-- Laws of: Cases of 02, R-13: a store that is switched, and logs of both editions. Rows are numbered as in RequestCases.
use Rattle.std.specs.Prelude.{ℕ, zero, suc, ◌≡◌, refl, List, [], ◌∷◌, ◌++◌, take, drop, replicate}
use Rattle.segment.specs.Layout.{number_of_layout}
use Rattle.model.specs.Play.{opened}
use Rattle.model.specs.Conversion.{slot_too_long, version_too_wide, next_too_wide, slot_too_wide, slot_bytes}
use Rattle.model.specs.Table.{failing, Hold}
use Rattle.model.proofs.Table.{rows-hold}
use Rattle.model.specs.SwitchCases.{rows}

computed : failing rows ≡ []
unfolding opened slot_too_long version_too_wide next_too_wide slot_too_wide slot_bytes number_of_layout
computed = refl

pub switch-cases-hold : Hold rows
switch-cases-hold = rows-hold rows computed
