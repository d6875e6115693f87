-- Laws of: Cases of 02, R-12: images put into the other edition, up and down. Rows are numbered as in RequestCases.
use Rattle.std.specs.Prelude.{ℕ, ◌≡◌, refl, List, [], ◌∷◌, ◌++◌, map, take, drop, replicate}
use Rattle.segment.specs.Layout.{other_layout}
use Rattle.model.specs.Play.{opened}
use Rattle.model.specs.Conversion.{slot_bytes, converted_slots, slot_too_long, version_too_wide, next_too_wide, slot_too_wide}
use Rattle.model.specs.Table.{failing, Hold}
use Rattle.model.proofs.Table.{rows-hold}
use Rattle.model.specs.ConversionCases.{rows}

computed : failing rows ≡ []
unfolding opened slot_bytes converted_slots slot_too_long version_too_wide next_too_wide slot_too_wide other_layout
computed = refl

pub conversion-cases-hold : Hold rows
conversion-cases-hold = rows-hold rows computed
