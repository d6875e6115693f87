-- What the computed run of edition 1 leaves, converted to edition 2 and back (02, R-12).
use Rattle.std.specs.Prelude.{ℕ, ◌≡◌, refl, List, [], ◌∷◌, get_or, replicate, take}
use Rattle.std.proofs.Math.Option.{none, some}
use Rattle.segment.specs.Layout.{edition1}
use Rattle.model.specs.Log.{Placed}
use Rattle.witness.specs.Example.{threes}

-- Up and down again gives the same log, the object of the second key behind the head's digest.
abbrev pub log : List Placed
log = record { slot = 1; layout = edition1; offset = 13; entry = record { table = 7; key = 10; version = 2; value = some threes } } ∷ []
