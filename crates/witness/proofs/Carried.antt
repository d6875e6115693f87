-- What the computed run of edition 1 leaves, converted to edition 2 and back (02, R-12).
-- What is proved of the definitions in `specs/Carried.antt`.
use Rattle.std.specs.Prelude.{ℕ, ◌≡◌, refl, List, [], ◌∷◌, get_or, replicate, take}
use Rattle.std.proofs.Math.Option.{none, some}
use Rattle.segment.specs.Layout.{edition2}
use Rattle.model.specs.Causes.{first_cause}
use Rattle.model.specs.Conversion.{convert_causes, converted_image}
use Rattle.model.specs.Recovery.{if_none, recovered, record_from}
use Rattle.model.specs.Scanned.{image_log}
use Rattle.laws.specs.MapLaws.{value_at, unplaced}
use Rattle.witness.specs.Example.{computing, nine, ten, threes}
use Rattle.witness.proofs.Example.{all}
use Rattle.witness.specs.Carried.{log}

-- the area at the end of the run, the same in edition 2, and that in edition 1 again
abbrev pub area : List ℕ
area = all.world.area

abbrev pub up : List ℕ
up = converted_image 4 256 area

abbrev pub down : List ℕ
down = converted_image 4 256 up

pub both-accepted : (first_cause (convert_causes 4 256 area 1024) ≡ none) × (first_cause (convert_causes 4 256 up 1024) ≡ none)
unfolding computing
both-accepted = (refl, refl)

-- The head in slot 1 is of edition 2, and nothing is left of the old head in slot 0.
pub head-kind : (get_or area 256 0 ≡ 5) × (get_or up 256 0 ≡ 8)
unfolding computing
head-kind = (refl, refl)

pub rest-cleared : take 256 up ≡ replicate 256 0
unfolding computing
rest-cleared = refl

-- It recovers, with the next version and the map of the area.
pub recovers : recovered edition2 4 256 16 up ≡ some (record_from edition2 4 256 16 up)
unfolding computing recovered if_none
recovers = refl

pub next-version : (record_from edition2 4 256 16 up).next.0 ≡ 4
unfolding computing
next-version = refl

pub same_map :
    (value_at (image_log 4 256 up) nine ≡ none)
    × (value_at (image_log 4 256 up) ten ≡ some (record { table = 7; key = 10; version = 2; value = some threes }))
unfolding computing unplaced
same_map = (refl, refl)

pub same_log : (image_log 4 256 area ≡ log) × (image_log 4 256 down ≡ log)
unfolding computing
same_log = (refl, refl)
