-- Laws of: 01, the last lines of "Values to hold it to": the present keys of a log, by table and then key, ascending.
use Rattle.std.specs.Prelude.{◌≡◌, refl, Bool, List, [], ◌∷◌, eqb, ltb, replicate}
use Rattle.model.specs.Play.{opened, keyed, object, tombstone}
use Rattle.report.specs.Listing.{ascending, before, in_order, placed, present_keys, present_of}

-- The table comes first, the older entry of a key does not count twice, and a key whose latest entry is a tombstone is not there.
listed : present_keys
    (placed (object (keyed 2 1) 1 (replicate 8 0))
    ∷ placed (object (keyed 1 9) 2 (replicate 8 0))
    ∷ placed (object (keyed 1 8) 3 (replicate 8 0))
    ∷ placed (object (keyed 2 0) 4 (replicate 8 0))
    ∷ placed (tombstone (keyed 1 8) 5)
    ∷ placed (object (keyed 2 1) 6 (replicate 8 0))
    ∷ [])
    ≡ keyed 1 9 ∷ keyed 2 0 ∷ keyed 2 1 ∷ []
unfolding opened before in_order ascending present_of
listed = refl
