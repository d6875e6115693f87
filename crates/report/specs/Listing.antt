-- 01, the last lines of "Values to hold it to": the present keys of a log, by table and then key, ascending.
use Rattle.std.specs.Prelude.{◌≡◌, refl, Bool, List, [], ◌∷◌, eqb, ltb, replicate}
use Rattle.segment.specs.Choice.{pick, both, either}
use Rattle.segment.specs.Layout.{edition1}
use Rattle.segment.specs.Entry.{Entry}
use Rattle.segment.specs.declared.Key.{Key}
use Rattle.model.specs.Log.{Placed, keys_of}
use Rattle.model.specs.Refused.{key_absent}

-- by table and then key
unfoldable pub before : Key → Key → Bool
before j k = either (ltb j.table k.table) (both (eqb j.table k.table) (ltb j.key k.key))

-- a key in its place among keys that ascend
unfoldable pub in_order : Key → List Key → List Key
in_order k [] = k ∷ []
in_order k (j ∷ js) = pick (before k j) (k ∷ j ∷ js) (j ∷ in_order k js)

unfoldable pub ascending : List Key → List Key
ascending [] = []
ascending (k ∷ ks) = in_order k (ascending ks)

-- those of these keys that are present
unfoldable pub present_of : List Placed → List Key → List Key
present_of log [] = []
present_of log (k ∷ ks) = pick (key_absent log k) (present_of log ks) (k ∷ present_of log ks)

-- The present keys of a log, each once.
abbrev pub present_keys : List Placed → List Key
present_keys log = ascending (present_of log (keys_of log))

-- ---- at work on a log

abbrev pub placed : Entry → Placed
placed e = record { slot = 0; layout = edition1; offset = 13; entry = e }
