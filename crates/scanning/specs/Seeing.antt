-- What a walk over entries has seen of a key.
use Rattle.std.specs.Prelude.{ℕ, ◌+◌, ◌*◌, List, [], ◌∷◌, ltb}
use Rattle.std.proofs.Math.Option.{Option, none, some}
use Rattle.segment.specs.Choice.{pick}
use Rattle.segment.specs.Entry.{key_of}
use Rattle.segment.specs.declared.Key.{Key}
use Rattle.segment.specs.declared.Next.{Next}
use Rattle.segment.specs.declared.Version.{Version}
use Rattle.model.specs.Log.{Placed, place_of, same_keys}
use Rattle.scanning.specs.declared.Seen.{Seen}

-- after one entry more
unfoldable pub seen_with : Key → Seen → Key → Version → ℕ → Seen
seen_with k a own version place =
    pick (same_keys k own) (pick (ltb a.version.0 version.0) (record { version = version; place = place }) a) a

-- after what was read at an offset
unfoldable pub seen_next : Key → Seen → Next → ℕ → Seen
seen_next k a (Next.Entry h) place = seen_with k a h.key h.version place
seen_next k a Next.End place = a
seen_next k a Next.Damage place = a

abbrev pub seeing : ℕ → Key → Seen → Placed → Seen
seeing S k a x = seen_with k a (key_of x.entry) (record { 0 = x.entry.version }) (place_of S x)

-- after a list of them
unfoldable pub seen_in : ℕ → Key → Seen → List Placed → Seen
seen_in S k a [] = a
seen_in S k a (x ∷ xs) = seen_in S k (seeing S k a x) xs

-- what was seen where that entry is the newest, or none was met
unfoldable pub seen_of : ℕ → Option Placed → Seen
seen_of S none = record { version = record { 0 = 0 }; place = 0 }
seen_of S (some x) = record { version = record { 0 = x.entry.version }; place = place_of S x }
