-- An entry rewritten in another layout (02, R-12 and R-13): its bytes there, and what the writer leaves.
use Rattle.std.specs.Prelude.{ℕ, ◌+◌, ◌-◌, Bool, List, length, take, drop}
use Rattle.segment.specs.Choice.{pick, or_zero}
use Rattle.segment.specs.Layout.{Layout, entry_size, object_kind, table}
use Rattle.segment.specs.Written.{encoded_as}
use Rattle.segment.specs.declared.Header.{Header}

-- the kind of a tombstone, or of an object whose value is n bytes long; 0 where no object's is
unfoldable pub kind_as : Layout → Bool → ℕ → ℕ
kind_as K t n = pick t (table K).tombstone_kind (or_zero (object_kind K n))

-- the value of the entry at an offset that has this header
abbrev pub value_at : Layout → List ℕ → ℕ → Header → List ℕ
value_at L s at h = take (h.length - entry_size L 0) (drop (at + entry_size L 0) s)

-- the bytes of that entry in the layout K
abbrev pub entry_bytes : Layout → Layout → List ℕ → ℕ → Header → List ℕ
entry_bytes L K s at h = encoded_as K (kind_as K h.tombstone (length (value_at L s at h))) h.key h.version (value_at L s at h)
