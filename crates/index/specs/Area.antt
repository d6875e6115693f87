-- What ties the entries of a log to the bytes of an area: an entry's fields stand at its place.
use Rattle.std.specs.Prelude.{ℕ, ◌+◌, ◌-◌, ◌≤◌, ◌≡◌, List, length, get_or}
use Rattle.std.proofs.Common.{◌∙◌, ap, arith, le-leb}
use Rattle.segment.specs.Layout.{edition1, entry_size}
use Rattle.model.specs.Log.{Placed, place_of}
use Rattle.laws.specs.Members.{In}
use Rattle.index.specs.Search.{table_at, key_at, version_at}

pub record InArea (area : List ℕ) (S : ℕ) (x : Placed) : Type 0 where
  pub fits : place_of S x + entry_size edition1 0 ≤ length area
  pub table-there : table_at area (place_of S x) ≡ x.entry.table
  pub key-there : key_at area (place_of S x) ≡ x.entry.key
  pub version-there : version_at area (place_of S x) ≡ x.entry.version

abbrev pub AllIn : List ℕ → ℕ → List Placed → Type 0
AllIn area S log = (x : Placed) → In x log → InArea area S x
