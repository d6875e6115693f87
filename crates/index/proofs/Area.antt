-- Laws of: What ties the entries of a log to the bytes of an area: an entry's fields stand at its place.
use Rattle.std.specs.Prelude.{ℕ, ◌+◌, ◌-◌, ◌≤◌, ◌≡◌, List, length, get_or}
use Rattle.std.proofs.Common.{◌∙◌, ap, arith, le-leb}
use Rattle.segment.specs.Choice.{both}
use Rattle.segment.specs.Layout.{edition1, entry_size}
use Rattle.segment.specs.declared.Key.{Key}
use Rattle.model.specs.Log.{Placed, place_of, same_keys, same_key}
use Rattle.model.specs.Index.{HasCell}
use Rattle.index.specs.Search.{version_at, has_key_at, cell_has}
use Rattle.index.specs.Finds.{Picks}
use Rattle.index.specs.Area.{AllIn, InArea}

-- what a cell holds, less 1, is the place
pub place-back : (p : ℕ) → p + 1 - 1 ≡ p
place-back p = omega arith

module _ (area : List ℕ) (S : ℕ) where
  pub in-area-key : (k : Key) (x : Placed) → InArea area S x → has_key_at area k (place_of S x) ≡ same_key k x.entry
  unfolding has_key_at same_key same_keys both
  in-area-key k x a =
      rw (le-leb (place_of S x + entry_size edition1 0) (length area) a.fits, a.table-there, a.key-there)

  pub area-picks : (log : List Placed) (k : Key) → AllIn area S log → Picks (cell_has area k) S log k
  area-picks log k a x m = rw (place-back (place_of S x)) (in-area-key k x (a x m))

  -- the version of the entry that a cell holds
  pub cell-version : (cells : List ℕ) (y : Placed) → InArea area S y → (c : HasCell S cells y) → version_at area (get_or cells c.cell 0 - 1) ≡ y.entry.version
  cell-version cells y a c =
      ap (λ (v : ℕ). version_at area (v - 1)) c.holds ∙ ap (version_at area) (place-back (place_of S y)) ∙ a.version-there
