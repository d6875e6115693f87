-- What a conversion makes of the bytes of one slot, and what it knows of the slots of a log.
use Rattle.std.specs.Prelude.{ℕ, Bool, List}
use Rattle.std.proofs.Math.Option.{some}
use Rattle.segment.specs.Layout.{Layout}
use Rattle.segment.specs.Entry.{Entry}
use Rattle.segment.specs.Digest.{digest_of}
use Rattle.model.specs.Log.{View, scan, items_of}
use Rattle.model.specs.Conversion.{slot_bytes}
use Rattle.laws.specs.Scans.{item_entries}
use Rattle.laws.specs.LogLaws.{AllOf, AllDigests, AllScanned}

-- the entries of a segment of the layout L, in their order
abbrev pub entries_of : Layout → List ℕ → List Entry
entries_of L s = item_entries (items_of (scan L s))

-- the bytes in the layout K of a segment of L that begins with a digest
abbrev pub part_bytes : Layout → Layout → List ℕ → List ℕ
part_bytes L K s = slot_bytes K (some (digest_of L s)) (entries_of L s)

-- What the checks of the image say of the slots that p picks: each has a digest, is of the layout L, and its entries can all be read.
pub record LogOf (L : Layout) (v : ℕ → View) (p : ℕ → Bool) (n : ℕ) : Type 0 where
  pub editions : AllOf L v p n
  pub digests : AllDigests v p n
  pub scans : AllScanned v p n
