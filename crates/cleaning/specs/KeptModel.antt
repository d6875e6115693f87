-- On an undamaged store the bytes that the code gathers are those of the entries that the model keeps.
use Prim.Native.Nat.{ℕ, ◌*◌}
use Rattle.std.specs.Prelude.{◌≡◌, length}
use Rattle.std.proofs.Math.Bool.{false}
use mathlib.Core.List.{List}
use Rattle.segment.specs.Layout.{Layout}
use Rattle.slot_map.specs.Bit.{named, less}
use Rattle.record.specs.Switch.{as_recovered}
use Rattle.record.specs.declared.Record.{Record}
use Rattle.model.specs.Log.{views_of, version_shared}
use Rattle.model.specs.Index.{IndexRule}
use Rattle.model.specs.Operations.{log_now}
use Rattle.model.specs.Promises.{Genuine}
use Rattle.laws.specs.LogLaws.{AllScanned}
use Rattle.laws.specs.RecoverLaws.{recovered-case, recovered-versions, recovered-lent}
use Rattle.cleaning.specs.declared.Split.{Split}

-- the log's slots parted by the victims
abbrev pub split_of : Record → ℕ → Split
split_of r victims = record { slots = r.slots; size = r.size; victims = victims; outside = less r.map victims }

-- ---- a store

-- What is asked of a store, whatever the editions of its slots (02, R-13): the area is N slots of S bytes long, the entries of the log's slots can
-- all be read, no two of them have one version, and the index has its rule.
pub record Indexed (area : List ℕ) (r : Record) (cells : List ℕ) : Type 0 where
  pub long : length area ≡ r.slots * r.size
  pub scans : AllScanned (views_of area r.size) (named r.map) r.slots
  pub versions : version_shared (log_now area r) ≡ false
  pub rule : IndexRule r.size (log_now area r) cells

pub genuine-indexed : (L : Layout) (area cells : List ℕ) (r : Record) → Genuine L area r cells → Indexed area r cells
genuine-indexed L area cells r g =
    record {
      long = (recovered-lent L r.slots r.size r.cells area (as_recovered r) g.recovers).long;
      scans =
          recovered-case L r.slots r.size r.cells area (λ (k : Record). AllScanned (views_of area r.size) (named k.map) r.slots) (λ h l f. f.scans)
          (as_recovered r) g.recovers;
      versions = recovered-versions L r.slots r.size r.cells area (as_recovered r) g.recovers;
      rule = g.rule;
    }
