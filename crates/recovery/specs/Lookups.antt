-- What a read looks up, as a total function of any record, area and index (01, "Index" and "Read").
use Rattle.std.specs.Prelude.{ℕ, Result, ◌+◌, ◌-◌, ◌≤◌, ◌<◌, List, length, get_or, Ok, Err}
use Rattle.segment.specs.Choice.{pick}
use Rattle.segment.specs.Layout.{Layout, layout_of_kind, entry_size}
use Rattle.segment.specs.Area.{stands_at}
use Rattle.segment.specs.declared.Key.{Key}
use Rattle.segment.specs.declared.Read.{Read}
use Rattle.record.specs.Range.{fits_lent}
use Rattle.record.specs.Reach.{holds_table}
use Rattle.record.specs.declared.Record.{Record}
use Rattle.record.specs.Answered.{ReadAnswer}
use Rattle.record.specs.declared.Refusal.{Refusal}
use Rattle.record.specs.declared.Tables.{Tables}
use Rattle.model.specs.Promises.{Part, nowhere}
use Rattle.index.specs.Search.{search_for}
use Rattle.index.specs.declared.Found.{Found}
use Rattle.recovery.specs.declared.Object.{Object}

-- a key's object where it stands, or the cause that refuses the read: 8 where none is its latest entry, 22 and 4
abbrev pub Lookup : Type 0
Lookup = Result Object Refusal

unfoldable pub lookup_of : ℕ → Read → Lookup
lookup_of p (Read.Object k v kind n) = Ok (record { place = p; version = v; kind = kind; length = n })
lookup_of p (Read.Tombstone k v n) = Err Refusal.Absent
lookup_of p Read.End = Err Refusal.BadRecord
lookup_of p Read.Damage = Err Refusal.BadRecord

-- What a look needs of the cell where a search has ended: it is there and not 0.
pub record Reached (cells : List ℕ) (i : ℕ) : Type 0 where
  pub below : i < length cells
  pub few : length cells ≤ 4096
  pub taken : 0 < get_or cells i 0

unfoldable pub lookup_at : List ℕ → List ℕ → Found → Lookup
lookup_at area cells (Found.At i) = lookup_of (get_or cells i 0 - 1) (stands_at area (get_or cells i 0 - 1))
lookup_at area cells (Found.Free i) = Err Refusal.Absent
lookup_at area cells Found.Full = Err Refusal.BadRecord

-- a record that does not fit what is lent is bad; then, a key out of the caller's reach is not looked for
unfoldable pub looked_up : Layout → Record → List ℕ → List ℕ → Tables → Key → Lookup
looked_up L r area cells t k =
    pick (fits_lent L r (length area) (length cells))
    (pick (holds_table t k.table) (lookup_at area cells (search_for area cells k)) (Err Refusal.OutsideTables)) (Err Refusal.BadRecord)

unfoldable pub told_by : Lookup → ReadAnswer
told_by (Ok o) = Ok (record { version = o.version; kind = o.kind })
told_by (Err c) = Err c

-- the value's part of the area; where it starts is told by the object's kind (02, R-11)
unfoldable pub part_by : Lookup → Part
part_by (Ok o) = record { place = o.place + entry_size (layout_of_kind o.kind) 0; bytes = o.length - entry_size (layout_of_kind o.kind) 0 }
part_by (Err c) = nowhere
