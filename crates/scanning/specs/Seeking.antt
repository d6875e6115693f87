-- What is found of a key by a scan, for any area.
use Rattle.std.specs.Prelude.{ℕ, Result, ◌+◌, ◌-◌, List, Ok, Err}
use Rattle.std.proofs.Math.Option.{Option, none, some}
use Rattle.segment.specs.Layout.{Layout, layout_of_kind, entry_size}
use Rattle.segment.specs.declared.Key.{Key}
use Rattle.segment.specs.declared.Read.{Read}
use Rattle.record.specs.Answered.{ReadAnswer}
use Rattle.record.specs.declared.Refusal.{Refusal}
use Rattle.record.specs.declared.Tables.{Tables}
use Rattle.model.specs.Log.{Placed, place_of, placed_kind, placed_size, present}
use Rattle.model.specs.Causes.{first_cause}
use Rattle.model.specs.Promises.{Part, nowhere}
use Rattle.model.specs.Scanned.{image_log, sought_causes, scan_causes}
use Rattle.recovery.specs.declared.Object.{Object}

-- a key's object where it stands, or the first cause that refuses the read
abbrev pub Sought : Type 0
Sought = Result Object Refusal

-- what stands at a place
unfoldable pub sought_read : ℕ → Read → Sought
sought_read p (Read.Object k v kind n) = Ok (record { place = p; version = v; kind = kind; length = n })
sought_read p (Read.Tombstone k v n) = Err Refusal.Absent
sought_read p Read.End = Err Refusal.Absent
sought_read p Read.Damage = Err Refusal.Absent

-- the object, or 8 where there is none
unfoldable pub sought_object : ℕ → Option Placed → Sought
sought_object S none = Err Refusal.Absent
sought_object S (some x) = Ok (record { place = (place_of S x); version = (record { 0 = x.entry.version }); kind = (placed_kind x); length = (placed_size x) })

unfoldable pub sought_as : ℕ → Option Refusal → Option Placed → Sought
sought_as S (some c) o = Err c
sought_as S none o = sought_object S o

-- 22 and 8 in a log, and all causes over an area
abbrev pub sought_in : ℕ → List Placed → Tables → Key → Sought
sought_in S log t k = sought_as S (first_cause (sought_causes log t k)) (present log k)

abbrev pub sought : Layout → ℕ → ℕ → List ℕ → Tables → Key → Sought
sought L n s area t k = sought_as s (first_cause (scan_causes L n s area t k)) (present (image_log n s area) k)

-- the read's answer, and the value's part of the area, whose start is told by the object's kind (02, R-11)
unfoldable pub answer_of : Sought → ReadAnswer
answer_of (Ok o) = Ok (record { version = o.version; kind = o.kind })
answer_of (Err c) = Err c

unfoldable pub part_for : Sought → Part
part_for (Ok o) = record { place = o.place + entry_size (layout_of_kind o.kind) 0; bytes = o.length - entry_size (layout_of_kind o.kind) 0 }
part_for (Err c) = nowhere
