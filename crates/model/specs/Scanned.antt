-- 02, R-9: a read, and a read of the value, that scan the log. They take N, S and the area, a range of tables and a key; no record and no
-- index are lent, so that the number of cells, and with it cause 20, has no part in them.
use Rattle.std.specs.Prelude.{ℕ, ◌≡◌, refl, List, [], ◌∷◌, ◌++◌, map, length}
use Rattle.std.specs.Borrow.{Bor}
use Rattle.segment.specs.Layout.{Layout}
use Rattle.segment.specs.declared.Key.{Key}
use Rattle.record.specs.Answers.{read_said, said_by}
use Rattle.record.specs.declared.Refusal.TheVariants.{Geometry, Absent, OutsideTables}
use Rattle.record.specs.Answered.{ReadAnswer}
use Rattle.record.specs.declared.Tables.{Tables}
use Rattle.model.specs.Log.{Placed, views_of, head_of, present}
use Rattle.model.specs.Causes.{Cause, when, first_cause}
use Rattle.model.specs.Recovery.{geometry_bad, head_else, log_under, image_causes}
use Rattle.model.specs.Refused.{outside_tables, key_absent}
use Rattle.model.specs.Promises.{read_answer, object_said, Part, value_answer, RefersTo}

-- the log of the head that the area's bytes say
abbrev pub image_log : ℕ → ℕ → List ℕ → List Placed
image_log n s area = log_under (views_of area s) n (head_else (head_of (views_of area s) n))

-- 22 and 8, which ask for a key in a log
abbrev pub sought_causes : List Placed → Tables → Key → List Cause
sought_causes log t k = when (outside_tables t k) OutsideTables ∷ when (key_absent log k) Absent ∷ []

-- A read by scan: 1, 16, 17, 24, 25, 28, 18, 19, 22, 8. The causes of the image are recovery's own.
abbrev pub scan_causes : Layout → ℕ → ℕ → List ℕ → Tables → Key → List Cause
scan_causes L n s area t k =
    when (geometry_bad n s (length area)) Geometry
    ∷ (image_causes L (views_of area s) n (head_of (views_of area s) n) ++ sought_causes (image_log n s area) t k)

-- Version and kind of the key's object in that log, or the first cause. The answer says the same in 01's numbers.
pub record ScanPromise (L : Layout) (n s : ℕ) (area : List ℕ) (t : Tables) (k : Key) (a : ReadAnswer) : Type 0 where
  pub answers : a ≡ read_answer (first_cause (scan_causes L n s area t k)) (present (image_log n s area) k)
  pub says : read_said a ≡ said_by (first_cause (scan_causes L n s area t k)) (object_said (present (image_log n s area) k))

-- the part of the area that is the value, the empty part at its start where the read is refused
abbrev pub scanned_part : Layout → ℕ → ℕ → List ℕ → Tables → Key → Part
scanned_part L n s area t k = value_answer s (first_cause (scan_causes L n s area t k)) (present (image_log n s area) k)

pub record ScanValue (L : Layout) (n s : ℕ) (area : List ℕ) (t : Tables) (k : Key) (p : Part) : Type 0 where
  pub exact : p ≡ scanned_part L n s area t k

-- the value as a reference into the lent area
pub record ScanReference (L : Layout) (n s : ℕ) (area : Bor (List ℕ)) (t : Tables) (k : Key) (value : Bor (List ℕ)) : Type 0 where
  pub part : Part
  pub refers : RefersTo value area part
  pub promised : ScanValue L n s area.now t k part
