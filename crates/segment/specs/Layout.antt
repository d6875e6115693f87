-- 01, "Bytes of a segment", and 02, R-11: kinds, lengths of values and limits of counters, as data. Definitions and laws that need
-- them take a layout as a parameter and know it by the laws below alone. The widths of table, key, digest number and slot map are the same
-- in every layout; they stand with the bytes of an entry and of a digest.
use Rattle.std.specs.Prelude.{ℕ, ◌+◌, ◌-◌, ◌^◌, Bool, true, false, not, List, [], ◌∷◌, eqb, ltb}
use Rattle.std.proofs.Math.Option.{Option, none, some}
use Rattle.segment.specs.Choice.{pick, both}
use Rattle.segment.specs.declared.Edition.{Edition}
use Rattle.segment.specs.declared.Edition.TheVariants.{First, Second}

-- the second number of the first pair that begins with k
unfoldable pub lookup : ℕ → List (ℕ × ℕ) → Option ℕ
lookup k [] = none
lookup k (p ∷ ps) = pick (eqb k p.0) (some p.1) (lookup k ps)

-- the first number of the first pair that ends with n
unfoldable pub look_back : ℕ → List (ℕ × ℕ) → Option ℕ
look_back n [] = none
look_back n (p ∷ ps) = pick (eqb n p.1) (some p.0) (look_back n ps)

-- an answer that is n
unfoldable pub is_some : ℕ → Option ℕ → Bool
is_some n none = false
is_some n (some m) = eqb m n

-- the kinds of objects among pairs of kind and length: none is 0 or the tombstone's, each fits a byte, and neither a kind nor a
-- length stands twice
unfoldable pub sound_objects : ℕ → List (ℕ × ℕ) → List (ℕ × ℕ) → Bool
sound_objects t all [] = true
sound_objects t all (p ∷ ps) =
    both
    (both (both (not (eqb p.0 0)) (not (eqb p.0 t)))
    (both (ltb p.0 256) (both (is_some p.1 (lookup p.0 all)) (is_some p.0 (look_back p.1 all)))))
    (sound_objects t all ps)

-- What an edition of the format fixes: how many bytes a version takes, the kinds of digest and tombstone, and for each
-- kind of object the length of its value. Kind 0, the end, is none of these, and every kind is a byte.
pub record Table : Type 0 where
  pub width : ℕ
  pub digest_kind : ℕ
  pub tombstone_kind : ℕ
  pub objects : List (ℕ × ℕ)

-- A layout is known by its edition (02, R-11).
abbrev pub Layout : Type 0
Layout = Edition

abbrev pub edition1 : Layout
edition1 = First

abbrev pub edition2 : Layout
edition2 = Second

-- Edition 1 is 01's table of kinds, with R-3's: versions of 4 bytes; objects of 8, 24, 56 and 120 bytes are kinds 1, 2, 3 and 7; a
-- tombstone is 4, a digest 5. Edition 2 (02, R-11) has versions of 8 bytes; the same objects are kinds 9 to 12, a tombstone is 13,
-- a digest 8.
unfoldable pub table : Layout → Table
table First =
    record {
      width = 4;
      digest_kind = 5;
      tombstone_kind = 4;
      objects = (1, 8) ∷ (2, 24) ∷ (3, 56) ∷ (7, 120) ∷ [];
    }
table Second =
    record {
      width = 8;
      digest_kind = 8;
      tombstone_kind = 13;
      objects = (9, 8) ∷ (10, 24) ∷ (11, 56) ∷ (12, 120) ∷ [];
    }

-- whether two layouts are one
unfoldable pub same_layout : Layout → Layout → Bool
same_layout First First = true
same_layout First Second = false
same_layout Second First = false
same_layout Second Second = true

-- the other of the two (02, R-12)
unfoldable pub other_layout : Layout → Layout
other_layout First = edition2
other_layout Second = edition1

-- No kind is one of both editions, so that the kind of an entry tells its edition: those of the second are above its digest's.
unfoldable pub layout_of_kind : ℕ → Layout
layout_of_kind k = pick (ltb k (table edition2).digest_kind) edition1 edition2

-- the layout that a number names
unfoldable pub layout_numbered : ℕ → Option Layout
layout_numbered e = pick (eqb e 1) (some edition1) (pick (eqb e 2) (some edition2) none)

-- and the number of a layout
unfoldable pub number_of_layout : Layout → ℕ
number_of_layout First = 1
number_of_layout Second = 2

-- the length of the value of an entry of kind k, and none where no entry has that kind
unfoldable pub value_length : Layout → ℕ → Option ℕ
value_length L k = pick (eqb k (table L).tombstone_kind) (some 0) (lookup k (table L).objects)

-- the kind of an object whose value is n bytes long, and none where no object's is
abbrev pub object_kind : Layout → ℕ → Option ℕ
object_kind L n = look_back n (table L).objects

-- whether a kind is the tombstone's
abbrev pub is_tombstone_kind : Layout → ℕ → Bool
is_tombstone_kind L k = eqb k (table L).tombstone_kind

-- the length of an entry whose value is n bytes long: kind 1, table 2, key 4, version, value
abbrev pub entry_size : Layout → ℕ → ℕ
entry_size L n = 7 + (table L).width + n

-- the length of a digest, where a segment's entries start: kind 1, digest number 4, slot map 4, next version
abbrev pub digest_size : Layout → ℕ
digest_size L = 9 + (table L).width

-- the highest next version; a version is above 0 and below it
abbrev pub version_limit : Layout → ℕ
version_limit L = 256 ^ (table L).width - 1

unfoldable pub good_version : Layout → ℕ → Bool
good_version L v = both (ltb 0 v) (ltb v (version_limit L))

-- the highest digest number, 4,294,967,295
abbrev pub number_limit : ℕ
number_limit = 4294967295
