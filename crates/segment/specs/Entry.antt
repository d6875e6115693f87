-- 01, "Bytes of a segment": an entry, its bytes, and what stands at an offset of a segment.
use Rattle.std.specs.Prelude.{ℕ, ◌+◌, ◌≤◌, ◌<◌, ◌^◌, ◌≡◌, Bool, true, not, List, [], ◌∷◌, ◌++◌, eqb, ltb, leb, length, get_or, take, drop}
use Rattle.std.proofs.Math.Option.{Option, none, some}
use Rattle.word.specs.Number.{number_of, bytes_of, Bytes}
use Rattle.segment.specs.Choice.{pick, is_none, or_zero}
use Rattle.segment.specs.Layout.{Layout, value_length, object_kind, is_tombstone_kind, entry_size, good_version, table}
use Rattle.segment.specs.declared.Key.{Key}
use Rattle.segment.specs.declared.Read.{Read}
use Rattle.segment.specs.declared.Read.TheVariants.{Object, Tombstone, End, Damage}

-- An object, or a tombstone, which has no value. The kind and the bytes of an entry are the layout's.
pub record Entry : Type 0 where
  pub table : ℕ
  pub key : ℕ
  pub version : ℕ
  pub value : Option (List ℕ)

abbrev pub is_tombstone : Entry → Bool
is_tombstone e = is_none e.value

-- A key is table and key together.
abbrev pub key_of : Entry → Key
key_of e = record { table = e.table; key = e.key }

-- the bytes that stand for a value in an entry
unfoldable pub bytes_in : Option (List ℕ) → List ℕ
bytes_in none = []
bytes_in (some v) = v

-- the kind of an entry with this value: the tombstone's, or that of the objects whose values are as long; 0, which is no
-- entry's, where no object's value is
unfoldable pub kind_for : Layout → Option (List ℕ) → ℕ
kind_for L none = (table L).tombstone_kind
kind_for L (some v) = or_zero (object_kind L (length v))

abbrev pub kind_of : Layout → Entry → ℕ
kind_of L e = kind_for L e.value

-- the value that a kind and the bytes behind the version say
unfoldable pub value_for : Layout → ℕ → List ℕ → Option (List ℕ)
value_for L k v = pick (is_tombstone_kind L k) none (some v)

-- the bytes of an entry: kind, table, key, version, value
abbrev pub encoded : Layout → Entry → List ℕ
encoded L e = kind_of L e ∷ bytes_of 2 e.table ++ bytes_of 4 e.key ++ bytes_of (table L).width e.version ++ bytes_in e.value

abbrev pub size_of : Layout → Entry → ℕ
size_of L e = entry_size L (length (bytes_in e.value))

-- the entry that an entry's own bytes say
abbrev pub decoded_entry : Layout → List ℕ → Entry
decoded_entry L b =
    record {
      table = number_of (take 2 (drop 1 b));
      key = number_of (take 4 (drop 3 b));
      version = number_of (take (table L).width (drop 7 b));
      value = value_for L (get_or b 0 0) (drop (7 + (table L).width) b);
    }

-- What the reader of an entry gives: an entry, the end, or damage.
pub data Found : Type 0 where
  entry : Entry → Found
  end damage : Found

-- an entry of the right length: its version must be one
unfoldable pub of_version : Layout → Entry → Found
of_version L e = pick (good_version L e.version) (entry e) damage

-- an entry whose value is n bytes long, which must not pass the segment's end
unfoldable pub of_length : Layout → List ℕ → ℕ → Option ℕ → Found
of_length L s at none = damage
of_length L s at (some n) =
    pick (leb (at + entry_size L n) (length s)) (of_version L (decoded_entry L (take (entry_size L n) (drop at s)))) damage

-- What stands at an offset of a segment s. Kind 0 is the end, and so is the segment's own end, for an entry may end there.
-- An unknown kind, an entry past the segment's end and a version out of range are damage, and so is an offset past the end.
unfoldable pub entry_at : Layout → List ℕ → ℕ → Found
entry_at L s at =
    pick (ltb at (length s)) (pick (eqb (get_or s at 0) 0) end (of_length L s at (value_length L (get_or s at 0))))
    (pick (eqb at (length s)) end damage)

-- The same as the enum that the reader answers, whose form 01 names.
unfoldable pub answer : Layout → Found → Read
answer L (entry e) =
    pick (is_tombstone e) (Tombstone (key_of e) (record { 0 = e.version }) (size_of L e))
    (Object (key_of e) (record { 0 = e.version }) (kind_of L e) (size_of L e))
answer L end = End
answer L damage = Damage

-- whether a value is as long as an object's; an entry without one is a tombstone
unfoldable pub length_known : Layout → Option (List ℕ) → Bool
length_known L none = true
length_known L (some v) = not (is_none (object_kind L (length v)))

-- What it means that an entry is one of this layout: its value has the length of an object's, and each field fits its bytes.
pub record WellFormed (L : Layout) (e : Entry) : Type 0 where
  pub length-known : length_known L e.value ≡ true
  pub table_fits : e.table < 256 ^ 2
  pub key_fits : e.key < 256 ^ 4
  pub version-good : good_version L e.version ≡ true
  pub value-bytes : Bytes (bytes_in e.value)

-- What it means that the entry e stands at an offset of s.
pub record Stands (L : Layout) (s : List ℕ) (at : ℕ) (e : Entry) : Type 0 where
  pub formed : WellFormed L e
  pub fits : at + size_of L e ≤ length s
  pub same : take (size_of L e) (drop at s) ≡ encoded L e
