-- 02, R-5: how many bytes of each slot are present objects, 32 numbers in the record.
use Rattle.std.specs.Prelude.{ℕ, suc, ◌+◌, ◌-◌, Bool, List, [], ◌∷◌, get_or, set, replicate}
use Rattle.std.proofs.Math.Option.{Option, none, some}
use Rattle.segment.specs.Choice.{pick}
use Rattle.segment.specs.Layout.{Layout}
use Rattle.segment.specs.Entry.{Entry, is_tombstone, size_of, key_of}
use Rattle.slot_map.specs.Bit.{named}
use Rattle.model.specs.Log.{Placed, placed_size, is_version, present}

-- an entry of the log is the object that gives its key the value
abbrev pub is_present : List Placed → Entry → Bool
is_present log e = is_version (present log (key_of e)) e.version

-- the bytes of such an entry, all that it takes in its slot, and 0 of any other
abbrev pub present_size : List Placed → Placed → ℕ
present_size log x = pick (is_present log x.entry) (placed_size x) 0

-- n bytes more, or fewer, in the number of slot i
abbrev pub more_bytes : ℕ → ℕ → List ℕ → List ℕ
more_bytes i n c = set c i (get_or c i 0 + n)

abbrev pub fewer_bytes : ℕ → ℕ → List ℕ → List ℕ
fewer_bytes i n c = set c i (get_or c i 0 - n)

-- What a scan of xs counts: the objects among them that give present keys of the log their values, each in the number of its slot.
unfoldable pub tally : List Placed → List Placed → List ℕ
tally log [] = replicate 32 0
tally log (x ∷ xs) = more_bytes x.slot (present_size log x) (tally log xs)

-- The present bytes of the 32 slots, 0 for those that are not in the log.
abbrev pub counts_of : List Placed → List ℕ
counts_of log = tally log log

-- ---- the numbers after an operation, of which only those change that the operation touches

-- an object's bytes; a tombstone counts for nothing
abbrev pub object_size : Layout → Entry → ℕ
object_size L e = pick (is_tombstone e) 0 (size_of L e)

unfoldable pub object_bytes : Layout → List Entry → ℕ
object_bytes L [] = 0
object_bytes L (e ∷ es) = object_size L e + object_bytes L es

-- the slot of a key's live object, if it has one, loses its bytes
unfoldable pub without_live : Option Placed → List ℕ → List ℕ
without_live none c = c
without_live (some x) c = fewer_bytes x.slot (placed_size x) c

-- An entry that comes to slot i takes the bytes from where its key's object was and adds its own.
abbrev pub entry_counts : Layout → List Placed → ℕ → Entry → List ℕ → List ℕ
entry_counts L log i e c = more_bytes i (object_size L e) (without_live (present log (key_of e)) c)

-- the numbers of the slots from i on, those of the victims 0
unfoldable pub without_victims : ℕ → ℕ → List ℕ → List ℕ
without_victims victims i [] = []
without_victims victims i (c ∷ cs) = pick (named victims i) 0 c ∷ without_victims victims (suc i) cs

-- A new head in slot i that takes over entries of victims has the bytes of the objects among them, and the victims have none.
abbrev pub renewed_counts : Layout → ℕ → ℕ → List Entry → List ℕ → List ℕ
renewed_counts L victims i es c = set (without_victims victims 0 c) i (object_bytes L es)
