-- 01, "Refused calls", the sentence on when a record is out of range, and cause 4's other half, the lent lengths. The
-- limits of N, S and M are those of "Memory the caller lends".
use Rattle.std.specs.Prelude.{ℕ, ◌+◌, ◌*◌, ◌-◌, ◌^◌, Bool, true, false, not, List, [], ◌∷◌, eqb, ltb, leb}
use Rattle.segment.specs.Choice.{both}
use Rattle.segment.specs.Layout.{Layout, edition1, digest_size, version_limit}
use Rattle.slot_map.specs.Bit.{bit, named}
use Rattle.slot_map.specs.Count.{used}
use Rattle.record.specs.declared.Pending.{Pending}
use Rattle.record.specs.declared.Pending.TheVariants.{Idle, Append, NewHead, Clean, Forget}
use Rattle.record.specs.declared.Record.{Record}

-- x from a to b
unfoldable pub between : ℕ → ℕ → ℕ → Bool
between a b x = both (leb a x) (leb x b)

-- N from 4 to 32
abbrev pub slots_good : ℕ → Bool
slots_good n = between 4 32 n

-- S from 256 to 2,048
abbrev pub size_good : ℕ → Bool
size_good s = between 256 2048 s

-- M from 16 to 4,096
abbrev pub cells_good : ℕ → Bool
cells_good m = between 16 4096 m

-- a slot map that names no slot from n on, names the head and leaves a slot free
unfoldable pub map_good : ℕ → ℕ → ℕ → Bool
map_good n head map = both (ltb map (2 ^ n)) (both (named map head) (ltb (used n map) n))

-- a pending operation has 1 to S + 1 stores left
unfoldable pub left_good : ℕ → Pending → Bool
left_good s Idle = true
left_good s (Append n k) = between 1 (s + 1) k
left_good s (NewHead i n k) = between 1 (s + 1) k
left_good s (Clean i v n k) = between 1 (s + 1) k
left_good s (Forget i v n k) = between 1 (s + 1) k

-- a next version of 1 or more; 02, R-11: it is not above its limit
abbrev pub next_good : Layout → ℕ → Bool
next_good L v = between 1 (version_limit L) v

-- 02, R-5: no number of present bytes is above a limit, which is what a segment has behind its digest
unfoldable pub counts_good : ℕ → List ℕ → Bool
counts_good m [] = true
counts_good m (c ∷ cs) = both (leb c m) (counts_good m cs)

-- S - 13: the most that a segment has behind its digest, in any edition. A slot of the first edition may stand in the log of a store whose
-- head is of the second (02, R-13).
abbrev pub most_present : ℕ → ℕ
most_present s = s - digest_size edition1

-- a record whose numbers are all in range
unfoldable pub in_range : Layout → Record → Bool
in_range L r =
    both (both (both (slots_good r.slots) (size_good r.size)) (both (cells_good r.cells) (map_good r.slots r.head r.map)))
    (both (both (between (digest_size L) r.size r.end) (both (not (eqb r.digest.0 0)) (next_good L r.next.0)))
    (both (leb r.keys (r.cells - 1)) (both (counts_good (most_present r.size) r.counts) (left_good r.size r.pending))))

-- the lent area and index are as long as the record says
unfoldable pub lengths_own : Record → ℕ → ℕ → Bool
lengths_own r area_length index_length = both (eqb area_length (r.slots * r.size)) (eqb index_length r.cells)

-- a record that passes the tests of 4 which need no look at the log
unfoldable pub fits_lent : Layout → Record → ℕ → ℕ → Bool
fits_lent L r area_length index_length = both (in_range L r) (lengths_own r area_length index_length)
