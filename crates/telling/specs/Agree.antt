-- What is tested before a store, whatever the record: the pending operation agrees with the record, and its next store has a place. A
-- genuine record with a started operation always passes.
use Rattle.std.specs.Prelude.{ℕ, ◌+◌, Bool, false, not, List, ltb, leb, None}
use Rattle.segment.specs.Choice.{pick, both}
use Rattle.segment.specs.Layout.{Layout, entry_size, digest_size, version_limit, number_limit}
use Rattle.slot_map.specs.Bit.{named, within}
use Rattle.record.specs.Switch.{new_layout}
use Rattle.record.specs.declared.Pending.{Pending}
use Rattle.record.specs.declared.Pending.TheVariants.{Idle, Append, NewHead, Clean, Forget}
use Rattle.record.specs.declared.Record.{Record}
use Rattle.telling.specs.Next.{next_store, NextStore}

-- a version is left, and n bytes hold an entry behind the first `before`
unfoldable pub entry_agrees : Layout → Record → ℕ → ℕ → Bool
entry_agrees L r before n = both (ltb r.next.0 (version_limit L)) (leb (before + entry_size L 0) n)

-- a new head's slot is below N and outside the map, and a digest number is left
unfoldable pub slot_agrees : Record → ℕ → Bool
slot_agrees r i = both (ltb i r.slots) (both (ltb r.digest.0 number_limit) (not (named r.map i)))

-- victims are some and within the map, and n bytes hold a digest
unfoldable pub victims_agree : Layout → Record → ℕ → ℕ → Bool
victims_agree L r v n = both (leb (digest_size L) n) (both (ltb 0 v) (within v r.map))

-- the same, and a version is left
unfoldable pub forget_agrees : Layout → Record → ℕ → ℕ → Bool
forget_agrees L r v n = both (ltb r.next.0 (version_limit L)) (victims_agree L r v n)

-- The pending operation agrees with the record, as far as these two tell: an append in the head's edition L, a new head in its own.
unfoldable pub agrees_with : Layout → Record → Pending → Bool
agrees_with L r Idle = false
agrees_with L r (Append n k) = entry_agrees L r 0 n
agrees_with L r (NewHead i n k) = both (slot_agrees r i) (entry_agrees (new_layout r) r (digest_size (new_layout r)) n)
agrees_with L r (Clean i v n k) = both (slot_agrees r i) (victims_agree (new_layout r) r v n)
agrees_with L r (Forget i v n k) = both (slot_agrees r i) (forget_agrees (new_layout r) r v n)

-- the next store, where all the tests are passed
unfoldable pub tested_store : Layout → ℕ → List ℕ → Record → NextStore
tested_store L area_length work r = pick (agrees_with L r r.pending) (next_store area_length work r) None
