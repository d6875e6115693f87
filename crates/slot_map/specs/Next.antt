-- The slot that a new head takes (01, "Operations, store by store"): the search for a free one goes up from the old head and on from slot 0.
use Rattle.std.specs.Prelude.{ℕ, zero, suc, ◌+◌, true, false, ltb}
use Rattle.slot_map.specs.Bit.{named}

-- the slot after i, of n: slot 0 follows the last
unfoldable pub slot_after : ℕ → ℕ → ℕ
slot_after n i = elim (ltb (i + 1) n) [ true ↦ i + 1 | false ↦ 0 ]

-- the first of f slots from i on, going round, that m does not name; n where it names all of them
unfoldable pub free_from : ℕ → ℕ → ℕ → ℕ → ℕ
free_from zero n m i = n
free_from (suc f) n m i = elim (named m i) [ true ↦ free_from f n m (slot_after n i) | false ↦ i ]

-- the first free slot of n after the head, which comes last; n where m names all n
unfoldable pub next_free : ℕ → ℕ → ℕ → ℕ
next_free n m head = free_from n n m (slot_after n head)
