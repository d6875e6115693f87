-- Slot maps with four slots and with 32, worked out.
use Rattle.std.specs.Prelude.{◌≡◌, refl, ◌-◌, ◌^◌}
use Rattle.slot_map.specs.Bit.{bit, with_bit, less}
use Rattle.slot_map.specs.Count.{used}
use Rattle.slot_map.specs.Next.{slot_after, free_from, next_free}

-- 01, "Values to hold it to", case 5: cleaning slot 0 makes slot 1 the head, alone in its map
cleaned : with_bit (less 0b0001 0b0001) (next_free 4 0b0001 0) ≡ 2
unfolding bit with_bit less slot_after free_from next_free
cleaned = refl

-- going round; the head itself comes last; none is free
round : next_free 4 0b1010 3 ≡ 0
unfolding bit slot_after free_from next_free
round = refl

head-last : next_free 4 0b1101 1 ≡ 1
unfolding bit slot_after free_from next_free
head-last = refl

full : next_free 32 (2 ^ 32 - 1) 31 ≡ 32
unfolding bit slot_after free_from next_free
full = refl

counted : used 32 (2 ^ 32 - 1) ≡ 32
unfolding bit used
counted = refl
