-- `slot_map::next_free` meets its contract: the code's map of free slots is one (`free-map`), and there is a law for each return.
use mathlib.Core.Path.{◌≡◌}
use Prim.Native.Nat.{ℕ, ◌+◌, ◌-◌, ◌/◌, ◌^◌, ◌≤◌, ◌<◌}
use lib.Bits.{bit_and}
use lib.Count.{count_trailing_zeros}
use Rattle.slot_map.specs.Next.{next_free}
use Rattle.slot_map.specs.Vacant.{above}
use Rattle.slot_map.proofs.Vacant.{next-above, next-round, next-nothing}
use Rattle.slot_map.proofs.Words.{free-map}
use Rattle.slot_map.proofs.next_free.Goals as goal

abbrev vacant : ℕ → ℕ → ℕ
vacant n m = bit_and (0xffff_ffff - m) (0xffff_ffff / 2 ^ (32 - n))

module _ {n m head : ℕ} (pre : (1 ≤ n) × (n ≤ 32) × (head < n)) (fits : m < 2 ^ 32) where
  over : (above (vacant n m) head ≡ 0 → ⊥) → head + 1 + count_trailing_zeros 32 (above (vacant n m) head) ≡ next_free n m head
  over = next-above n m (vacant n m) head (free-map 32 n m pre.1 fits) 32 pre.1 pre.2

  nothing : vacant n m ≡ 0 → n ≡ next_free n m head
  nothing = next-nothing n m (vacant n m) head (free-map 32 n m pre.1 fits) 32 pre.1 pre.2

  round : above (vacant n m) head ≡ 0 → (vacant n m ≡ 0 → ⊥) → count_trailing_zeros 32 (vacant n m) ≡ next_free n m head
  round = next-round n m (vacant n m) head (free-map 32 n m pre.1 fits) 32 pre.1 pre.2

pub returns-then-above-ne0 : goal.returns-then-above-ne0
returns-then-above-ne0 c = over c.requires c.ranges.map.fits c.if-above-ne0.true

pub returns-then-vacant-eq0 : goal.returns-then-vacant-eq0
returns-then-vacant-eq0 c = nothing c.requires c.ranges.map.fits c.if-vacant-eq0.true

pub returns : goal.returns
returns c = round c.requires c.ranges.map.fits c.if-above-ne0.false c.if-vacant-eq0.false
