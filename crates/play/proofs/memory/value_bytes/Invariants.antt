-- The bytes that are set and those to come are the value's.
use Rattle.std.proofs.Common.{◌≡◌, ◌-◌, ◌++◌, length, take}
use Rattle.play.specs.Values.{rising}
use Rattle.play.proofs.memory.value_bytes.Given as goal

abbrev pub invariant-loop-place : goal.invariant-loop-place
invariant-loop-place l =
    (length l.place-items ≡ 120) × (take l.place-index l.place-items ++ rising (120 - l.place-index) l.byte l.value.rise ≡ rising 120 l.value.first l.value.rise)
