-- The bytes before the place are the value's.
use Rattle.std.proofs.Common.{◌≡◌, drop}
use Rattle.play.specs.Values.{rises}
use Rattle.play.proofs.reads.bytes_are.Given as goal

abbrev pub invariant-loop-byte : goal.invariant-loop-byte
invariant-loop-byte l = rises l.bytes l.value.first l.value.rise ≡ rises (drop l.byte-index l.bytes) l.due l.value.rise
