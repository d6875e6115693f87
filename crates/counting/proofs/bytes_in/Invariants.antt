-- `counting::bytes_in` meets its contract. The invariant: what was added up, and the objects from here on, are all.
use Prim.Native.Nat.{◌+◌, ◌-◌, ◌≤◌}
use mathlib.Core.Path.{◌≡◌}
use Rattle.counting.specs.Counting.{bytes_from, segment_bytes}
use Rattle.counting.proofs.bytes_in.Given as goal

abbrev pub invariant-loop-header : goal.invariant-loop-header
invariant-loop-header l = (l.sum ≤ l.at) × (l.at ≤ 2048 + 17) × (l.sum + bytes_from l.edition l.s l.at ≡ segment_bytes l.edition l.s)

abbrev pub decreases-loop-header : goal.decreases-loop-header
decreases-loop-header l = 4096 - l.at
