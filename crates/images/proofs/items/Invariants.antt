-- `items` ends: each item ends behind the place at which it begins.
use Rattle.std.proofs.Common.{length, ◌-◌, ◌≤◌}
use Rattle.images.proofs.items.Given as goal

abbrev pub invariant-loop-at : goal.invariant-loop-at
invariant-loop-at g l = l.at ≤ length l.bundle

abbrev pub decreases-loop-at : goal.decreases-loop-at
decreases-loop-at g l = length l.bundle - l.at
