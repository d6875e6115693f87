use Prim.Native.Nat.{◌<◌}
use mathlib.Core.Path.{◌≡◌}
use lib.ListN.{length}
use Rattle.drive_log.specs.Tables.{put_some, put-turn}
use Rattle.drive_log.proofs.table.insert.Goals as goal
use Rattle.drive_log.proofs.table.insert.Goals.{In-loop-carried}

-- the cell that is next
inside : (c : In-loop-carried) → (c.loop-carried.cell < 192) × (length c.loop-carried.table ≡ 192)
inside c = (put_some _ _ _ _ _ c.loop-carried.invariant c.loop-carried-test.true, c.loop-carried.invariant.sorted.size)

pub loop-carried-preserved : goal.loop-carried-preserved
loop-carried-preserved c = put-turn _ _ _ _ _ c.loop-carried.invariant (inside (goal.at.loop-carried-preserved c).In-loop-carried).0
