-- `drive_log::filter::mark` meets its contract.
use Prim.Native.Nat.{◌%◌}
use mathlib.Core.Path.{ap}
use lib.ListN.{set}
use Rattle.drive_log.specs.Filter.{is_marked, marked_with}
use Rattle.drive_log.proofs.filter.mark.Goals as goal

pub returns : goal.returns
unfolding is_marked marked_with
returns c =
    let a = c.args in
    record {
      was = c.has_slot.ensures;
      now = ap (set a.filter.now (a.version.0 % 512)) c.with_slot.ensures;
    }
