-- `drive_log::marks::set_mark` meets its contract.
use Prim.Native.Nat.{ℕ, ◌/◌, ◌%◌}
use mathlib.Core.Path.{◌∙◌, ap}
use lib.ListN.{set}
use Rattle.drive_log.specs.Marks.{set_in, with_mark}
use Rattle.drive_log.proofs.marks.set_mark.Goals as goal

pub returns : goal.returns
unfolding with_mark
returns c =
    let m = c.args.marks.now in
    ap (set m (c.mark_of-number.result / 32)) c.with_slot.ensures ∙ ap (λ (k : ℕ). set_in m (k / 32) (k % 32)) c.mark_of-number.ensures.0
