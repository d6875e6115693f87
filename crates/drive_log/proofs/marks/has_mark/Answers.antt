-- `drive_log::marks::has_mark` meets its contract.
use Prim.Native.Nat.{ℕ, ◌/◌, ◌%◌}
use mathlib.Core.Path.{◌∙◌, ap}
use Rattle.drive_log.specs.Marks.{bit_in, has_mark}
use Rattle.drive_log.proofs.marks.has_mark.Goals as goal

pub returns : goal.returns
unfolding has_mark
returns c =
    c.has_slot.ensures
    ∙ ap (λ (k : ℕ). bit_in c.args.marks.now (k / 32) (k % 32)) c.mark_of-number.ensures.0
