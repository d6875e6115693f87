-- `slot_map::free_slots` meets its contract: the ones of a map below 2 ^ n are the slots below n that it names.
use mathlib.Core.Path.{sym, ap}
use Prim.Native.Nat.{ℕ, ◌-◌}
use native.Mathlib.Nat.{le_trans, le_of_eq}
use Rattle.slot_map.proofs.CountLaws.{used_le, used-ones}
use Rattle.slot_map.proofs.free_slots.Goals as goal

pub overflow_sub-result : goal.overflow_sub-result
overflow_sub-result c = le_trans (le_of_eq (sym (used-ones c.args.n c.args.map c.requires))) (used_le c.args.n c.args.map)

pub returns : goal.returns
returns c = ap (λ (x : ℕ). c.args.n - x) (sym (used-ones c.args.n c.args.map c.requires))
