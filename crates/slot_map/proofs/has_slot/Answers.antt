-- `slot_map::has_slot` meets its contract.
use mathlib.Core.Path.{ap}
use Prim.Native.Nat.{ℕ}
use lib.Dec.{eqb}
use Rattle.slot_map.proofs.Words.{tested}
use Rattle.slot_map.proofs.has_slot.Goals as goal

pub returns : goal.returns
returns c = ap (λ (x : ℕ). eqb x 1) (tested c.args.map c.args.i)
