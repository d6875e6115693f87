-- `report::ascending::recover_first` meets its contract.
use Prim.Native.Nat.{ℕ}
use mathlib.Core.Path.{sym, ap}
use native.Mathlib.Omega.{arith}
use lib.ListN.{take}
use lib.Seq.{length-take-le}
use Rattle.report.proofs.Recovered.{order_same}
use Rattle.report.proofs.ascending.recover_first.Goals as goal

pub slice_bounds-recover-end : goal.slice_bounds-recover-end
slice_bounds-recover-end c = sym (length-take-le _ _ (omega (arith, c.min-used.ensures, c.requires)))

pub returns : goal.returns
returns c =
    order_same (ap (λ (k : ℕ). take k c.args.slots.now) c.min-used.ensures) c.recover.ensures
