-- `telling::agree::version_left` meets its contract.
use Prim.Native.Nat.{ℕ}
use mathlib.Core.Path.{ap}
use lib.Dec.{ltb}
use Rattle.telling.proofs.agree.version_left.Goals as goal

pub returns : goal.returns
returns c = ap (λ (n : ℕ). ltb c.args.rec.next.0 n) c.version_limit.ensures
