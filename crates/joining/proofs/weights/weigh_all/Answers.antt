use mathlib.Core.Path.{◌≡◌, subst}
use native.Mathlib.Omega.{arith}
use Rattle.joining.specs.Weights.{Rows}
use Rattle.joining.proofs.weights.weigh_all.Goals as goal

pub returns : goal.returns
returns c =
    let a = c.args in
    let e : c.loop-i.i ≡ a.split.slots = omega arith in
    subst (λ n. Rows a.into a.area.now a.cells.now a.notes.now a.split n c.loop-i.totals c.loop-i.shares) e c.loop-i.invariant
