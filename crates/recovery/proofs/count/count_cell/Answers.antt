-- `recovery::count::count_cell` meets its contract.
use Prim.Native.Nat.{◌-◌}
use mathlib.Core.Path.{◌≡◌}
use native.Mathlib.Omega.{arith}
use borrow.Author.Rules.{rules}
use Rattle.recovery.proofs.CountLaws.{object-most, count-free, count_held}
use Rattle.recovery.proofs.count.count_cell.Goals as goal

pub returns-then-cell-eq0 : goal.returns-then-cell-eq0
returns-then-cell-eq0 c = count-free _ _ _ _ c.if-cell-eq0.true

pub overflow_cast-bytes : goal.overflow_cast-bytes
overflow_cast-bytes c =
    let a = c.args in
    omega (arith, c.object_length-bytes.ensures, object-most a.area.now (a.cell - 1))

pub add_bytes-requires : goal.add_bytes-requires
add_bytes-requires c =
    let most = object-most c.args.area.now (c.args.cell - 1) in
    (omega (arith, c.object_length-bytes.ensures), c.requires.1)

pub returns : goal.returns
returns c =
    let taken : c.args.cell ≡ 0 → ⊥ = search rules in
    count_held _ _ _ _ _ _ taken c.object_length-bytes.ensures c.add_bytes.ensures
