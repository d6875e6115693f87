-- `index::search::first_cell` meets its contract.
use Prim.Native.Nat.{◌%◌, ◌<◌}
use native.Mathlib.Nat.{mod-lt}
use native.Mathlib.Omega.{arith}
use borrow.Author.Rules.{rules}
use Rattle.index.proofs.search.first_cell.Goals as goal

-- a remainder by a number of 16 bits has 16 bits
pub overflow_cast-result : goal.overflow_cast-result
overflow_cast-result c =
    let a = c.args in
    let some : 0 < a.m = search rules in
    let l : a.hash % a.m < a.m = mod-lt a.hash some in
    omega (arith, c.remainder.ensures, l)
