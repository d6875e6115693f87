-- `cleaning::kept::moved_length` meets its contract.
use native.Mathlib.Omega.{arith}
use Rattle.segment.proofs.LayoutLaws.{width-high}
use Rattle.cleaning.proofs.kept.moved_length.Goals as goal

pub overflow_add-result : goal.overflow_add-result
overflow_add-result c =
    omega (arith, c.requires.1, c.head_size-2.ensures, width-high c.args.into)
