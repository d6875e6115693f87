-- `converting::sizes::part_size` meets its contract.
use native.Mathlib.Omega.{arith}
use Rattle.segment.proofs.LayoutLaws.{width-high}
use Rattle.converting.specs.SizeLaws.{length-part_bytes}
use Rattle.converting.proofs.sizes.part_size.Goals as goal

pub overflow_add-result : goal.overflow_add-result
overflow_add-result c = omega (arith, c.entries_size.ensures.1, c.digest_size.ensures, width-high c.args.from, width-high c.args.to)

pub returns : goal.returns
returns c = let a = c.args in omega (arith, c.entries_size.ensures.0, c.digest_size.ensures, length-part_bytes a.from a.to a.part.now)
