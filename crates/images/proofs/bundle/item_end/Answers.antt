-- `item_end` meets its contract: the end at each test.
use Rattle.std.proofs.Common.{◌∙◌, ap, arith}
use Rattle.images.specs.Bundle.{item_length, end-no-header, end_short, end_whole}
use Rattle.images.proofs.bundle.item_end.Goals as goal

pub returns-then-left-lt-HEADER : goal.returns-then-left-lt-HEADER
returns-then-left-lt-HEADER c = (end-no-header _ _ c.if-left-lt-HEADER.true, omega arith, omega arith)

pub returns-then-left-length : goal.returns-then-left-length
returns-then-left-length c = (
  end_short _ _ _ (c.item_length-length.ensures ∙ ap item_length c.header_of.ensures) c.if-left-lt-HEADER.false c.if-left-length.true,
  omega arith,
  omega arith,
)

pub returns : goal.returns
returns c = (
  end_whole _ _ _ (c.item_length-length.ensures ∙ ap item_length c.header_of.ensures) c.if-left-lt-HEADER.false c.if-left-length.false,
  omega (arith, c.item_length-length.ensures),
  omega arith,
)
