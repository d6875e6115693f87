-- `images::bundle::parts` meets its contract: the tests for what an item lacks, and each cut behind the one before it.
use Rattle.std.proofs.Common.{◌∙◌, ap}
use Rattle.images.specs.Bundle.{item_length, lacks-header, lacks-rest, lacks-none, name-cut, order-cut, stored-cut, keys-cut}
use Rattle.images.proofs.bundle.parts.Goals as goal

pub returns-then-bytes-lt-HEADER-clause-lacks : goal.returns-then-bytes-lt-HEADER-clause-lacks
returns-then-bytes-lt-HEADER-clause-lacks c = lacks-header _ c.if-bytes-lt-HEADER.true

pub returns-then-bytes-item_length-clause-lacks : goal.returns-then-bytes-item_length-clause-lacks
returns-then-bytes-item_length-clause-lacks c =
    lacks-rest _ _ (c.item_length.ensures ∙ ap item_length c.header_of-header.ensures) c.if-bytes-lt-HEADER.false c.if-bytes-item_length.true

pub returns-clause-lacks : goal.returns-clause-lacks
returns-clause-lacks c =
    lacks-none _ _ (c.item_length.ensures ∙ ap item_length c.header_of-header.ensures) c.if-bytes-lt-HEADER.false c.if-bytes-item_length.false

pub returns-clause-cut : goal.returns-clause-cut
returns-clause-cut c =
    let item = c.args.bytes.now in
    let head = c.header_of-header.result in
    let own = c.header_of-header.ensures in
    let a = c.split_at.ensures.back in
    let b = c.split_at-2.ensures.back in
    let d = c.split_at-3.ensures.back in (
      own,
      name-cut item head own _ _ _ a b d c.split_at-2.ensures.front,
      order-cut item head own _ _ _ a b d c.split_at-3.ensures.front,
      stored-cut item head own _ _ _ a b d c.split_at-4.ensures.front,
      keys-cut item head own _ _ _ a b d c.split_at-4.ensures.back,
    )
