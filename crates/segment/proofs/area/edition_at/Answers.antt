-- `segment::area::edition_at` meets its contract.
use Rattle.segment.proofs.AreaLaws.{layout-past}
use Rattle.segment.proofs.area.edition_at.Goals as goal

pub returns-then-area-place : goal.returns-then-area-place
returns-then-area-place c = layout-past c.args.area.now c.args.place c.if-area-place.true
