-- `segment::rewrite::kind_as` meets its contract.
use mathlib.Core.Path.{◌∙◌}
use Rattle.segment.proofs.Rewritten.{kind-tombstone, kind-object}
use Rattle.segment.proofs.rewrite.kind_as.Goals as goal

pub returns-then-tombstone : goal.returns-then-tombstone
returns-then-tombstone c = c.tombstone_kind.ensures ∙ kind-tombstone _ _ _ c.if-tombstone.true

pub returns : goal.returns
returns c = c.object_kind.ensures ∙ kind-object _ _ _ c.if-tombstone.false
