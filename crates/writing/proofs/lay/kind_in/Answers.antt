-- `writing::lay::kind_in` meets its contract.
use mathlib.Core.Path.{sym, ◌∙◌}
use Rattle.writing.specs.Laying.{kind-dead, kind-live}
use Rattle.writing.proofs.lay.kind_in.Goals as goal

pub returns-then-kind-tombstone_kind : goal.returns-then-kind-tombstone_kind
returns-then-kind-tombstone_kind c = c.tombstone_kind-then-kind-tombstone_kind.ensures ∙ kind-dead _ _ _ _ (c.if-kind-tombstone_kind.true ∙ c.tombstone_kind.ensures)

pub returns : goal.returns
returns c =
    c.object_kind.ensures ∙ kind-live _ _ _ _ (λ e. c.if-kind-tombstone_kind.false (e ∙ sym c.tombstone_kind.ensures))
