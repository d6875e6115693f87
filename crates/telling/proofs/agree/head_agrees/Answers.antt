-- `telling::agree::head_agrees` meets its contract.
use Prim.Native.Nat.{ℕ}
use mathlib.Core.Path.{◌∙◌, ap, ap₂}
use native.Mathlib.Omega.{arith}
use Rattle.segment.specs.Layout.{Layout, digest_size}
use Rattle.segment.proofs.LayoutLaws.{width-high}
use Rattle.record.specs.RangeLaws.{ends, goes}
use Rattle.telling.specs.Agree.{entry_agrees}
use Rattle.telling.proofs.agree.head_agrees.Goals as goal

pub entry_agrees-requires : goal.entry_agrees-requires
entry_agrees-requires c = omega (arith, c.digest_size.ensures, width-high c.new_edition-edition.result)

pub returns-then-slot_agrees : goal.returns-then-slot_agrees
returns-then-slot_agrees c =
    let s = c.args in
    goes _ c.slot_agrees.ensures c.if-slot_agrees.true
    (c.entry_agrees.ensures
    ∙ ap₂ (λ (W : Layout) (b : ℕ). entry_agrees W s.rec b s.count) c.new_edition-edition.ensures
    (c.digest_size.ensures ∙ ap digest_size c.new_edition-edition.ensures))

pub returns-else-slot_agrees : goal.returns-else-slot_agrees
returns-else-slot_agrees c = ends _ c.slot_agrees.ensures c.if-slot_agrees.false
