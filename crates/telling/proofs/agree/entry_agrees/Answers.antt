-- `telling::agree::entry_agrees` meets its contract.
use Prim.Native.Nat.{ℕ, ◌+◌}
use mathlib.Core.Path.{sym, ◌∙◌, ap}
use native.Mathlib.Omega.{arith}
use lib.Dec.{leb}
use borrow.Author.Tests.{ltb-true, ltb-false}
use Rattle.segment.proofs.LayoutLaws.{width-high}
use Rattle.telling.proofs.AgreeLaws.{entry-spent, entry-rest}
use Rattle.telling.proofs.agree.entry_agrees.Goals as goal

pub returns-then-not-version_left : goal.returns-then-not-version_left
returns-then-not-version_left c = entry-spent _ _ _ _ (ltb-false _ _ (sym c.version_left.ensures ∙ c.if-not-version_left.true))

pub overflow_add-result : goal.overflow_add-result
overflow_add-result c = omega (arith, c.head_size.ensures, width-high c.args.edition, c.requires)

pub returns : goal.returns
returns c =
    let s = c.args in
    ap (λ (n : ℕ). leb (s.before + n) s.count) c.head_size.ensures ∙
    entry-rest _ _ _ _ (ltb-true _ _ (sym c.version_left.ensures ∙ c.if-not-version_left.false))
