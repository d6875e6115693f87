-- `joining::pairs::pair_fits` meets its contract.
use mathlib.Core.Path.{refl, sym, ◌∙◌}
use Prim.Native.Nat.{◌≤◌}
use native.Mathlib.Omega.{arith}
use Rattle.segment.proofs.LayoutLaws.{width-high}
use Rattle.joining.specs.WeightsLaws.{fits-order, fits-first, fits-second, fits_both}
use Rattle.joining.proofs.pairs.pair_fits.Goals as goal
use Rattle.joining.proofs.pairs.pair_fits.Goals.{After-digest_size}

digest-few : (c : After-digest_size) → c.digest_size.result ≤ 17
digest-few c = omega (arith, c.digest_size.ensures, width-high c.args.edition)

pub returns-then-j-i : goal.returns-then-j-i
returns-then-j-i c = fits-order _ _ _ _ _ _ c.if-j-i.true

pub returns-then-not-is_named : goal.returns-then-not-is_named
returns-then-not-is_named c = fits-first _ _ _ _ _ _ (omega (arith, c.if-j-i.false)) (sym c.is_named.ensures ∙ c.if-not-is_named.true)

pub returns-then-not-is_named-2 : goal.returns-then-not-is_named-2
returns-then-not-is_named-2 c = fits-second _ _ _ _ c.args.i c.args.j (omega (arith, c.if-j-i.false)) (sym c.is_named-2.ensures ∙ c.if-not-is_named-2.true)

pub overflow_add-both : goal.overflow_add-both
overflow_add-both c = omega (arith, digest-few (goal.at.overflow_add-both c).After-digest_size, c.type_inv.totals c.args.i)

pub overflow_add-both-2 : goal.overflow_add-both-2
overflow_add-both-2 c = omega (arith, digest-few (goal.at.overflow_add-both-2 c).After-digest_size, c.type_inv.totals c.args.i, c.type_inv.totals c.args.j)

pub returns : goal.returns
returns c =
    fits_both _ _ _ _ _ _ (omega (arith, c.if-j-i.false)) (sym c.is_named.ensures ∙ c.if-not-is_named.false) (sym c.is_named-2.ensures ∙ c.if-not-is_named-2.false) (rw c.digest_size.ensures refl)
