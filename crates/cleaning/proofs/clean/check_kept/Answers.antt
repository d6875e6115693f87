-- `cleaning::clean::check_kept` meets its contract.
use native.Mathlib.Omega.{arith}
use Rattle.segment.proofs.LayoutLaws.{width-high}
use Rattle.cleaning.proofs.CleanLaws.{kept-long, kept-spent, kept-passed}
use Rattle.cleaning.proofs.clean.check_kept.Goals as goal

pub overflow_add-length : goal.overflow_add-length
overflow_add-length c = omega (arith, c.digest_size.ensures, width-high c.args.into, c.requires)

pub returns-then-rec-length : goal.returns-then-rec-length
returns-then-rec-length c = kept-long _ _ _ (omega (arith, c.if-rec-length.true, c.digest_size.ensures))

pub returns-then-number : goal.returns-then-number
returns-then-number c = kept-spent _ _ _ (omega (arith, c.if-rec-length.false, c.digest_size.ensures)) c.if-number.true

pub returns : goal.returns
returns c = kept-passed _ _ _ (omega (arith, c.if-rec-length.false, c.digest_size.ensures)) c.if-number.false
