-- `cleaning::clean::check_victims` meets its contract.
use Rattle.std.specs.Prelude.{Err}
use mathlib.Core.Path.{ap}
use mathlib.Core.Bool.{not}
use mathlib.Core.Path.{◌≡◌, sym, ◌∙◌}
use borrow.Author.Rules.{rules}
use Rattle.cleaning.proofs.CleanLaws.{front-bad, front-idle, front-victims, front-passed}
use Rattle.cleaning.proofs.clean.check_victims.Goals as goal

pub returns-then-not-fits_lent : goal.returns-then-not-fits_lent
returns-then-not-fits_lent c = front-bad _ _ _ _ c.fits_lent.ensures (ap not c.if-not-fits_lent.true)

pub returns-then-victims_bad : goal.returns-then-victims_bad
returns-then-victims_bad c =
    front-victims _ _ _ _ c.fits_lent.ensures (ap not c.if-not-fits_lent.false) (sym c.in_ok-check_idle.was ∙ c.check_idle.ensures)
    _ c.victims_bad.ensures c.if-victims_bad.true

pub returns-in_err-check_idle : goal.returns-in_err-check_idle
returns-in_err-check_idle c =
    let e : c.from_residual.result ≡ Err c.in_err-check_idle.field-0.0 = search rules in
    e ∙ front-idle _ _ _ _ c.fits_lent.ensures (ap not c.if-not-fits_lent.false) _ (sym c.in_err-check_idle.was ∙ c.check_idle.ensures)

pub returns : goal.returns
returns c =
    front-passed _ _ _ _ c.fits_lent.ensures (ap not c.if-not-fits_lent.false) (sym c.in_ok-check_idle.was ∙ c.check_idle.ensures)
    _ c.victims_bad.ensures c.if-victims_bad.false
