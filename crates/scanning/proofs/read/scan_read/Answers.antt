-- `scanning::read::scan_read` meets its contract.
use Rattle.std.specs.Prelude.{Err}
use mathlib.Core.Path.{◌≡◌, sym, ◌∙◌}
use borrow.Author.Rules.{rules}
use Rattle.scanning.specs.Seeking.{answer_of}
use Rattle.scanning.specs.SeekingLaws.{scan-promise}
use Rattle.scanning.proofs.read.scan_read.Goals as goal

pub returns-in_err-object : goal.returns-in_err-object
unfolding answer_of
returns-in_err-object c =
    let e : c.from_residual.result ≡ Err c.in_err-object.field-0.0 = search rules in
    rw e (scan-promise _ _ _ _ _ _ _ (sym c.in_err-object.was ∙ c.seek.ensures))

pub returns : goal.returns
unfolding answer_of
returns c = scan-promise _ _ _ _ _ _ _ (sym c.in_ok-object.was ∙ c.seek.ensures)
