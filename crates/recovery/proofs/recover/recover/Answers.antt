-- `recovery::recover::recover` meets its contract.
use mathlib.Core.Path.{sym, ◌∙◌}
use Rattle.recovery.proofs.CheckLaws.{check-refused, check-passed}
use Rattle.recovery.proofs.RecoverPromises.{lent-promise}
use Rattle.recovery.proofs.recover.recover.Goals as goal

pub recover_image-requires : goal.recover_image-requires
recover_image-requires c = check-passed _ (sym c.check_lent.ensures ∙ c.in-Ok.is)

pub returns-in-Err : goal.returns-in-Err
returns-in-Err c =
    let a = c.args in
    lent-promise _ a.n a.s a.order.now a.area.now a.index.now _ _
    (check-refused _ _ (sym c.check_lent.ensures ∙ c.in-Err.is)) c.refused.ensures
