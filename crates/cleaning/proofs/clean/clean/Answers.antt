-- `cleaning::clean::clean` meets its contract.
use Prim.Native.Nat.{ℕ}
use mathlib.Core.Path.{sym, ◌∙◌, ap}
use native.Mathlib.Omega.{arith}
use lib.ListN.{length, length-replicate}
use Rattle.word.specs.Number.{Bytes}
use Rattle.cleaning.proofs.FilterLaws.{length-needed}
use Rattle.cleaning.proofs.CleanLaws.{front-refused, front-shape, front_fits, marked-promise}
use Rattle.cleaning.proofs.clean.clean.Goals as goal

pub mark_needed-requires : goal.mark_needed-requires
mark_needed-requires c =
    let a = c.args in
    front-shape _ a.area.now a.index.now a.rec a.victims a.work.now (sym c.in-Ok.is ∙ c.check_victims.ensures)
    _ _ c.split_of-split.ensures (length-replicate {A = ℕ} 128 0)

pub clean_marked-requires : goal.clean_marked-requires
clean_marked-requires c =
    let a = c.args in
    front_fits _ a.area.now a.index.now a.rec a.victims a.work.now (sym c.in-Ok.is ∙ c.check_victims.ensures)
    _ _ c.split_of-split.ensures (ap length c.mark_needed.ensures ∙ length-needed _ _ _ 128 _ (length-replicate {A = ℕ} 128 0))

pub returns-in-Err : goal.returns-in-Err
returns-in-Err c =
    let bytes : Bytes c.args.area.now = λ i. omega (arith, c.type_inv.area i) in
    front-refused _ _ _ _ _ _ (bytes) _ (sym c.in-Err.is ∙ c.check_victims.ensures) _ c.refused.ensures

pub returns-in-Ok : goal.returns-in-Ok
returns-in-Ok c =
    let bytes : Bytes c.args.area.now = λ i. omega (arith, c.type_inv.area i) in
    let a = c.args in
    marked-promise _ a.area.now a.index.now a.rec a.victims a.work.now (sym c.in-Ok.is ∙ c.check_victims.ensures)
    (bytes) _ _ c.split_of-split.ensures c.mark_needed.ensures _ c.new_edition-into.ensures _ _ c.clean_marked.ensures
