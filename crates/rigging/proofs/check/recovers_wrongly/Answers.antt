-- `rigging::check::recovers_wrongly` meets its contract.
use mathlib.Core.List.{[]}
use mathlib.Core.Path.{refl}
use mathlib.Core.List.{◌∷◌}
use native.Mathlib.Omega.{arith}
use Rattle.word.specs.Number.{Bytes}
use Rattle.rig_model.proofs.CheckLaws.{recovered-none, recovered-ready, order-mixed, wrong-refused, wrong-store}
use Rattle.rigging.proofs.check.recovers_wrongly.Goals as goal

pub store_as-requires : goal.store_as-requires
store_as-requires c =
    let bytes : Bytes c.args.area.now = λ i. omega (arith, c.type_inv.area i) in
    (recovered-ready (2 ∷ 0 ∷ 3 ∷ 1 ∷ []) c.args.area.now _ _ c.recover-recovery.result order-mixed refl c.recover-recovery.ensures (bytes) c.in-Ok.is)

pub returns-in-Err : goal.returns-in-Err
returns-in-Err c = wrong-refused c.args.faulty c.args.area.now c.args.book (recovered-none (2 ∷ 0 ∷ 3 ∷ 1 ∷ []) c.args.area.now _ _ c.recover-recovery.result order-mixed refl c.recover-recovery.ensures _ c.in-Err.is)

pub returns-in-Ok : goal.returns-in-Ok
returns-in-Ok c =
    let bytes : Bytes c.args.area.now = λ i. omega (arith, c.type_inv.area i) in
    wrong-store c.args.faulty c.args.area.now c.args.book c.recover-recovery.result.rec (recovered-ready (2 ∷ 0 ∷ 3 ∷ 1 ∷ []) c.args.area.now _ _ c.recover-recovery.result order-mixed refl c.recover-recovery.ensures (bytes) c.in-Ok.is).recovers c.store_as.result c.store_as.ensures
