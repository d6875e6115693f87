-- `recovery::recover::recover_image` meets its contract: a law for each answer of the image and of the rebuilding.
use Rattle.std.specs.Prelude.{Ok}
use mathlib.Core.Path.{◌≡◌, sym, ◌∙◌}
use mathlib.Core.Bool.{false}
use native.Mathlib.Omega.{arith}
use Rattle.model.specs.Log.{views_of}
use Rattle.laws.specs.Stores.{slot-inside}
use Rattle.recovery.specs.Recovering.{image_of, ImageFound}
use Rattle.recovery.proofs.RecoverPromises.{lent_fits, lent-shape, cells-few, keys-few, cells-kept, head-inside, highest-fits, image-promise, over-promise, keys-promise}
use Rattle.recovery.proofs.recover.recover_image.Goals as goal
use Rattle.recovery.proofs.recover.recover_image.Goals.{In-Ok}

sound : (c : In-Ok)
    → let a = c.args in
    image_of false (views_of a.area.now a.s) a.n ≡ Ok c.in-Ok.image
sound c = sym c.look_at.ensures ∙ c.in-Ok.is

pub look_at-requires : goal.look_at-requires
look_at-requires c =
    let a = c.args in
    lent-shape a.n a.s a.order.now a.area.now a.index.now c.requires

pub build-requires : goal.build-requires
build-requires c =
    let f = lent_fits c.args.n c.args.s c.args.order.now c.args.area.now c.args.index.now c.requires in
    omega arith

pub overflow_cast-index : goal.overflow_cast-index
overflow_cast-index c =
    let a = c.args in
    omega (arith, cells-few a.n a.s a.order.now a.area.now a.index.now c.requires)

pub overflow_cast-keys : goal.overflow_cast-keys
overflow_cast-keys c =
    let a = c.args in
    omega (arith, keys-few c.in-Ok.image.edition a.n a.s a.order.now a.area.now a.index.now c.requires _ _ _ (sound (goal.at.overflow_cast-keys c).In-Ok) _ _ _ c.build.ensures c.in-Some.is)

pub count-requires : goal.count-requires
count-requires c =
    let a = c.args in
    let f = lent_fits a.n a.s a.order.now a.area.now a.index.now c.requires in
    let long = cells-kept c.in-Ok.image.edition a.n a.s a.order.now a.area.now a.index.now c.requires _ _ _ (sound (goal.at.count-requires c).In-Ok) _ _ _ c.build.ensures c.in-Some.is in
    (omega arith, omega (arith, long))

pub record_of-requires : goal.record_of-requires
record_of-requires c =
    let a = c.args in
    let f = lent_fits a.n a.s a.order.now a.area.now a.index.now c.requires in
    let below = head-inside c.in-Ok.image.edition a.n a.s a.order.now a.area.now a.index.now c.requires _ _ _ (sound (goal.at.record_of-requires c).In-Ok) in (
      slot-inside a.area.now a.n a.s c.in-Ok.image.slot f.area-own below,
      highest-fits c.in-Ok.image.edition a.n a.s a.order.now a.area.now a.index.now c.requires _ _ _ (sound (goal.at.record_of-requires c).In-Ok),
      omega arith,
      omega arith,
    )

pub returns-in-Err : goal.returns-in-Err
returns-in-Err c =
    image-promise c.args.n c.args.s c.args.order.now c.args.area.now c.args.index.now c.requires _ _
    (sym c.look_at.ensures ∙ c.in-Err.is) c.refused.ensures

pub returns-in-None : goal.returns-in-None
returns-in-None c =
    let a = c.args in
    over-promise c.in-Ok.image.edition a.n a.s a.order.now a.area.now a.index.now c.requires _ _ _ (sound (goal.at.returns-in-None c).In-Ok) _ _ _ c.build.ensures
    c.in-None.is c.refused-in-None.ensures

pub returns-in-Some : goal.returns-in-Some
returns-in-Some c =
    let a = c.args in
    keys-promise c.in-Ok.image.edition a.n a.s a.order.now a.area.now a.index.now c.requires _ _ _ (sound (goal.at.returns-in-Some c).In-Ok) _ _ _ _ _ c.build.ensures
    c.in-Some.is c.count.ensures c.record_of.ensures
