-- `converting::convert::convert` meets its contract: a law for each return.
use Rattle.std.specs.Prelude.{Ok, Err}
use mathlib.Core.Bool.{true, false}
use mathlib.Core.Path.{◌≡◌, sym, ◌∙◌}
use borrow.Author.Rules.{rules}
use lib.ListN.{length}
use Rattle.model.specs.Log.{views_of}
use Rattle.model.specs.Recovery.{geometry_bad}
use Rattle.recovery.specs.Recovering.{image_of}
use Rattle.converting.specs.ConvertLaws.{area-shape, convert-source, convert-target, convert-refused, sound-log, sound-top, convert-sound}
use Rattle.converting.proofs.convert.convert.Goals as goal
use Rattle.converting.proofs.convert.convert.Goals.{Else-geometry_bad-2, In_ok-image}

pub returns-then-geometry_bad : goal.returns-then-geometry_bad
returns-then-geometry_bad c =
    let a = c.args in convert-source a.n a.s a.source.now a.target.now (sym c.geometry_bad.ensures ∙ c.if-geometry_bad.true)

pub returns-then-geometry_bad-2 : goal.returns-then-geometry_bad-2
returns-then-geometry_bad-2 c =
    let a = c.args in convert-target a.n a.s a.source.now a.target.now (sym c.geometry_bad-2.ensures ∙ c.if-geometry_bad-2.true)

-- neither buffer is of another length
source_fits : (c : Else-geometry_bad-2) → let a = c.args in geometry_bad a.n a.s (length a.source.now) ≡ false
source_fits c = sym c.geometry_bad.ensures ∙ c.if-geometry_bad.false

target_fits : (c : Else-geometry_bad-2) → let a = c.args in geometry_bad a.n a.s (length a.target.now) ≡ false
target_fits c = sym c.geometry_bad-2.ensures ∙ c.if-geometry_bad-2.false

pub look_at-requires : goal.look_at-requires
look_at-requires c = let a = c.args in area-shape a.n a.s a.source.now (source_fits c)

-- the head that was found
found : (c : In_ok-image)
    → let a = c.args in
    image_of true (views_of a.source.now a.s) a.n ≡
    Ok (record { edition = c.in_ok-image.image.edition; slot = c.in_ok-image.image.slot; digest = c.in_ok-image.image.digest; highest = c.in_ok-image.image.highest })
found c = sym c.look_at.ensures ∙ c.in_ok-image.was

pub convert_log-requires : goal.convert_log-requires
convert_log-requires c =
    let a = c.args in
    record {
      shape = (area-shape a.n a.s a.source.now (source_fits (goal.at.convert_log-requires c).Else-geometry_bad-2), sound-log a.n a.s a.source.now a.target.now (source_fits (goal.at.convert_log-requires c).Else-geometry_bad-2) (target_fits (goal.at.convert_log-requires c).Else-geometry_bad-2) _ _ _ _ (found (goal.at.convert_log-requires c).In_ok-image));
      top_value = (sound-top a.n a.s a.source.now a.target.now (source_fits (goal.at.convert_log-requires c).Else-geometry_bad-2) (target_fits (goal.at.convert_log-requires c).Else-geometry_bad-2) _ _ _ _ (found (goal.at.convert_log-requires c).In_ok-image), (area-shape a.n a.s a.target.now (target_fits (goal.at.convert_log-requires c).Else-geometry_bad-2)).whole);
    }

pub returns-in_err-image : goal.returns-in_err-image
returns-in_err-image c =
    let a = c.args in
    let e : c.from_residual.result ≡ Err c.in_err-image.field-0.0 = search rules in
    rw e
    (convert-refused a.n a.s a.source.now a.target.now (source_fits (goal.at.returns-in_err-image c).Else-geometry_bad-2) (target_fits (goal.at.returns-in_err-image c).Else-geometry_bad-2) _ (sym c.look_at.ensures ∙ c.in_err-image.was))

pub returns : goal.returns
returns c =
    let a = c.args in
    convert-sound a.n a.s a.source.now a.target.now (source_fits (goal.at.returns c).Else-geometry_bad-2) (target_fits (goal.at.returns c).Else-geometry_bad-2) _ _ _ _ (found (goal.at.returns c).In_ok-image) _ _ c.convert_log.ensures
