-- `scanning::read::seek` meets its contract: a law for each return.
use Rattle.std.specs.Prelude.{Ok, Err}
use mathlib.Core.Bool.{false}
use mathlib.Core.Path.{◌≡◌, sym, ◌∙◌}
use borrow.Author.Rules.{rules}
use lib.ListN.{length}
use Rattle.model.specs.Log.{views_of}
use Rattle.model.specs.Recovery.{geometry_bad}
use Rattle.recovery.specs.Recovering.{image_of}
use Rattle.scanning.specs.SeekingLaws.{seek-geometry, seek-shape, seek-refused, seek-scans, seek-sound}
use Rattle.scanning.proofs.read.seek.Goals as goal
use Rattle.scanning.proofs.read.seek.Goals.{Else-geometry_bad, In_ok-image}

fits : (c : Else-geometry_bad) → let a = c.args in geometry_bad a.n a.s (length a.area.now) ≡ false
fits c = sym c.geometry_bad.ensures ∙ c.if-geometry_bad.false

-- the head that was found
found : (c : In_ok-image)
    → let a = c.args in
    image_of false (views_of a.area.now a.s) a.n ≡
    Ok (record { edition = c.in_ok-image.image.edition; slot = c.in_ok-image.image.slot; digest = c.in_ok-image.image.digest; highest = c.in_ok-image.image.highest })
found c = sym c.look_at.ensures ∙ c.in_ok-image.was

pub returns-then-geometry_bad : goal.returns-then-geometry_bad
returns-then-geometry_bad c =
    let a = c.args in
    seek-geometry _ a.n a.s a.area.now a.tables a.key (sym c.geometry_bad.ensures ∙ c.if-geometry_bad.true)

pub look_at-requires : goal.look_at-requires
look_at-requires c =
    let a = c.args in seek-shape a.n a.s a.area.now (fits c)

pub seek_in-requires : goal.seek_in-requires
seek_in-requires c =
    let a = c.args in
    (seek-shape a.n a.s a.area.now (fits (goal.at.seek_in-requires c).Else-geometry_bad), seek-scans a.n a.s a.area.now a.tables a.key (fits (goal.at.seek_in-requires c).Else-geometry_bad) _ _ _ _ (found c))

pub returns-in_err-image : goal.returns-in_err-image
returns-in_err-image c =
    let a = c.args in
    let e : c.from_residual.result ≡ Err c.in_err-image.field-0.0 = search rules in
    e ∙ seek-refused a.n a.s a.area.now a.tables a.key (fits (goal.at.returns-in_err-image c).Else-geometry_bad) _
    (sym c.look_at.ensures ∙ c.in_err-image.was)

pub returns : goal.returns
returns c =
    let a = c.args in
    seek-sound a.n a.s a.area.now a.tables a.key (fits (goal.at.returns c).Else-geometry_bad) _ _ _ _ (found (goal.at.returns c).In_ok-image) _ c.seek_in.ensures
