-- `recovery::format::format_as` meets its contract: the stores of its three parts are those of a format.
use Prim.Native.Nat.{ℕ}
use mathlib.Core.Path.{sym, ◌∙◌, ap}
use native.Mathlib.Omega.{arith}
use lib.ListN.{length, set, length-set}
use Rattle.segment.proofs.LayoutLaws.{width-high}
use Rattle.recovery.specs.FormatLaws.{Fits, geometry-fits}
use Rattle.recovery.proofs.FormatLaws.{format-refused, format-done}
use Rattle.recovery.proofs.format.format_as.Goals as goal
use Rattle.recovery.proofs.format.format_as.Goals.{Else-geometry_bad}

room : (c : Else-geometry_bad) → Fits c.args.n c.args.s (length c.args.area.now)
room c = geometry-fits _ _ _ (sym c.geometry_bad.ensures ∙ c.if-geometry_bad.false)

pub returns-then-geometry_bad : goal.returns-then-geometry_bad
returns-then-geometry_bad c = format-refused _ _ _ _ (sym c.geometry_bad.ensures ∙ c.if-geometry_bad.true)

pub clear-requires : goal.clear-requires
clear-requires c = let f = room (goal.at.clear-requires c).Else-geometry_bad in (omega arith, omega arith)

pub write_digest-requires : goal.write_digest-requires
write_digest-requires c = let f = room (goal.at.write_digest-requires c).Else-geometry_bad in omega (arith, width-high c.args.edition)

pub bounds-area-digest_size : goal.bounds-area-digest_size
bounds-area-digest_size c =
    let f = room (goal.at.bounds-area-digest_size c).Else-geometry_bad in
    omega (arith, c.digest_size.ensures, width-high c.args.edition)

pub shape_of-area : goal.shape_of-area
shape_of-area c = omega (arith, length-set c.write_digest.new.s c.digest_size.result 0)

pub returns : goal.returns
returns c =
    format-done _ _ _ _ _ _ _ (sym c.geometry_bad.ensures ∙ c.if-geometry_bad.false)
    c.clear.ensures c.write_digest.ensures
    (ap (λ (k : ℕ). set c.write_digest.new.s k 0) c.digest_size.ensures)
