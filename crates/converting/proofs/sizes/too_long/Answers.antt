use mathlib.Core.Path.{sym, ◌∙◌}
use native.Mathlib.Omega.{arith}
use Rattle.model.specs.Log.{views_of}
use Rattle.slot_map.specs.Bit.{named}
use Rattle.drive_log.specs.Shape.{inside, part-short}
use Rattle.converting.specs.PartLaws.{PartOf, part_of}
use Rattle.converting.specs.SizeLaws.{none-long, long-none, long-skip, long-turn, long-found}
use Rattle.converting.proofs.sizes.too_long.Goals as goal
use Rattle.converting.proofs.sizes.too_long.Goals.{After-cut}

pub returns-then-head_size : goal.returns-then-head_size
returns-then-head_size c =
    let a = c.args in
    sym (none-long a.from a.to a.n a.s a.source.now (named a.map) c.requires.0 c.requires.1 (omega (arith, c.if-head_size.true, c.head_size.ensures, c.head_size-2.ensures)))

pub loop-slot-init : goal.loop-slot-init
loop-slot-init c = long-none _ _ _ _

pub loop-slot-preserved-then-not-is_named : goal.loop-slot-preserved-then-not-is_named
loop-slot-preserved-then-not-is_named c = long-skip _ _ _ _ _ (sym c.is_named.ensures ∙ c.if-not-is_named.true) c.loop-slot.invariant

pub cut-requires : goal.cut-requires
cut-requires c = inside c.requires.0 _ c.loop-slot-test.true

-- the slot whose part was cut is one of the log
own : (c : After-cut)
    → let a = c.args in PartOf a.from (views_of a.source.now a.s c.loop-slot.slot) c.cut.result.now
own c =
    let a = c.args in
    part_of a.source.now a.s c.requires.1 _ c.loop-slot-test.true (sym c.is_named.ensures ∙ c.if-not-is_named.false) _ c.cut.ensures

pub part_size-requires : goal.part_size-requires
part_size-requires c = ((own c).sound, part-short c.requires.0 _ c.loop-slot-test.true _ c.cut.ensures)

pub returns-then-s-part_size : goal.returns-then-s-part_size
returns-then-s-part_size c =
    let a = c.args in
    long-found a.to (views_of a.source.now a.s) (named a.map) a.s _ (own (goal.at.returns-then-s-part_size c).After-cut) _ c.part_size.ensures c.if-s-part_size.true
    (sym c.is_named.ensures ∙ c.if-not-is_named.false) _ c.loop-slot-test.true

pub loop-slot-preserved : goal.loop-slot-preserved
loop-slot-preserved c =
    let a = c.args in
    long-turn a.to (views_of a.source.now a.s) (named a.map) a.s _ (own (goal.at.loop-slot-preserved c).After-cut) _ c.part_size.ensures c.if-s-part_size.false
    c.loop-slot.invariant
