use Prim.Native.Nat.{◌+◌, ◌*◌, ◌≤◌}
use mathlib.Core.Path.{◌≡◌, sym, ◌∙◌}
use native.Mathlib.Omega.{arith}
use Rattle.model.specs.Log.{views_of}
use Rattle.slot_map.specs.Bit.{named}
use lib.ListN.{length}
use Rattle.segment.proofs.Copied.{copied-long}
use Rattle.drive_log.specs.Shape.{inside, digest-inside}
use Rattle.converting.specs.PartLaws.{PartOf, part_of}
use Rattle.converting.specs.SizeLaws.{part-fits}
use Rattle.converting.specs.RewriteLaws.{fill_start, fill-skip, fill-take, fill_end}
use Rattle.converting.proofs.rewrite.put_log.Goals as goal
use Rattle.converting.proofs.rewrite.put_log.Goals.{After-cut, In-loop-slot}

pub loop-slot-init : goal.loop-slot-init
loop-slot-init c = fill_start _ _ _ _ _

pub overflow_mul-start : goal.overflow_mul-start
overflow_mul-start c = omega (arith, inside c.requires.shape.0 c.loop-slot.slot c.loop-slot-test.true)

-- a slot lies in the target
room : (c : In-loop-slot) → c.loop-slot.slot * c.args.s + c.args.s ≤ length c.loop-slot.target
room c = omega (arith, inside c.requires.shape.0 c.loop-slot.slot c.loop-slot-test.true, c.requires.shape.0.whole, c.requires.target_len, copied-long c.loop-slot.invariant)

pub overflow_add-start : goal.overflow_add-start
overflow_add-start c = omega (arith, inside c.requires.shape.0 c.loop-slot.slot c.loop-slot-test.true)

pub clear-requires : goal.clear-requires
clear-requires c = (omega arith, omega (arith, room (goal.at.clear-requires c).In-loop-slot, c.requires.shape.0))

pub loop-slot-preserved-then-not-is_named : goal.loop-slot-preserved-then-not-is_named
loop-slot-preserved-then-not-is_named c = fill-skip _ _ _ _ _ _ _ _ c.loop-slot.invariant (sym c.is_named.ensures ∙ c.if-not-is_named.true) c.clear.ensures

pub cut-requires : goal.cut-requires
cut-requires c = inside c.requires.shape.0 _ c.loop-slot-test.true

-- the slot whose part was cut is one of the log
own : (c : After-cut)
    → let a = c.args in PartOf a.from (views_of a.source.now a.s c.loop-slot.slot) c.cut.result.now
own c =
    let a = c.args in
    part_of a.source.now a.s c.requires.shape.1 _ c.loop-slot-test.true (sym c.is_named.ensures ∙ c.if-not-is_named.false) _ c.cut.ensures

pub put_slot-requires : goal.put_slot-requires
put_slot-requires c =
    let a = c.args in
    record {
      part_value = ((own (goal.at.put_slot-requires c).After-cut).sound, digest-inside c.requires.shape.0 _ c.loop-slot-test.true _ c.cut.ensures);
      part_len_bound = part-fits a.to (views_of a.source.now a.s) (named a.map) a.s _ (own (goal.at.put_slot-requires c).After-cut) _ c.requires.n_value c.loop-slot-test.true
          (sym c.is_named.ensures ∙ c.if-not-is_named.false);
      s_in_bounds = room (goal.at.put_slot-requires c).In-loop-slot;
    }

pub loop-slot-preserved : goal.loop-slot-preserved
loop-slot-preserved c =
    fill-take _ _ _ _ _ _ _ _ c.loop-slot.invariant (sym c.is_named.ensures ∙ c.if-not-is_named.false) (own (goal.at.loop-slot-preserved c).After-cut) c.put_slot.ensures

pub shape_of-target : goal.shape_of-target
shape_of-target c = copied-long c.loop-slot.invariant

pub returns : goal.returns
returns c =
    let e : c.loop-slot.slot ≡ c.args.n = omega arith in
    fill_end _ _ _ _ _ _ _ c.requires.target_len (rw e at c.loop-slot.invariant)
