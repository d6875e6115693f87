use Prim.Native.Nat.{◌<◌}
use mathlib.Core.Path.{◌≡◌, sym, ◌∙◌}
use mathlib.Core.Bool.{true}
use native.Mathlib.Omega.{arith}
use Rattle.segment.specs.Layout.{version_limit}
use Rattle.model.specs.Log.{views_of, log_of, highest}
use Rattle.slot_map.specs.Bit.{named}
use Rattle.drive_log.specs.Shape.{inside, digest-inside}
use Rattle.converting.specs.PartLaws.{PartOf, part_of}
use Rattle.converting.specs.WidthLaws.{wide-highest, wide-none, wide-skip, wide-turn, wide-found}
use Rattle.converting.proofs.widths.too_wide.Goals as goal
use Rattle.converting.proofs.widths.too_wide.Goals.{After-cut}

pub returns-then-version_limit-top : goal.returns-then-version_limit-top
returns-then-version_limit-top c =
    let a = c.args in
    sym (wide-highest a.to (views_of a.source.now a.s) (named a.map) a.n (omega (arith, c.if-version_limit-top.true, c.version_limit.ensures, c.requires.top_value)))

pub loop-slot-init : goal.loop-slot-init
loop-slot-init c = wide-none _ _ _

pub loop-slot-preserved-then-not-is_named : goal.loop-slot-preserved-then-not-is_named
loop-slot-preserved-then-not-is_named c = wide-skip _ _ _ _ (sym c.is_named.ensures ∙ c.if-not-is_named.true) c.loop-slot.invariant

pub cut-requires : goal.cut-requires
cut-requires c = inside c.requires.shape.0 _ c.loop-slot-test.true

-- the slot whose part was cut is one of the log
its-slot : (c : After-cut) → named c.args.map c.loop-slot.slot ≡ true
its-slot c = sym c.is_named.ensures ∙ c.if-not-is_named.false

own : (c : After-cut)
    → let a = c.args in PartOf a.from (views_of a.source.now a.s c.loop-slot.slot) c.cut.result.now
own c =
    let a = c.args in
    part_of a.source.now a.s c.requires.shape.1 _ c.loop-slot-test.true (its-slot c) _ c.cut.ensures

-- no version of the log is too wide
narrow : (c : After-cut)
    → let a = c.args in highest (log_of (views_of a.source.now a.s) (named a.map) a.n) < version_limit a.to
narrow c = omega (arith, c.if-version_limit-top.false, c.version_limit.ensures, c.requires.top_value)

pub digest_too_wide-requires : goal.digest_too_wide-requires
digest_too_wide-requires c = digest-inside c.requires.shape.0 _ c.loop-slot-test.true _ c.cut.ensures

pub returns-then-digest_too_wide : goal.returns-then-digest_too_wide
returns-then-digest_too_wide c =
    let a = c.args in
    wide-found a.to (views_of a.source.now a.s) (named a.map) _ a.n (narrow (goal.at.returns-then-digest_too_wide c).After-cut) c.loop-slot-test.true (its-slot (goal.at.returns-then-digest_too_wide c).After-cut) (own (goal.at.returns-then-digest_too_wide c).After-cut) _ c.digest_too_wide.ensures c.if-digest_too_wide.true

pub loop-slot-preserved : goal.loop-slot-preserved
loop-slot-preserved c =
    let a = c.args in
    wide-turn a.to (views_of a.source.now a.s) (named a.map) _ a.n (narrow (goal.at.loop-slot-preserved c).After-cut) c.loop-slot-test.true (its-slot (goal.at.loop-slot-preserved c).After-cut) (own (goal.at.loop-slot-preserved c).After-cut) _ c.digest_too_wide.ensures c.if-digest_too_wide.false
    c.loop-slot.invariant
