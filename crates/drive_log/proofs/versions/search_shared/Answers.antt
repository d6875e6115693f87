use mathlib.Core.Path.{◌≡◌, refl, sym, ◌∙◌}
use native.Mathlib.Omega.{arith}
use Rattle.slot_map.specs.Bit.{named}
use Rattle.drive_log.specs.Filter.{filtered-none, filtered-skip, enters, filtered-all}
use Rattle.drive_log.proofs.versions.search_shared.Goals as goal

pub loop-slot-init : goal.loop-slot-init
loop-slot-init c =
    let a = c.args in
    (refl, filtered-none a.area.now a.s (named a.map) a.n _)

pub loop-slot-preserved-then-not-is_named : goal.loop-slot-preserved-then-not-is_named
loop-slot-preserved-then-not-is_named c = (
  c.loop-slot.invariant.0,
  filtered-skip _ _ _ _ _ _ c.loop-slot.invariant.1 (sym c.is_named.ensures ∙ c.if-not-is_named.true),
)

pub filter_slot-requires-clause-entering : goal.filter_slot-requires-clause-entering
filter_slot-requires-clause-entering c = enters _ _ _ _ _ _ c.requires.n_value c.loop-slot-test.true (sym c.is_named.ensures ∙ c.if-not-is_named.false) c.loop-slot.invariant.0 c.loop-slot.invariant.1

pub returns : goal.returns
returns c =
    let e : c.loop-slot.slot ≡ c.args.n = omega arith in
    filtered-all _ _ _ (rw e at c.loop-slot.invariant.1) _ c.suspect_shared.ensures
