-- `recovery::read::read_value` meets its contract: the value is what the entry has behind its head.
use Prim.Native.Nat.{ℕ, ◌-◌, ◌+◌}
use mathlib.Core.Path.{◌≡◌, refl, sym, ◌∙◌, ap}
use native.Mathlib.Omega.{arith}
use lib.ListN.{take, drop}
use Rattle.segment.specs.Layout.{Layout, layout_of_kind, entry_size}
use Rattle.model.specs.Promises.{nowhere}
use Rattle.recovery.specs.Lookups.{part_by}
use Rattle.recovery.specs.LookupLaws.{ObjectInside}
use Rattle.recovery.proofs.LookupLaws.{object-inside, value-promise}
use Rattle.recovery.proofs.read.read_value.Goals as goal
use Rattle.recovery.proofs.read.read_value.Goals.{After-head_size, In-Ok}

inside : (c : In-Ok)
    → ObjectInside (layout_of_kind c.in-Ok.object.kind) c.args.area.now c.in-Ok.object.place c.in-Ok.object.length
inside c = object-inside _ _ _ _ _ _ _ _ _ _ (sym c.find.ensures ∙ c.in-Ok.is)

-- the value starts behind the head of the edition that the kind tells
start : (c : After-head_size) → c.head_size.result ≡ entry_size (layout_of_kind c.in-Ok.object.kind) 0
start c = c.head_size.ensures ∙ ap (λ (L : Layout). entry_size L 0) c.edition_of_kind.ensures

pub overflow_add-start : goal.overflow_add-start
overflow_add-start c = let h = inside (goal.at.overflow_add-start c).In-Ok in omega (arith, start (goal.at.overflow_add-start c).After-head_size)

pub overflow_add-result : goal.overflow_add-result
overflow_add-result c = let h = inside (goal.at.overflow_add-result c).In-Ok in omega (arith, start (goal.at.overflow_add-result c).After-head_size)

pub slice_bounds-result-count : goal.slice_bounds-result-count
slice_bounds-result-count c = let h = inside (goal.at.slice_bounds-result-count c).In-Ok in omega (arith, start (goal.at.slice_bounds-result-count c).After-head_size)

pub slice_bounds-result-start : goal.slice_bounds-result-start
slice_bounds-result-start c = let h = inside (goal.at.slice_bounds-result-start c).In-Ok in omega (arith, start (goal.at.slice_bounds-result-start c).After-head_size)

pub slice_bounds-result-end : goal.slice_bounds-result-end
slice_bounds-result-end c = let h = inside (goal.at.slice_bounds-result-end c).In-Ok in omega (arith, start (goal.at.slice_bounds-result-end c).After-head_size)

pub returns-in-Ok : goal.returns-in-Ok
unfolding part_by
returns-in-Ok c =
    let h = inside (goal.at.returns-in-Ok c).In-Ok in
    let L = layout_of_kind c.in-Ok.object.kind in
    let p = c.in-Ok.object.place in
    let n = c.in-Ok.object.length in
    let long : p + n - (p + entry_size L 0) ≡ n - entry_size L 0 = omega arith in
    rw (start (goal.at.returns-in-Ok c).After-head_size)
    (record {
      part = record { place = p + entry_size L 0; bytes = n - entry_size L 0 };
      refers =
          record {
            inside = omega arith;
            same_block = refl;
            starts = refl;
            holds = ap (λ (m : ℕ). take m (drop (p + entry_size L 0) c.args.area.now)) long;
          };
      promised = value-promise _ _ _ _ _ _ _ (sym c.in-Ok.is ∙ c.find.ensures);
    })

pub returns-in-Err : goal.returns-in-Err
unfolding part_by
returns-in-Err c =
    record {
      part = nowhere;
      refers = record { inside = omega arith; same_block = refl; starts = refl; holds = refl };
      promised = value-promise _ _ _ _ _ _ _ (sym c.in-Err.is ∙ c.find.ensures);
    }
