-- `kurdavel::scan::kurdavel_scan_read_value` meets its contract.
use Prim.Native.Nat.{ℕ, ◌+◌, ◌-◌, ◌≤◌}
use mathlib.Core.Path.{◌≡◌, refl, sym, ◌∙◌, ap}
use native.Mathlib.Omega.{arith}
use lib.ListN.{length}
use Rattle.segment.specs.Layout.{Layout, layout_of_kind, entry_size}
use Rattle.recovery.specs.LookupLaws.{ObjectInside}
use Rattle.scanning.specs.Seeking.{answer_of, part_for}
use Rattle.scanning.specs.SeekingLaws.{found-short, sought-inside}
use Rattle.kurdavel.specs.CrossingLaws.{scan-value-crossed}
use Rattle.kurdavel.proofs.scan.kurdavel_scan_read_value.Goals as goal
use Rattle.kurdavel.proofs.scan.kurdavel_scan_read_value.Goals.{After-head_size-head, In-Ok}

-- the entry of an object that was found lies in the area, which is short
inside : (c : In-Ok)
    → ObjectInside (layout_of_kind c.in-Ok.object.kind) c.args.area.now c.in-Ok.object.place c.in-Ok.object.length
inside c = sought-inside _ _ _ _ _ _ _ _ _ _ (sym c.in-Ok.is ∙ c.seek.ensures)

short : (c : In-Ok) → length c.args.area.now ≤ 65536
short c =
    let a = c.args in
    found-short _ a.slots a.size a.area.now (record { first = a.first; last = a.last }) (record { table = a.table; key = a.key })
    _ _ _ _ (sym c.in-Ok.is ∙ c.seek.ensures)

-- the bytes before a value, by the edition that the kind tells
head-is : (c : After-head_size-head) → c.head_size-head.result ≡ entry_size (layout_of_kind c.in-Ok.object.kind) 0
head-is c = c.head_size-head.ensures ∙ ap (λ (L : Layout). entry_size L 0) c.edition_of_kind.ensures

pub overflow_add-place : goal.overflow_add-place
overflow_add-place c = let h = inside (goal.at.overflow_add-place c).In-Ok in let l = short (goal.at.overflow_add-place c).In-Ok in omega (arith, head-is (goal.at.overflow_add-place c).After-head_size-head)

pub overflow_cast-place : goal.overflow_cast-place
overflow_cast-place c = let h = inside (goal.at.overflow_cast-place c).In-Ok in let l = short (goal.at.overflow_cast-place c).In-Ok in omega (arith, head-is (goal.at.overflow_cast-place c).After-head_size-head)

pub overflow_sub-bytes : goal.overflow_sub-bytes
overflow_sub-bytes c = let h = inside (goal.at.overflow_sub-bytes c).In-Ok in omega (arith, head-is (goal.at.overflow_sub-bytes c).After-head_size-head)

pub overflow_cast-bytes : goal.overflow_cast-bytes
overflow_cast-bytes c = let h = inside (goal.at.overflow_cast-bytes c).In-Ok in let l = short (goal.at.overflow_cast-bytes c).In-Ok in omega (arith, head-is (goal.at.overflow_cast-bytes c).After-head_size-head)

pub returns-in-Err : goal.returns-in-Err
unfolding answer_of part_for
returns-in-Err c =
    scan-value-crossed c.seek.ensures c.in-Err.is c.number.ensures refl (omega arith)
    (λ _. (refl, refl))

pub returns-in-Ok : goal.returns-in-Ok
unfolding answer_of part_for
returns-in-Ok c =
    let h = inside (goal.at.returns-in-Ok c).In-Ok in
    let p = c.in-Ok.object.place in
    let n = c.in-Ok.object.length in
    scan-value-crossed c.seek.ensures c.in-Ok.is refl
    (ap (λ (m : ℕ). record { place = p + m; bytes = n - m }) (head-is (goal.at.returns-in-Ok c).After-head_size-head)) (omega (arith, head-is (goal.at.returns-in-Ok c).After-head_size-head)) (λ refused. absurd (refused refl))
