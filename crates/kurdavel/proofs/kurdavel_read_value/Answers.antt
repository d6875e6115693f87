-- `kurdavel::kurdavel_read_value` meets its contract.
use Prim.Native.Nat.{ℕ, ◌+◌, ◌-◌, ◌≤◌}
use mathlib.Core.Bool.{true}
use mathlib.Core.Path.{◌≡◌, refl, sym, ◌∙◌, ap}
use native.Mathlib.Omega.{arith}
use lib.ListN.{length}
use Rattle.segment.specs.Layout.{Layout, layout_of_kind, entry_size}
use Rattle.record.specs.Range.{fits_lent}
use Rattle.record.specs.Reach.{holds_table}
use Rattle.recovery.specs.Lookups.{looked_up, told_by, part_by}
use Rattle.recovery.specs.LookupLaws.{ObjectInside}
use Rattle.recovery.proofs.LookupLaws.{object-inside, reached}
use Rattle.words.specs.Words.{decoded}
use Rattle.kurdavel.specs.CrossingLaws.{looked-lost, looked-away, looked-found, found-small, value-crossed}
use Rattle.kurdavel.proofs.kurdavel_read_value.Goals as goal
use Rattle.kurdavel.proofs.kurdavel_read_value.Goals.{After-head_size-head, After-look_at, Else-not-fits, Else-not-holds_table, In-Ok}

-- the record fits what is lent, and the caller may reach the key
fit : (c : Else-not-fits)
    → let a = c.args in
    fits_lent (decoded a.words.now).rec.edition (decoded a.words.now).rec (length a.area.now) (length a.index.now) ≡ true
fit c = sym c.fits.ensures ∙ c.if-not-fits.false

held : (c : Else-not-holds_table)
    → let a = c.args in
    holds_table (record { first = a.first; last = a.last }) a.table ≡ true
held c = sym c.holds_table.ensures ∙ c.if-not-holds_table.false

-- what the look says, by the record that the words say
looked : (c : After-look_at)
    → let a = c.args in
    c.look_at.result ≡
    looked_up (decoded a.words.now).rec.edition (decoded a.words.now).rec a.area.now a.index.now (record { first = a.first; last = a.last })
    (record { table = a.table; key = a.key })
looked c =
    looked-found _ _ _ _ _ ((sym c.fits.ensures ∙ c.if-not-fits.false)) ((sym c.holds_table.ensures ∙ c.if-not-holds_table.false)) c.search-found.ensures c.look_at.ensures

-- the entry of an object that was found lies in the area, whose length is a record's
inside : (c : In-Ok)
    → ObjectInside (layout_of_kind c.in-Ok.object.kind) c.args.area.now c.in-Ok.object.place c.in-Ok.object.length
inside c = object-inside _ _ _ _ _ _ _ _ _ _ (sym ((looked-found _ _ _ _ _ ((sym c.fits.ensures ∙ c.if-not-fits.false)) ((sym c.holds_table.ensures ∙ c.if-not-holds_table.false)) c.search-found.ensures c.look_at.ensures)) ∙ c.in-Ok.is)

small : (c : In-Ok) → length c.args.area.now ≤ 65536
small c = found-small _ _ _ _ _ (sym ((looked-found _ _ _ _ _ ((sym c.fits.ensures ∙ c.if-not-fits.false)) ((sym c.holds_table.ensures ∙ c.if-not-holds_table.false)) c.search-found.ensures c.look_at.ensures)) ∙ c.in-Ok.is)

-- the bytes before a value, by the edition that the kind tells
head-is : (c : After-head_size-head) → c.head_size-head.result ≡ entry_size (layout_of_kind c.in-Ok.object.kind) 0
head-is c = c.head_size-head.ensures ∙ ap (λ (L : Layout). entry_size L 0) c.edition_of_kind.ensures

pub returns-then-not-fits : goal.returns-then-not-fits
unfolding told_by part_by
returns-then-not-fits c =
    value-crossed (looked-lost _ _ _ _ _ refl (sym c.fits.ensures ∙ c.if-not-fits.true)) refl refl refl
    (omega arith) (λ _. (refl, refl))

pub returns-then-not-holds_table : goal.returns-then-not-holds_table
unfolding told_by part_by
returns-then-not-holds_table c =
    value-crossed (looked-away _ _ _ _ _ refl (fit (goal.at.returns-then-not-holds_table c).Else-not-fits) (sym c.holds_table.ensures ∙ c.if-not-holds_table.true)) refl refl refl
    (omega arith) (λ _. (refl, refl))

pub look_at-requires : goal.look_at-requires
look_at-requires c =
    λ i f. reached _ _ _ _ _ _ (fit (goal.at.look_at-requires c).Else-not-fits) (held (goal.at.look_at-requires c).Else-not-holds_table) i (sym c.search-found.ensures ∙ f)

pub overflow_add-place : goal.overflow_add-place
overflow_add-place c = let h = inside (goal.at.overflow_add-place c).In-Ok in let l = small (goal.at.overflow_add-place c).In-Ok in omega (arith, head-is (goal.at.overflow_add-place c).After-head_size-head)

pub overflow_cast-place : goal.overflow_cast-place
overflow_cast-place c = let h = inside (goal.at.overflow_cast-place c).In-Ok in let l = small (goal.at.overflow_cast-place c).In-Ok in omega (arith, head-is (goal.at.overflow_cast-place c).After-head_size-head)

pub overflow_sub-bytes : goal.overflow_sub-bytes
overflow_sub-bytes c = let h = inside (goal.at.overflow_sub-bytes c).In-Ok in omega (arith, head-is (goal.at.overflow_sub-bytes c).After-head_size-head)

pub overflow_cast-bytes : goal.overflow_cast-bytes
overflow_cast-bytes c = let h = inside (goal.at.overflow_cast-bytes c).In-Ok in let l = small (goal.at.overflow_cast-bytes c).In-Ok in omega (arith, head-is (goal.at.overflow_cast-bytes c).After-head_size-head)

pub returns-in-Ok : goal.returns-in-Ok
unfolding told_by part_by
returns-in-Ok c =
    let h = inside (goal.at.returns-in-Ok c).In-Ok in
    let p = c.in-Ok.object.place in
    let n = c.in-Ok.object.length in
    value-crossed (looked (goal.at.returns-in-Ok c).After-look_at) c.in-Ok.is refl
    (ap (λ (m : ℕ). record { place = p + m; bytes = n - m }) (head-is (goal.at.returns-in-Ok c).After-head_size-head)) (omega (arith, head-is (goal.at.returns-in-Ok c).After-head_size-head)) (λ refused. absurd (refused refl))

pub returns-in-Err : goal.returns-in-Err
unfolding told_by part_by
returns-in-Err c = value-crossed (looked (goal.at.returns-in-Err c).After-look_at) c.in-Err.is c.number.ensures refl (omega arith) (λ _. (refl, refl))
