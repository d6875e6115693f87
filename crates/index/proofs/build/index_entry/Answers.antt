-- `index::build::index_entry` meets its contract: a law for each arm, at what the search found.
use mathlib.Core.Path.{◌≡◌, refl, sym, ◌∙◌, ap}
use mathlib.Core.List.{List}
use native.Mathlib.Omega.{arith}
use Prim.Native.Nat.{ℕ, ◌-◌}
use lib.ListN.{get_or}
use Rattle.segment.specs.declared.Version.{Version}
use Rattle.index.specs.declared.Found.{Found}
use Rattle.index.specs.declared.Inserted.{Inserted}
use Rattle.index.specs.Search.{search_for}
use Rattle.index.specs.SearchLaws.{Inside}
use Rattle.index.proofs.SearchLaws.{search-inside, search-free}
use Rattle.index.proofs.InsertLaws.{insert-newer, insert-older, insert-new, insert-full}
use Rattle.index.proofs.Turns.{one-new, one-over, one-newer, one-older, one-full}
use borrow.Author.Rules.{scaled_Fits}
use Rattle.index.proofs.build.index_entry.Goals as goal
use Rattle.index.proofs.build.index_entry.Goals.{After-search, In-At, In-Free}

-- what the search found
abbrev found : After-search → Found
found c =
    let a = c.args in
    search_for a.area.now a.cells.now a.key

is_free : (c : In-Free) → (let a = c.args in
    search_for a.area.now a.cells.now a.key) ≡ Found.Free c.in-Free.i
is_free c = sym c.search.ensures ∙ c.in-Free.is

is_at : (c : In-At) → (let a = c.args in
    search_for a.area.now a.cells.now a.key) ≡ Found.At c.in-At.i
is_at c = sym c.search.ensures ∙ c.in-At.is

inside : (c : In-At) → let a = c.args in Inside a.area.now a.cells.now c.in-At.i
inside c = search-inside _ _ _ c.in-At.i (is_at c)

pub put-requires : goal.put-requires
put-requires c = (search-free _ _ _ _ (is_free (goal.at.put-requires c).In-Free), omega arith)

pub returns-then-keys-cells : goal.returns-then-keys-cells
returns-then-keys-cells c =
    one-new _ _ _ _ _ _ _ _
    (ap (λ (l : List ℕ). record { answer = Inserted.New; cells = l }) c.put.ensures ∙ sym (insert-new _ _ _ _ _ _ (is_free (goal.at.returns-then-keys-cells c).In-Free))) refl
    c.if-keys-cells.true

pub offset_bounds-cells-i : goal.offset_bounds-cells-i
offset_bounds-cells-i c = scaled_Fits _ _ 4 (inside c).below c.well_formed.1.0.1

pub bounds-cells-i : goal.bounds-cells-i
bounds-cells-i c = (inside (goal.at.bounds-cells-i c).In-At).below

pub overflow_sub-old : goal.overflow_sub-old
overflow_sub-old c = (inside (goal.at.overflow_sub-old c).In-At).taken

pub overflow_cast-old : goal.overflow_cast-old
overflow_cast-old c = omega (arith, c.type_inv.cells c.in-At.i)

pub version_there-there-requires : goal.version_there-there-requires
version_there-there-requires c = omega (arith, (inside (goal.at.version_there-there-requires c).In-At).fits)

pub put-requires-then-there-version : goal.put-requires-then-there-version
put-requires-then-there-version c = ((inside (goal.at.put-requires-then-there-version c).In-At).below, omega arith)

pub returns-in-Full : goal.returns-in-Full
returns-in-Full c =
    one-full _ _ _ _ _ _ _ _ (sym (insert-full _ _ _ _ _ (sym c.search.ensures ∙ c.in-Full.is))) refl

pub returns-else-keys-cells : goal.returns-else-keys-cells
returns-else-keys-cells c =
    one-over _ _ _ _ _ _ _ _
    (ap (λ (l : List ℕ). record { answer = Inserted.New; cells = l }) c.put.ensures ∙ sym (insert-new _ _ _ _ _ _ (is_free (goal.at.returns-else-keys-cells c).In-Free))) refl
    c.if-keys-cells.false

pub returns-then-there-version : goal.returns-then-there-version
returns-then-there-version c =
    one-newer _ _ _ _ _ _ _ _
    (ap
    (λ (l : List ℕ).
    record { answer = Inserted.Newer (get_or c.args.cells.now c.in-At.i 0 - 1); cells = l })
    c.put-then-there-version.ensures
    ∙ sym
    (insert-newer _ _ _ _ _ _ (is_at (goal.at.returns-then-there-version c).In-At) (rw (ap (λ (x : Version). x.0) c.version_there-there.ensures) at c.if-there-version.true))) refl

pub returns-else-there-version : goal.returns-else-there-version
returns-else-there-version c =
    one-older _ _ _ _ _ _ _ _
    (sym
    (insert-older _ _ _ _ _ _ (is_at (goal.at.returns-else-there-version c).In-At) (rw (ap (λ (x : Version). x.0) c.version_there-there.ensures) at c.if-there-version.false))) refl
