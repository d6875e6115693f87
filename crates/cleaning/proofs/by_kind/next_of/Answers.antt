-- `cleaning::by_kind::next_of` meets its contract: a law for each return, at the tests that led there.
use Prim.Native.Nat.{◌+◌, ◌≤◌}
use mathlib.Core.Bool.{true}
use mathlib.Core.Path.{◌≡◌, sym, ◌∙◌}
use native.Mathlib.Omega.{arith}
use lib.ListN.{length}
use Rattle.segment.specs.Layout.{same_layout, table}
use Rattle.segment.proofs.LayoutLaws.{width_low}
use Rattle.cleaning.proofs.ByKind.{kind-long, next-other, next-long, next-bad-version, next-met}
use Rattle.cleaning.proofs.by_kind.next_of.Goals as goal
use Rattle.cleaning.proofs.by_kind.next_of.Goals.{Else-not-same_edition, Else-s-at}

pub returns-then-not-same_edition : goal.returns-then-not-same_edition
returns-then-not-same_edition c = next-other _ _ _ _ _ c.requires _ (sym c.same_edition.ensures ∙ c.if-not-same_edition.true)

-- the kind is one of the segment's edition
same : (c : Else-not-same_edition) → let a = c.args in same_layout a.edition a.own ≡ true
same c = sym c.same_edition.ensures ∙ c.if-not-same_edition.false

-- and where the whole entry is there, so are the fields before its value
room : (c : Else-s-at) → let a = c.args in a.at + 7 + (table a.own).width ≤ length a.s.now
room c = omega (arith, kind-long _ _ _ _ _ c.requires, c.requires.below, c.if-s-at.false)

pub returns-then-s-at : goal.returns-then-s-at
returns-then-s-at c = next-long _ _ _ _ _ c.requires _ (same (goal.at.returns-then-s-at c).Else-not-same_edition) c.if-s-at.true

pub version_at-version-requires : goal.version_at-version-requires
version_at-version-requires c = omega (arith, room c)

pub returns-then-not-good_version : goal.returns-then-not-good_version
returns-then-not-good_version c =
    next-bad-version _ _ _ _ _ c.requires _ (same (goal.at.returns-then-not-good_version c).Else-not-same_edition) c.if-s-at.false _
    c.version_at-version.ensures _ c.good_version.ensures c.if-not-good_version.true

pub read16-requires : goal.read16-requires
read16-requires c =
    omega (arith, room (goal.at.read16-requires c).Else-s-at, width_low c.args.own)

pub read32-requires : goal.read32-requires
read32-requires c =
    omega (arith, room (goal.at.read32-requires c).Else-s-at, width_low c.args.own)

pub returns : goal.returns
returns c =
    next-met _ _ _ _ _ c.requires _ (same (goal.at.returns c).Else-not-same_edition) c.if-s-at.false _
    c.version_at-version.ensures _ c.good_version.ensures c.if-not-good_version.false _ _
    c.read16.ensures c.read32.ensures
