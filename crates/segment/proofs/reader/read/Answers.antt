-- `segment::reader::read` meets its contract: a law for each return, at the tests that led there.
use Prim.Native.Nat.{◌+◌, ◌≤◌}
use mathlib.Core.Path.{sym, ◌∙◌, ap}
use native.Mathlib.Omega.{arith}
use lib.ListN.{length}
use Rattle.segment.specs.Layout.{table}
use Rattle.segment.proofs.LayoutLaws.{width_low}
use Rattle.segment.proofs.KindsLaws.{size-least}
use Rattle.segment.proofs.ReaderLaws.{reads-past, reads-at-end, reads-kind-end, reads-unknown, reads-long, reads-bad-version, reads-tombstone, reads-object}
use Rattle.segment.specs.declared.Version.{Version}
use borrow.Author.Rules.{rules}
use Rattle.segment.proofs.reader.read.Goals as goal
use Rattle.segment.proofs.reader.read.Goals.{Else-s-at-3}

pub returns-then-s-at : goal.returns-then-s-at
returns-then-s-at c = search (reads-past, rules)

pub returns-then-s-at-2 : goal.returns-then-s-at-2
returns-then-s-at-2 c = search (reads-at-end, rules)

pub returns-then-kind-eq0 : goal.returns-then-kind-eq0
returns-then-kind-eq0 c = search (reads-kind-end, rules)

pub returns-then-length-eq0 : goal.returns-then-length-eq0
returns-then-length-eq0 c = search (reads-unknown, rules)

pub returns-then-s-at-3 : goal.returns-then-s-at-3
returns-then-s-at-3 c = search (reads-long, rules)

-- where the whole entry is there, so are the fields before its value
room : (c : Else-s-at-3)
    → c.args.at + 7 + (table c.args.edition).width
    ≤ length c.args.s.now
room c =
    omega (
      arith,
      size-least c.args.edition _ (λ e. c.if-length-eq0.false (c.kind_size-length.ensures ∙ e)),
    )

pub version_at-version-requires : goal.version_at-version-requires
version_at-version-requires c = omega (arith, room c)

pub returns-then-not-good_version : goal.returns-then-not-good_version
returns-then-not-good_version c =
    reads-bad-version _ _ _ _ c.kind_size-length.ensures c.if-s-at-2.false c.if-length-eq0.false c.if-s-at-3.false _
    (ap (λ (x : Version). x.0) c.version_at-version.ensures) _ c.good_version.ensures c.if-not-good_version.true

pub read16-requires : goal.read16-requires
read16-requires c = omega (arith, width_low c.args.edition, room (goal.at.read16-requires c).Else-s-at-3)

pub read32-requires : goal.read32-requires
read32-requires c = omega (arith, width_low c.args.edition, room (goal.at.read32-requires c).Else-s-at-3)

pub returns-then-kind-tombstone_kind : goal.returns-then-kind-tombstone_kind
returns-then-kind-tombstone_kind c =
    reads-tombstone _ _ _ _ c.kind_size-length.ensures c.if-s-at-2.false c.if-length-eq0.false c.if-s-at-3.false _
    (ap (λ (x : Version). x.0) c.version_at-version.ensures) _ c.good_version.ensures c.if-not-good_version.false _ _
    c.read16.ensures c.read32.ensures (c.if-kind-tombstone_kind.true ∙ c.tombstone_kind.ensures)

pub returns-else-kind-tombstone_kind : goal.returns-else-kind-tombstone_kind
returns-else-kind-tombstone_kind c =
    reads-object _ _ _ _ c.kind_size-length.ensures c.if-s-at-2.false c.if-length-eq0.false c.if-s-at-3.false _
    (ap (λ (x : Version). x.0) c.version_at-version.ensures) _ c.good_version.ensures c.if-not-good_version.false _ _
    c.read16.ensures c.read32.ensures (λ e. c.if-kind-tombstone_kind.false (e ∙ sym c.tombstone_kind.ensures))
