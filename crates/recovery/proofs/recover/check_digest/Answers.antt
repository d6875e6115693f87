-- `recovery::recover::check_digest` meets its contract: a law for each return, at the tests that led there.
use mathlib.Core.Path.{ap}
use mathlib.Core.Bool.{not}
use Prim.Native.Nat.{ℕ}
use Rattle.recovery.proofs.CheckLaws.{digest-counters, digest-map, digest-named, digest-passed}
use Rattle.model.specs.Log.{View, Head, views_of}
use Rattle.recovery.proofs.recover.check_digest.Goals as goal
use Rattle.recovery.proofs.recover.check_digest.Goals.{Start}

-- the views of the slots, and the head
abbrev views : (c : Start) → ℕ → View
views c = views_of c.args.area.now c.args.s

abbrev head : (c : Start) → Head
head c = record { slot = c.args.slot; digest = c.args.digest }

pub returns-then-digest_bad : goal.returns-then-digest_bad
returns-then-digest_bad c =
    digest-counters (views (goal.at.returns-then-digest_bad c).Start) c.args.n (head (goal.at.returns-then-digest_bad c).Start) c.digest_bad.ensures c.if-digest_bad.true

pub returns-then-not-map_good : goal.returns-then-not-map_good
returns-then-not-map_good c =
    digest-map (views (goal.at.returns-then-not-map_good c).Start) c.args.n (head (goal.at.returns-then-not-map_good c).Start) c.digest_bad.ensures c.if-digest_bad.false c.map_good.ensures (ap not c.if-not-map_good.true)

pub returns-then-names_no_digest : goal.returns-then-names_no_digest
returns-then-names_no_digest c =
    digest-named (views (goal.at.returns-then-names_no_digest c).Start) c.args.n (head (goal.at.returns-then-names_no_digest c).Start) c.digest_bad.ensures c.if-digest_bad.false c.map_good.ensures (ap not c.if-not-map_good.false)
    c.names_no_digest.ensures c.if-names_no_digest.true

pub returns : goal.returns
returns c =
    digest-passed (views (goal.at.returns c).Start) c.args.n (head (goal.at.returns c).Start) c.digest_bad.ensures c.if-digest_bad.false c.map_good.ensures (ap not c.if-not-map_good.false)
    c.names_no_digest.ensures c.if-names_no_digest.false
