-- `record::range::counters_good` meets its contract.
use mathlib.Core.Bool.{not}
use Prim.Native.Nat.{ℕ}
use mathlib.Core.Path.{◌≡◌, refl, sym, ◌∙◌, ap}
use Rattle.segment.proofs.Choice.{both-false-left}
use Rattle.segment.specs.Layout.{digest_size}
use Rattle.record.specs.Range.{between}
use Rattle.record.specs.declared.Record.{Record}
use Rattle.record.specs.RangeLaws.{counters_good, zero-not, some-not, stop, go, ends, goes}
use Rattle.record.proofs.range.counters_good.Goals as goal
use Rattle.record.proofs.range.counters_good.Goals.{After-between}

-- the record that is tested
abbrev tested : After-between → Record
tested k = k.before.before.before.before.before.before.args.rec

-- the end is held to the digest's length in the record's edition
end-tested : (k : After-between) → k.between.result ≡ between (digest_size (tested k).edition) (tested k).size (tested k).end
end-tested k = k.between.ensures ∙ ap (λ (n : ℕ). between n (tested k).size (tested k).end) k.digest_size.ensures

pub returns-then-not-between : goal.returns-then-not-between
unfolding counters_good
returns-then-not-between c = stop _ (end-tested (goal.at.returns-then-not-between c).After-between) (ap not c.if-not-between.true)

pub returns-then-number-eq0 : goal.returns-then-number-eq0
unfolding counters_good
returns-then-number-eq0 c =
    go _ (end-tested (goal.at.returns-then-number-eq0 c).After-between) (ap not c.if-not-between.false) (sym (both-false-left _ _ (zero-not _ c.if-number-eq0.true)))

pub returns-then-next_good : goal.returns-then-next_good
unfolding counters_good
returns-then-next_good c =
    go _ (end-tested (goal.at.returns-then-next_good c).After-between) (ap not c.if-not-between.false)
    (goes _ refl (some-not _ c.if-number-eq0.false) (goes _ c.next_good.ensures c.if-next_good.true refl))

pub returns-else-next_good : goal.returns-else-next_good
unfolding counters_good
returns-else-next_good c =
    go _ (end-tested (goal.at.returns-else-next_good c).After-between) (ap not c.if-not-between.false)
    (goes _ refl (some-not _ c.if-number-eq0.false) (ends _ c.next_good.ensures c.if-next_good.false))
