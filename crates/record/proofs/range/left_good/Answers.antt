-- `record::range::left_good` meets its contract.
use Prim.Native.Nat.{◌+◌}
use mathlib.Core.Path.{◌∙◌, sym, ap}
use Rattle.record.specs.Range.{between, left_good}
use Rattle.record.specs.RangeLaws.{left-pending}
use Rattle.record.proofs.range.left_good.Goals as goal

pub returns-in-Idle : goal.returns-in-Idle
unfolding left_good
returns-in-Idle c = rw c.in-Idle.is

pub returns : goal.returns
returns c =
    let a = c.args in
    c.between.ensures ∙ ap (between 1 (a.size + 1)) c.stores_left.ensures
    ∙ sym (left-pending a.size a.pending c.in_default.not-Idle)
