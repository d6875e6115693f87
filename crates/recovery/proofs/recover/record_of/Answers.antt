-- `recovery::recover::record_of` meets its contract.
use Prim.Native.Nat.{ℕ}
use mathlib.Core.Path.{◌≡◌, ◌∙◌, ap}
use mathlib.Core.List.{List}
use native.Mathlib.Omega.{arith}
use Rattle.model.specs.Log.{segment_of, scan, end_of}
use Rattle.recovery.specs.CheckLaws.{record-with}
use Rattle.recovery.proofs.CheckLaws.{end_fits}
use Rattle.recovery.proofs.recover.record_of.Goals as goal
use Rattle.recovery.proofs.recover.record_of.Goals.{After-end_of-end}

ends : (c : After-end_of-end)
    → let a = c.args in c.end_of-end.result ≡ end_of (scan a.edition (segment_of a.area.now a.s a.slot))
ends c = c.end_of-end.ensures ∙ ap (λ (l : List ℕ). end_of (scan c.args.edition l)) c.cut.ensures

pub overflow_cast-result-2 : goal.overflow_cast-result-2
overflow_cast-result-2 c =
    let a = c.args in
    omega (arith, ends (goal.at.overflow_cast-result-2 c).After-end_of-end, end_fits a.edition a.area.now a.s a.slot c.requires.0)

pub returns : goal.returns
returns c = record-with _ _ _ _ _ _ _ _ _ _ _ _ (ends (goal.at.returns c).After-end_of-end) c.next_version-next.ensures
