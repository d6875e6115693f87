-- `stepping::finish::entry_counts` meets its contract.
use mathlib.Core.List.{List}
use mathlib.Core.Path.{◌∙◌, ap}
use native.Mathlib.Omega.{arith}
use Prim.Native.Nat.{ℕ}
use lib.ListN.{get_or}
use Rattle.record.specs.RangeLaws.{counts-below}
use Rattle.model.specs.Counts.{more_bytes}
use Rattle.stepping.proofs.FinishLaws.{lost-few}
use Rattle.stepping.proofs.finish.entry_counts.Goals as goal

pub more-requires : goal.more-requires
more-requires c =
    let a = c.args in
    omega (
      arith,
      ap (λ (l : List ℕ). get_or l a.slot 0) c.lost_by.ensures,
      lost-few a.rec.size a.area.now a.rec.counts a.answer a.slot,
      counts-below _ a.slot a.rec.counts c.requires.3,
      c.requires.1,
      c.requires.2,
    )

pub returns : goal.returns
returns c =
    let a = c.args in
    c.more.ensures ∙ ap (more_bytes a.slot a.bytes) c.lost_by.ensures
