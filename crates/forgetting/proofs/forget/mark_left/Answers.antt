-- `forgetting::forget::mark_left` meets its contract.
use Prim.Native.Nat.{ℕ}
use mathlib.Core.Path.{◌∙◌, ap}
use mathlib.Core.List.{List}
use Rattle.cleaning.specs.Filter.{note_victims, sift_outside}
use Rattle.forgetting.proofs.forget.mark_left.Goals as goal

pub returns : goal.returns
returns c =
    let a = c.args in
    c.mark_outside.ensures
    ∙ ap (λ (l : List ℕ). sift_outside a.area.now a.index.now l a.split a.marks.now)
    (c.note_victims.ensures ∙ ap (note_victims a.area.now a.split) c.put.ensures)
