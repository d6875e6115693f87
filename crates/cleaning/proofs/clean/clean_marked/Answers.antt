-- `cleaning::clean::clean_marked` meets its contract.
use Prim.Native.Nat.{ℕ}
use mathlib.Core.Path.{◌≡◌, sym, ◌∙◌, ap}
use mathlib.Core.Option.{none}
use mathlib.Core.List.{List}
use lib.ListN.{length, length-replicate}
use Rattle.cleaning.specs.Kept.{kept_test, kept_bytes}
use Rattle.cleaning.specs.Chosen.{chosen_bytes}
use Rattle.cleaning.proofs.ChosenLaws.{length-choices, chosen-kept}
use Rattle.cleaning.specs.Begun.{begun_with}
use Rattle.cleaning.proofs.CleanLaws.{marked_refused, marked-begun, ready, room}
use Rattle.cleaning.proofs.clean.clean_marked.Goals as goal
use Rattle.cleaning.proofs.clean.clean_marked.Goals.{After-measure-count}

-- what is chosen is what is kept
same : (c : After-measure-count)
    → let a = c.args in
    chosen_bytes a.into a.area.now c.measure-count.new.chosen a.split
    ≡ kept_bytes a.into a.area.now a.index.now a.marks.now a.split
same c =
    let a = c.args in
    ap (λ (l : List ℕ). chosen_bytes a.into a.area.now l a.split) c.measure-count.ensures.2
    ∙ chosen-kept a.area.now a.index.now a.marks.now a.split c.requires.shape.slots a.into

pub begin-requires : goal.begin-requires
begin-requires c =
    let a = c.args in let passed = sym c.in-Ok.is ∙ c.check_kept.ensures in
    record {
      clean_ready = ready a.into c.requires a.index.now _ c.measure-count.ensures.0 passed;
      room = room a.into c.requires a.index.now _ c.measure-count.ensures.0 passed _
          (ap length c.measure-count.ensures.2
          ∙ length-choices (kept_test a.area.now a.index.now a.marks.now) _ _ 256 _ _ (length-replicate {A = ℕ} 256 0))
          (same (goal.at.begin-requires c).After-measure-count);
    }

pub returns-in-Err : goal.returns-in-Err
returns-in-Err c =
    marked_refused _ _ _ _ _ _ c.measure-count.ensures.0 _ (sym c.in-Err.is ∙ c.check_kept.ensures) _ c.refused.ensures

pub returns-in-Ok : goal.returns-in-Ok
returns-in-Ok c =
    let a = c.args in
    marked-begun _ _ _ _ _ _ c.measure-count.ensures.0 (sym c.in-Ok.is ∙ c.check_kept.ensures)
    (c.begin.ensures ∙ ap (λ (l : List ℕ). begun_with a.into a.rec a.victims a.work.now l none) (same (goal.at.returns-in-Ok c).After-measure-count))
