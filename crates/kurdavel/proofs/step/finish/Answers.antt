-- `kurdavel::step::finish` meets its contract.
use borrow.Author.Rules.{rules}
use Rattle.std.specs.Prelude.{Ok}
use mathlib.Core.Path.{refl, subst⁻¹, ◌∙◌, ap}
use Rattle.record.specs.Answered.{StepAnswer}
use Rattle.record.specs.declared.Progress.{Progress}
use Rattle.words.specs.declared.Decoded.{Decoded}
use Rattle.kurdavel.specs.Crossing.{left_told, told_after}
use Rattle.kurdavel.specs.CrossingLaws.{ok-long}
use Rattle.kurdavel.specs.StepOn.{AdvanceReady, finished}
use Rattle.kurdavel.proofs.step.finish.Goals as goal

-- an accepted step's answer
abbrev told_as : Progress → StepAnswer
told_as p = Ok p

pub advance-stepped-requires : goal.advance-stepped-requires
advance-stepped-requires c =
    let r = subst⁻¹ (λ (x : Decoded). AdvanceReady x.rec c.args.area.now) c.decode-decoded.ensures c.requires in
    (r.left, r.slots-high, r.size-high, r.area-own, r.inside, r.agrees, r.size-some, r.counts-high)

pub keep-requires : goal.keep-requires
keep-requires c = λ ok. ok-long _ c.decode-decoded.ensures ok

pub returns-in-Err : goal.returns-in-Err
unfolding left_told told_after
returns-in-Err c = finished c.decode-decoded.ensures c.advance-stepped.ensures (search rules) (c.keep.ensures.kept, c.keep.ensures.long) c.in-Err.is c.number.ensures refl refl

pub returns-in-Left : goal.returns-in-Left
unfolding left_told told_after
returns-in-Left c = finished c.decode-decoded.ensures c.advance-stepped.ensures (search rules) (c.keep.ensures.kept, c.keep.ensures.long) (c.in-Ok.is ∙ ap told_as c.in-Left.is) refl refl refl

pub returns-in-Done : goal.returns-in-Done
unfolding left_told told_after
returns-in-Done c = finished c.decode-decoded.ensures c.advance-stepped.ensures (search rules) (c.keep.ensures.kept, c.keep.ensures.long) (c.in-Ok.is ∙ ap told_as c.in-Done.is) refl refl refl
