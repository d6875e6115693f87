-- In `accepted` no more stores stay unmade than the operation has.
use Rattle.play.specs.Answers.{unmade-within}
use Rattle.play.proofs.operations.accepted.Goals as goal

pub steps-rec-requires : goal.steps-rec-requires
steps-rec-requires g c = unmade-within _ _ _ c.unmade-rest.ensures
