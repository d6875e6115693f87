-- `kurdavel::kurdavel_from_float` meets its contract.
use mathlib.Core.Path.{◌∙◌, ap}
use Rattle.position.specs.declared.Conversion.{Conversion}
use Rattle.position.specs.Convert.{answer_said}
use Rattle.kurdavel.proofs.kurdavel_from_float.Goals as goal

pub returns : goal.returns
returns c = record { says = c.hand_over.ensures.says ∙ ap (λ (x : Conversion). answer_said x.answer) c.from_float.ensures; bytes = c.hand_over.ensures.bytes ∙ ap (λ (x : Conversion). x.value) c.from_float.ensures }
