-- `position::with_position` meets its contract.
use Rattle.word.specs.Laws.{bytes_of-four}
use Rattle.position.specs.Convert.{outcome}
use Rattle.position.specs.ConvertLaws.{last-four}
use Rattle.position.proofs.with_position.Goals as goal

pub returns : goal.returns
unfolding outcome
returns c = rw (c.to_le_bytes.ensures, bytes_of-four c.args.position, last-four c.args.value.now c.requires)
