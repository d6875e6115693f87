-- `position::float_of` meets its contract. The casts are defined, since a float is the count.
use Rattle.position.specs.CastLaws.{narrows, wide-number, float-cast}
use Rattle.position.proofs.float_of.Goals as goal

pub float_to_float-result : goal.float_to_float-result
float_to_float-result c = narrows c.args.count c.requires

pub float_to_bits-result : goal.float_to_bits-result
float_to_bits-result c = wide-number c.args.count c.requires

pub returns : goal.returns
returns c = float-cast c.args.count c.requires
