-- `position::count_in` meets its contract. The casts are defined, since the float is a count.
use Rattle.position.specs.CastLaws.{bits-no-nan, widens, counts, count-cast}
use Rattle.position.proofs.count_in.Goals as goal

pub float_from_bits-wide : goal.float_from_bits-wide
float_from_bits-wide c = bits-no-nan c.args.bits c.requires

pub float_to_float-wide : goal.float_to_float-wide
float_to_float-wide c = widens c.args.bits c.requires

pub float_to_int-result : goal.float_to_int-result
float_to_int-result c = counts c.args.bits c.requires

pub returns : goal.returns
returns c = count-cast c.args.bits c.requires
