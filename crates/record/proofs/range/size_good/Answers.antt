-- `record::range::size_good` meets its contract. `search rules` would do; written out, a wrong limit is named.
use Rattle.record.proofs.range.size_good.Goals as goal

pub returns : goal.returns
returns c = c.between.ensures
