-- A filter of keys, of one bit for each of 4,096 values of a key: it may have a key that it was not given, and has each that it was. The
-- keys of the victims' tombstones are put into it, and only for keys that it has a walk outside the victims searches the index.
-- What is proved of the definitions in `specs/Filter.antt`.
use Rattle.std.specs.Prelude.{◌<◌}
use Rattle.std.proofs.Common.{arith}
use Rattle.segment.specs.declared.Key.{Key}
use Rattle.cleaning.specs.Filter.{spread}

pub spread-low : (k : Key) → spread k < 4096
unfolding spread
spread-low k = omega arith
