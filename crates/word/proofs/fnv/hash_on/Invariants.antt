-- `word::fnv::hash_on` meets its contract. The invariant: hashing what is left, from the hash so far, gives the whole hash.
use mathlib.Core.Path.{◌≡◌}
use lib.ListN.{drop}
use Rattle.word.specs.Fnv.{fnv_from}
use Rattle.word.proofs.fnv.hash_on.Given as goal

abbrev pub invariant-loop-b : goal.invariant-loop-b
invariant-loop-b l = fnv_from l.h (drop l.b-index l.s) ≡ fnv_from l.initial.h l.s
