-- `histories::words` meets its contract.
use native.Mathlib.Omega.{arith}
use Rattle.histories.specs.Numbered.{five-most}
use Rattle.histories.proofs.words.Goals as goal

pub pow-requires : goal.pow-requires
pow-requires c = omega (arith, five-most c.args.letters c.requires)
