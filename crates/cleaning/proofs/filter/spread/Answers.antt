-- `cleaning::filter::spread` meets its contract.
use mathlib.Core.Path.{◌∙◌, ap}
use Prim.Native.Nat.{ℕ, ◌*◌, ◌/◌}
use Rattle.std.specs.Int.Bits.{bit_xor}
use Rattle.word.specs.Fnv.{wrapped}
use Rattle.cleaning.specs.Filter.{spread}
use Rattle.cleaning.proofs.filter.spread.Goals as goal

pub returns : goal.returns
unfolding spread
returns c =
    ap (λ (x : ℕ). x / 1048576)
    (c.wrapping_mul.ensures ∙ ap (λ (t : ℕ). wrapped (bit_xor c.args.key.key (t * 65536)) 2654435761) c.from.ensures)
