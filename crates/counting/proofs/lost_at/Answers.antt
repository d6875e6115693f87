-- `counting::lost_at` meets its contract.
use mathlib.Core.Path.{ap, ◌∙◌}
use Prim.Native.Nat.{ℕ, ◌/◌}
use Rattle.model.specs.Counts.{fewer_bytes}
use Rattle.counting.specs.Counting.{lost_at}
use Rattle.counting.proofs.lost_at.Goals as goal

pub returns : goal.returns
unfolding lost_at
returns c =
    c.fewer.ensures
    ∙ ap (λ (n : ℕ). fewer_bytes (c.args.place / c.args.size) n c.args.counts.now)
    c.object_length.ensures
