-- Isolation for the exported calls, from isolation for the store.
use Rattle.isolation.proofs.Theorem.{isolation}
use Rattle.exported.specs.Runs.{world_of}
use Rattle.exported.specs.Isolation.{IsolationExported}
use Rattle.exported.proofs.Moves.{exported-run}
use Rattle.exported.proofs.Theorem.{format-promised}

pub isolation-exported : IsolationExported
isolation-exported L n s area₀ area ab f owners es es' m m' run run' same apart =
    isolation L n s area₀ area ab (format-promised L n s area₀ area f) owners es es' (world_of m) (world_of m') (exported-run n s run)
    (exported-run n s run') same apart
