-- The cells of an index that keeps its rule give the ranks of the present keys, each once.
use Rattle.std.specs.Prelude.{ℕ, ◌+◌, ◌*◌, ◌-◌, ◌<◌, ◌≤◌, Bool, List, eqb, length, get_or, drop}
use Rattle.std.proofs.Math.Path.{◌≡◌, refl, sym, ap}
use Rattle.std.proofs.Common.{◌∙◌, subst, arith, ne_eqb, eq-eqb}
use Rattle.std.proofs.Math.Bool.{true, false}
use Rattle.std.proofs.Math.Option.{Option, none, some}
use Rattle.word.specs.Number.{Bytes}
use Rattle.segment.specs.Area.{stands_at}
use Rattle.segment.specs.Choice.{pick}
use Rattle.segment.specs.Layout.{Layout}
use Rattle.segment.specs.declared.Read.{Read}
use Rattle.record.specs.Range.{fits_lent}
use Rattle.record.specs.declared.Record.{Record}
use Rattle.model.specs.Operations.{log_now}
use Rattle.model.specs.Promises.{Genuine}
use Rattle.report.specs.Ordered.{rank, ranks}
use Rattle.report.specs.Listing.{present_keys}

-- ---- what a cell gives

-- an object's rank
unfoldable pub rank_read : Read → Option ℕ
rank_read (Read.Object k v kind n) = some (rank k)
rank_read (Read.Tombstone k v n) = none
rank_read Read.End = none
rank_read Read.Damage = none

-- of the entry at a cell's place
unfoldable pub cell_rank : List ℕ → ℕ → Option ℕ
cell_rank area c = pick (eqb c 0) none (rank_read (stands_at area (c - 1)))

-- ---- the index of a recovered area

-- Record and index as recovery leaves them, with an area of bytes.
pub record RecoveredArea (L : Layout) (area : List ℕ) (r : Record) (cells : List ℕ) : Type 0 where
  pub genuine : Genuine L area r cells
  pub fit : fits_lent L r (length area) (length cells) ≡ true
  pub bytes : Bytes area

-- the ranks of the present keys of its log
abbrev pub present_ranks : List ℕ → Record → List ℕ
present_ranks area r = ranks (present_keys (log_now area r))
