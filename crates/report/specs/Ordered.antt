-- The present keys by their ranks: a key's rank is one number that goes by table and then key.
use Rattle.std.specs.Prelude.{ℕ, ◌+◌, ◌*◌, ◌<◌, ◌/◌, ◌%◌, ◌⊎◌, Bool, eqb, ltb}
use Rattle.std.proofs.Math.Path.{◌≡◌, refl, ap}
use Rattle.std.proofs.Common.{sym, ◌∙◌, subst, inl, inr, arith, ltb-true, ltb-false, lt-ltb, le-ltb, eqb-true}
use Rattle.std.proofs.Math.Bool.{true, false}
use mathlib.Core.List.Memᴰ
use mathlib.Core.List.{List, [], ◌∷◌, map}
use Rattle.std.proofs.Math.Option.{Option, none, some}
use Rattle.std.proofs.lemmas.Bool.{eqb-false}
use Rattle.segment.specs.declared.Key.{Key}
use Rattle.model.specs.Operations.{TypedKey}
use Rattle.laws.specs.Members.{In}
use Rattle.report.specs.Ascent.{Ascending}

abbrev pub rank : Key → ℕ
rank k = k.table * 4294967296 + k.key

-- the key of a rank
abbrev pub ranked : ℕ → Key
ranked n = record { table = n / 4294967296; key = n % 4294967296 }

-- ---- keys in order

abbrev pub AllTyped : List Key → Type 0
AllTyped ks = (k : Key) → In k ks → TypedKey k

abbrev pub ranks : List Key → List ℕ
ranks ks = map rank ks

-- The ranks of keys in order ascend, and are the keys' ranks.
pub record Ranked (ks : List Key) (xs : List ℕ) : Type 0 where
  pub ascend : Ascending xs
  pub only : (z : ℕ) → In z xs → (k : Key) × In k ks × (z ≡ rank k)
  pub all : (k : Key) → In k ks → In (rank k) xs
