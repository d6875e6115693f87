-- An insertion at each of its tests, and going through a list of entries, in any order, gives the index rule for them.
use Prim.Native.Nat.{ℕ, ◌+◌, ◌-◌, ◌≤◌, ◌<◌}
use Rattle.std.specs.Prelude.{◌≡◌, Bool, ltb, length, get_or, replicate}
use Rattle.std.proofs.Math.Path.{refl, sym, ap, subst}
use Rattle.std.proofs.Common.{◌∙◌, inl, arith}
use Rattle.std.proofs.Math.Bool.{true, false}
use mathlib.Core.List.Memᴰ
use mathlib.Core.List.{List, [], ◌∷◌, ◌++◌, append-nil}
use Rattle.std.proofs.Math.Option.{Option, none, some}
use Rattle.std.proofs.Math.Dec.{eqb}
use Rattle.std.proofs.Math.ListN.{set, length-set}
use Rattle.std.proofs.lemmas.List.{length-replicate, get_or-replicate}
use borrow.Author.Tests.{lt-ltb, le-ltb, ltb-true, ltb-false, eqb-true, eqb-false}
use Rattle.model.specs.Log.{Placed, latest, keys_of}
use Rattle.model.specs.Index.{IndexRule}
use Rattle.index.specs.Insert.{Tally, counted, over}

-- The cells keep the rule for these entries and n is the number of their keys, below that of the cells.
pub record Indexed (S m : ℕ) (log : List Placed) (cells : List ℕ) (n : ℕ) : Type 0 where
  pub rule : IndexRule S log cells
  pub keys : n ≡ length (keys_of log)
  pub few : n < m
  pub long : length cells ≡ m

-- Where the tally is over there are as many keys as cells, or more.
unfoldable pub Tells : ℕ → ℕ → List Placed → Tally → Type 0
Tells S m log (counted cells n) = Indexed S m log cells n
Tells S m log over = m ≤ length (keys_of log)

-- no entries and no cell filled
pub tells_none : (S m : ℕ) → 0 < m → Tells S m [] (counted (replicate m 0) 0)
unfolding Tells latest keys_of
tells_none S m h =
    record {
      rule =
          record {
            good = λ i b. inl (zeros i (rw (length-replicate {A = ℕ} m 0) at b));
            found = λ x l. let z : ◌≡◌ {A = ℕ} 0 1 = cc in absurd (omega arith);
            once = λ i j b _ n _. absurd (n (zeros i (rw (length-replicate {A = ℕ} m 0) at b)));
          };
      keys = refl;
      few = h;
      long = length-replicate m 0;
    }
  where
    zeros : (i : ℕ) → i < m → ◌≡◌ {A = ℕ} (get_or (replicate m 0) i 0) 0
    zeros i b = get_or-replicate m i 0 0 b
