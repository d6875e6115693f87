-- The lines of the present keys: what a lookup makes of a key's line, and what the loop over the keys keeps.
use Rattle.std.specs.Prelude.{ℕ, zero, suc, ◌+◌, ◌*◌, ◌<◌, ◌≤◌, ◌≡◌, get_or, take, Ok, Err}
use Rattle.std.proofs.Math.Path.{refl, sym, ap}
use Rattle.std.proofs.Common.{◌∙◌, subst, add-one, arith, length-take-le}
use mathlib.Core.List.Memᴰ
use mathlib.Core.List.{List, [], ◌∷◌, ◌++◌}
use Rattle.std.proofs.Math.Option.{Option, none, some}
use Rattle.std.proofs.Math.ListN.{length, drop, drop_of_length-le}
use Rattle.segment.specs.declared.Key.{Key}
use Rattle.record.specs.declared.Record.{Record}
use Rattle.model.specs.Log.{Placed}
use Rattle.model.specs.Operations.{log_now}
use Rattle.recovery.specs.Lookups.{Lookup}
use Rattle.laws.specs.Members.{In, first}
use Rattle.text.specs.Put.{Put}
use Rattle.report.specs.Report.{key_line, lines_of}
use Rattle.report.specs.Ordered.{rank, ranks}
use Rattle.report.specs.Gather.{present_ranks}
use Rattle.report.specs.Listing.{present_keys}

-- ---- the line of one key

unfoldable pub line_found : Key → Lookup → List ℕ
line_found k (Ok s) = key_line k s.version s.kind
line_found k (Err c) = []

-- ---- the keys one after the other

-- the key at a place of a list of keys
pub record KeyAt (ks : List Key) (i : ℕ) : Type 0 where
  pub key : Key
  pub member : In key ks
  pub its-rank : get_or (ranks ks) i 0 ≡ rank key
  pub rest : drop i ks ≡ key ∷ drop (suc i) ks

pub key-at : (ks : List Key) (i : ℕ) → i < length (ranks ks) → KeyAt ks i
key-at [] i h = absurd (omega arith)
key-at (k ∷ ks) zero h = record { key = k; member = first; its-rank = refl; rest = refl }
key-at (k ∷ ks) (suc i) h =
    let a = key-at ks i (omega arith) in
    record { key = a.key; member = Memᴰ.tail a.member; its-rank = a.its-rank; rest = a.rest }

-- To put what is left of the text at `end` is to have put the whole of it at `at`.
pub record LinesLeft (log : List Placed) (ks : List Key) (out₀ : List ℕ) (at : ℕ) (out : List ℕ) (end i : ℕ) : Type 0 where
  pub long : length out ≡ length out₀
  pub inside : i ≤ length (ranks ks)
  pub within : end ≤ at + 54 * i
  pub finishes : (out' : List ℕ) (r : ℕ) → Put out out' end r (lines_of log (drop i ks)) → Put out₀ out' at r (lines_of log ks)

-- ---- what is gathered from a recovered area

-- The first n of the ranks are those of the present keys.
pub record Listed (area : List ℕ) (r : Record) (xs : List ℕ) (n : ℕ) : Type 0 where
  pub few : n ≤ 4096
  pub inside : n ≤ length xs
  pub long : length (take n xs) ≡ n
  pub stands : take n xs ≡ present_ranks area r
  pub counts : n ≡ length (present_keys (log_now area r))
