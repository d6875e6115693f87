-- Laws of: The lines of the present keys: what a lookup makes of a key's line, and what the loop over the keys keeps.
use Rattle.std.specs.Prelude.{ℕ, zero, suc, ◌+◌, ◌*◌, ◌<◌, ◌≤◌, ◌≡◌, get_or, take}
use Rattle.std.proofs.Math.Path.{refl, sym, ap}
use Rattle.std.proofs.Common.{◌∙◌, subst, add-one, arith, length-take-le}
use mathlib.Core.List.Memᴰ
use mathlib.Core.List.{List, [], ◌∷◌, ◌++◌}
use Rattle.std.proofs.Math.Option.{Option, none, some}
use Rattle.std.proofs.Math.ListN.{length, drop, drop_of_length-le}
use Rattle.segment.specs.Layout.{Layout}
use Rattle.segment.specs.declared.Key.{Key}
use Rattle.record.specs.Reach.{table_alone, alone-holds}
use Rattle.record.specs.declared.Record.{Record}
use Rattle.model.specs.Log.{Placed, present}
use Rattle.model.specs.Operations.{log_now, TypedKey}
use Rattle.recovery.specs.Lookups.{looked_up, Lookup}
use Rattle.recovery.specs.LookupLaws.{lookup_for}
use Rattle.recovery.proofs.LookupLaws.{genuine-lookup}
use Rattle.text.specs.Put.{Put, put-none, put_then}
use Rattle.report.specs.Report.{line_of, lines_of}
use Rattle.report.specs.PutLaws.{PutWithin}
use Rattle.report.specs.Ordered.{rank, ranked, ranks, AllTyped}
use Rattle.report.proofs.Ordered.{ranked-rank}
use Rattle.report.specs.Gather.{RecoveredArea, cell_rank, present_ranks}
use Rattle.report.proofs.GatherLaws.{index-gathers, cells-few}
use Rattle.report.specs.Inserting.{Gathered}
use Rattle.report.specs.Listing.{present_keys}
use Rattle.report.specs.LineLaws.{KeyAt, LinesLeft, Listed, key-at, line_found}

pub line-found : (L : Layout) (area : List ℕ) (r : Record) (cells : List ℕ) (k : Key) (found : Lookup) → RecoveredArea L area r cells
    → found ≡ looked_up L r area cells (table_alone k.table) k → line_found k found ≡ line_of k (present (log_now area r) k)
line-found L area r cells k found ready e =
    ap (line_found k) (e ∙ genuine-lookup L r area cells (table_alone k.table) k ready.genuine ready.fit (alone-holds k.table)) ∙ go (present (log_now area r) k)
  where
    go : (o : Option Placed) → line_found k (lookup_for r.size o) ≡ line_of k o
    go none = unfold line_found lookup_for line_of in refl
    go (some x) = unfold line_found lookup_for line_of in refl

pub lines_start : (log : List Placed) (ks : List Key) (out : List ℕ) (at : ℕ) → LinesLeft log ks out at out at 0
lines_start log ks out at = record { long = refl; inside = omega arith; within = omega arith; finishes = λ out' r p. p }

-- their ranks, one after the other
module _ (ks : List Key) (xs : List ℕ) (same : xs ≡ ranks ks) (typed : AllTyped ks) (i : ℕ) (h : i < length xs) where
  here : KeyAt ks i
  here = key-at ks i (omega (arith, ap length same))

  here-rank : get_or xs i 0 ≡ rank here.key
  here-rank = ap (λ (ys : List ℕ). get_or ys i 0) same ∙ here.its-rank

  here-key : ranked (get_or xs i 0) ≡ here.key
  here-key = ap ranked here-rank ∙ ranked-rank here.key (typed here.key here.member)

  pub rank-fits : get_or xs i 0 < 65536 * 4294967296
  rank-fits =
      let t : TypedKey here.key = typed here.key here.member in
      omega (arith, here-rank, t.0, t.1)

  pub next-line : (log : List Placed) (key : Key) → key ≡ ranked (get_or xs i 0)
      → line_of key (present log key) ++ lines_of log (drop (i + 1) ks) ≡ lines_of log (drop i ks)
  unfolding lines_of
  next-line log key e =
      ap (λ (k : Key). line_of k (present log k) ++ lines_of log (drop (i + 1) ks)) (e ∙ here-key)
      ∙ ap (λ (j : ℕ). line_of here.key (present log here.key) ++ lines_of log (drop j ks)) (add-one i)
      ∙ sym (ap (lines_of log) here.rest)

length-ranks : (ks : List Key) → length (ranks ks) ≡ length ks
length-ranks [] = refl
length-ranks (k ∷ ks) = ap suc (length-ranks ks)

module _ (log : List Placed) (ks : List Key) (xs : List ℕ) (same : xs ≡ ranks ks) (out₀ : List ℕ) (at : ℕ) (out : List ℕ) (end i : ℕ)
    (left : LinesLeft log ks out₀ at out end i) where
  pub lines_end : length xs ≤ i → PutWithin out₀ out at end (lines_of log ks) (54 * length xs)
  unfolding lines_of
  lines_end h =
      record {
        put = left.finishes out end (subst (λ (js : List Key). Put out out end end (lines_of log js)) (sym none_left) (put-none out end));
        within = omega (arith, left.within, left.inside, ap length same);
      }
    where
      none_left : drop i ks ≡ []
      none_left = drop_of_length-le ks {i = i} (omega (arith, ap length same, length-ranks ks))

  pub lines-turn : (typed : AllTyped ks) → i < length xs → (key : Key) → key ≡ ranked (get_or xs i 0) → (out₁ : List ℕ) (e : ℕ)
      → length out₁ ≡ length out → PutWithin out out₁ end e (line_of key (present log key)) 54 → LinesLeft log ks out₀ at out₁ e (i + 1)
  lines-turn typed h key its out₁ e long p =
      record {
        long = long ∙ left.long;
        inside = omega (arith, ap length same);
        within = omega (arith, p.within, left.within);
        finishes = λ out' r q.
            left.finishes out' r (subst (Put out out' end r) (next-line ks xs same typed i h log key its) (put_then p.put q));
      }

pub gathered-listed : (L : Layout) (area : List ℕ) (r : Record) (cells xs : List ℕ) (n : ℕ) → RecoveredArea L area r cells → length xs ≡ 4096
    → Gathered (cell_rank area) cells xs 0 n → Listed area r xs n
gathered-listed L area r cells xs n ready long g =
    let few : n ≤ 4096 = omega (arith, cells-few L area r cells ready, g.few) in
    let cut : length (take n xs) ≡ n = length-take-le n xs (omega arith) in
    let stands : take n xs ≡ present_ranks area r = g.stands ∙ index-gathers L area r cells ready in
    record {
      few = few;
      inside = omega arith;
      long = cut;
      stands = stands;
      counts = sym cut ∙ ap length stands ∙ length-ranks (present_keys (log_now area r));
    }
