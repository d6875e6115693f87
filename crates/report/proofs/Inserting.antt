-- Laws of: What the loops that gather ranks keep.
use Rattle.std.specs.Prelude.{ℕ, zero, suc, ◌+◌, ◌-◌, ◌<◌, ◌≤◌, min, max, ◌≡◌, length, get_or, drop, set}
use Rattle.std.proofs.Math.Path.{sym, ap}
use Rattle.std.proofs.Common.{◌∙◌, add-one, arith, drop_of_length-le, take-suc-set, drop-set-lt, drop-cons}
use mathlib.Core.List.{List, ◌++◌}
use Rattle.std.proofs.Math.Option.{Option, none, some}
use Rattle.std.proofs.Math.Numerals.{unary_clauses}
use Rattle.std.proofs.Math.ListN.{take}
use Rattle.std.proofs.Math.Seq.{slice, slice-cons, slice_empty, take-set-lt, append_snoc}
use Rattle.report.specs.Ascent.{carried, added, gathered}
use Rattle.report.specs.Inserting.{AddsRank, Gathered}

-- ---- a rank put among the first n

slice-behind : (xs : List ℕ) (i n v : ℕ) → i < n → slice (suc i) n (set xs i v) ≡ slice (suc i) n xs
slice-behind xs i n v h = ap (drop (suc i)) (take-set-lt n xs i v h) ∙ drop-set-lt (suc i) (take n xs) i v (omega arith)

module _ (xs : List ℕ) (i n c : ℕ) where
  abbrev met : ℕ
  met = get_or xs i 0

  abbrev stays : List ℕ
  stays = set xs i (min c met)

  pub carry-turn : i < n → n ≤ length xs → take i xs ++ carried c (slice i n xs) ≡ take (i + 1) stays ++ carried (max c met) (slice (i + 1) n stays)
  unfolding carried
  carry-turn h l =
      ap (λ (ys : List ℕ). take i xs ++ carried c ys) (slice-cons i n xs 0 h l)
      ∙ sym (append_snoc (take i xs) (min c met) (carried (max c met) (slice (suc i) n xs)))
      ∙ ap (λ (ys : List ℕ). ys ++ carried (max c met) (slice (suc i) n xs)) (sym (take-suc-set xs i (min c met) (omega arith)))
      ∙ ap (λ (ys : List ℕ). take (suc i) stays ++ carried (max c met) ys) (sym (slice-behind xs i n (min c met) h))
      ∙ ap (λ (k : ℕ). take k stays ++ carried (max c met) (slice k n stays)) (sym (add-one i))

carry-last : (xs : List ℕ) (n c : ℕ) → n < length xs → take (n + 1) (set xs n c) ≡ take n xs ++ carried c (slice n n xs)
unfolding carried
carry-last xs n c h =
    ap (λ (k : ℕ). take k (set xs n c)) (add-one n)
    ∙ take-suc-set xs n c h
    ∙ sym (ap (λ (ys : List ℕ). take n xs ++ carried c ys) (slice_empty n xs))

pub carry-end : {whole : List ℕ} (xs : List ℕ) (i n c : ℕ) → i ≡ n → n < length xs → take i xs ++ carried c (slice i n xs) ≡ whole
    → take (n + 1) (set xs n c) ≡ whole
carry-end xs i n c e h w = carry-last xs n c h ∙ ap (λ (k : ℕ). take k xs ++ carried c (slice k n xs)) (sym e) ∙ w

pub adds_none : (ranks : List ℕ) (n : ℕ) {given : Option ℕ} → given ≡ none → AddsRank ranks ranks n n given
unfolding added
adds_none ranks n e = record { stands = ap (λ (o : Option ℕ). added o (take n ranks)) (sym e); one_more = omega arith }

pub adds-rank : {ranks ranks' : List ℕ} {n x : ℕ} {given : Option ℕ} → given ≡ some x → take (n + 1) ranks' ≡ carried x (take n ranks)
    → AddsRank ranks ranks' n (n + 1) given
unfolding added
adds-rank {ranks} {ranks'} {n} e p = record { stands = p ∙ ap (λ (o : Option ℕ). added o (take n ranks)) (sym e); one_more = omega arith }

module _ (f : ℕ → Option ℕ) (cells ranks ranks' : List ℕ) (n r : ℕ) where
  turn_at : (k : ℕ) → Gathered f cells ranks (suc k) n → AddsRank ranks ranks' n r (f (get_or cells k 0)) → Gathered f cells ranks' k r
  unfolding gathered
  turn_at k g a =
      record {
        inside = omega (arith, g.inside);
        few = omega (arith, g.few, a.one_more);
        stands =
            a.stands ∙ ap (added (f (get_or cells k 0))) g.stands
            ∙ sym (ap (gathered f) (drop-cons cells k 0 (omega (arith, g.inside))));
      }

  pub gather-turn : (i : ℕ) → 0 < i → Gathered f cells ranks i n → AddsRank ranks ranks' n r (f (get_or cells (i - 1) 0)) → Gathered f cells ranks' (i - 1) r
  gather-turn zero h g a = absurd (omega arith)
  gather-turn (suc k) h g a = simp unary_clauses (turn_at k g (simp unary_clauses at a))

pub gather-ends : (f : ℕ → Option ℕ) (cells ranks : List ℕ) (i n : ℕ) → i ≤ 0 → Gathered f cells ranks i n → Gathered f cells ranks 0 n
gather-ends f cells ranks zero n h g = g
gather-ends f cells ranks (suc i) n h g = absurd (omega arith)
