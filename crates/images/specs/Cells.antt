-- Whether all cells are one, and what a walk over them keeps.
use Rattle.std.specs.Prelude.{ℕ, suc, ◌+◌, ◌<◌, ◌≤◌, ◌≡◌, ◌==◌, Bool, true, false, List, [], ◌∷◌, eqb, length, get_or, drop}
use Rattle.std.specs.List.{list_all}
use Rattle.std.proofs.Math.Path.{refl, sym, ap}
use Rattle.std.proofs.Math.Bool.{◌&&◌}
use Rattle.std.proofs.Common.{◌∙◌, add-one, arith, drop_of_length-le, drop-cons, eq-eqb, ne_eqb}
use Rattle.segment.specs.Choice.{both}
use Rattle.segment.proofs.Choice.{both-false-left}

abbrev pub all_are : ℕ → List ℕ → Bool
all_are c xs = list_all (λ (x : ℕ). x == c) xs

and-both : (x y : Bool) → (x && y) ≡ both x y
unfolding both
and-both true y = refl
and-both false y = refl

module _ (c : ℕ) (xs : List ℕ) (i : ℕ) where
  -- the cell at i and those behind it
  from-here : i < length xs → all_are c (drop i xs) ≡ both (eqb (get_or xs i 0) c) (all_are c (drop (suc i) xs))
  from-here h = ap (all_are c) (drop-cons xs i 0 h) ∙ and-both (eqb (get_or xs i 0) c) (all_are c (drop (suc i) xs))

  pub all-next : i < length xs → get_or xs i 0 ≡ c → all_are c xs ≡ all_are c (drop i xs) → all_are c xs ≡ all_are c (drop (i + 1) xs)
  unfolding both
  all-next h e whole =
      whole
      ∙ from-here h
      ∙ ap (λ (t : Bool). both t (all_are c (drop (suc i) xs))) (eq-eqb (get_or xs i 0) c e)
      ∙ ap (λ (k : ℕ). all_are c (drop k xs)) (sym (add-one i))

  pub all-differs : i < length xs → (get_or xs i 0 ≡ c → ⊥) → all_are c xs ≡ all_are c (drop i xs) → false ≡ all_are c xs
  all-differs h e whole =
      sym (whole ∙ from-here h ∙ both-false-left (eqb (get_or xs i 0) c) (all_are c (drop (suc i) xs)) (ne_eqb (get_or xs i 0) c e))

  pub all_end : length xs ≤ i → all_are c xs ≡ all_are c (drop i xs) → true ≡ all_are c xs
  all_end h whole = sym (whole ∙ ap (all_are c) (drop_of_length-le xs {i = i} h))
