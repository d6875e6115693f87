-- Laws of: Tables of worked cases. A row holds what the definitions compute and what is expected, both as numbers. One test is computed over
use Rattle.std.specs.Prelude.{ℕ, ◌≡◌, refl, Bool, true, false, List, [], ◌∷◌, ◌++◌, eqb}
use Rattle.std.proofs.Common.{ap, ap₂, ◌∙◌, arith, eqb-true}
use Rattle.segment.specs.Choice.{pick}
use Rattle.segment.proofs.Choice.{both_left, both_right}
use Rattle.model.specs.Table.{Hold, Row, failing, same}

same-equal : (xs ys : List ℕ) → same xs ys ≡ true → xs ≡ ys
unfolding same
same-equal [] [] e = refl
same-equal [] (y ∷ ys) e = cc
same-equal (x ∷ xs) [] e = cc
same-equal (x ∷ xs) (y ∷ ys) e =
    ap₂ ◌∷◌ (eqb-true x y (both_left (eqb x y) (same xs ys) e)) (same-equal xs ys (both_right (eqb x y) (same xs ys) e))

pub rows-hold : (rs : List Row) → failing rs ≡ [] → Hold rs
unfolding failing pick
rows-hold [] e = tt
rows-hold (r ∷ rs) e = go (same r.computed r.expected) refl (rows-hold rs) e
  where
    go : (t : Bool) → same r.computed r.expected ≡ t → (failing rs ≡ [] → Hold rs) →
        pick t (failing rs) (r.number ∷ failing rs) ≡ [] → Hold (r ∷ rs)
    go true s rest e = (same-equal r.computed r.expected s, rest e)
    go false s rest e = let z : ◌≡◌ {A = ℕ} 0 1 = cc in absurd (omega arith)

-- a table made of two
failing-append : (rs ss : List Row) → failing (rs ++ ss) ≡ failing rs ++ failing ss
unfolding failing pick
failing-append [] ss = refl
failing-append (r ∷ rs) ss = go (same r.computed r.expected) (failing-append rs ss)
  where
    go : (t : Bool) → failing (rs ++ ss) ≡ failing rs ++ failing ss →
        pick t (failing (rs ++ ss)) (r.number ∷ failing (rs ++ ss)) ≡ pick t (failing rs) (r.number ∷ failing rs) ++ failing ss
    go true e = e
    go false e = ap (λ (ns : List ℕ). r.number ∷ ns) e

pub joined : (rs ss : List Row) → failing rs ≡ [] → failing ss ≡ [] → failing (rs ++ ss) ≡ []
joined rs ss p q = failing-append rs ss ∙ ap₂ ◌++◌ p q
