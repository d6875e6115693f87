-- What recovery counts over the cells is, under the index rule, what a scan of the log counts: both are sums of a number for each
-- latest entry, over lists without repeats and with the same entries.
use Prim.Native.Nat.{ℕ, zero, suc, ◌+◌, ◌*◌, ◌-◌, ◌/◌, ◌%◌, ◌≤◌, ◌<◌}
use Rattle.std.specs.Prelude.{◌≡◌, Bool, ◌⊎◌, eqb, drop, replicate}
use Rattle.std.proofs.Math.Path.{refl, sym, ap, ap₂}
use Rattle.std.proofs.Common.{◌∙◌, inl, inr, add-one, length-take, drop_of_length-le, eq-eqb, ne_eqb}
use Rattle.std.proofs.Math.Bool.{true, false}
use mathlib.Core.List.Memᴰ
use mathlib.Core.List.{List, [], ◌∷◌}
use Rattle.std.proofs.Math.Option.{Option, none, some}
use Rattle.std.proofs.Math.Decide.{ℕ_discrete, dec_lt}
use native.Mathlib.Omega.{arith}
use Rattle.std.proofs.Math.ListN.{length, get_or}
use Rattle.std.proofs.lemmas.List.{length-replicate, get_or-replicate}
use Rattle.std.proofs.Math.Seq.{drop-cons}
use Rattle.laws.specs.Members.{In}

-- ---- sums over lists without repeats

unfoldable pub sum : {A : Type 0} → (A → ℕ) → List A → ℕ
sum f [] = 0
sum f (x ∷ l) = f x + sum f l

-- a member, and what is left without it
pub record Left {A : Type 0} (f : A → ℕ) (x : A) (l : List A) : Type 0 where
  pub rest : List A
  pub sums : sum f l ≡ f x + sum f rest
  pub others : (y : A) → In y l → (y ≡ x) ⊎ In y rest

pub left : {A : Type 0} (f : A → ℕ) (x : A) (l : List A) → In x l → Left f x l
unfolding sum
left {A = A} f x [] m = elim m [ ]
left {A} f x (z ∷ l) (Memᴰ.head e) =
    record { rest = l; sums = ap (λ (w : A). f w + sum f l) (sym e); others = others }
  where
    others : (y : A) → In y (z ∷ l) → (y ≡ x) ⊎ In y l
    others y (Memᴰ.head d) = inl (d ∙ sym e)
    others y (Memᴰ.tail m) = inr m
left {A} f x (z ∷ l) (Memᴰ.tail m) = go (left f x l m)
  where
    go : Left f x l → Left f x (z ∷ l)
    go w = record { rest = z ∷ w.rest; sums = omega (arith, w.sums); others = others }
      where
        step : (y : A) → (y ≡ x) ⊎ In y w.rest → (y ≡ x) ⊎ In y (z ∷ w.rest)
        step y (inl e) = inl e
        step y (inr i) = inr (Memᴰ.tail i)

        others : (y : A) → In y (z ∷ l) → (y ≡ x) ⊎ In y (z ∷ w.rest)
        others y (Memᴰ.head d) = inr (Memᴰ.head d)
        others y (Memᴰ.tail i) = step y (w.others y i)
