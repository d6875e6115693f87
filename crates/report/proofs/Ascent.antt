-- Laws of: Lists of numbers that ascend, and how a number is put in its place: it is carried along the list, and at each place the
use Rattle.std.specs.Prelude.{ℕ, zero, suc, ◌<◌, ◌≤◌, min, max, ◌⊎◌, Bool, true, false, ltb, length, get_or}
use Rattle.std.proofs.Math.Path.{◌≡◌, refl, ap, subst}
use Rattle.std.proofs.Common.{sym, ◌∙◌, inl, inr, ltb-true, ltb-false}
use mathlib.Core.List.Memᴰ
use mathlib.Core.List.{List, [], ◌∷◌}
use Rattle.std.proofs.Math.Option.{Option, none, some}
use native.Mathlib.Omega.{arith}
use Rattle.laws.specs.Members.{In, first, Within, Same}
use Rattle.report.specs.Ascent.{Ascending, Under, added, carried, gathered, none_left, then-higher}

pub ascending-under : {x : ℕ} {xs : List ℕ} → Ascending (x ∷ xs) → Under x xs
ascending-under (then-higher u a) = u

pub ascending-rest : {x : ℕ} {xs : List ℕ} → Ascending (x ∷ xs) → Ascending xs
ascending-rest (then-higher u a) = a

-- the first of a list that ascends is its least member
least : {x y : ℕ} {xs : List ℕ} → Ascending (x ∷ xs) → In y (x ∷ xs) → x ≤ y
least a (Memᴰ.head e) = omega (arith, e)
least {x} {y} (then-higher u a) (Memᴰ.tail m) = omega (arith, u y m)

rest-within : {x : ℕ} {xs ys : List ℕ} → Ascending (x ∷ xs) → Within (x ∷ xs) (x ∷ ys) → Within xs ys
rest-within {x} {xs} {ys} (then-higher u a) w z m = go (w z (Memᴰ.tail m))
  where
    go : In z (x ∷ ys) → In z ys
    go (Memᴰ.head e) = absurd (omega (arith, u z m, e))
    go (Memᴰ.tail n) = n

-- Two lists that ascend and have the same members are one.
pub ascending-one : (xs ys : List ℕ) → Ascending xs → Ascending ys → Same xs ys → xs ≡ ys
ascending-one [] [] a b s = refl
ascending-one [] (y ∷ ys) a b s = absurd (Memᴰ.not-nil (s.from y first))
ascending-one (x ∷ xs) [] a b s = absurd (Memᴰ.not-nil (s.to x first))
ascending-one (x ∷ xs) (y ∷ ys) a b s =
    let same : x ≡ y = omega (arith, least a (s.from y first), least b (s.to x first)) in
    let to : Within (x ∷ xs) (x ∷ ys) = subst (λ (z : ℕ). Within (x ∷ xs) (z ∷ ys)) (sym same) s.to in
    let from : Within (x ∷ ys) (x ∷ xs) = subst (λ (z : ℕ). Within (z ∷ ys) (x ∷ xs)) (sym same) s.from in
    let b' : Ascending (x ∷ ys) = subst (λ (z : ℕ). Ascending (z ∷ ys)) (sym same) b in
    ap (λ (z : ℕ). z ∷ xs) same
    ∙ ap (λ (zs : List ℕ). y ∷ zs)
    (ascending-one xs ys (ascending-rest a) (ascending-rest b) (record { to = rest-within a to; from = rest-within b' from }))

-- ---- what a carried number makes of a list

-- the lower of the two stays, the other goes on
low-high : (c y : ℕ) → ((min c y ≡ c) × (max c y ≡ y)) ⊎ ((min c y ≡ y) × (max c y ≡ c) × (y ≤ c))
low-high c y = go (ltb c y) refl
  where
    go : (t : Bool) → ltb c y ≡ t → ((min c y ≡ c) × (max c y ≡ y)) ⊎ ((min c y ≡ y) × (max c y ≡ c) × (y ≤ c))
    go true e = let l = ltb-true c y e in inl (omega arith, omega arith)
    go false e = let l = ltb-false c y e in inr (omega arith, omega arith, l)

pub carried-only : (c : ℕ) (xs : List ℕ) (z : ℕ) → In z (carried c xs) → (z ≡ c) ⊎ In z xs
unfolding carried
carried-only c [] z (Memᴰ.tail m) = elim m [ ]
carried-only c [] z (Memᴰ.head e) = inl e
carried-only c (y ∷ ys) z (Memᴰ.head e) = go (low-high c y)
  where
    go : ((min c y ≡ c) × (max c y ≡ y)) ⊎ ((min c y ≡ y) × (max c y ≡ c) × (y ≤ c)) → (z ≡ c) ⊎ In z (y ∷ ys)
    go (inl p) = inl (e ∙ p.0)
    go (inr p) = inr (Memᴰ.head (e ∙ p.0))
carried-only c (y ∷ ys) z (Memᴰ.tail m) = go (low-high c y) (carried-only (max c y) ys z m)
  where
    go : ((min c y ≡ c) × (max c y ≡ y)) ⊎ ((min c y ≡ y) × (max c y ≡ c) × (y ≤ c)) → (z ≡ max c y) ⊎ In z ys → (z ≡ c) ⊎ In z (y ∷ ys)
    go (inl p) (inl e) = inr (Memᴰ.head (e ∙ p.1))
    go (inr p) (inl e) = inl (e ∙ p.1)
    go p (inr n) = inr (Memᴰ.tail n)

carried-all : (c : ℕ) (xs : List ℕ) → In c (carried c xs) × Within xs (carried c xs)
unfolding carried
carried-all c [] = (first, λ z m. absurd (Memᴰ.not-nil m))
carried-all c (y ∷ ys) = go (low-high c y) (carried-all (max c y) ys)
  where
    go : ((min c y ≡ c) × (max c y ≡ y)) ⊎ ((min c y ≡ y) × (max c y ≡ c) × (y ≤ c))
        → In (max c y) (carried (max c y) ys) × Within ys (carried (max c y) ys)
        → In c (min c y ∷ carried (max c y) ys) × Within (y ∷ ys) (min c y ∷ carried (max c y) ys)
    go (inl p) ih = (Memᴰ.head (sym p.0), within)
      where
        within : Within (y ∷ ys) (min c y ∷ carried (max c y) ys)
        within z (Memᴰ.head e) = Memᴰ.tail (subst (λ (w : ℕ). In w (carried (max c y) ys)) (p.1 ∙ sym e) ih.0)
        within z (Memᴰ.tail m) = Memᴰ.tail (ih.1 z m)
    go (inr p) ih = (Memᴰ.tail (subst (λ (w : ℕ). In w (carried (max c y) ys)) p.1 ih.0), within)
      where
        within : Within (y ∷ ys) (min c y ∷ carried (max c y) ys)
        within z (Memᴰ.head e) = Memᴰ.head (e ∙ sym p.0)
        within z (Memᴰ.tail m) = Memᴰ.tail (ih.1 z m)

pub carried-new : (c : ℕ) (xs : List ℕ) → In c (carried c xs)
carried-new c xs = (carried-all c xs).0

pub carried-old : (c : ℕ) (xs : List ℕ) → Within xs (carried c xs)
carried-old c xs = (carried-all c xs).1

-- a number that is not among them keeps a list ascending
pub carried-ascending : (c : ℕ) (xs : List ℕ) → Ascending xs → (In c xs → ⊥) → Ascending (carried c xs)
unfolding carried
carried-ascending c [] a new = then-higher (λ y m. absurd (Memᴰ.not-nil m)) none_left
carried-ascending c (y ∷ ys) (then-higher u a) new = go (ltb c y) refl (λ n. carried-ascending (max c y) ys a n)
  where
    under : (In (max c y) ys → ⊥) → min c y < max c y → min c y ≤ y → Under (min c y) (carried (max c y) ys)
    under n l k z m = at (carried-only (max c y) ys z m)
      where
        at : (z ≡ max c y) ⊎ In z ys → min c y < z
        at (inl e) = omega (arith, e, l)
        at (inr i) = omega (arith, u z i, k)

    go : (t : Bool) → ltb c y ≡ t → ((In (max c y) ys → ⊥) → Ascending (carried (max c y) ys)) → Ascending (min c y ∷ carried (max c y) ys)
    go true e ih =
        let l = ltb-true c y e in
        let high : max c y ≡ y = omega arith in
        let fresh : In (max c y) ys → ⊥ = λ m. omega (arith, u (max c y) m, high) in
        then-higher (under fresh (omega arith) (omega arith)) (ih fresh)
    go false e ih =
        let l = ltb-false c y e in
        let high : max c y ≡ c = omega arith in
        let fresh : In (max c y) ys → ⊥ = λ m. new (Memᴰ.tail (subst (λ (w : ℕ). In w ys) high m)) in
        let apart : c ≡ y → ⊥ = λ q. new (Memᴰ.head q) in
        then-higher (under fresh (omega (arith, apart)) (omega arith)) (ih fresh)

-- a number below all others comes to stand first
pub carried-least : (c : ℕ) (xs : List ℕ) → Ascending (c ∷ xs) → carried c xs ≡ c ∷ xs
unfolding carried
carried-least c [] a = refl
carried-least c (y ∷ ys) (then-higher u a) =
    let l = u y first in
    let low : min c y ≡ c = omega arith in
    let high : max c y ≡ y = omega arith in
    ap (λ (z : ℕ). z ∷ carried (max c y) ys) low
    ∙ ap (λ (z : ℕ). c ∷ carried z ys) high
    ∙ ap (λ (zs : List ℕ). c ∷ zs) (carried-least y ys a)

-- a number above the first goes on behind it
pub carried-behind : (c y : ℕ) (ys : List ℕ) → y ≤ c → carried c (y ∷ ys) ≡ y ∷ carried c ys
unfolding carried
carried-behind c y ys l =
    let low : min c y ≡ y = omega arith in
    let high : max c y ≡ c = omega arith in
    ap (λ (z : ℕ). z ∷ carried (max c y) ys) low ∙ ap (λ (z : ℕ). y ∷ carried z ys) high

module _ (f : ℕ → Option ℕ) where
  -- some cell gives the number z
  abbrev pub Gives : List ℕ → ℕ → Type 0
  Gives cells z = (i : ℕ) × (i < length cells) × (f (get_or cells i 0) ≡ some z)

  later : (cells : List ℕ) (c z : ℕ) → Gives cells z → Gives (c ∷ cells) z
  later cells c z (i, l, e) = (suc i, omega arith, e)

  pub gathered-given : (cells : List ℕ) (z : ℕ) → In z (gathered f cells) → Gives cells z
  unfolding gathered added
  gathered-given [] z m = absurd (Memᴰ.not-nil m)
  gathered-given (c ∷ cs) z m = go (f c) refl m (gathered-given cs z)
    where
      go : (o : Option ℕ) → f c ≡ o → In z (added o (gathered f cs)) → (In z (gathered f cs) → Gives cs z) → Gives (c ∷ cs) z
      go none e n ih = later cs c z (ih n)
      go (some x) e n ih = at (carried-only x (gathered f cs) z n)
        where
          at : (z ≡ x) ⊎ In z (gathered f cs) → Gives (c ∷ cs) z
          at (inl q) = (0, omega arith, e ∙ ap some (sym q))
          at (inr i) = later cs c z (ih i)

  pub given-gathered : (cells : List ℕ) (z : ℕ) → Gives cells z → In z (gathered f cells)
  unfolding gathered added
  given-gathered [] z (i, l, e) = absurd (omega arith)
  given-gathered (c ∷ cs) z (zero, l, e) = go (f c) e
    where
      go : (o : Option ℕ) → o ≡ some z → In z (added o (gathered f cs))
      go none q = let w : ◌≡◌ {A = ℕ} 0 1 = cc in absurd (omega arith)
      go (some x) q = let same : x ≡ z = cc in subst (λ (y : ℕ). In y (carried x (gathered f cs))) same (carried-new x (gathered f cs))
  given-gathered (c ∷ cs) z (suc i, l, e) = go (f c) (given-gathered cs z (i, omega arith, e))
    where
      go : (o : Option ℕ) → In z (gathered f cs) → In z (added o (gathered f cs))
      go none m = m
      go (some x) m = carried-old x (gathered f cs) z m

  -- no two cells give one number
  abbrev pub GivesOnce : List ℕ → Type 0
  GivesOnce cells = (i j z : ℕ) → i < length cells → j < length cells → f (get_or cells i 0) ≡ some z → f (get_or cells j 0) ≡ some z → i ≡ j

  pub gathered-ascending : (cells : List ℕ) → GivesOnce cells → Ascending (gathered f cells)
  unfolding gathered added
  gathered-ascending [] once = none_left
  gathered-ascending (c ∷ cs) once = go (f c) refl (gathered-ascending cs rest)
    where
      rest : GivesOnce cs
      rest i j z l k p q = omega (arith, once (suc i) (suc j) z (omega arith) (omega arith) p q)

      fresh : (x : ℕ) → f c ≡ some x → In x (gathered f cs) → ⊥
      fresh x e m = apart (gathered-given cs x m)
        where
          apart : Gives cs x → ⊥
          apart (i, l, q) = omega (arith, once 0 (suc i) x (omega arith) (omega arith) e q)

      go : (o : Option ℕ) → f c ≡ o → Ascending (gathered f cs) → Ascending (added o (gathered f cs))
      go none e a = a
      go (some x) e a = carried-ascending x (gathered f cs) a (fresh x e)
