-- Membership in a list, and what is said of lists by their members alone.
use Rattle.std.specs.Prelude.{ℕ, suc, ◌+◌, ◌≤◌, ◌≡◌, refl, Bool, true, false, not, ◌⊎◌, length}
use Rattle.std.proofs.Common.{sym, ◌∙◌, ap, inl, inr, arith}
use mathlib.Core.List.Memᴰ
use mathlib.Core.List.{List, [], ◌∷◌, ◌++◌, Memᴰ}
use Rattle.segment.specs.Choice.{pick}
use Rattle.segment.proofs.Choice.{pick_true}
use Rattle.segment.specs.Entry.{Entry}
use Rattle.model.specs.Log.{Placed}

-- ---- a test is one of the two

pub clash : (t : Bool) → t ≡ true → t ≡ false → ⊥
clash t p q = let z : ◌≡◌ {A = ℕ} 0 1 = cc in absurd (omega arith)

-- two tests that fail together
pub fail-together : (a b : Bool) → (a ≡ false → b ≡ false) → (b ≡ false → a ≡ false) → a ≡ b
fail-together true true f g = refl
fail-together true false f g = g refl
fail-together false b f g = sym (f refl)

-- ---- membership

abbrev pub In : {A : Type 0} → A → List A → Type 0
In x l = Memᴰ x l

-- the first element is a member
pub first : {A : Type 0} {x : A} {l : List A} → In x (x ∷ l)
first = Memᴰ.head refl

-- every member of a is one of b
abbrev pub Within : {A : Type 0} → List A → List A → Type 0
Within {A} a b = (x : A) → In x a → In x b

-- a and b have the same members
pub record Same {A : Type 0} (a b : List A) : Type 0 where
  pub to : Within a b
  pub from : Within b a

pub same-sym : {A : Type 0} {a b : List A} → Same a b → Same b a
same-sym s = record { to = s.from; from = s.to }

pub same-trans : {A : Type 0} {a b c : List A} → Same a b → Same b c → Same a c
same-trans s t = record { to = λ x m. t.to x (s.to x m); from = λ x m. s.from x (t.from x m) }

-- b has exactly the members of a, and x
pub record Added {A : Type 0} (a : List A) (x : A) (b : List A) : Type 0 where
  pub old : Within a b
  pub new : In x b
  pub only : (y : A) → In y b → (y ≡ x) ⊎ In y a

-- which is to have those of x ∷ a
pub added-same : {A : Type 0} {a : List A} {x : A} {b : List A} → Added a x b → Same (x ∷ a) b
added-same {A} {a} {x} {b} w = record { to = to; from = λ y m. from y (w.only y m) }
  where
    to : Within (x ∷ a) b
    to y (Memᴰ.head e) = Memᴰ.cast e w.new
    to y (Memᴰ.tail m) = w.old y m

    from : (y : A) → (y ≡ x) ⊎ In y a → In y (x ∷ a)
    from y (inl e) = Memᴰ.head e
    from y (inr m) = Memᴰ.tail m

-- one element put in anywhere
pub added-between : {A : Type 0} (a : List A) (x : A) (b : List A) → Added (a ++ b) x (a ++ x ∷ b)
added-between {A} a x b = record { old = old; new = Memᴰ.append_right a first; only = only }
  where
    old : Within (a ++ b) (a ++ x ∷ b)
    old y m =
        elim (Memᴰ.append_cases a m) [
          | inl p ↦ Memᴰ.append_left (x ∷ b) p
          | inr q ↦ Memᴰ.append_right a (Memᴰ.tail q)
        ]

    behind : (y : A) → In y (x ∷ b) → (y ≡ x) ⊎ In y (a ++ b)
    behind y (Memᴰ.head e) = inl e
    behind y (Memᴰ.tail m) = inr (Memᴰ.append_right a m)

    only : (y : A) → In y (a ++ x ∷ b) → (y ≡ x) ⊎ In y (a ++ b)
    only y m = elim (Memᴰ.append_cases a m) [ inl p ↦ inr (Memᴰ.append_left b p) | inr q ↦ behind y q ]

-- ---- a list without repeats is no longer than one with all its members

-- no element stands twice
pub data Once {A : Type 0} : List A → Type 0 where
  empty : Once []
  more : {x : A} {l : List A} → (In x l → ⊥) → Once l → Once (x ∷ l)

-- the list without one of its members
without : {A : Type 0} {x : A} {l : List A} → In x l → List A
without (Memᴰ.head {xs = l} e) = l
without (Memᴰ.tail {x = y} m) = y ∷ without m

length_without : {A : Type 0} {x : A} {l : List A} (m : In x l) → length l ≡ suc (length (without m))
unfolding without
length_without (Memᴰ.head e) = refl
length_without (Memᴰ.tail m) = rw (length_without m)

in_without : {A : Type 0} {x y : A} {l : List A} (m : In x l) → In y l → (y ≡ x) ⊎ In y (without m)
unfolding without
in_without (Memᴰ.head e) (Memᴰ.head d) = inl (d ∙ sym e)
in_without (Memᴰ.head e) (Memᴰ.tail n) = inr n
in_without (Memᴰ.tail m) (Memᴰ.head d) = inr (Memᴰ.head d)
in_without {A} {x} {y} (Memᴰ.tail {x = z} m) (Memᴰ.tail n) = step (in_without m n)
  where
    step : (y ≡ x) ⊎ In y (without m) → (y ≡ x) ⊎ In y (z ∷ without m)
    step (inl e) = inl e
    step (inr i) = inr (Memᴰ.tail i)

pub once-length : {A : Type 0} (a b : List A) → Once a → Within a b → length a ≤ length b
once-length [] b o w = omega arith
once-length {A} (x ∷ a) b (more n o) w =
    let m : In x b = w x first in
    let rest : Within a (without m) = λ y i. go (without m) y i (in_without m (w y (Memᴰ.tail i))) in
    omega (arith, once-length a (without m) o rest, length_without m)
  where
    go : (l : List A) (y : A) → In y a → (y ≡ x) ⊎ In y l → In y l
    go l y i (inl e) = absurd (n (Memᴰ.cast (sym e) i))
    go l y i (inr j) = j

-- ---- parts of a log, and sums over its entries

abbrev pub entries_of : List Placed → List Entry
entries_of [] = []
entries_of (x ∷ xs) = x.entry ∷ entries_of xs

pub entries-append : (a b : List Placed) → entries_of (a ++ b) ≡ entries_of a ++ entries_of b
entries-append [] b = refl
entries-append (x ∷ a) b = rw (entries-append a b)

-- each entry is that of a member, and each member's is one
pub entry_in : {x : Placed} {log : List Placed} → In x log → In x.entry (entries_of log)
entry_in (Memᴰ.head e) = Memᴰ.head (ap (λ (y : Placed). y.entry) e)
entry_in (Memᴰ.tail m) = Memᴰ.tail (entry_in m)

pub entry_of : (log : List Placed) (e : Entry) → In e (entries_of log) → (x : Placed) × In x log × x.entry ≡ e
entry_of [] e m = elim m [ ]
entry_of (x ∷ xs) e (Memᴰ.head d) = (x, first, sym d)
entry_of (x ∷ xs) e (Memᴰ.tail m) = let h = entry_of xs e m in (h.0, Memᴰ.tail h.1, h.2)

-- the members that a test picks, in their order
unfoldable pub those : (Placed → Bool) → List Placed → List Placed
those p [] = []
those p (x ∷ xs) = pick (p x) (x ∷ those p xs) (those p xs)

pub in-those : (p : Placed → Bool) {x : Placed} {log : List Placed} → In x log → p x ≡ true → In x (those p log)
unfolding those pick
in-those p (Memᴰ.head {x = y} {xs = ys} e) t =
    rw (pick_true (p y) (y ∷ those p ys) (those p ys) (ap p (sym e) ∙ t)) (Memᴰ.head e)
in-those p {x = x} (Memᴰ.tail {x = y} {xs = ys} m) t = go (p y) (in-those p m t)
  where
    go : (b : Bool) → In x (those p ys) → In x (pick b (y ∷ those p ys) (those p ys))
    go true i = Memᴰ.tail i
    go false i = i

pub those-in : (p : Placed → Bool) (log : List Placed) (x : Placed) → In x (those p log) → In x log × p x ≡ true
unfolding those pick
those-in p [] x m = absurd (Memᴰ.not-nil m)
those-in p (y ∷ ys) x m = go (p y) refl m (λ i. those-in p ys x i)
  where
    tail : In x ys × p x ≡ true → In x (y ∷ ys) × p x ≡ true
    tail h = (Memᴰ.tail h.0, h.1)

    front : p y ≡ true → In x (y ∷ those p ys) → (In x (those p ys) → In x ys × p x ≡ true) → In x (y ∷ ys) × p x ≡ true
    front d (Memᴰ.head e) ih = (Memᴰ.head e, ap p e ∙ d)
    front d (Memᴰ.tail i) ih = tail (ih i)

    go : (b : Bool) → p y ≡ b → In x (pick b (y ∷ those p ys) (those p ys)) → (In x (those p ys) → In x ys × p x ≡ true) →
        In x (y ∷ ys) × p x ≡ true
    go true d i ih = front d i ih
    go false d i ih = tail (ih i)

-- the sum of a number for each entry
unfoldable pub total : {A : Type 0} → (A → ℕ) → List A → ℕ
total f [] = 0
total f (e ∷ es) = f e + total f es

pub total-append : {A : Type 0} (f : A → ℕ) (a b : List A) → total f (a ++ b) ≡ total f a + total f b
unfolding total
total-append f [] b = omega arith
total-append f (e ∷ a) b = omega (arith, total-append f a b)

-- what more members are picked sums to no less
pub total-those : (f : Entry → ℕ) (p q : Placed → Bool) (log : List Placed) → ((x : Placed) → In x log → p x ≡ true → q x ≡ true) →
    total f (entries_of (those p log)) ≤ total f (entries_of (those q log))
unfolding those total pick
total-those f p q [] h = omega arith
total-those f p q (x ∷ xs) h = go (p x) (q x) (h x first) (total-those f p q xs (λ y m. h y (Memᴰ.tail m)))
  where
    go : (s t : Bool) → (s ≡ true → t ≡ true) → total f (entries_of (those p xs)) ≤ total f (entries_of (those q xs)) →
        total f (entries_of (pick s (x ∷ those p xs) (those p xs))) ≤ total f (entries_of (pick t (x ∷ those q xs) (those q xs)))
    go true true i ih = omega arith
    go true false i ih = absurd (clash false (i refl) refl)
    go false true i ih = omega arith
    go false false i ih = ih

-- those that a test picks and those that it does not are all
pub total-split : (f : Entry → ℕ) (p : Placed → Bool) (log : List Placed) →
    total f (entries_of (those p log)) + total f (entries_of (those (λ x. not (p x)) log)) ≡ total f (entries_of log)
unfolding those total pick
total-split f p [] = omega arith
total-split f p (x ∷ xs) = go (p x) (total-split f p xs)
  where
    out : List Placed
    out = those (λ x. not (p x)) xs

    go : (t : Bool) → total f (entries_of (those p xs)) + total f (entries_of out) ≡ total f (entries_of xs) →
        total f (entries_of (pick t (x ∷ those p xs) (those p xs))) + total f (entries_of (pick (not t) (x ∷ out) out)) ≡ f x.entry + total f (entries_of xs)
    go true ih = omega arith
    go false ih = omega arith
