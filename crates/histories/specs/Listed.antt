-- What 02 says of the list: each legal history up to the length once and no other, shorter ones first and then in the order of the
-- letters; 3 of length 1 and 11 of length 2.
use Rattle.std.specs.Prelude.{ℕ, zero, suc, ◌≤◌, ◌<◌, ◌≡◌, refl, Bool, true, false, ◌⊎◌, length}
use Rattle.std.proofs.Common.{sym, ap, ◌∙◌, subst, true≢false, inl, inr, lt_irrefl, arith, lit<}
use mathlib.Core.List.Memᴰ
use mathlib.Core.List.{List, [], ◌∷◌, ◌++◌, Memᴰ}
use Rattle.std.proofs.Math.Decide.{dec_lt}
use Rattle.segment.specs.Choice.{pick, both}
use Rattle.histories.specs.declared.Letter.{Letter}
use Rattle.histories.specs.declared.Letter.TheVariants.{WriteA, WriteB, DeleteA, DeleteB, CleanAll}
use Rattle.histories.specs.Letters.{Word, rank_of, legal_from, legal}
use Rattle.histories.specs.List.{headed, words_of, legal_ones, histories_of, histories}

abbrev pub In : Word → List Word → Type 0
In w ws = Memᴰ w ws

-- ---- the order

-- of two words of one length the one with the earlier letter where they first differ
abbrev pub Earlier : Word → Word → Type 0
Earlier [] v = ⊥
Earlier (l ∷ u) [] = ⊥
Earlier (l ∷ u) (m ∷ v) = (rank_of l < rank_of m) ⊎ ((l ≡ m) × Earlier u v)

abbrev pub Before : Word → Word → Type 0
Before u v = (length u < length v) ⊎ ((length u ≡ length v) × Earlier u v)

-- every word of a list stands before those behind it
abbrev pub Ascends : (Word → Word → Type 0) → List Word → Type 0
Ascends R [] = Unit {0}
Ascends R (w ∷ ws) = ((v : Word) → In v ws → R w v) × Ascends R ws

-- no word stands twice
abbrev pub Once : List Word → Type 0
Once [] = Unit {0}
Once (w ∷ ws) = (In w ws → ⊥) × Once ws

pub record Listed (n : ℕ) : Type 0 where
  pub each : (w : Word) → length w ≤ n → legal w ≡ true → In w (histories n)
  pub no_other : (w : Word) → In w (histories n) → (length w ≤ n) × (legal w ≡ true)
  pub in_order : Ascends Before (histories n)
  pub once : Once (histories n)

-- ---- all words of a length

headed-in : (l : Letter) (w : Word) (ws : List Word) → In w ws → In (l ∷ w) (headed l ws)
unfolding headed
headed-in l w [] m = absurd (Memᴰ.not-nil m)
headed-in l w (v ∷ ws) m = go (Memᴰ.cases_cons m) (headed-in l w ws)
  where
    go : (w ≡ v) ⊎ In w ws → (In w ws → In (l ∷ w) (headed l ws)) → In (l ∷ w) ((l ∷ v) ∷ headed l ws)
    go (inl e) ih = Memᴰ.head (ap (λ (x : Word). l ∷ x) e)
    go (inr m) ih = Memᴰ.tail (ih m)

headed-back : (l : Letter) (w : Word) (ws : List Word) → In w (headed l ws) → (v : Word) × (w ≡ l ∷ v) × In v ws
unfolding headed
headed-back l w [] m = absurd (Memᴰ.not-nil m)
headed-back l w (v ∷ ws) m = go (Memᴰ.cases_cons m) (headed-back l w ws)
  where
    go : (w ≡ l ∷ v) ⊎ In w (headed l ws) → (In w (headed l ws) → (u : Word) × (w ≡ l ∷ u) × In u ws) → (u : Word) × (w ≡ l ∷ u) × In u (v ∷ ws)
    go (inl e) ih = (v, e, Memᴰ.head refl)
    go (inr m) ih = let x = ih m in (x.0, x.1, Memᴰ.tail x.2)

-- the five parts of the words one letter longer
abbrev part : Letter → ℕ → List Word
part l n = headed l (words_of n)

in-part : (l : Letter) (n : ℕ) (w : Word) → In w (part l n) → In w (words_of (suc n))
unfolding words_of
in-part WriteA n w m = Memᴰ.append_left _ m
in-part WriteB n w m = Memᴰ.append_right (part WriteA n) (Memᴰ.append_left _ m)
in-part DeleteA n w m = Memᴰ.append_right (part WriteA n) (Memᴰ.append_right (part WriteB n) (Memᴰ.append_left _ m))
in-part DeleteB n w m =
    Memᴰ.append_right (part WriteA n) (Memᴰ.append_right (part WriteB n) (Memᴰ.append_right (part DeleteA n) (Memᴰ.append_left _ m)))
in-part CleanAll n w m =
    Memᴰ.append_right (part WriteA n) (Memᴰ.append_right (part WriteB n) (Memᴰ.append_right (part DeleteA n) (Memᴰ.append_right (part DeleteB n) m)))

part_in : (n : ℕ) (w : Word) → In w (words_of (suc n)) → (l : Letter) × In w (part l n)
unfolding words_of
part_in n w m = go1 (Memᴰ.append_cases (part WriteA n) m)
  where
    go4 : In w (part DeleteB n) ⊎ In w (part CleanAll n) → (l : Letter) × In w (part l n)
    go4 (inl x) = (DeleteB, x)
    go4 (inr x) = (CleanAll, x)

    go3 : In w (part DeleteA n) ⊎ In w (part DeleteB n ++ part CleanAll n) → (l : Letter) × In w (part l n)
    go3 (inl x) = (DeleteA, x)
    go3 (inr x) = go4 (Memᴰ.append_cases (part DeleteB n) x)

    go2 : In w (part WriteB n) ⊎ In w (part DeleteA n ++ (part DeleteB n ++ part CleanAll n)) → (l : Letter) × In w (part l n)
    go2 (inl x) = (WriteB, x)
    go2 (inr x) = go3 (Memᴰ.append_cases (part DeleteA n) x)

    go1 : In w (part WriteA n) ⊎ In w (part WriteB n ++ (part DeleteA n ++ (part DeleteB n ++ part CleanAll n))) → (l : Letter) × In w (part l n)
    go1 (inl x) = (WriteA, x)
    go1 (inr x) = go2 (Memᴰ.append_cases (part WriteB n) x)

words-each : (w : Word) → In w (words_of (length w))
unfolding words_of
words-each [] = Memᴰ.head refl
words-each (l ∷ w) = in-part l (length w) (l ∷ w) (headed-in l w (words_of (length w)) (words-each w))

words_long : (n : ℕ) (w : Word) → In w (words_of n) → length w ≡ n
unfolding words_of
words_long zero w m = go (Memᴰ.cases_cons m)
  where
    go : (w ≡ []) ⊎ In w [] → length w ≡ 0
    go (inl e) = ap length e
    go (inr x) = absurd (Memᴰ.not-nil x)
words_long (suc n) w m =
    let p = part_in n w m in
    let v = headed-back p.0 w (words_of n) p.1 in
    ap length v.1 ∙ ap suc (words_long n v.0 v.2)

-- ---- their order

ascends-append : (R : Word → Word → Type 0) (a b : List Word) → Ascends R a → Ascends R b → ((u v : Word) → In u a → In v b → R u v) → Ascends R (a ++ b)
ascends-append R [] b p q f = q
ascends-append R (w ∷ a) b p q f = (
  λ v m. go v (Memᴰ.append_cases a m),
  ascends-append R a b p.1 q (λ u v m. f u v (Memᴰ.tail m)),
)
  where
    go : (v : Word) → In v a ⊎ In v b → R w v
    go v (inl m) = p.0 v m
    go v (inr m) = f w v (Memᴰ.head refl) m

headed-ascends : (l : Letter) (ws : List Word) → Ascends Earlier ws → Ascends Earlier (headed l ws)
unfolding headed
headed-ascends l [] p = tt
headed-ascends l (w ∷ ws) p = (
  λ v m. let x = headed-back l v ws m in subst (Earlier (l ∷ w)) (sym x.1) (inr (refl, p.0 x.0 x.2)),
  headed-ascends l ws p.1,
)

-- a part of an earlier letter stands before one of a later letter
parts-before : (l k : Letter) (n : ℕ) → rank_of l < rank_of k → (u v : Word) → In u (part l n) → In v (part k n) → Earlier u v
parts-before l k n h u v m o =
    let x = headed-back l u (words_of n) m in
    let y = headed-back k v (words_of n) o in
    subst (λ (a : Word). Earlier a v) (sym x.1) (subst (λ (b : Word). Earlier (l ∷ x.0) b) (sym y.1) (inl h))

-- a part and parts of later letters
abbrev LaterThan : Letter → ℕ → List Word → Type 0
LaterThan l n ws = (v : Word) → In v ws → (k : Letter) × (rank_of l < rank_of k) × In v (part k n)

later-part : (l k : Letter) (n : ℕ) → rank_of l < rank_of k → LaterThan l n (part k n)
later-part l k n h v m = (k, h, m)

later-append : (l : Letter) (n : ℕ) (a b : List Word) → LaterThan l n a → LaterThan l n b → LaterThan l n (a ++ b)
later-append l n a b f g v m = go (Memᴰ.append_cases a m)
  where
    go : In v a ⊎ In v b → (k : Letter) × (rank_of l < rank_of k) × In v (part k n)
    go (inl x) = f v x
    go (inr x) = g v x

longer-ascend : (n : ℕ) → Ascends Earlier (words_of n) → Ascends Earlier (words_of (suc n))
unfolding words_of
longer-ascend n ih =
    put WriteA _ (put WriteB _ (put DeleteA _ (put DeleteB _ (own CleanAll) (later DeleteB CleanAll (lit< tt))) (later-append DeleteA n _ _ (later DeleteA DeleteB (lit< tt)) (later DeleteA CleanAll (lit< tt))))
    (later-append WriteB n _ _ (later WriteB DeleteA (lit< tt)) (later-append WriteB n _ _ (later WriteB DeleteB (lit< tt)) (later WriteB CleanAll (lit< tt)))))
    (later-append WriteA n _ _ (later WriteA WriteB (lit< tt))
    (later-append WriteA n _ _ (later WriteA DeleteA (lit< tt)) (later-append WriteA n _ _ (later WriteA DeleteB (lit< tt)) (later WriteA CleanAll (lit< tt)))))
  where
    later : (l k : Letter) → rank_of l < rank_of k → LaterThan l n (part k n)
    later l k h = later-part l k n h

    own : (l : Letter) → Ascends Earlier (part l n)
    own l = headed-ascends l (words_of n) ih

    put : (l : Letter) (ws : List Word) → Ascends Earlier ws → LaterThan l n ws → Ascends Earlier (part l n ++ ws)
    put l ws a f = ascends-append Earlier (part l n) ws (own l) a (λ u v m o. let x = f v o in parts-before l x.0 n x.1 u v m x.2)

words-ascend : (n : ℕ) → Ascends Earlier (words_of n)
unfolding words_of
words-ascend zero = (λ v m. absurd (Memᴰ.not-nil m), tt)
words-ascend (suc n) = longer-ascend n (words-ascend n)

-- ---- the legal ones

legal-in : (w : Word) (ws : List Word) → In w ws → legal w ≡ true → In w (legal_ones ws)
unfolding legal_ones pick
legal-in w [] m e = absurd (Memᴰ.not-nil m)
legal-in w (v ∷ ws) m e = go (Memᴰ.cases_cons m) (legal v) refl (λ x. legal-in w ws x e)
  where
    go : (w ≡ v) ⊎ In w ws → (t : Bool) → legal v ≡ t → (In w ws → In w (legal_ones ws)) → In w (pick t (v ∷ legal_ones ws) (legal_ones ws))
    go (inl s) true p ih = Memᴰ.head s
    go (inl s) false p ih = absurd (true≢false (sym e ∙ ap legal s ∙ p))
    go (inr x) true p ih = Memᴰ.tail (ih x)
    go (inr x) false p ih = ih x

legal-back : (w : Word) (ws : List Word) → In w (legal_ones ws) → In w ws × (legal w ≡ true)
unfolding legal_ones pick
legal-back w [] m = absurd (Memᴰ.not-nil m)
legal-back w (v ∷ ws) m = go (legal v) refl m (legal-back w ws)
  where
    first : legal v ≡ true → (w ≡ v) ⊎ In w (legal_ones ws) → (In w (legal_ones ws) → In w ws × (legal w ≡ true)) → In w (v ∷ ws) × (legal w ≡ true)
    first p (inl s) ih = (Memᴰ.head s, ap legal s ∙ p)
    first p (inr x) ih = let y = ih x in (Memᴰ.tail y.0, y.1)

    go : (t : Bool) → legal v ≡ t → In w (pick t (v ∷ legal_ones ws) (legal_ones ws)) → (In w (legal_ones ws) → In w ws × (legal w ≡ true))
        → In w (v ∷ ws) × (legal w ≡ true)
    go true p x ih = first p (Memᴰ.cases_cons x) ih
    go false p x ih = let y = ih x in (Memᴰ.tail y.0, y.1)

legal-ascend : (R : Word → Word → Type 0) (ws : List Word) → Ascends R ws → Ascends R (legal_ones ws)
unfolding legal_ones pick
legal-ascend R [] p = tt
legal-ascend R (w ∷ ws) p = go (legal w) (legal-ascend R ws p.1)
  where
    go : (t : Bool) → Ascends R (legal_ones ws) → Ascends R (pick t (w ∷ legal_ones ws) (legal_ones ws))
    go true q = (λ v m. p.0 v (legal-back v ws m).0, q)
    go false q = q

-- of one length the letters decide
one-length : (n : ℕ) (ws : List Word) → ((w : Word) → In w ws → length w ≡ n) → Ascends Earlier ws → Ascends Before ws
one-length n [] f p = tt
one-length n (w ∷ ws) f p = (
  λ v m. inr (f w (Memᴰ.head refl) ∙ sym (f v (Memᴰ.tail m)), p.0 v m),
  one-length n ws (λ v m. f v (Memᴰ.tail m)) p.1,
)

of_length : (n : ℕ) (w : Word) → In w (histories_of n) → length w ≡ n
of_length n w m = words_long n w (legal-back w (words_of n) m).0

of-ascend : (n : ℕ) → Ascends Before (histories_of n)
of-ascend n = one-length n (histories_of n) (of_length n) (legal-ascend Earlier (words_of n) (words-ascend n))

-- ---- the histories up to a length

members : (n : ℕ) (w : Word) → length w ≤ n → legal w ≡ true → In w (histories n)
unfolding histories
members zero w h e = legal-in w (words_of 0) (subst (λ (k : ℕ). In w (words_of k)) (zero-length (length w) h) (words-each w)) e
  where
    zero-length : (k : ℕ) → k ≤ 0 → k ≡ 0
    zero-length k h = omega arith
members (suc n) w h e = go (dec_lt (length w) (suc n)) (λ l. members n w l e)
  where
    go : Dec (length w < suc n) → (length w ≤ n → In w (histories n)) → In w (histories n ++ histories_of (suc n))
    go (yes l) ih = Memᴰ.append_left _ (ih (omega arith))
    go (no l) ih =
        Memᴰ.append_right (histories n)
        (legal-in w (words_of (suc n)) (subst (λ (k : ℕ). In w (words_of k)) (full (length w) l h) (words-each w)) e)
      where
        full : (k : ℕ) → (k < suc n → ⊥) → k ≤ suc n → k ≡ suc n
        full k l h = omega (arith, l)

no-others : (n : ℕ) (w : Word) → In w (histories n) → (length w ≤ n) × (legal w ≡ true)
unfolding histories
no-others zero w m = (omega (arith, of_length 0 w m), (legal-back w (words_of 0) m).1)
no-others (suc n) w m = go (Memᴰ.append_cases (histories n) m) (no-others n w)
  where
    go : In w (histories n) ⊎ In w (histories_of (suc n)) → (In w (histories n) → (length w ≤ n) × (legal w ≡ true)) → (length w ≤ suc n) × (legal w ≡ true)
    go (inl x) ih = let y = ih x in (omega (arith, y.0), y.1)
    go (inr x) ih = (omega (arith, of_length (suc n) w x), (legal-back w (words_of (suc n)) x).1)

ascend : (n : ℕ) → Ascends Before (histories n)
unfolding histories
ascend zero = of-ascend 0
ascend (suc n) =
    ascends-append Before (histories n) (histories_of (suc n)) (ascend n) (of-ascend (suc n))
    (λ u v m o. inl (omega (arith, (no-others n u m).0, of_length (suc n) v o)))

-- no word stands before itself, so none stands twice
earlier-not : (w : Word) → Earlier w w → ⊥
earlier-not [] e = e
earlier-not (l ∷ w) (inl h) = lt_irrefl (rank_of l) h
earlier-not (l ∷ w) (inr h) = earlier-not w h.1

before-not : (w : Word) → Before w w → ⊥
before-not w (inl h) = lt_irrefl (length w) h
before-not w (inr h) = earlier-not w h.1

ascends-once : (ws : List Word) → Ascends Before ws → Once ws
ascends-once [] p = tt
ascends-once (w ∷ ws) p = (λ m. before-not w (p.0 w m), ascends-once ws p.1)

pub listed : (n : ℕ) → Listed n
listed n = record { each = members n; no_other = no-others n; in_order = ascend n; once = ascends-once (histories n) (ascend n) }

-- how many there are of the shortest lengths
pub counted :
    (length (histories_of 0) ≡ 1) × (length (histories_of 1) ≡ 3) × (length (histories_of 2) ≡ 11) × (length (histories_of 3) ≡ 43)
    × (length (histories_of 4) ≡ 175)
unfolding words_of legal_ones legal_from pick both
counted = (refl, refl, refl, refl, refl)
