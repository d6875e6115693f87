-- The lowest of many: at each turn of a search, and that it goes by the tests alone.
use Prim.Native.Nat.{ℕ, zero, suc, ◌+◌, ◌≤◌, ◌<◌}
use Rattle.std.proofs.Math.Path.{◌≡◌, refl, sym, ap}
use Rattle.std.proofs.Common.{◌∙◌, add-one, arith, ltb-true, lt-ltb}
use Rattle.std.specs.Prelude.{Bool, true, false, List, ltb, length, Some, None}
use Rattle.std.specs.Prelude as std
use Rattle.std.proofs.Math.Option.{Option, none, some}
use Rattle.std.proofs.Math.Decide.{ℕ_discrete}
use Rattle.segment.specs.Choice.{pick, both}
use Rattle.segment.proofs.Choice.{pick_true, pick-false, both_true, both_left, both_right, both-false-left}
use Rattle.model.specs.Joining.{or_else, first_of, SlotPair, partner_of, pair_with, lowest_pair}
use Rattle.cleaning.specs.declared.Split.{Split}

-- the answers of the searches, as the code gives them
unfoldable pub partner_is : Option ℕ → std.Option ℕ
partner_is none = None
partner_is (some j) = Some j

unfoldable pub chosen_is : Option SlotPair → std.Option (ℕ × ℕ)
chosen_is none = None
chosen_is (some p) = Some (p.first, p.second)

-- N and S within their limits, a total for each slot and a number for every two.
pub record PairsFit (split : Split) (totals shares : List ℕ) : Type 0 where
  pub slots-high : split.slots ≤ 32
  pub size-high : split.size ≤ 2048
  pub totals-long : length totals ≡ 32
  pub shares-long : length shares ≡ 1024

-- ---- the first that is there

module _ {A : Type 0} (f : ℕ → Option A) where
  pub first-skip : (n : ℕ) → first_of f n ≡ none → f n ≡ none → first_of f (n + 1) ≡ none
  unfolding first_of or_else
  first-skip n e h = ap (first_of f) (add-one n) ∙ (λ i. or_else (e i) (h i))

  first-stays : (a : A) (n : ℕ) → first_of f n ≡ some a → first_of f (suc n) ≡ some a
  unfolding first_of or_else
  first-stays a n e = ap (λ (o : Option A). or_else o (f n)) e

  pub first-hit : (a : A) (i n : ℕ) → i < n → first_of f i ≡ none → f i ≡ some a → first_of f n ≡ some a
  unfolding first_of or_else
  first-hit a i zero l e h = absurd (omega arith)
  first-hit a i (suc n) l e h = go (ℕ_discrete i n) (λ k. first-hit a i n k e h)
    where
      go : Dec (i ≡ n) → (i < n → first_of f n ≡ some a) → or_else (first_of f n) (f n) ≡ some a
      go (yes p) ih = ap (λ (k : ℕ). or_else (first_of f k) (f k)) (sym p) ∙ (λ k. or_else (e k) (h k))
      go (no p) ih = ap (λ (o : Option A). or_else o (f n)) (ih (omega arith))

  -- what is found is given by one of them
  pub record GivenBy (a : A) (n : ℕ) : Type 0 where
    pub index : ℕ
    pub below : index < n
    pub gives : f index ≡ some a

  pub first-given : (a : A) (n : ℕ) → first_of f n ≡ some a → GivenBy a n
  unfolding first_of or_else
  first-given a zero e = let z : ◌≡◌ {A = ℕ} 0 1 = cc in absurd (omega arith)
  first-given a (suc n) e = go (first_of f n) refl e (λ p. first-given a n p)
    where
      go : (o : Option A) → first_of f n ≡ o → or_else o (f n) ≡ some a → (first_of f n ≡ some a → GivenBy a n) → GivenBy a (suc n)
      go none p q ih = record { index = n; below = omega arith; gives = q }
      go (some b) p q ih = let w = ih (p ∙ q) in record { index = w.index; below = omega (arith, w.below); gives = w.gives }

  -- where nothing is found none of them gives anything
  pub first-none : (n : ℕ) → first_of f n ≡ none → (k : ℕ) → k < n → f k ≡ none
  unfolding first_of or_else
  first-none zero e k l = absurd (omega arith)
  first-none (suc n) e k l = go (first_of f n) refl e (ℕ_discrete k n) (λ p h. first-none n p k h)
    where
      go : (o : Option A) → first_of f n ≡ o → or_else o (f n) ≡ none → Dec (k ≡ n) → (first_of f n ≡ none → k < n → f k ≡ none) → f k ≡ none
      go none p q (yes h) ih = ap f h ∙ q
      go none p q (no h) ih = ih p (omega arith)
      go (some b) p q d ih = cc

pub first-same : {A : Type 0} (f g : ℕ → Option A) (n : ℕ) → ((k : ℕ) → k < n → f k ≡ g k) → first_of f n ≡ first_of g n
unfolding first_of
first-same f g zero h = refl
first-same f g (suc n) h = λ i. or_else (first-same f g n (λ k l. h k (omega arith)) i) (h n (omega arith) i)

-- ---- a partner

-- t is what the code finds for the pair
module _ (fits : ℕ → ℕ → Bool) (n i j : ℕ) (t : Bool) (e : t ≡ both (ltb i j) (fits i j)) (before : partner_of fits j i ≡ none) where
  pub partner-hit : j < n → t ≡ true → Some j ≡ partner_is (partner_of fits n i)
  unfolding partner_is
  partner-hit l h =
      sym (ap partner_is (first-hit (λ (k : ℕ). pick (both (ltb i k) (fits i k)) (some k) none) j j n l before (pick_true _ _ _ (sym e ∙ h))))

  pub partner-skip : t ≡ false → partner_of fits (j + 1) i ≡ none
  partner-skip h = first-skip (λ (k : ℕ). pick (both (ltb i k) (fits i k)) (some k) none) j before (pick-false _ _ _ (sym e ∙ h))

pub partner-start : (fits : ℕ → ℕ → Bool) (i : ℕ) → partner_of fits 0 i ≡ none
unfolding first_of
partner-start fits i = refl

pub partner-end : (fits : ℕ → ℕ → Bool) (n i j : ℕ) → j ≡ n → partner_of fits j i ≡ none → None ≡ partner_is (partner_of fits n i)
unfolding partner_is
partner-end fits n i j e before = sym (ap partner_is (ap (λ (k : ℕ). partner_of fits k i) (sym e) ∙ before))

-- ---- a pair

-- the pairs whose lower slot is below k
abbrev pub pairs_below : (ℕ → ℕ → Bool) → ℕ → ℕ → Option SlotPair
pairs_below fits n k = first_of (λ i. pair_with i (partner_of fits n i)) k

-- the partner that the code finds
was-slot : (o : Option ℕ) (j : ℕ) → Some j ≡ partner_is o → o ≡ some j
unfolding partner_is
was-slot none j e = cc
was-slot (some k) j e = cc

was-nobody : (o : Option ℕ) → None ≡ partner_is o → o ≡ none
unfolding partner_is
was-nobody none e = refl
was-nobody (some k) e = cc

module _ (fits : ℕ → ℕ → Bool) (n i : ℕ) (p : std.Option ℕ) (e : p ≡ partner_is (partner_of fits n i)) (before : pairs_below fits n i ≡ none) where
  pub pair-hit : i < n → (j : ℕ) → p ≡ Some j → Some (i, j) ≡ chosen_is (lowest_pair fits n)
  unfolding chosen_is pair_with
  pair-hit l j h =
      sym
      (ap chosen_is
      (first-hit (λ (k : ℕ). pair_with k (partner_of fits n k)) (record { first = i; second = j }) i n l before (ap (pair_with i) (was-slot _ j (sym h ∙ e)))))

  pub pair-skip : p ≡ None → pairs_below fits n (i + 1) ≡ none
  unfolding pair_with
  pair-skip h = first-skip (λ (k : ℕ). pair_with k (partner_of fits n k)) i before (ap (pair_with i) (was-nobody _ (sym h ∙ e)))

pub pair-start : (fits : ℕ → ℕ → Bool) (n : ℕ) → pairs_below fits n 0 ≡ none
unfolding first_of
pair-start fits n = refl

pub pair_end : (fits : ℕ → ℕ → Bool) (n i : ℕ) → i ≡ n → pairs_below fits n i ≡ none → None ≡ chosen_is (lowest_pair fits n)
unfolding chosen_is
pair_end fits n i e before = sym (ap chosen_is (ap (pairs_below fits n) (sym e) ∙ before))

-- ---- what the lowest pair is

-- the two are in order, below n, and fit
pub record Joins (fits : ℕ → ℕ → Bool) (n i j : ℕ) : Type 0 where
  pub apart : i < j
  pub below : j < n
  pub fit : fits i j ≡ true

partner-given : (fits : ℕ → ℕ → Bool) (n i j : ℕ) → partner_of fits n i ≡ some j → Joins fits n i j
unfolding pick
partner-given fits n i j e =
    let w = first-given (λ (k : ℕ). pick (both (ltb i k) (fits i k)) (some k) none) j n e in
    go w.index w.below (both (ltb i w.index) (fits i w.index)) refl w.gives
  where
    go : (k : ℕ) → k < n → (t : Bool) → both (ltb i k) (fits i k) ≡ t → pick t (some k) none ≡ some j → Joins fits n i j
    go k l true p q =
        let same : k ≡ j = cc in
        let held : both (ltb i j) (fits i j) ≡ true = ap (λ (m : ℕ). both (ltb i m) (fits i m)) (sym same) ∙ p in
        record { apart = ltb-true i j (both_left _ _ held); below = omega arith; fit = both_right (ltb i j) (fits i j) held }
    go k l false p q = let z : ◌≡◌ {A = ℕ} 0 1 = cc in absurd (omega arith)

pub pair-given : (fits : ℕ → ℕ → Bool) (n : ℕ) (p : SlotPair) → lowest_pair fits n ≡ some p → Joins fits n p.first p.second
unfolding pair_with
pair-given fits n p e =
    let w = first-given (λ (k : ℕ). pair_with k (partner_of fits n k)) p n e in
    go w.index (partner_of fits n w.index) refl w.gives
  where
    go : (k : ℕ) (o : Option ℕ) → partner_of fits n k ≡ o → pair_with k o ≡ some p → Joins fits n p.first p.second
    go k none q h = let z : ◌≡◌ {A = ℕ} 0 1 = cc in absurd (omega arith)
    go k (some j) q h =
        let same : record { first = k; second = j } ≡ p = cc in
        let one : k ≡ p.first = ap (λ (s : SlotPair). s.first) same in
        let two : j ≡ p.second = ap (λ (s : SlotPair). s.second) same in
        let w = partner-given fits n k j q in
        record { apart = omega arith; below = omega arith; fit = (λ x. fits (sym one x) (sym two x)) ∙ w.fit }

-- where there is none, no two fit
pub pair-none : (fits : ℕ → ℕ → Bool) (n : ℕ) → lowest_pair fits n ≡ none → (i j : ℕ) → i < j → j < n → fits i j ≡ false
unfolding pair_with
pair-none fits n e i j l b = go (fits i j) refl
  where
    no-partner : (o : Option ℕ) → pair_with i o ≡ none → o ≡ none
    no-partner none q = refl
    no-partner (some k) q = cc

    lone : partner_of fits n i ≡ none
    lone = no-partner _ (first-none (λ (k : ℕ). pair_with k (partner_of fits n k)) n e i (omega arith))

    go : (t : Bool) → fits i j ≡ t → fits i j ≡ false
    go false h = h
    go true h =
        let held : both (ltb i j) (fits i j) ≡ true = both-lt h in
        let gives : some j ≡ none = sym (pick_true _ _ _ held) ∙ first-none (λ (k : ℕ). pick (both (ltb i k) (fits i k)) (some k) none) n lone j b in
        let z : ◌≡◌ {A = ℕ} 0 1 = cc in absurd (omega arith)
      where
        both-lt : fits i j ≡ true → both (ltb i j) (fits i j) ≡ true
        both-lt q = both_true (ltb i j) (fits i j) (lt-ltb i j l) q

-- The pair goes by the test of slots in order alone.
pub pair_same : (f g : ℕ → ℕ → Bool) (n : ℕ) → ((i j : ℕ) → i < j → j < n → f i j ≡ g i j) → lowest_pair f n ≡ lowest_pair g n
pair_same f g n h =
    first-same (λ (i : ℕ). pair_with i (partner_of f n i)) (λ (i : ℕ). pair_with i (partner_of g n i)) n
    (λ i l.
    ap (pair_with i)
    (first-same (λ (j : ℕ). pick (both (ltb i j) (f i j)) (some j) none) (λ (j : ℕ). pick (both (ltb i j) (g i j)) (some j) none) n
    (λ j b. ap (λ (t : Bool). pick t (some j) none) (one i j b))))
  where
    one : (i j : ℕ) → j < n → both (ltb i j) (f i j) ≡ both (ltb i j) (g i j)
    one i j b = go (ltb i j) refl
      where
        go : (t : Bool) → ltb i j ≡ t → both (ltb i j) (f i j) ≡ both (ltb i j) (g i j)
        go true e = ap (both (ltb i j)) (h i j (ltb-true i j e) b)
        go false e = both-false-left (ltb i j) (f i j) e ∙ sym (both-false-left (ltb i j) (g i j) e)
