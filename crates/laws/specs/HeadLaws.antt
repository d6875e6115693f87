-- The head of slots by their views: the slot with the highest digest number, and only its digest counts.
use Prim.Native.Nat.{ℕ, zero, suc, ◌+◌, ◌≤◌, ◌<◌}
use Rattle.std.proofs.Math.Path.{◌≡◌, refl}
use Rattle.std.proofs.Common.{sym, ap, subst, ◌∙◌}
use Rattle.std.specs.Prelude.{Bool, eqb}
use Rattle.std.proofs.Math.Bool.{true, false}
use Rattle.std.proofs.Math.Option.{Option, none, some}
use Rattle.std.proofs.Math.Decide.{ℕ_discrete, dec_lt}
use native.Mathlib.Omega.{arith}
use Rattle.std.proofs.Math.Dec.{ltb}
use borrow.Author.Tests.{ltb-true, ltb-false, eq-eqb, ne_eqb}
use Rattle.segment.specs.Choice.{pick}
use Rattle.segment.proofs.Choice.{pick_true, pick-false}
use Rattle.segment.specs.declared.Digest.{Digest}
use Rattle.model.specs.Log.{View, Head, newer, head_of}
use Rattle.model.specs.Recovery.{has_number, sharing}

-- ---- views that agree

abbrev pub SameViews : ℕ → (ℕ → View) → (ℕ → View) → Type 0
SameViews n v v' = (i : ℕ) → i < n → v' i ≡ v i

abbrev pub SameDigests : ℕ → (ℕ → View) → (ℕ → View) → Type 0
SameDigests n v v' = (i : ℕ) → i < n → (v' i).digest ≡ (v i).digest

pub digests-same : {n : ℕ} {v v' : ℕ → View} → SameViews n v v' → SameDigests n v v'
digests-same s i l = ap (λ (x : View). x.digest) (s i l)

-- ---- what the head is

-- No digest below n has a higher number than the head's.
pub record IsHead (v : ℕ → View) (n : ℕ) (h : Head) : Type 0 where
  pub below : h.slot < n
  pub own : (v h.slot).digest ≡ some h.digest
  pub top : (i : ℕ) → i < n → (d : Digest) → (v i).digest ≡ some d → d.number.0 ≤ h.digest.number.0

-- Every other one's is lower.
pub record TopHead (v : ℕ → View) (n : ℕ) (h : Head) : Type 0 where
  pub below : h.slot < n
  pub own : (v h.slot).digest ≡ some h.digest
  pub above : (i : ℕ) → i < n → (i ≡ h.slot → ⊥) → (d : Digest) → (v i).digest ≡ some d → d.number.0 < h.digest.number.0

-- what a search for the head that ends so tells
abbrev pub HeadFacts : (ℕ → View) → ℕ → Option Head → Type 0
HeadFacts v n none = (i : ℕ) → i < n → (v i).digest ≡ none
HeadFacts v n (some h) = IsHead v n h

-- one slot more
module _ (v : ℕ → View) (n : ℕ) where
  -- what holds of the slots below n, and of slot n, holds below suc n
  below_suc : (P : ℕ → Type 0) → ((i : ℕ) → i < n → P i) → P n → (i : ℕ) → i < suc n → P i
  below_suc P h p i l = go (ℕ_discrete i n)
    where
      go : Dec (i ≡ n) → P i
      go (yes e) = subst P (sym e) p
      go (no d) = h i (omega arith)

  top-new : (d : Digest) → (v n).digest ≡ some d
      → ((i : ℕ) → i < n → (c : Digest) → (v i).digest ≡ some c → c.number.0 ≤ d.number.0)
      → IsHead v (suc n) (record { slot = n; digest = d })
  top-new d e t =
      record {
        below = omega arith;
        own = e;
        top =
            below_suc (λ i. (c : Digest) → (v i).digest ≡ some c → c.number.0 ≤ d.number.0) t
            (λ c f. let same : c.number.0 ≡ d.number.0 = cc in omega arith);
      }

  top-old : (h : Head) → IsHead v n h → ((d : Digest) → (v n).digest ≡ some d → d.number.0 ≤ h.digest.number.0)
      → IsHead v (suc n) h
  top-old h t f =
      record {
        below = omega (arith, t.below);
        own = t.own;
        top = below_suc (λ i. (c : Digest) → (v i).digest ≡ some c → c.number.0 ≤ h.digest.number.0) t.top f;
      }

  facts-newer : (o : Option Head) (d : Option Digest) → (v n).digest ≡ d → HeadFacts v n o → HeadFacts v (suc n) (newer o n d)
  unfolding newer
  facts-newer none none e t = below_suc (λ i. (v i).digest ≡ none) t e
  facts-newer none (some d) e t = top-new d e (λ i l c f. let z : ◌≡◌ {A = ℕ} 0 1 = cc (t i l) in absurd (omega arith))
  facts-newer (some h) none e t = top-old h t (λ d f. let z : ◌≡◌ {A = ℕ} 0 1 = cc in absurd (omega arith))
  facts-newer (some h) (some d) e t = go (ltb h.digest.number.0 d.number.0) refl
    where
      go : (b : Bool) → ltb h.digest.number.0 d.number.0 ≡ b
          → HeadFacts v (suc n) (pick (ltb h.digest.number.0 d.number.0) (some (record { slot = n; digest = d })) (some h))
      go true q =
          rw (pick_true (ltb h.digest.number.0 d.number.0) (some (record { slot = n; digest = d })) (some h) q)
          (top-new d e (λ i l c f. omega (arith, t.top i l c f, ltb-true h.digest.number.0 d.number.0 q)))
      go false q =
          rw (pick-false (ltb h.digest.number.0 d.number.0) (some (record { slot = n; digest = d })) (some h) q)
          (top-old h t
          (λ c f.
          let same : c.number.0 ≡ d.number.0 = cc in
          omega (arith, ltb-false h.digest.number.0 d.number.0 q)))

pub head-facts : (v : ℕ → View) (n : ℕ) → HeadFacts v n (head_of v n)
unfolding head_of
head-facts v zero = λ i l. absurd (omega arith)
head-facts v (suc n) = facts-newer v n (head_of v n) (v n).digest refl (head-facts v n)

module _ (v : ℕ → View) (n : ℕ) where
  pub head-none : head_of v n ≡ none → (i : ℕ) → i < n → (v i).digest ≡ none
  head-none e = subst (HeadFacts v n) e (head-facts v n)

  pub head-is : (h : Head) → head_of v n ≡ some h → IsHead v n h
  head-is h e = subst (HeadFacts v n) e (head-facts v n)

-- ---- how many slots share a number

has-number : (o : Option Digest) (d : Digest) (k : ℕ) → o ≡ some d → d.number.0 ≡ k → has_number o k ≡ 1
unfolding has_number
has-number o d k e f = rw e (pick_true (eqb d.number.0 k) 1 0 (eq-eqb d.number.0 k f))

lacks-number : (o : Option Digest) (k : ℕ) → ((d : Digest) → o ≡ some d → d.number.0 ≡ k → ⊥) → has_number o k ≡ 0
unfolding has_number
lacks-number none k f = refl
lacks-number (some d) k f = pick-false (eqb d.number.0 k) 1 0 (ne_eqb d.number.0 k (f d refl))

pub number-le : (o : Option Digest) (k : ℕ) → has_number o k ≤ 1
unfolding has_number
number-le none k = omega arith
number-le (some d) k = pick-le (eqb d.number.0 k)
  where
    pick-le : (t : Bool) → pick {A = ℕ} t 1 0 ≤ 1
    pick-le true = rw (pick_true {A = ℕ} true 1 0 refl) (omega arith)
    pick-le false = rw (pick-false {A = ℕ} false 1 0 refl) (omega arith)

module _ (v : ℕ → View) (k : ℕ) where
  -- a slot with that number counts
  pub shared-one : (n i : ℕ) (d : Digest) → i < n → (v i).digest ≡ some d → d.number.0 ≡ k → 1 ≤ sharing v k n
  unfolding sharing
  shared-one zero i d l e f = absurd (omega arith)
  shared-one (suc n) i d l e f = go (ℕ_discrete i n) (λ g. shared-one n i d g e f)
    where
      go : Dec (i ≡ n) → (i < n → 1 ≤ sharing v k n) → 1 ≤ sharing v k n + has_number (v n).digest k
      go (yes q) r = omega (arith, has-number (v n).digest d k (ap (λ (j : ℕ). (v j).digest) (sym q) ∙ e) f)
      go (no q) r = omega (arith, r (omega arith))

  -- and two such slots count twice
  pub shared-two : (n i j : ℕ) (c d : Digest) → i < j → j < n → (v i).digest ≡ some c → c.number.0 ≡ k → (v j).digest ≡ some d → d.number.0 ≡ k
      → 2 ≤ sharing v k n
  unfolding sharing
  shared-two zero i j c d o l e f g h = absurd (omega arith)
  shared-two (suc n) i j c d o l e f g h = go (ℕ_discrete j n) (λ m. shared-two n i j c d o m e f g h)
    where
      go : Dec (j ≡ n) → (j < n → 2 ≤ sharing v k n) → 2 ≤ sharing v k n + has_number (v n).digest k
      go (yes q) r =
          omega (
            arith,
            shared-one n i c (omega arith) e f,
            has-number (v n).digest d k (ap (λ (x : ℕ). (v x).digest) (sym q) ∙ g) h,
          )
      go (no q) r = omega (arith, r (omega arith))

  -- where no slot has the number, none share it; where only slot j may have it, at most one does
  shared-none : (n : ℕ) → ((i : ℕ) → i < n → has_number (v i).digest k ≡ 0) → sharing v k n ≡ 0
  unfolding sharing
  shared-none zero f = refl
  shared-none (suc n) f = omega (arith, shared-none n (λ i l. f i (omega arith)), f n (omega arith))

  shared-only : (n j : ℕ) → ((i : ℕ) → i < n → (i ≡ j → ⊥) → has_number (v i).digest k ≡ 0) → sharing v k n ≤ 1
  unfolding sharing
  shared-only zero j f = omega arith
  shared-only (suc n) j f = go (ℕ_discrete n j) (shared-only n j (λ i l. f i (omega arith)))
    where
      go : Dec (n ≡ j) → sharing v k n ≤ 1 → sharing v k n + has_number (v n).digest k ≤ 1
      go (yes q) r =
          omega (arith, shared-none n (λ i l. f i (omega arith) (λ e. omega arith)), number-le (v n).digest k)
      go (no q) r = omega (arith, f n (omega arith) q)

-- ---- the one head

module _ (v : ℕ → View) (n : ℕ) (h : Head) where
  -- where the head's number is not shared, every other one is lower
  pub is-top : IsHead v n h → sharing v h.digest.number.0 n ≤ 1 → TopHead v n h
  is-top t s =
      record {
        below = t.below;
        own = t.own;
        above = λ i l o d e. go i l o d e (ℕ_discrete d.number.0 h.digest.number.0);
      }
    where
      two : (i : ℕ) → i < n → (i ≡ h.slot → ⊥) → (d : Digest) → (v i).digest ≡ some d → d.number.0 ≡ h.digest.number.0
          → Dec (i < h.slot) → 2 ≤ sharing v h.digest.number.0 n
      two i l o d e f (yes b) = shared-two v h.digest.number.0 n i h.slot d h.digest b t.below e f t.own refl
      two i l o d e f (no b) =
          shared-two v h.digest.number.0 n h.slot i h.digest d (omega (arith, o)) l t.own refl e f

      go : (i : ℕ) → i < n → (i ≡ h.slot → ⊥) → (d : Digest) → (v i).digest ≡ some d → Dec (d.number.0 ≡ h.digest.number.0)
          → d.number.0 < h.digest.number.0
      go i l o d e (yes f) = absurd (omega (arith, two i l o d e f (dec_lt i h.slot)))
      go i l o d e (no f) = omega (arith, t.top i l d e)

  -- and such a slot is the head, and alone in its number
  pub top_head : TopHead v n h → head_of v n ≡ some h
  top_head t = go (head_of v n) refl
    where
      same : (g : Head) → IsHead v n g → Dec (g.slot ≡ h.slot) → some g ≡ some h
      same g s (yes e) =
          let o : some g.digest ≡ some h.digest = sym s.own ∙ ap (λ (i : ℕ). (v i).digest) e ∙ t.own in
          let d : g.digest ≡ h.digest = cc in
          λ i. some (record { slot = e i; digest = d i })
      same g s (no e) =
          absurd (omega (arith, t.above g.slot s.below e g.digest s.own, s.top h.slot t.below h.digest t.own))

      go : (o : Option Head) → head_of v n ≡ o → o ≡ some h
      go none e = cc (head-none v n e h.slot t.below, t.own)
      go (some g) e = same g (head-is v n g e) (ℕ_discrete g.slot h.slot)

  pub top-alone : TopHead v n h → sharing v h.digest.number.0 n ≡ 1
  top-alone t =
      omega (
        arith,
        shared-one v h.digest.number.0 n h.slot h.digest t.below t.own refl,
        shared-only v h.digest.number.0 n h.slot
            (λ i l o. lacks-number (v i).digest h.digest.number.0 (λ d e f. omega (arith, t.above i l o d e))),
      )

  -- It stays so while no other digest comes.
  pub top-stays : (v' : ℕ → View) → ((i : ℕ) → i < n → (i ≡ h.slot → ⊥) → (d : Digest) → (v' i).digest ≡ some d → (v i).digest ≡ some d)
      → (v' h.slot).digest ≡ (v h.slot).digest → TopHead v n h → TopHead v' n h
  top-stays v' f e t =
      record {
        below = t.below;
        own = e ∙ t.own;
        above = λ i l o d g. t.above i l o d (f i l o d g);
      }

  -- A digest with a higher number makes its slot the head.
  pub top-new-head : (v' : ℕ → View) (j : ℕ) (d : Digest) → TopHead v n h → j < n
      → ((i : ℕ) → i < n → (i ≡ j → ⊥) → (v' i).digest ≡ (v i).digest) → (v' j).digest ≡ some d
      → h.digest.number.0 < d.number.0 → TopHead v' n (record { slot = j; digest = d })
  top-new-head v' j d t l f e b =
      record {
        below = l;
        own = e;
        above = λ i m o c g. go i m c (sym (f i m o) ∙ g) (ℕ_discrete i h.slot);
      }
    where
      go : (i : ℕ) → i < n → (c : Digest) → (v i).digest ≡ some c → Dec (i ≡ h.slot) → c.number.0 < d.number.0
      go i m c g (yes q) =
          let s : some c ≡ some h.digest = sym g ∙ ap (λ (x : ℕ). (v x).digest) q ∙ t.own in
          let k : c.number.0 ≡ h.digest.number.0 = cc in
          omega arith
      go i m c g (no q) = omega (arith, t.above i m q c g)
