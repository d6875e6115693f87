-- What a search over any cells says, by its answer.
use Prim.Native.Nat.{ℕ, zero, suc, ◌+◌, ◌≤◌, ◌<◌}
use Rattle.std.specs.Prelude.{◌≡◌, Bool, true, false, List, ◌⊎◌, eqb, length, get_or}
use Rattle.std.proofs.Math.Path.{refl, sym, ap}
use Rattle.std.proofs.Common.{◌∙◌, subst, inl, inr, add-zero, zero-add, eq-zero-or-pos, add-one, below_more, eq-eqb, ne_eqb, eqb-true}
use native.Mathlib.Omega.{arith}
use Rattle.std.proofs.lemmas.Bool.{eqb-false}
use Rattle.segment.specs.Choice.{pick}
use Rattle.segment.proofs.Choice.{pick_true, pick-false}
use Rattle.model.specs.Index.{around, Met}
use Rattle.index.specs.Search.{probe}
use Rattle.index.proofs.Around.{around-below, around-over, around-lt, around-next}
use Rattle.index.specs.declared.Found.{Found}
use Rattle.index.specs.declared.Found.TheVariants.{At, Free, Full}

-- an answer, or another where it met neither a free cell nor a picked one
unfoldable pub or_else : Found → Found → Found
or_else (At i) other = At i
or_else (Free i) other = Free i
or_else Full other = other

pub or-full : (a : Found) → or_else a Full ≡ a
unfolding or_else
or-full (At i) = refl
or-full (Free i) = refl
or-full Full = refl

module _ (t : ℕ → Bool) (cells : List ℕ) where
  -- ---- the search at each of its tests

  pub probe-none : (at : ℕ) → probe t cells 0 at ≡ Full
  unfolding probe
  probe-none at = refl

  -- f cells to go, of which g are left behind this one
  module _ (f g at : ℕ) (e : f ≡ g + 1) where
    turn : probe t cells f at ≡ probe t cells (suc g) at
    turn = ap (λ (n : ℕ). probe t cells n at) (e ∙ add-one g)

    pub probe-free : get_or cells at 0 ≡ 0 → probe t cells f at ≡ Free at
    unfolding probe
    probe-free z = turn ∙ pick_true (eqb (get_or cells at 0) 0) (Free at) _ (eq-eqb (get_or cells at 0) 0 z)

    held : (get_or cells at 0 ≡ 0 → ⊥) →
        probe t cells f at ≡ pick (t (get_or cells at 0)) (At at) (probe t cells g (around (length cells) (at + 1)))
    unfolding probe
    held n = turn ∙ pick-false (eqb (get_or cells at 0) 0) (Free at) _ (ne_eqb (get_or cells at 0) 0 n)

    pub probe-at : (get_or cells at 0 ≡ 0 → ⊥) → t (get_or cells at 0) ≡ true → probe t cells f at ≡ At at
    probe-at n p = held n ∙ pick_true (t (get_or cells at 0)) (At at) _ p

    pub probe-next :
        (get_or cells at 0 ≡ 0 → ⊥) → t (get_or cells at 0) ≡ false →
        probe t cells f at ≡ probe t cells g (around (length cells) (at + 1))
    probe-next n p = held n ∙ pick-false (t (get_or cells at 0)) (At at) _ p

    -- within the cells nothing goes round; after the last of them no cell is to go
    pub probe-up :
        at + f ≤ length cells → (get_or cells at 0 ≡ 0 → ⊥) → t (get_or cells at 0) ≡ false →
        probe t cells f at ≡ probe t cells g (at + 1)
    probe-up h n p = probe-next n p ∙ go (eq-zero-or-pos g)
      where
        none : (z : g ≡ 0) (i : ℕ) → probe t cells g i ≡ Full
        none z i = ap (λ (n : ℕ). probe t cells n i) z ∙ probe-none i

        go : (g ≡ 0) ⊎ (0 < g) → probe t cells g (around (length cells) (at + 1)) ≡ probe t cells g (at + 1)
        go (inl z) = none z (around (length cells) (at + 1)) ∙ sym (none z (at + 1))
        go (inr l) = ap (probe t cells g) (around-below (length cells) (at + 1) (omega arith))

  -- ---- the search taken apart where it goes round

  -- up to the end of the cells, and if that meets nothing, on from 0
  pub probe-split :
      (b a at : ℕ) → at + a ≡ length cells →
      probe t cells (a + b) (around (length cells) at) ≡ or_else (probe t cells a at) (probe t cells b 0)
  unfolding or_else
  probe-split b zero at e =
      (λ i. probe t cells (zero-add b i) (first i)) ∙ sym (ap (λ (x : Found). or_else x (probe t cells b 0)) (probe-none at))
    where
      first : around (length cells) at ≡ 0
      first = around-over (length cells) at (omega arith) ∙ omega arith
  probe-split b (suc a) at e =
      ap (probe t cells (suc a + b)) (around-below (length cells) at (omega arith))
      ∙ go (eqb (get_or cells at 0) 0) refl (t (get_or cells at 0)) refl (probe-split b a (at + 1) (omega arith))
    where
      second : Found
      second = probe t cells b 0

      go : (z : Bool) → eqb (get_or cells at 0) 0 ≡ z → (s : Bool) → t (get_or cells at 0) ≡ s
          → probe t cells (a + b) (around (length cells) (at + 1)) ≡ or_else (probe t cells a (at + 1)) second
          → probe t cells (suc a + b) at ≡ or_else (probe t cells (suc a) at) second
      go true ez s es ih =
          let z = eqb-true (get_or cells at 0) 0 ez in
          probe-free (suc a + b) (a + b) at (omega arith) z ∙ sym (ap (λ (x : Found). or_else x second) (probe-free (suc a) a at (omega arith) z))
      go false ez true es ih =
          let n = eqb-false (get_or cells at 0) 0 ez in
          probe-at (suc a + b) (a + b) at (omega arith) n es ∙ sym (ap (λ (x : Found). or_else x second) (probe-at (suc a) a at (omega arith) n es))
      go false ez false es ih =
          let n = eqb-false (get_or cells at 0) 0 ez in
          probe-next (suc a + b) (a + b) at (omega arith) n es
          ∙ ih
          ∙ sym (ap (λ (x : Found). or_else x second) (probe-up (suc a) a at (omega arith) (omega arith) n es))

  -- ---- what was passed, and where the search stopped

  -- the cell at a distance is neither free nor picked
  pub record Pass (start d : ℕ) : Type 0 where
    pub held : get_or cells (around (length cells) (start + d)) 0 ≡ 0 → ⊥
    pub other : t (get_or cells (around (length cells) (start + d)) 0) ≡ false

  abbrev pub Passed : ℕ → ℕ → Type 0
  Passed start n = (d : ℕ) → d < n → Pass start d

  pub record Reached (start i : ℕ) : Type 0 where
    pub distance : ℕ
    pub short : distance < length cells
    pub arrives : around (length cells) (start + distance) ≡ i
    pub passed : Passed start distance

  pub reached-met : (start i : ℕ) → Reached start i → Met cells start i
  reached-met start i r =
      record { distance = r.distance; short = r.short; arrives = r.arrives; full = λ d h. (r.passed d h).held }

  pub reached-below : (start i : ℕ) → start < length cells → Reached start i → i < length cells
  reached-below start i h r =
      subst (λ (j : ℕ). j < length cells) r.arrives (around-lt (length cells) (start + r.distance) (omega (arith, r.short)))

  unfoldable pub Probed : ℕ → Found → Type 0
  Probed start (At i) = Reached start i × (get_or cells i 0 ≡ 0 → ⊥) × (t (get_or cells i 0) ≡ true)
  Probed start (Free i) = Reached start i × (get_or cells i 0 ≡ 0)
  Probed start Full = Passed start (length cells)

  from : (f d start : ℕ) → start < length cells → d + f ≡ length cells → Passed start d → Probed start (probe t cells f (around (length cells) (start + d)))
  unfolding Probed
  from zero d start h e p = rw (probe-none (around (length cells) (start + d))) (λ k l. p k (omega arith))
  from (suc f) d start h e p = go (eqb (get_or cells at 0) 0) refl (t (get_or cells at 0)) refl (λ q. from f (d + 1) start h (omega arith) q)
    where
      at : ℕ
      at = around (length cells) (start + d)

      reached : Reached start at
      reached = record { distance = d; short = omega arith; arrives = refl; passed = p }

      go : (z : Bool) → eqb (get_or cells at 0) 0 ≡ z → (s : Bool) → t (get_or cells at 0) ≡ s
          → (Passed start (d + 1) → Probed start (probe t cells f (around (length cells) (start + (d + 1)))))
          → Probed start (probe t cells (suc f) at)
      go true ez s es ih = rw (probe-free (suc f) f at (omega arith) (eqb-true (get_or cells at 0) 0 ez)) (reached, eqb-true (get_or cells at 0) 0 ez)
      go false ez true es ih =
          rw (probe-at (suc f) f at (omega arith) (eqb-false (get_or cells at 0) 0 ez) es) (reached, eqb-false (get_or cells at 0) 0 ez, es)
      go false ez false es ih =
          rw (probe-next (suc f) f at (omega arith) (eqb-false (get_or cells at 0) 0 ez) es, around-next (length cells) start d h (omega arith))
          (ih (below_more (Pass start) d p (record { held = eqb-false (get_or cells at 0) 0 ez; other = es })))

  pub probed : (start : ℕ) → start < length cells → Probed start (probe t cells (length cells) start)
  probed start h =
      subst (λ (a : ℕ). Probed start (probe t cells (length cells) a)) (ap (around (length cells)) (add-zero start) ∙ around-below (length cells) start h)
      (from (length cells) 0 start h (zero-add (length cells)) (λ d l. absurd (omega arith)))
