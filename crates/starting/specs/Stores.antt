-- 01, "Operations, store by store": how many stores a commit and a new head take.
use Rattle.std.specs.Prelude.{ℕ, suc, ◌+◌, ◌≤◌, ◌<◌, ◌≡◌, refl, Bool, List, ◌∷◌, ltb, length}
use Rattle.std.proofs.Common.{sym, ◌∙◌, add-one, lt-ltb, le-ltb, ltb-true, ltb-false}
use Rattle.std.proofs.Math.Path.{ap}
use Rattle.std.proofs.Math.Bool.{true, false}
use native.Mathlib.Omega.{arith}
use Rattle.segment.specs.Choice.{pick}
use Rattle.segment.proofs.Choice.{pick_true, pick-false}
use Rattle.model.specs.Operations.{commit}
use Rattle.laws.specs.Stores.{length-commit-within, length-commit-full}

-- How many stores bring n bytes to an offset of a slot: one each, and one for the 0 after them if they end before S.
unfoldable pub commit_stores : ℕ → ℕ → ℕ → ℕ
commit_stores S offset n = n + pick (ltb (offset + n) S) 1 0

-- A new head of n bytes: the store of 0 at its byte 0, and its commit.
abbrev pub head_stores : ℕ → ℕ → ℕ
head_stores S n = commit_stores S 0 n + 1

module _ (S offset n : ℕ) where
  pub stores-within : offset + n < S → n + 1 ≡ commit_stores S offset n
  unfolding commit_stores
  stores-within h = ap (λ (k : ℕ). n + k) (sym (pick_true (ltb (offset + n) S) 1 0 (lt-ltb (offset + n) S h)))

  pub stores-full : S ≤ offset + n → n ≡ commit_stores S offset n
  unfolding commit_stores
  stores-full h = omega (arith, pick-false {A = ℕ} (ltb (offset + n) S) 1 0 (le-ltb (offset + n) S h))

  -- k is what the code finds
  pub stores-most : {k : ℕ} → k ≡ commit_stores S offset n → (k ≤ n + 1) × (n ≤ k)
  unfolding commit_stores pick
  stores-most {k} e = go (ltb (offset + n) S) e
    where
      go : (t : Bool) → k ≡ n + pick t 1 0 → (k ≤ n + 1) × (n ≤ k)
      go true d = (omega arith, omega arith)
      go false d = (omega arith, omega arith)

pub head-most : (S n : ℕ) {k : ℕ} → k ≡ head_stores S n → k ≤ n + 2
head-most S n e = let most = stores-most S 0 n refl in omega arith

-- they are as many as the plan's
pub commit-stores : (S i offset n : ℕ) (bytes : List ℕ) → length bytes ≡ n → 0 < n → length (commit S i offset bytes) ≡ commit_stores S offset n
commit-stores S i offset n bytes e h = go (ltb (offset + length bytes) S) refl
  where
    go : (t : Bool) → ltb (offset + length bytes) S ≡ t → length (commit S i offset bytes) ≡ commit_stores S offset n
    go true p =
        let l = ltb-true (offset + length bytes) S p in
        length-commit-within S i offset bytes (omega arith) l ∙ ap (λ (k : ℕ). k + 1) e ∙ stores-within S offset n (omega arith)
    go false p =
        let l = ltb-false (offset + length bytes) S p in
        length-commit-full S i offset bytes (omega arith) l ∙ e ∙ stores-full S offset n (omega arith)

pub head-stores :
    (S i n : ℕ) (first : ℕ × ℕ) (bytes : List ℕ) → length bytes ≡ n → 0 < n → length (first ∷ commit S i 0 bytes) ≡ head_stores S n
head-stores S i n first bytes e h = ap suc (commit-stores S i 0 n bytes e h) ∙ sym (add-one (commit_stores S 0 n))
