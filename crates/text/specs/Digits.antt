-- A number in decimal, as text.
use Rattle.std.specs.Prelude.{ℕ, zero, suc, ◌+◌, ◌/◌, ◌%◌, ◌^◌, ◌≤◌, ◌<◌, ◌≡◌, refl, List, [], ◌∷◌, ◌++◌, ltb, length, Bool, true, false}
use Rattle.std.proofs.Common.{sym, ◌∙◌, ap, arith, length-append, lt-ltb, le-ltb, ltb-true, ltb-false}
use Rattle.segment.specs.Choice.{pick}
use Rattle.segment.proofs.Choice.{pick_true, pick-false}

-- the character of a digit
abbrev pub digit : ℕ → ℕ
digit d = 48 + d

-- the digits of n, the highest first; f bounds how many follow the first
unfoldable pub digits_in : ℕ → ℕ → List ℕ
digits_in zero n = digit n ∷ []
digits_in (suc f) n =
    let longer = digits_in f (n / 10) ++ digit (n % 10) ∷ [] in
    pick (ltb n 10) (digit n ∷ []) longer

-- A number has no more digits than its own value, but for 0, which has one.
abbrev pub digits : ℕ → List ℕ
digits n = digits_in n n

-- ---- its laws

in_small : (f n : ℕ) → n < 10 → digits_in f n ≡ digit n ∷ []
unfolding digits_in
in_small zero n h = refl
in_small (suc f) n h = pick_true (ltb n 10) _ _ (lt-ltb n 10 h)

in-more : (f n : ℕ) → 10 ≤ n → digits_in (suc f) n ≡ digits_in f (n / 10) ++ digit (n % 10) ∷ []
unfolding digits_in
in-more f n h = pick-false (ltb n 10) _ _ (le-ltb n 10 h)

-- more fuel than the number changes nothing
in-enough : (f g n : ℕ) → n ≤ f → n ≤ g → digits_in f n ≡ digits_in g n
in-enough zero g n h l = in_small zero n (omega arith) ∙ sym (in_small g n (omega arith))
in-enough (suc f) zero n h l = in_small (suc f) n (omega arith) ∙ sym (in_small zero n (omega arith))
in-enough (suc f) (suc g) n h l = go (ltb n 10) refl (λ a b. in-enough f g (n / 10) a b)
  where
    go : (t : Bool) → ltb n 10 ≡ t → (n / 10 ≤ f → n / 10 ≤ g → digits_in f (n / 10) ≡ digits_in g (n / 10)) → digits_in (suc f) n ≡ digits_in (suc g) n
    go true e ih = in_small (suc f) n (ltb-true n 10 e) ∙ sym (in_small (suc g) n (ltb-true n 10 e))
    go false e ih =
        let large = ltb-false n 10 e in
        in-more f n large ∙ ap (λ (front : List ℕ). front ++ digit (n % 10) ∷ []) (ih (omega arith) (omega arith)) ∙ sym (in-more g n large)

pub digits-small : (n : ℕ) → n < 10 → digits n ≡ digit n ∷ []
digits-small n h = in_small n n h

pub digits_more : (n : ℕ) → 10 ≤ n → digits n ≡ digits (n / 10) ++ digit (n % 10) ∷ []
digits_more zero h = absurd (omega arith)
digits_more (suc n) h =
    in-more n (suc n) h ∙ ap (λ (front : List ℕ). front ++ digit (suc n % 10) ∷ []) (in-enough n (suc n / 10) (suc n / 10) (omega arith) (omega arith))

-- a number below a power of ten has no more digits than the exponent says
pub digits-length : (k n : ℕ) → n < 10 ^ suc k → length (digits n) ≤ suc k
digits-length zero n h = rw (digits-small n (omega arith)) (omega arith)
digits-length (suc k) n h = go (ltb n 10) refl (digits-length k (n / 10))
  where
    go : (t : Bool) → ltb n 10 ≡ t → (n / 10 < 10 ^ suc k → length (digits (n / 10)) ≤ suc k) → length (digits n) ≤ suc (suc k)
    go true e ih = rw (digits-small n (ltb-true n 10 e)) (omega arith)
    go false e ih =
        rw (digits_more n (ltb-false n 10 e), length-append (digits (n / 10)) (digit (n % 10) ∷ [])) (omega (arith, ih (omega arith)))
