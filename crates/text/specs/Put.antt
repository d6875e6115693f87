-- What a function that puts text into a buffer leaves, and how one goes after another.
use Rattle.std.specs.Prelude.{ℕ, ◌+◌, ◌≡◌, refl, List, [], ◌++◌, length}
use Rattle.std.proofs.Common.{sym, ◌∙◌, ap, subst, add-zero, arith, length-append}
use Rattle.std.proofs.lemmas.List.Edits.{sets}
use Rattle.std.proofs.Math.Seq.{length-sets}
use Rattle.word.specs.Laws.{sets-append}

-- The text stands in the buffer at a place, all else is as it was, and the answer is the place behind the text.
pub record Put (buffer buffer' : List ℕ) (at text-end : ℕ) (text : List ℕ) : Type 0 where
  pub end : text-end ≡ at + length text
  pub stored : buffer' ≡ sets buffer at text

pub put-length : {b b' : List ℕ} {at e : ℕ} {text : List ℕ} → Put b b' at e text → length b' ≡ length b
put-length {b} {b'} {at} {e} {text} p = ap length p.stored ∙ length-sets b at text

pub put-none : (b : List ℕ) (at : ℕ) → Put b b at at []
put-none b at = record { end = sym (add-zero at); stored = refl }

pub put_then : {b b₁ b₂ : List ℕ} {at e e₁ : ℕ} {s t : List ℕ} → Put b b₁ at e s → Put b₁ b₂ e e₁ t → Put b b₂ at e₁ (s ++ t)
put_then {b} {b₁} {b₂} {at} {e} {e₁} {s} {t} p q =
    record {
      end = omega (arith, p.end, q.end, length-append s t);
      stored =
          q.stored
          ∙ ap (λ (k : ℕ). sets b₁ k t) p.end
          ∙ ap (λ (l : List ℕ). sets l (at + length s) t) p.stored
          ∙ sym (sets-append b at s t);
    }

pub put_same : {b b' : List ℕ} {at e : ℕ} {s t : List ℕ} → s ≡ t → Put b b' at e s → Put b b' at e t
put_same {b} {b'} {at} {e} same p = subst (λ (text : List ℕ). Put b b' at e text) same p
