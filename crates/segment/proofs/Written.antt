-- Laws of: What the writers of an entry and of a digest leave in a slice.
use Rattle.std.specs.Prelude.{ℕ, ◌+◌, ◌≤◌, ◌<◌, ◌≡◌, List, ◌∷◌, ◌++◌, length, get_or, set, drop}
use Rattle.std.proofs.Common.{sym, ◌∙◌, ap, append_assoc, add-suc, add-one, arith, length-append, drop_of_length-le, drop-cons}
use Rattle.std.proofs.Math.Option.{some}
use Rattle.std.proofs.lemmas.List.Edits.{sets}
use Rattle.word.specs.Number.{bytes_of}
use Rattle.word.specs.Laws.{length-bytes_of, sets-append}
use Rattle.segment.specs.Layout.{Layout, value_length, entry_size}
use Rattle.segment.specs.Entry.{bytes_in, kind_for, value_for, encoded, size_of}
use Rattle.segment.proofs.ValueLaws.{kind-back, bytes_back}
use Rattle.segment.specs.declared.Key.{Key}
use Rattle.segment.specs.declared.Version.{Version}
use Rattle.segment.specs.Written.{encoded_as, encoded_head, entry_of}

-- where values of that kind are as long
module _ (L : Layout) (kind : ℕ) (key : Key) (version : Version) (value : List ℕ) (known : value_length L kind ≡ some (length value)) where
  pub size-said : size_of L (entry_of L kind key version value) ≡ entry_size L (length value)
  size-said = ap (λ (b : List ℕ). entry_size L (length b)) (bytes_back L kind value known)

  pub encoded-said : encoded_as L kind key version value ≡ encoded L (entry_of L kind key version value)
  encoded-said = (λ i. encoded_as L (sym (kind-back L kind value known) i) key version (sym (bytes_back L kind value known) i)) ∙ joined
    where
      joined :
          encoded_as L (kind_for L (value_for L kind value)) key version (bytes_in (value_for L kind value)) ≡ encoded L (entry_of L kind key version value)
      joined = simp append_assoc

-- bytes stored after those that were stored before
pub sets_then : (at n : ℕ) (a b s s₁ s₂ : List ℕ) → length a ≡ n → s₁ ≡ sets s at a → s₂ ≡ sets s₁ (at + n) b → s₂ ≡ sets s at (a ++ b)
sets_then at n a b s s₁ s₂ len e₁ e₂ =
    e₂
    ∙ ap (λ (l : List ℕ). sets l (at + n) b) e₁
    ∙ ap (λ (k : ℕ). sets (sets s at a) (at + k) b) (sym len)
    ∙ sym (sets-append s at a b)

-- a byte and three numbers, stored one after the other
pub sets-packed : (b u v w x y z at : ℕ) (s s₁ s₂ s₃ : List ℕ)
    → s₁ ≡ sets (set s at b) (at + 1) (bytes_of u x)
    → s₂ ≡ sets s₁ (at + (1 + u)) (bytes_of v y)
    → s₃ ≡ sets s₂ (at + (1 + u + v)) (bytes_of w z)
    → s₃ ≡ sets s at (b ∷ bytes_of u x ++ bytes_of v y ++ bytes_of w z)
sets-packed b u v w x y z at s s₁ s₂ s₃ e₁ e₂ e₃ =
    sets_then at (1 + u + v) (b ∷ bytes_of u x ++ bytes_of v y) (bytes_of w z) s s₂ s₃ (simp (length-append, length-bytes_of) (omega arith))
    (sets_then at (1 + u) (b ∷ bytes_of u x) (bytes_of v y) s s₁ s₂ (simp length-bytes_of (omega arith))
    (e₁ ∙ ap (λ (k : ℕ). sets (set s at b) k (bytes_of u x)) (add-one at)) e₂) e₃

pub length-encoded_head : (L : Layout) (kind : ℕ) (key : Key) (version : Version) → length (encoded_head L kind key version) ≡ entry_size L 0
length-encoded_head L kind key version = simp (length-append, length-bytes_of) (omega arith)

-- a turn of the loop that copies, and its end
pub copy-turn : (d : List ℕ) (at i : ℕ) (s : List ℕ) → i < length s
    → sets d (at + i) (drop i s) ≡ sets (set d (at + i) (get_or s i 0)) (at + (i + 1)) (drop (i + 1) s)
copy-turn d at i s h = rw (add-one i, add-suc at i, drop-cons s i 0 h)

pub copy-end : (d : List ℕ) (at i : ℕ) (s : List ℕ) → length s ≤ i → sets d at (drop i s) ≡ d
copy-end d at i s h = rw (drop_of_length-le s h)
