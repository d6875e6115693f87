-- Bytes copied to a buffer, and how a copy goes on behind them.
use Rattle.std.specs.Prelude.{ℕ, ◌+◌, ◌≡◌, List, ◌++◌, length}
use Rattle.std.proofs.Common.{sym, ◌∙◌, ap, arith, length-append}
use Rattle.std.proofs.lemmas.List.Edits.{sets}
use Rattle.word.specs.Laws.{sets-append}

-- The bytes stand in the buffer from an offset on, and r is the offset behind them.
pub record Copied (bytes work : List ℕ) (to : ℕ) (work' : List ℕ) (r : ℕ) : Type 0 where
  pub stored : work' ≡ sets work to bytes
  pub behind : r ≡ to + length bytes

-- one after the other
pub copied-then : {a b work work₁ work₂ : List ℕ} {from to r : ℕ} → Copied a work from work₁ to → Copied b work₁ to work₂ r →
    Copied (a ++ b) work from work₂ r
copied-then {a} {b} {work} {work₁} {from = from} {to} p q =
    record {
      stored =
          q.stored
          ∙ ap (λ (l : List ℕ). sets l to b) p.stored
          ∙ ap (λ (k : ℕ). sets (sets work from a) k b) p.behind
          ∙ sym (sets-append work from a b);
      behind = omega (arith, length-append a b, p.behind, q.behind);
    }

-- A copy of `whole` from an offset on, of which `rest` is still to come.
pub record Copying (whole work₀ : List ℕ) (from : ℕ) (rest work : List ℕ) (to : ℕ) : Type 0 where
  pub stored : sets work to rest ≡ sets work₀ from whole
  pub behind : to + length rest ≡ from + length whole
  pub long : length work ≡ length work₀
