-- How a number is spelled from its last digit to its first.
use Rattle.std.specs.Prelude.{ℕ, zero, suc, ◌+◌, ◌-◌, ◌/◌, ◌%◌, ◌^◌, ◌≤◌, ◌<◌, ◌≡◌, List, [], ◌∷◌, ◌++◌, length, take, drop, set}
use Rattle.std.proofs.Common.{sym, ◌∙◌, ap, append_assoc, append-nil, arith, length-set, length-drop, drop_of_length-le, take_all, drop-cons, drop-set-lt, get_or-set_same}
use Rattle.std.proofs.Math.Numerals.{unary_clauses}
use Rattle.text.specs.Digits.{digit, digits, digits-small, digits_more}

-- The digits of n stand from an offset on to the end of the bytes.
pub record Spelled (n : ℕ) (bytes : List ℕ) (from : ℕ) : Type 0 where
  pub long : length bytes ≡ 20
  pub inside : from < 20
  pub stands : drop from bytes ≡ digits n

-- On the way: the digits of `rest` are still to come, and the last of them goes to `from`.
pub record PartSpelled (n : ℕ) (bytes : List ℕ) (from rest : ℕ) : Type 0 where
  pub long : length bytes ≡ 20
  pub inside : from < 20
  pub room : rest < 10 ^ suc from
  pub stands : digits n ≡ digits rest ++ drop (suc from) bytes

drop-set : (bytes : List ℕ) (from d : ℕ) → from < length bytes → drop from (set bytes from d) ≡ d ∷ drop (suc from) bytes
drop-set bytes from d h =
    drop-cons (set bytes from d) from 0 (rw length-set h)
    ∙ ap (λ (x : ℕ). x ∷ drop (suc from) (set bytes from d)) (get_or-set_same bytes from d 0 h)
    ∙ ap (λ (xs : List ℕ). d ∷ xs) (drop-set-lt (suc from) bytes from d (omega arith))

pub spelling-starts : (n : ℕ) (bytes : List ℕ) → n < 10 ^ 20 → length bytes ≡ 20 → PartSpelled n bytes 19 n
spelling-starts n bytes h long =
    record {
      long = long;
      inside = omega arith;
      room = h;
      stands = sym (ap (λ (xs : List ℕ). digits n ++ xs) (drop_of_length-le bytes {i = 20} (omega arith)) ∙ append-nil (digits n));
    }

module _ (n : ℕ) (bytes : List ℕ) (rest : ℕ) (large : 10 ≤ rest) where
  next-turn : (k : ℕ) → PartSpelled n bytes (suc k) rest → PartSpelled n (set bytes (suc k) (digit (rest % 10))) k (rest / 10)
  next-turn k s =
      record {
        long = length-set bytes (suc k) (digit (rest % 10)) ∙ s.long;
        inside = omega (arith, s.inside);
        room = omega (arith, s.room);
        stands =
            s.stands
            ∙ ap (λ (front : List ℕ). front ++ drop (suc (suc k)) bytes) (digits_more rest large)
            ∙ append_assoc (digits (rest / 10)) (digit (rest % 10) ∷ []) (drop (suc (suc k)) bytes)
            ∙ sym (ap (λ (xs : List ℕ). digits (rest / 10) ++ xs) (drop-set bytes (suc k) (digit (rest % 10)) (omega (arith, s.long, s.inside))));
      }

  pub spelling-turn : (from : ℕ) → PartSpelled n bytes from rest
      → (1 ≤ from) × PartSpelled n (set bytes from (digit (rest % 10))) (from - 1) (rest / 10)
  spelling-turn zero s = absurd (omega (arith, s.room))
  spelling-turn (suc k) s = (omega arith, simp unary_clauses (next-turn k s))

pub spelling-ends : (n : ℕ) (bytes : List ℕ) (from rest : ℕ) → PartSpelled n bytes from rest → rest < 10
    → Spelled n (set bytes from (digit rest)) from
spelling-ends n bytes from rest s h =
    record {
      long = length-set bytes from (digit rest) ∙ s.long;
      inside = s.inside;
      stands =
          drop-set bytes from (digit rest) (omega (arith, s.long, s.inside))
          ∙ sym (s.stands ∙ ap (λ (front : List ℕ). front ++ drop (suc from) bytes) (digits-small rest h));
    }

-- the part from there on is the digits
pub spelled-part : {n : ℕ} {bytes : List ℕ} {from : ℕ} → Spelled n bytes from → take (20 - from) (drop from bytes) ≡ digits n
spelled-part {n} {bytes} {from} s =
    take_all (20 - from) (drop from bytes) (omega (arith, length-drop from bytes, s.long)) ∙ s.stands
