-- One bit for each cell of the index: the cells of the keys of which an object stands outside the victims.
-- What is proved of the definitions in `specs/Marks.antt`.
use Rattle.std.specs.Prelude.{ℕ, ◌<◌, ◌≡◌, List, length, replicate}
use Rattle.std.proofs.Common.{arith}
use Rattle.std.proofs.Math.Bool.{true, false}
use Rattle.cleaning.proofs.BitsLaws.{length-bits, bit-own, bit-other, clear-bits}
use Rattle.cleaning.specs.Marks.{is_marked, marked_with}

pub length_marked : (marks : List ℕ) (c : ℕ) → length (marked_with marks c) ≡ length marks
unfolding marked_with
length_marked marks c = length-bits _ marks c

module _ (marks : List ℕ) (long : length marks ≡ 128) (c : ℕ) where
  pub mark-own : is_marked (marked_with marks c) c ≡ true
  unfolding is_marked marked_with
  mark-own = bit-own _ (omega arith) marks (omega (arith, long)) c

  -- the mark of another cell stays as it was
  pub mark-other : (d : ℕ) → c < 4096 → d < 4096 → (c ≡ d → ⊥) → is_marked (marked_with marks c) d ≡ is_marked marks d
  unfolding is_marked marked_with
  mark-other d low high apart = bit-other _ (omega arith) marks (omega (arith, long)) c d low high apart

pub clear-marks : (c : ℕ) → is_marked (replicate 128 0) c ≡ false
unfolding is_marked
clear-marks c = clear-bits _ (omega arith) 128 (omega arith) c
