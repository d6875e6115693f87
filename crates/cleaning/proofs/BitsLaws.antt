-- Each number below 32 * W has a bit of its own in W words.
-- What is proved of the definitions in `specs/Bits.antt`.
use Rattle.std.specs.Prelude.{ℕ, ◌*◌, ◌/◌, ◌%◌, ◌≤◌, ◌<◌, ◌≡◌, Bool, List, length, get_or, replicate}
use Rattle.std.proofs.Math.Path.{refl, ap}
use Rattle.std.proofs.Common.{sym, ◌∙◌, arith, length-set, get_or-set_other, mod-lt, mod-eq_of_lt, lt_of_lt_of_le}
use Rattle.std.proofs.Math.Bool.{true, false}
use Rattle.std.proofs.Math.Dec.{eqb}
use Rattle.std.proofs.lemmas.List.{get_or-replicate}
use Rattle.std.proofs.Math.Seq.{get_or-set_same}
use borrow.Author.Tests.{eqb-true, eqb-false}
use Rattle.slot_map.specs.Bit.{bit, named, with_bit}
use Rattle.slot_map.proofs.BitLaws.{bit-of-zero, bit-with-same, bit-with-other, set-named}
use Rattle.cleaning.specs.Bits.{bit_word, has_bit, bits_with}

pub length-bits : (W : ℕ) (bits : List ℕ) (n : ℕ) → length (bits_with W bits n) ≡ length bits
unfolding bits_with
length-bits W bits n = length-set bits (bit_word W n) (with_bit (get_or bits (bit_word W n) 0) (n % 32))

module _ (W : ℕ) (some : 0 < W) where
  pub word-low : (n : ℕ) → bit_word W n < W
  word-low n = mod-lt (n / 32) some

  pub clear-bits : (words : ℕ) → W ≤ words → (n : ℕ) → has_bit W (replicate words 0) n ≡ false
  unfolding has_bit
  clear-bits words room n =
      ap (λ (w : ℕ). named w (n % 32)) (get_or-replicate words (bit_word W n) 0 0 (lt_of_lt_of_le (word-low n) room))
      ∙ ap (λ (b : ℕ). eqb b 1) (bit-of-zero (n % 32))

  module _ (bits : List ℕ) (long : W ≤ length bits) where
    pub word-inside : (n : ℕ) → bit_word W n < length bits
    word-inside n = lt_of_lt_of_le (word-low n) long

    module _ (c : ℕ) where
      abbrev word : ℕ
      word = get_or bits (bit_word W c) 0

      own-word : get_or (bits_with W bits c) (bit_word W c) 0 ≡ with_bit word (c % 32)
      unfolding bits_with
      own-word = get_or-set_same bits (bit_word W c) (with_bit word (c % 32)) 0 (word-inside c)

      pub bit-own : has_bit W (bits_with W bits c) c ≡ true
      unfolding has_bit
      bit-own =
          set-named (get_or (bits_with W bits c) (bit_word W c) 0) (c % 32)
          (ap (λ (w : ℕ). bit w (c % 32)) own-word ∙ bit-with-same word (c % 32))

      -- the bit of another number stays as it was
      pub bit-other : (d : ℕ) → c < 32 * W → d < 32 * W → (c ≡ d → ⊥) → has_bit W (bits_with W bits c) d ≡ has_bit W bits d
      unfolding has_bit bits_with
      bit-other d low high apart = go (eqb (bit_word W c) (bit_word W d)) refl
        where
          go : (t : Bool) → eqb (bit_word W c) (bit_word W d) ≡ t →
              named (get_or (bits_with W bits c) (bit_word W d) 0) (d % 32) ≡ named (get_or bits (bit_word W d) 0) (d % 32)
          go true p =
              let same : bit_word W c ≡ bit_word W d = eqb-true (bit_word W c) (bit_word W d) p in
              let block : c / 32 ≡ d / 32 = sym (mod-eq_of_lt (omega arith)) ∙ same ∙ mod-eq_of_lt (omega arith) in
              ap (λ (k : ℕ). named (get_or (bits_with W bits c) k 0) (d % 32)) (sym same)
              ∙ ap (λ (w : ℕ). named w (d % 32)) own-word
              ∙ ap (λ (b : ℕ). eqb b 1) (bit-with-other word (c % 32) (d % 32) (λ e. apart (omega (arith, block))))
              ∙ ap (λ (k : ℕ). named (get_or bits k 0) (d % 32)) same
          go false p =
              ap (λ (w : ℕ). named w (d % 32))
              (get_or-set_other bits (bit_word W c) (bit_word W d) (with_bit word (c % 32)) 0
              (λ e. eqb-false (bit_word W c) (bit_word W d) p (sym e)))
