-- Bits over an array of words: that one which is set stays set, and the marks of the suspects, which spare most entries the search.
use Rattle.std.specs.Prelude.{ℕ, ◌+◌, ◌*◌, ◌/◌, ◌%◌, ◌<◌, ◌≤◌, ◌≡◌, refl, Bool, true, false, List, eqb, length, get_or, set}
use Rattle.std.proofs.Common.{sym, ◌∙◌, ap, arith, length-set, get_or-set_same, get_or-set_other, eqb-true}
use Rattle.std.proofs.lemmas.Bool.{eqb-false}
use Rattle.slot_map.specs.Bit.{bit, named, with_bit}
use Rattle.slot_map.proofs.BitLaws.{bit-with-same, bit-with-other, named-true, set-named}
use Rattle.laws.specs.Members.{clash}
use Rattle.drive_log.specs.Tables.{holds, holds-found}

-- ---- the bits

-- bit b of word w
abbrev pub bit_in : List ℕ → ℕ → ℕ → Bool
bit_in words w b = named (get_or words w 0) b

abbrev pub set_in : List ℕ → ℕ → ℕ → List ℕ
set_in words w b = set words w (with_bit (get_or words w 0) b)

module _ (words : List ℕ) (w b : ℕ) (inside : w < length words) where
  own-word : get_or (set_in words w b) w 0 ≡ with_bit (get_or words w 0) b
  own-word = get_or-set_same words w (with_bit (get_or words w 0) b) 0 inside

  pub set_own : bit_in (set_in words w b) w b ≡ true
  set_own = set-named (get_or (set_in words w b) w 0) b (ap (λ (x : ℕ). bit x b) own-word ∙ bit-with-same (get_or words w 0) b)

  kept-bit : (x i j : ℕ) → bit x j ≡ 1 → bit (with_bit x i) j ≡ 1
  kept-bit x i j e = go (eqb i j) refl
    where
      go : (t : Bool) → eqb i j ≡ t → bit (with_bit x i) j ≡ 1
      go true p = ap (bit (with_bit x i)) (sym (eqb-true i j p)) ∙ bit-with-same x i
      go false p = bit-with-other x i j (eqb-false i j p) ∙ e

  -- a bit that is set stays
  pub set_keeps : (u c : ℕ) → bit_in words u c ≡ true → bit_in (set_in words w b) u c ≡ true
  set_keeps u c e = set-named (get_or (set_in words w b) u 0) c (go (eqb w u) refl)
    where
      was : bit (get_or words u 0) c ≡ 1
      was = named-true (get_or words u 0) c e

      go : (t : Bool) → eqb w u ≡ t → bit (get_or (set_in words w b) u 0) c ≡ 1
      go true p =
          let same : w ≡ u = eqb-true w u p in
          ap (λ (k : ℕ). bit (get_or (set_in words w b) k 0) c) (sym same)
          ∙ ap (λ (x : ℕ). bit x c) own-word
          ∙ kept-bit (get_or words w 0) b c (ap (λ (k : ℕ). bit (get_or words k 0) c) same ∙ was)
      go false p =
          ap (λ (x : ℕ). bit x c) (get_or-set_other words w u (with_bit (get_or words w 0) b) 0 (λ e. eqb-false w u p (sym e))) ∙ was

-- ---- the marks of the suspects

-- The number of a version's mark, 0 to 2,047: its two halves are added, and of the product with an odd number the highest bits are
-- taken, so that versions with one bit in the filter have different ones.
abbrev pub mark_of : ℕ → ℕ
mark_of v = (v % 4294967296 + v / 4294967296) % 4294967296 * 2654435761 % 4294967296 / 2097152

unfoldable pub has_mark : List ℕ → ℕ → Bool
has_mark marks v = bit_in marks (mark_of v / 32) (mark_of v % 32)

unfoldable pub with_mark : List ℕ → ℕ → List ℕ
with_mark marks v = set_in marks (mark_of v / 32) (mark_of v % 32)

-- The marks of the table's cells before i are set.
pub record MarkedTo (i : ℕ) (marks table : List ℕ) : Type 0 where
  pub size : length marks ≡ 64
  pub marked : (c : ℕ) → c < i → has_mark marks (get_or table c 0) ≡ true

mark-inside : (v : ℕ) → mark_of v / 32 < 64
mark-inside v = omega arith

pub marked_turn : (i : ℕ) (marks table more : List ℕ) → MarkedTo i marks table → more ≡ with_mark marks (get_or table i 0) → MarkedTo (i + 1) more table
unfolding with_mark has_mark
marked_turn i marks table more h e =
    record {
      size = ap length e ∙ length-set marks (mark_of x / 32) (with_bit (get_or marks (mark_of x / 32) 0) (mark_of x % 32)) ∙ h.size;
      marked = λ c l. ap (λ (m : List ℕ). has_mark m (get_or table c 0)) e ∙ go c l (eqb c i) refl;
    }
  where
    x : ℕ
    x = get_or table i 0

    inside : mark_of (get_or table i 0) / 32 < length marks
    inside = omega (arith, mark-inside (get_or table i 0), h.size)

    go : (c : ℕ) → c < i + 1 → (t : Bool) → eqb c i ≡ t → has_mark (with_mark marks (get_or table i 0)) (get_or table c 0) ≡ true
    go c l true p =
        ap (λ (k : ℕ). has_mark (with_mark marks (get_or table i 0)) (get_or table k 0)) (eqb-true c i p)
        ∙ set_own marks (mark_of (get_or table i 0) / 32) (mark_of (get_or table i 0) % 32) inside
    go c l false p =
        let apart = eqb-false c i p in
        set_keeps marks (mark_of (get_or table i 0) / 32) (mark_of (get_or table i 0) % 32) inside (mark_of (get_or table c 0) / 32) (mark_of (get_or table c 0) % 32)
        (h.marked c (omega arith))

-- The marks of all cells are set.
abbrev pub Marked : List ℕ → List ℕ → Type 0
Marked marks table = MarkedTo (length table) marks table

-- A version with no mark is no suspect.
pub unmarked : (marks table : List ℕ) → Marked marks table → (v : ℕ) → has_mark marks v ≡ false → false ≡ holds table v
unmarked marks table h v e = go (holds table v) refl
  where
    go : (t : Bool) → holds table v ≡ t → false ≡ holds table v
    go true p =
        let r = holds-found table v p in
        absurd (clash (has_mark marks v) (ap (has_mark marks) (sym r.2) ∙ h.marked r.0 r.1) e)
    go false p = sym p

pub marked-none : (marks table : List ℕ) → length marks ≡ 64 → MarkedTo 0 marks table
marked-none marks table size = record { size = size; marked = λ c l. absurd (omega arith) }

pub marked-end : (i : ℕ) (marks table : List ℕ) → MarkedTo i marks table → length table ≤ i → Marked marks table
marked-end i marks table h l = record { size = h.size; marked = λ c k. h.marked c (omega arith) }
