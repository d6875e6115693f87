-- Laws of: 01, "Refused calls", cause 15: the test of an order list by the map of the slots that it names.
use Rattle.std.specs.Prelude.{ℕ, ◌+◌, ◌-◌, ◌/◌, ◌^◌, ◌≤◌, ◌<◌, ◌≡◌, Bool, not, length, get_or, drop}
use Rattle.std.proofs.Math.Path.{refl, sym, ap}
use Rattle.std.proofs.Common.{◌∙◌, subst, add-one, arith, drop_of_length-le, pow_pos, drop-cons}
use Rattle.std.proofs.Math.Bool.{true, false}
use mathlib.Core.List.{List, [], ◌∷◌}
use Rattle.std.proofs.Math.Dec.{eqb, ltb}
use borrow.Author.Tests.{eqb-true, eqb-false, eq-eqb, ne_eqb, ltb-true, ltb-false, lt-ltb, le-ltb}
use Rattle.segment.specs.Choice.{pick, both, either}
use Rattle.segment.proofs.Choice.{pick_true, pick-false, either-true-right}
use Rattle.slot_map.specs.Bit.{bit, named, with_bit}
use Rattle.slot_map.proofs.BitLaws.{bit-of-zero, bit-with-same, bit-with-other, named-true, set-named, clear-named, with-below, same_bits}
use Rattle.slot_map.proofs.Words.{bit_not, slot-mask}
use Rattle.laws.specs.Members.{clash}
use Rattle.model.specs.Recovery.{lists, lists_below, order_bad}
use Rattle.index.proofs.BuildLaws.{below-listed, all_listed}
use Rattle.recovery.specs.Order.{see_slot, seen_from}

-- ---- a turn of the loop, and its end

pub see-in : (n seen slot : ℕ) → slot < n → with_bit seen slot ≡ see_slot n seen slot
unfolding see_slot
see-in n seen slot h = sym (pick_true (ltb slot n) (with_bit seen slot) seen (lt-ltb slot n h))

pub see-out : (n seen slot : ℕ) → n ≤ slot → seen ≡ see_slot n seen slot
unfolding see_slot
see-out n seen slot h = sym (pick-false (ltb slot n) (with_bit seen slot) seen (le-ltb slot n h))

pub seen-turn : (n seen i : ℕ) (xs : List ℕ) → i < length xs →
    seen_from n (see_slot n seen (get_or xs i 0)) (drop (i + 1) xs) ≡ seen_from n seen (drop i xs)
unfolding seen_from
seen-turn n seen i xs h = rw (add-one i, drop-cons xs i 0 h)

pub seen_end : (n seen i : ℕ) (xs : List ℕ) → length xs ≤ i → seen ≡ seen_from n seen (drop i xs)
unfolding seen_from
seen_end n seen i xs h = rw (drop_of_length-le xs h)

-- ---- what the map says of the list

see-below : (n seen slot : ℕ) → seen < 2 ^ n → see_slot n seen slot < 2 ^ n
unfolding see_slot pick
see-below n seen slot h = go (ltb slot n) refl
  where
    go : (t : Bool) → ltb slot n ≡ t → pick t (with_bit seen slot) seen < 2 ^ n
    go true e = with-below n seen slot h (ltb-true slot n e)
    go false e = h

seen_below : (n seen : ℕ) (xs : List ℕ) → seen < 2 ^ n → seen_from n seen xs < 2 ^ n
unfolding seen_from
seen_below n seen [] h = h
seen_below n seen (x ∷ xs) h = seen_below n (see_slot n seen x) xs (see-below n seen x h)

either-none : (a : Bool) → either a false ≡ a
unfolding either
either-none true = refl
either-none false = refl

either-assoc : (a b c : Bool) → either (either a b) c ≡ either a (either b c)
unfolding either
either-assoc true b c = refl
either-assoc false b c = refl

module _ (n i : ℕ) (below : i < n) where
  see-names : (seen x : ℕ) → named (see_slot n seen x) i ≡ either (named seen i) (eqb x i)
  unfolding see_slot pick either
  see-names seen x = go (eqb x i) refl (ltb x n) refl
    where
      go : (s : Bool) → eqb x i ≡ s → (t : Bool) → ltb x n ≡ t → named (pick t (with_bit seen x) seen) i ≡ either (named seen i) s
      go true e true d =
          set-named (with_bit seen x) i (subst (λ (j : ℕ). bit (with_bit seen x) j ≡ 1) (eqb-true x i e) (bit-with-same seen x))
          ∙ sym (either-true-right (named seen i) true refl)
      go true e false d = absurd (omega (arith, eqb-true x i e, ltb-false x n d))
      go false e true d = ap (λ (b : ℕ). eqb b 1) (bit-with-other seen x i (eqb-false x i e)) ∙ sym (either-none (named seen i))
      go false e false d = sym (either-none (named seen i))

  seen-names : (seen : ℕ) (xs : List ℕ) → named (seen_from n seen xs) i ≡ either (named seen i) (lists xs i)
  unfolding seen_from lists either
  seen-names seen [] = sym (either-none (named seen i))
  seen-names seen (x ∷ xs) =
      seen-names (see_slot n seen x) xs
      ∙ ap (λ (a : Bool). either a (lists xs i)) (see-names seen x)
      ∙ either-assoc (named seen i) (eqb x i) (lists xs i)

  pub seen-lists : (xs : List ℕ) → named (seen_from n 0 xs) i ≡ lists xs i
  unfolding either
  seen-lists xs = seen-names 0 xs ∙ ap (λ (a : Bool). either a (lists xs i)) (clear-named 0 i (bit-of-zero i))

-- ---- all n slots are listed exactly if the map is that of all n

-- every slot below n has its bit in the map of all n
all-bit : (n i : ℕ) → i < n → bit (2 ^ n - 1) i ≡ 1
all-bit n i h =
    ap (λ (m : ℕ). bit m i) {x = 2 ^ n - 1} {y = 2 ^ n - 1 - 0} (omega arith)
    ∙ omega (arith, bit_not n 0 i (pow_pos n) h, bit-of-zero i)

pub seen_all : (n : ℕ) (xs : List ℕ) → eqb (seen_from n 0 xs) (2 ^ n - 1) ≡ lists_below xs n
seen_all n xs = go (eqb (seen_from n 0 xs) (2 ^ n - 1)) refl (lists_below xs n) refl
  where
    listed : seen_from n 0 xs ≡ 2 ^ n - 1 → (i : ℕ) → i < n → lists xs i ≡ true
    listed e i h = sym (seen-lists n i h xs) ∙ set-named (seen_from n 0 xs) i (ap (λ (m : ℕ). bit m i) e ∙ all-bit n i h)

    whole : lists_below xs n ≡ true → seen_from n 0 xs ≡ 2 ^ n - 1
    whole e =
        same_bits n (seen_from n 0 xs) (2 ^ n - 1) (seen_below n 0 xs (pow_pos n)) (omega (arith, pow_pos n))
        (λ i h. named-true (seen_from n 0 xs) i (seen-lists n i h xs ∙ below-listed xs n e i h) ∙ sym (all-bit n i h))

    go : (s : Bool) → eqb (seen_from n 0 xs) (2 ^ n - 1) ≡ s → (t : Bool) → lists_below xs n ≡ t → s ≡ t
    go true d true e = refl
    go true d false e = absurd (clash (lists_below xs n) (all_listed xs n (listed (eqb-true (seen_from n 0 xs) (2 ^ n - 1) d))) e)
    go false d true e = absurd (eqb-false (seen_from n 0 xs) (2 ^ n - 1) d (whole e))
    go false d false e = refl

-- ---- the test, as the code makes it

pub order-length : (n : ℕ) (xs : List ℕ) → (length xs ≡ n → ⊥) → order_bad n xs ≡ true
unfolding both
order-length n xs ne = rw (ne_eqb (length xs) n ne)

pub order-slots : (n : ℕ) (xs : List ℕ) (m : ℕ) → n ≤ 32 → length xs ≡ n → m ≡ seen_from n 0 xs
    → not (eqb m (4294967295 / 2 ^ (32 - n))) ≡ order_bad n xs
unfolding both
order-slots n xs m h len e = rw (eq-eqb (length xs) n len, e, slot-mask 32 n h, seen_all n xs)
