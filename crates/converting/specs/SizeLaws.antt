-- The bytes of a slot in another layout, and whether they fit (29).
use Rattle.std.specs.Prelude.{ℕ, zero, suc, ◌+◌, ◌*◌, ◌-◌, ◌≤◌, ◌<◌, ◌≡◌, Bool, true, false, ltb}
use Rattle.std.proofs.Math.Path.{refl, ap}
use Rattle.std.proofs.Common.{◌∙◌, subst, lt-ltb, le-ltb, ltb-false}
use mathlib.Core.List.{List, [], ◌∷◌}
use native.Mathlib.Omega.{arith}
use Rattle.std.proofs.Math.ListN.{length, length-append}
use Rattle.segment.specs.Choice.{both, either}
use Rattle.segment.proofs.Choice.{both-false-left, both-false-right, either-false}
use Rattle.segment.specs.Layout.{Layout, digest_size, entry_size}
use Rattle.segment.proofs.LayoutLaws.{width_low, width-high}
use Rattle.segment.specs.Entry.{Entry, encoded, size_of}
use Rattle.segment.proofs.EntryLaws.{length-encoded}
use Rattle.segment.specs.Digest.{digest_of, encoded_digest}
use Rattle.segment.proofs.DigestLaws.{length-encoded_digest}
use Rattle.segment.specs.declared.Header.{Header}
use Rattle.model.specs.Log.{View, scan, is_damaged, segment_of, views_of}
use Rattle.model.specs.Operations.{all_encoded}
use Rattle.model.specs.Conversion.{slot_bytes, rewritten, slot_too_long}
use Rattle.laws.specs.Scans.{scans-high, scans-total}
use Rattle.laws.specs.Stores.{length-segment}
use Rattle.drive_log.specs.Shape.{Shape, inside}
use Rattle.converting.specs.Parts.{entries_of, part_bytes, LogOf}
use Rattle.converting.specs.PartLaws.{Left, More, Sized, left-start, left-inside, PartOf, part_of, part-rewritten, any-skip, any-turn, any_found, any_none}

-- ---- the entries of a segment

pub length-first : (K : Layout) (x : Entry) (es : List Entry) → length (all_encoded K (x ∷ es)) ≡ size_of K x + length (all_encoded K es)
unfolding all_encoded
length-first K x es = length-append (encoded K x) (all_encoded K es) ∙ ap (λ (m : ℕ). m + length (all_encoded K es)) (length-encoded K x)

-- So many bytes are counted, and these entries are left to count. What is counted stays small.
pub record Counting (L K : Layout) (s : List ℕ) (at total : ℕ) : Type 0 where
  pub entries : List Entry
  pub left : Left L s at entries
  pub counts : total + length (all_encoded K entries) ≡ length (all_encoded K (entries_of L s))
  pub small : total ≤ 2 * at

module _ (L K : Layout) (s : List ℕ) where
  pub count-start : is_damaged (scan L s) ≡ false → Counting L K s (digest_size L) 0
  count-start sound = record { entries = entries_of L s; left = left-start L s sound; counts = omega arith; small = omega arith }

  module _ {at total : ℕ} (c : Counting L K s at total) where
    pub count_turn : {h : Header} → More L s at c.entries h → Counting L K s (at + h.length) (total + (h.length - entry_size L 0 + entry_size K 0))
    count_turn {h} m =
        record {
          entries = m.rest;
          left = m.left;
          counts =
              omega (arith, c.counts, ap (λ (l : List Entry). length (all_encoded K l)) m.all, length-first K m.first m.rest, m.size);
          small = omega (arith, c.small, m.long, width_low L, width-high K);
        }

    -- by its kind alone
    pub count-sized : {len : ℕ} → Sized L s at c.entries len → Counting L K s (at + len) (total + (len - entry_size L 0 + entry_size K 0))
    count-sized z =
        subst (λ (k : ℕ). Counting L K s (at + k) (total + (k - entry_size L 0 + entry_size K 0))) z.its-length (count_turn z.more)

    pub count-end : c.entries ≡ [] → total ≡ length (all_encoded K (entries_of L s))
    unfolding all_encoded
    count-end e = omega (arith, c.counts, ap (λ (l : List Entry). length (all_encoded K l)) e)

    pub count_small : length s ≤ 2048 → total ≤ 4096
    count_small h = omega (arith, c.small, left-inside c.left)

  -- with the digest
  pub length-part_bytes : length (part_bytes L K s) ≡ digest_size K + length (all_encoded K (entries_of L s))
  unfolding slot_bytes
  length-part_bytes =
      length-append (encoded_digest K (digest_of L s)) (all_encoded K (entries_of L s)) ∙
      ap (λ (m : ℕ). m + length (all_encoded K (entries_of L s))) (length-encoded_digest K (digest_of L s))

-- ---- a layout with no longer entries

module _ (L K : Layout) (less : entry_size K 0 ≤ entry_size L 0) where
  encoded-less : (es : List Entry) → length (all_encoded K es) ≤ length (all_encoded L es)
  unfolding all_encoded
  encoded-less [] = omega arith
  encoded-less (x ∷ es) = omega (arith, encoded-less es, length-first K x es, length-first L x es)

  -- a slot has no more bytes than before
  rewritten-less : {w : View} {part : List ℕ} → PartOf L w part → length (rewritten K w) ≤ length part
  rewritten-less {part = part} o =
      let l = left-start L part o.sound in
      omega (
        arith,
        ap length (part-rewritten K o),
        length-part_bytes L K part,
        encoded-less (entries_of L part),
        scans-total l.scans,
        ap (λ (es : List Entry). length (all_encoded L es)) l.same,
        scans-high l.scans,
      )

-- ---- the slots of a log

module _ (K : Layout) (v : ℕ → View) (p : ℕ → Bool) (S : ℕ) where
  abbrev too_long : ℕ → Bool
  too_long m = ltb S (length (rewritten K (v m)))

  long-step : (m : ℕ) → slot_too_long K v p S (suc m) ≡ either (slot_too_long K v p S m) (both (p m) (too_long m))
  unfolding slot_too_long
  long-step m = refl

  pub long-none : slot_too_long K v p S 0 ≡ false
  unfolding slot_too_long
  long-none = refl

  long-short : (n : ℕ) → ((i : ℕ) → i < n → p i ≡ true → length (rewritten K (v i)) ≤ S) → slot_too_long K v p S n ≡ false
  long-short zero f = long-none
  long-short (suc n) f =
      long-step n ∙
      either-false (slot_too_long K v p S n) (both (p n) (too_long n)) (long-short n (λ i h q. f i (omega arith) q)) (own (p n) refl)
    where
      own : (b : Bool) → p n ≡ b → both (p n) (too_long n) ≡ false
      own true q = both-false-right (p n) (too_long n) (le-ltb S (length (rewritten K (v n))) (f n (omega arith) q))
      own false q = both-false-left (p n) (too_long n) q

  module _ (i : ℕ) where
    pub long-skip : p i ≡ false → slot_too_long K v p S i ≡ false → slot_too_long K v p S (i + 1) ≡ false
    long-skip = any-skip (slot_too_long K v p S) p too_long long-step i

    module _ {L : Layout} {part : List ℕ} (o : PartOf L (v i) part) where
      its-length : length (rewritten K (v i)) ≡ length (part_bytes L K part)
      its-length = ap length (part-rewritten K o)

      module _ (size : ℕ) (is : size ≡ length (part_bytes L K part)) where
        pub long-turn : size ≤ S → slot_too_long K v p S i ≡ false → slot_too_long K v p S (i + 1) ≡ false
        long-turn h =
            any-turn (slot_too_long K v p S) p too_long long-step i (le-ltb S (length (rewritten K (v i))) (omega (arith, its-length)))

        pub long-found : S < size → p i ≡ true → (n : ℕ) → i < n → true ≡ slot_too_long K v p S n
        long-found h q =
            any_found (slot_too_long K v p S) p too_long long-step i q (lt-ltb S (length (rewritten K (v i))) (omega (arith, its-length)))

      -- where no slot is too long, each fits
      pub part-fits : (n : ℕ) → slot_too_long K v p S n ≡ false → i < n → p i ≡ true → length (part_bytes L K part) ≤ S
      part-fits n e h q =
          omega (
            arith,
            ltb-false S (length (rewritten K (v i))) (any_none (slot_too_long K v p S) p too_long long-step i n e h q),
            its-length,
          )

-- no slot of an area is too long in a layout with no longer entries
pub none-long : (L K : Layout) (n S : ℕ) (area : List ℕ) (p : ℕ → Bool) → Shape n S area → LogOf L (views_of area S) p n → entry_size K 0 ≤ entry_size L 0
    → slot_too_long K (views_of area S) p S n ≡ false
none-long L K n S area p shape log less =
    long-short K (views_of area S) p S n
    (λ i h q.
    omega (
      arith,
      rewritten-less L K less (part_of area S log i h q (segment_of area S i) refl),
      length-segment area S i (inside shape i h),
    ))
