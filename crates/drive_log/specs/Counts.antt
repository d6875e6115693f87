-- How many entries of a segment and of the log have a suspect's version, and what a turn of each loop adds.
use Rattle.std.specs.Prelude.{ℕ, ◌+◌, ◌≤◌, ◌≡◌, refl, Bool, true, false, List, [], ◌∷◌, length}
use Rattle.std.proofs.Math.Path.{sym, ap}
use Rattle.std.proofs.Common.{◌∙◌, add-zero, add_assoc, arith}
use Rattle.segment.specs.Choice.{pick}
use Rattle.segment.specs.Layout.{Layout}
use Rattle.segment.specs.Entry.{Entry, end, damage, entry_at}
use Rattle.segment.proofs.EntryLaws.{found-end}
use Rattle.model.specs.Log.{View, Item, Scan, damaged, scanned, item_first, scan, items_of, placed_in, log_of}
use Rattle.laws.specs.Scans.{item_at}
use Rattle.laws.specs.Members.{total}
use Rattle.drive_log.specs.Extents.{Meets, rest_of, rest-entry, rest_end, rest-damage, log-skip, log-take}
use Rattle.drive_log.specs.Tables.{holds, one-few}
use Rattle.drive_log.specs.Suspects.{hit, hits, hits-append}

-- in a segment's items
unfoldable pub count_of : List ℕ → List Item → ℕ
count_of table [] = 0
count_of table (x ∷ xs) = hit table x.entry + count_of table xs

-- in a scan, after so many; none in a damaged one
unfoldable pub count_from : List ℕ → ℕ → Scan → ℕ
count_from table k damaged = 0
count_from table k (scanned is e) = k + count_of table is

-- What it means that r entries of the segment s have the version of a suspect.
pub record CountIn (L : Layout) (s table : List ℕ) (r : ℕ) : Type 0 where
  pub counts : r ≡ count_of table (items_of (scan L s))
  pub few : r ≤ length s

-- the slot has no part in it
hits-placed : (table : List ℕ) (L : Layout) (i : ℕ) (is : List Item) → hits table (placed_in L i is) ≡ count_of table is
unfolding total placed_in count_of
hits-placed table L i [] = refl
hits-placed table L i (x ∷ xs) = ap (λ (k : ℕ). hit table x.entry + k) (hits-placed table L i xs)

hit-pick : (table : List ℕ) (w : ℕ) (e : Entry) → e.version ≡ w → pick (holds table w) 1 0 ≡ hit table e
unfolding hit
hit-pick table w e p = ap (λ (m : ℕ). pick (holds table m) 1 0) (sym p)

-- ---- the turns of the loop over a segment

from_first : (table : List ℕ) (k : ℕ) (i : Item) (r : Scan) → count_from table k (item_first i r) ≡ count_from table (k + hit table i.entry) r
unfolding count_from item_first count_of
from_first table k i damaged = refl
from_first table k i (scanned is e) = sym (add_assoc k (hit table i.entry) (count_of table is))

from-items : (table : List ℕ) (r : Scan) → count_from table 0 r ≡ count_of table (items_of r)
unfolding count_from items_of count_of
from-items table damaged = refl
from-items table (scanned is e) = omega arith

-- What the loop keeps: counting on from here gives the whole count, and each entry passed took a byte.
pub record Counting (L : Layout) (s table : List ℕ) (at k : ℕ) : Type 0 where
  pub whole : count_from table k (rest_of L s at) ≡ count_from table 0 (scan L s)
  pub passed : k ≤ at

module _ (L : Layout) (s table : List ℕ) (at k : ℕ) (so_far : Counting L s table at k) where
  -- d is 1 where the entry's version w is a suspect's
  pub count_turn : {w len : ℕ} → Meets L s at w len → (t : Bool) → t ≡ holds table w → (d : ℕ) → d ≡ pick t 1 0 → Counting L s table (at + len) (k + d)
  count_turn {w} {len} m t q d e =
      record {
        whole =
            ap (λ (j : ℕ). count_from table (k + j) (rest_of L s (at + len)))
            (e ∙ ap (λ (b : Bool). pick b 1 0) q ∙ hit-pick table w m.met m.its-version)
            ∙ sym (from_first table k (item_at at m.met) (rest_of L s (at + len)))
            ∙ ap (count_from table k) (sym (rest-entry L s at m))
            ∙ so_far.whole;
        passed = omega (arith, one-few t d e, m.some_byte, so_far.passed);
      }

  pub count-end : entry_at L s at ≡ end → CountIn L s table k
  unfolding count_from count_of
  count-end e =
      record {
        counts =
            sym (add-zero k)
            ∙ ap (count_from table k) (sym (rest_end L s at e))
            ∙ so_far.whole
            ∙ from-items table (scan L s);
        few = omega (arith, so_far.passed, (found-end L s at e).0);
      }

  pub count-damage : entry_at L s at ≡ damage → CountIn L s table 0
  unfolding count_from
  count-damage e =
      record {
        counts = ap (count_from table k) (sym (rest-damage L s at e)) ∙ so_far.whole ∙ from-items table (scan L s);
        few = omega arith;
      }

-- ---- the turns of the loop over the log

module _ (v : ℕ → View) (p : ℕ → Bool) (i : ℕ) (table : List ℕ) (k : ℕ) (so_far : k ≡ hits table (log_of v p i)) where
  pub total-skip : p i ≡ false → k ≡ hits table (log_of v p (i + 1))
  total-skip q = so_far ∙ ap (hits table) (sym (log-skip v p i q))

  pub total-take : p i ≡ true → (d : ℕ) → d ≡ count_of table (items_of (v i).scan) → k + d ≡ hits table (log_of v p (i + 1))
  total-take q d e =
      ap (λ (j : ℕ). j + d) so_far
      ∙ ap (λ (j : ℕ). hits table (log_of v p i) + j) (e ∙ sym (hits-placed table (v i).layout i (items_of (v i).scan)))
      ∙ sym (hits-append table (log_of v p i) (placed_in (v i).layout i (items_of (v i).scan)))
      ∙ ap (hits table) (sym (log-take v p i q))
