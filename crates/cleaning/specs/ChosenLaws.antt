-- The two walks at each test of the code, and that what is chosen is what is kept.
use Prim.Native.Nat.{ℕ, ◌+◌, ◌*◌, ◌≤◌, ◌<◌}
use Rattle.std.specs.Prelude.{◌≡◌}
use Rattle.std.proofs.Math.Path.{sym, ap}
use Rattle.std.proofs.Common.{◌∙◌}
use Rattle.std.proofs.Math.Bool.{true, false}
use mathlib.Core.List.{List, [], ◌∷◌, ◌++◌}
use Rattle.std.proofs.Math.ListN.{length}
use Rattle.segment.specs.Layout.{Layout, digest_size}
use Rattle.segment.specs.declared.Header.{Header}
use Rattle.slot_map.specs.Bit.{named}
use Rattle.model.specs.Log.{Placed, segment_of, place_of, placed_in}
use Rattle.laws.specs.Members.{In}
use Rattle.index.specs.Build.{entries_at}
use Rattle.cleaning.specs.Entries.{slot_layout, slot_items, placed_header}
use Rattle.cleaning.specs.EntriesLaws.{Meets}
use Rattle.cleaning.specs.KeptLaws.{parts_from, parts-stop, parts-entry}
use Rattle.cleaning.specs.Chosen.{is_chosen, Test, chosen_entry, chosen_slot}
use Rattle.cleaning.specs.declared.Split.{Split}

module _ (L W : Layout) (area chosen : List ℕ) (S i : ℕ) (s : List ℕ) where
  -- what is chosen of slot i, of the bytes s, from an offset on
  abbrev pub chosen_from : ℕ → List ℕ
  chosen_from at = parts_from L (chosen_entry W area chosen) S i s at

  pub chosen-whole : s ≡ segment_of area S i → chosen_from (digest_size L) ≡ chosen_slot L W area chosen S i
  chosen-whole e = ap (λ (t : List ℕ). parts_from L (chosen_entry W area chosen) S i t (digest_size L)) e

  module _ (at : ℕ) where
    pub chosen-stop : entries_at L s at ≡ [] → chosen_from at ≡ []
    chosen-stop e = parts-stop L (chosen_entry W area chosen) S i s at e

    pub chosen-entry : {h : Header} → Meets L s at h → (at' : ℕ) → at' ≡ at + h.length →
        chosen_from at ≡ chosen_entry W area chosen L h (i * S + at) ++ chosen_from at'
    chosen-entry {h} m at' b =
        parts-entry L (chosen_entry W area chosen) S i s at m ∙ ap (λ (k : ℕ). chosen_entry W area chosen L h (i * S + at) ++ chosen_from k) (sym b)

-- ---- no two entries share a bit

-- Entries by ascending place, from one place on and up to another, eight bytes at least from each to the next.
unfoldable pub Spaced : ℕ → ℕ → ℕ → List Placed → Type 0
Spaced S low high [] = low ≤ high
Spaced S low high (x ∷ xs) = (low ≤ place_of S x) × Spaced S (place_of S x + 8) high xs

-- Once the slots below n are walked through: no bit is set from there on, and those of the victims' entries are what the test says.
pub record Told (test : Test) (area : List ℕ) (split : Split) (n : ℕ) (chosen : List ℕ) : Type 0 where
  pub long : length chosen ≡ 256
  pub clear : (q : ℕ) → n * split.size ≤ q → q < 65536 → is_chosen chosen q ≡ false
  pub tells : (i : ℕ) → i < n → named split.victims i ≡ true → (x : Placed) → In x (placed_in (slot_layout area split.size i) i (slot_items area split.size i)) →
      is_chosen chosen (place_of split.size x) ≡ test (placed_header x) (place_of split.size x)
