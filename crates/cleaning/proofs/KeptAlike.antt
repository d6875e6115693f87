-- What is kept goes by the marks only at the cells of the keys of the victims' tombstones.
use Prim.Native.Nat.{ℕ, zero, suc, ◌+◌, ◌≤◌, ◌<◌}
use Rattle.std.specs.Prelude.{◌≡◌, Bool, eqb, length, get_or, replicate}
use Rattle.std.proofs.Math.Path.{refl, ap}
use Rattle.std.proofs.Math.Bool.{true, false}
use mathlib.Core.List.Memᴰ
use mathlib.Core.List.{List, [], ◌∷◌, ◌++◌}
use Rattle.std.proofs.Common.{arith}
use Rattle.std.proofs.lemmas.List.{length-replicate}
use Rattle.segment.specs.Choice.{pick, both, either}
use Rattle.segment.specs.Layout.{Layout}
use Rattle.segment.specs.Entry.{key_of, is_tombstone}
use Rattle.segment.specs.declared.Header.{Header}
use Rattle.segment.specs.declared.Key.{Key}
use Rattle.slot_map.specs.Bit.{named}
use Rattle.model.specs.Log.{Item, Placed, place_of, placed_in}
use Rattle.laws.specs.Members.{In, first}
use Rattle.laws.specs.LogLaws.{item_of, mem-placed}
use Rattle.index.specs.Search.{search_for}
use Rattle.index.specs.declared.Found.{Found}
use Rattle.cleaning.specs.Entries.{slot_layout, slot_items, placed_header}
use Rattle.cleaning.specs.Marks.{is_marked, mark_outside, mark_needed, marks_of}
use Rattle.cleaning.specs.Tombstones.{any_tombstone}
use Rattle.cleaning.specs.Kept.{cell_kept, kept_at, moved_bytes, kept_entry, Part, gather_by, kept_slot, kept_part, kept_below, kept_bytes}
use Rattle.cleaning.specs.Filter.{note_victims, sift_outside, sift_needed}
use Rattle.cleaning.proofs.FilterLaws.{victims-have, outside-agrees}
use Rattle.cleaning.specs.declared.Split.{Split}

-- parts that are the same for each entry give the same
pub gather-alike : (f g : Part) (S : ℕ) (xs : List Placed) →
    ((x : Placed) → In x xs → f x.layout (placed_header x) (place_of S x) ≡ g x.layout (placed_header x) (place_of S x)) → gather_by f S xs ≡ gather_by g S xs
unfolding gather_by
gather-alike f g S [] e = refl
gather-alike f g S (x ∷ xs) e = λ i. e x first i ++ gather-alike f g S xs (λ y m. e y (Memᴰ.tail m)) i

module _ (area cells a b : List ℕ) where
  -- alike in the mark of the key's cell
  abbrev pub MarkedAlike : Key → Type 0
  MarkedAlike k = (c : ℕ) → search_for area cells k ≡ Found.At c → is_marked a c ≡ is_marked b c

  cell-alike : (k : Key) (tombstone : Bool) (place : ℕ) → (tombstone ≡ true → MarkedAlike k) → (f : Found) → search_for area cells k ≡ f →
      cell_kept cells a tombstone place f ≡ cell_kept cells b tombstone place f
  unfolding cell_kept either
  cell-alike k true place alike (Found.At i) e = ap (both (eqb (get_or cells i 0) (place + 1))) (alike refl i e)
  cell-alike k false place alike (Found.At i) e = refl
  cell-alike k tombstone place alike (Found.Free i) e = refl
  cell-alike k tombstone place alike Found.Full e = refl

  pub entry-alike : (W K : Layout) (h : Header) (place : ℕ) → (h.tombstone ≡ true → MarkedAlike h.key) →
      kept_entry W area cells a K h place ≡ kept_entry W area cells b K h place
  unfolding kept_at
  entry-alike W K h place alike =
      ap (λ (t : Bool). pick t (moved_bytes W area K h place) []) (cell-alike h.key h.tombstone place alike (search_for area cells h.key) refl)

  -- of a slot, by the slot's tombstones
  abbrev pub SlotAlike : ℕ → ℕ → Type 0
  SlotAlike S i = (y : Item) → In y (slot_items area S i) → is_tombstone y.entry ≡ true → MarkedAlike (key_of y.entry)

  slot-alike : (W : Layout) (S i : ℕ) → SlotAlike S i →
      kept_slot (slot_layout area S i) W area cells a S i ≡ kept_slot (slot_layout area S i) W area cells b S i
  slot-alike W S i alike =
      gather-alike (kept_entry W area cells a) (kept_entry W area cells b) S (placed_in (slot_layout area S i) i (slot_items area S i))
      (λ x m.
      entry-alike W x.layout (placed_header x) (place_of S x) (alike (item_of x) (mem-placed (slot_layout area S i) i x (slot_items area S i) m).item))

  module _ (W : Layout) (split : Split) (alike : (i : ℕ) → i < split.slots → named split.victims i ≡ true → SlotAlike split.size i) where
    part-alike : (i : ℕ) → i < split.slots → kept_part W area cells a split i ≡ kept_part W area cells b split i
    unfolding kept_part pick
    part-alike i h = go (named split.victims i) refl
      where
        go : (t : Bool) → named split.victims i ≡ t →
            pick t (kept_slot (slot_layout area split.size i) W area cells a split.size i) [] ≡
            pick t (kept_slot (slot_layout area split.size i) W area cells b split.size i) []
        go true e = slot-alike W split.size i (alike i h e)
        go false e = refl

    pub below_alike : (n : ℕ) → n ≤ split.slots → kept_below W area cells a split n ≡ kept_below W area cells b split n
    unfolding kept_below
    below_alike zero h = refl
    below_alike (suc n) h = λ i. below_alike n (omega arith) i ++ part-alike n (omega arith) i

-- The marks of the walk that goes by the filter: nothing else is kept by them than by those of the whole walk.
module _ (area cells : List ℕ) (split : Split) where
  -- on the keys of a victim's tombstones, if the filter had 128 words before these were put into it
  pub sift-alike : (clear : List ℕ) → length clear ≡ 128 → (i : ℕ) → i < split.slots → named split.victims i ≡ true →
      SlotAlike area cells (sift_outside area cells (note_victims area split clear) split (replicate 128 0))
      (mark_outside area cells split (replicate 128 0)) split.size i
  sift-alike clear long i h v y m dead c at =
      outside-agrees area cells (note_victims area split clear) (key_of y.entry)
      (victims-have y dead area split clear long i v m h).has c at split

  pub needed-bytes : (W : Layout) →
      kept_bytes W area cells (sift_needed area cells split (replicate 128 0)) split ≡ kept_bytes W area cells (marks_of area cells split) split
  unfolding sift_needed mark_needed pick
  needed-bytes W = go (any_tombstone area split)
    where
      sifted : List ℕ
      sifted = sift_outside area cells (note_victims area split (replicate 128 0)) split (replicate 128 0)

      go : (t : Bool) →
          kept_bytes W area cells (pick t sifted (replicate 128 0)) split ≡
          kept_bytes W area cells (pick t (mark_outside area cells split (replicate 128 0)) (replicate 128 0)) split
      go true =
          below_alike area cells sifted (mark_outside area cells split (replicate 128 0)) W split
          (sift-alike (replicate 128 0) (length-replicate {A = ℕ} 128 0)) split.slots (omega arith)
      go false = refl
