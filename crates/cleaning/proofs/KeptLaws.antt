-- What is kept, at each test of the code.
-- What is proved of the definitions in `specs/KeptLaws.antt`.
use Rattle.std.specs.Prelude.{ℕ, ◌+◌, ◌*◌, ◌-◌, ◌≤◌, ◌≡◌, Bool, true, false, eqb, length, get_or, take, drop}
use Rattle.std.proofs.Math.Path.{refl, sym, ap}
use Rattle.std.proofs.Common.{◌∙◌, add-one, arith, length-append}
use mathlib.Core.List.{List, [], ◌++◌}
use borrow.Author.Tests.{eq-eqb, ne_eqb}
use Rattle.segment.specs.Choice.{both, either}
use Rattle.segment.proofs.Choice.{pick_true, pick-false, both-false-left}
use Rattle.segment.specs.Layout.{Layout, same_layout, entry_size, digest_size}
use Rattle.segment.proofs.LayoutLaws.{width_low, width-high, same_layout_lem}
use Rattle.segment.proofs.Packed.{length_part}
use Rattle.segment.specs.Rewritten.{entry_bytes}
use Rattle.segment.proofs.Rewritten.{length-bytes}
use Rattle.segment.specs.declared.Header.{Header}
use Rattle.segment.specs.declared.Key.{Key}
use Rattle.slot_map.specs.Bit.{named}
use Rattle.model.specs.Log.{segment_of}
use Rattle.index.specs.Search.{search_for}
use Rattle.index.proofs.SearchLaws.{search-inside}
use Rattle.index.specs.declared.Found.{Found}
use Rattle.cleaning.specs.Entries.{slot_layout}
use Rattle.cleaning.specs.Marks.{is_marked}
use Rattle.cleaning.specs.Kept.{FoundInside, cell_kept, kept_at, kept_test, moved_bytes, kept_entry, kept_slot, kept_part, kept_below}
use Rattle.cleaning.specs.declared.Split.{Split}
use Rattle.cleaning.specs.KeptLaws.{parts_from}

-- ---- whether an entry is kept

module _ (cells marks : List ℕ) (tombstone : Bool) (place : ℕ) (found : Found) where
  module _ (i : ℕ) (e : found ≡ Found.At i) where
    pub found-older : (get_or cells i 0 ≡ place + 1 → ⊥) → false ≡ cell_kept cells marks tombstone place found
    unfolding cell_kept
    found-older n =
        sym (ap (cell_kept cells marks tombstone place) e ∙ both-false-left (eqb (get_or cells i 0) (place + 1)) _ (ne_eqb (get_or cells i 0) (place + 1) n))

    module _ (own : get_or cells i 0 ≡ place + 1) where
      pub found-object : tombstone ≡ false → true ≡ cell_kept cells marks tombstone place found
      unfolding cell_kept both either
      found-object t = rw (e, eq-eqb (get_or cells i 0) (place + 1) own, t)

      pub found-tombstone : {b : Bool} → tombstone ≡ true → b ≡ is_marked marks i → b ≡ cell_kept cells marks tombstone place found
      unfolding cell_kept both either
      found-tombstone t m = rw (e, eq-eqb (get_or cells i 0) (place + 1) own, t) m

  pub found_free : (i : ℕ) → found ≡ Found.Free i → false ≡ cell_kept cells marks tombstone place found
  unfolding cell_kept
  found_free i e = sym (ap (cell_kept cells marks tombstone place) e)

  pub found_full : found ≡ Found.Full → false ≡ cell_kept cells marks tombstone place found
  unfolding cell_kept
  found_full e = sym (ap (cell_kept cells marks tombstone place) e)

-- by the search for its key, told apart by what it finds
module _ (area cells marks : List ℕ) where
  module _ (k : Key) (tombstone : Bool) (place i : ℕ) (e : search_for area cells k ≡ Found.At i) where
    pub kept-older : (get_or cells i 0 ≡ place + 1 → ⊥) → false ≡ kept_at area cells marks k tombstone place
    unfolding kept_at
    kept-older n = found-older cells marks tombstone place (search_for area cells k) i e n

    module _ (own : get_or cells i 0 ≡ place + 1) where
      pub kept-object : tombstone ≡ false → true ≡ kept_at area cells marks k tombstone place
      unfolding kept_at
      kept-object t = found-object cells marks tombstone place (search_for area cells k) i e own t

      pub kept-tombstone : {b : Bool} → tombstone ≡ true → b ≡ is_marked marks i → b ≡ kept_at area cells marks k tombstone place
      unfolding kept_at
      kept-tombstone t m = found-tombstone cells marks tombstone place (search_for area cells k) i e own t m

  module _ (k : Key) (tombstone : Bool) (place : ℕ) where
    pub kept_free : (i : ℕ) → search_for area cells k ≡ Found.Free i → false ≡ kept_at area cells marks k tombstone place
    unfolding kept_at
    kept_free i e = found_free cells marks tombstone place (search_for area cells k) i e

    pub kept_full : search_for area cells k ≡ Found.Full → false ≡ kept_at area cells marks k tombstone place
    unfolding kept_at
    kept_full e = found_full cells marks tombstone place (search_for area cells k) e

-- the same by what the search found
module _ (area cells marks : List ℕ) (k : Key) (found : Found) (given : found ≡ search_for area cells k) where
  pub search-kept : {b : Bool} (tombstone : Bool) (place : ℕ) → b ≡ cell_kept cells marks tombstone place found →
      b ≡ kept_at area cells marks k tombstone place
  unfolding kept_at
  search-kept tombstone place e = e ∙ ap (cell_kept cells marks tombstone place) given

  pub found_inside : FoundInside cells found
  found_inside i e = (search-inside area cells k i (sym given ∙ e)).below

-- ---- an entry in the layout of the new head

module _ (W : Layout) (area : List ℕ) (K : Layout) (h : Header) (place : ℕ) where
  pub moved_same : same_layout K W ≡ true → moved_bytes W area K h place ≡ take h.length (drop place area)
  unfolding moved_bytes
  moved_same e = pick_true (same_layout K W) (take h.length (drop place area)) (entry_bytes K W area place h) e

  pub moved_other : same_layout K W ≡ false → moved_bytes W area K h place ≡ entry_bytes K W area place h
  unfolding moved_bytes
  moved_other e = pick-false (same_layout K W) (take h.length (drop place area)) (entry_bytes K W area place h) e

  module _ (low : entry_size K 0 ≤ h.length) (fits : place + h.length ≤ length area) where
    -- the value stays as long
    pub length_moved : length (moved_bytes W area K h place) ≡ h.length - entry_size K 0 + entry_size W 0
    length_moved = go (same_layout K W) refl
      where
        go : (t : Bool) → same_layout K W ≡ t → length (moved_bytes W area K h place) ≡ h.length - entry_size K 0 + entry_size W 0
        go true e =
            omega (
              arith,
              ap length (moved_same e),
              length_part h.length place area fits,
              ap (λ (M : Layout). entry_size M 0) (same_layout_lem K W e),
              low,
            )
        go false e = omega (arith, ap length (moved_other e), length-bytes K W area place h low fits)

    -- at most four bytes come in, and every entry has more than that
    pub moved-short : length (moved_bytes W area K h place) ≤ 2 * h.length
    moved-short = omega (arith, length_moved, low, width_low K, width-high W)

    pub moved-room : (to room : ℕ) → to + length (moved_bytes W area K h place) ≤ room → to + entry_size W (h.length - entry_size K 0) ≤ room
    moved-room to room r = omega (arith, length_moved, low)

module _ (W : Layout) (area cells marks : List ℕ) (K : Layout) (h : Header) (place : ℕ) where
  pub entry-dropped : kept_test area cells marks h place ≡ false → kept_entry W area cells marks K h place ≡ []
  entry-dropped e = pick-false (kept_test area cells marks h place) (moved_bytes W area K h place) [] e

  pub entry_kept : kept_test area cells marks h place ≡ true → kept_entry W area cells marks K h place ≡ moved_bytes W area K h place
  entry_kept e = pick_true (kept_test area cells marks h place) (moved_bytes W area K h place) [] e

  pub length-dropped : kept_test area cells marks h place ≡ false → 0 ≡ length (kept_entry W area cells marks K h place)
  length-dropped e = sym (ap length (entry-dropped e))

  module _ (low : entry_size K 0 ≤ h.length) (fits : place + h.length ≤ length area) where
    pub length-kept : kept_test area cells marks h place ≡ true → h.length - entry_size K 0 + entry_size W 0 ≡ length (kept_entry W area cells marks K h place)
    length-kept e = sym (ap length (entry_kept e) ∙ length_moved W area K h place low fits)

    pub entry-short : length (kept_entry W area cells marks K h place) ≤ 2 * h.length
    entry-short = go (kept_test area cells marks h place) refl
      where
        go : (t : Bool) → kept_test area cells marks h place ≡ t → length (kept_entry W area cells marks K h place) ≤ 2 * h.length
        go true e = rw (entry_kept e) (moved-short W area K h place low fits)
        go false e = rw (entry-dropped e) (omega arith)

module _ (L W : Layout) (area cells marks : List ℕ) (S : ℕ) where
  -- what is kept of slot i, of the bytes s, from an offset on
  abbrev pub kept_from : ℕ → List ℕ → ℕ → List ℕ
  kept_from i s at = parts_from L (kept_entry W area cells marks) S i s at

  module _ (i : ℕ) (s : List ℕ) where
    pub from-whole : s ≡ segment_of area S i → kept_from i s (digest_size L) ≡ kept_slot L W area cells marks S i
    from-whole e = ap (λ (t : List ℕ). kept_from i t (digest_size L)) e

    pub measured-whole : s ≡ segment_of area S i → 0 + length (kept_from i s (digest_size L)) ≡ length (kept_slot L W area cells marks S i)
    measured-whole e = omega (arith, ap length (from-whole e))

module _ (W : Layout) (area cells marks : List ℕ) (split : Split) where
  -- ---- the slots

  module _ (i : ℕ) where
    pub part-victim : (K : Layout) → K ≡ slot_layout area split.size i → named split.victims i ≡ true →
        kept_slot K W area cells marks split.size i ≡ kept_part W area cells marks split i
    unfolding kept_part
    part-victim K own e =
        ap (λ (M : Layout). kept_slot M W area cells marks split.size i) own
        ∙ sym (pick_true (named split.victims i) (kept_slot (slot_layout area split.size i) W area cells marks split.size i) [] e)

    pub part-other : named split.victims i ≡ false → kept_part W area cells marks split i ≡ []
    unfolding kept_part
    part-other e = pick-false (named split.victims i) (kept_slot (slot_layout area split.size i) W area cells marks split.size i) [] e

    pub below_more : kept_below W area cells marks split (i + 1) ≡ kept_below W area cells marks split i ++ kept_part W area cells marks split i
    unfolding kept_below
    below_more = ap (kept_below W area cells marks split) (add-one i)

    pub below_length : length (kept_below W area cells marks split (i + 1)) ≡ length (kept_below W area cells marks split i) + length (kept_part W area cells marks split i)
    below_length = ap length below_more ∙ length-append (kept_below W area cells marks split i) (kept_part W area cells marks split i)

  pub below_none : kept_below W area cells marks split 0 ≡ []
  unfolding kept_below
  below_none = refl
