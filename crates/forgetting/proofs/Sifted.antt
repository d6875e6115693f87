-- The marks that a delete that finds no room makes: by a filter with the key and with the keys of the victim's tombstones. What comes of the
-- victim is the same by them as by those of the whole walk.
-- What is proved of the definitions in `specs/Sifted.antt`.
use Rattle.std.specs.Prelude.{ℕ, ◌<◌, ◌≡◌, true, List, eqb, length, replicate}
use Rattle.std.proofs.Common.{ap}
use Rattle.std.proofs.lemmas.List.{length-replicate}
use Rattle.segment.specs.Choice.{pick}
use Rattle.segment.specs.Layout.{Layout}
use Rattle.segment.specs.declared.Key.{Key}
use Rattle.slot_map.specs.Bit.{named}
use Rattle.model.specs.Log.{place_of, placed_in}
use Rattle.laws.specs.LogLaws.{item_of, mem-placed}
use Rattle.index.specs.Search.{search_for}
use Rattle.index.specs.declared.Found.{Found}
use Rattle.cleaning.specs.Entries.{slot_layout, slot_items, placed_header}
use Rattle.cleaning.specs.Marks.{is_marked, mark_outside}
use Rattle.cleaning.specs.Filter.{filter_with}
use Rattle.cleaning.proofs.FilterLaws.{has-put, has-stays, length-sifted, outside-agrees}
use Rattle.cleaning.proofs.KeptAlike.{gather-alike, entry-alike, sift-alike}
use Rattle.cleaning.specs.declared.Split.{Split}
use Rattle.forgetting.specs.Forgot.{dead_bytes, forgot_entry, forgot_own}
use Rattle.forgetting.specs.declared.Live.{Live}
use Rattle.forgetting.specs.Sifted.{keys_of, sifted_marks}

pub length-left : (area cells : List ℕ) (split : Split) (k : Key) (marks : List ℕ) (n : ℕ) → length marks ≡ n →
    length (sifted_marks area cells split k marks) ≡ n
length-left area cells split k marks n e = length-sifted area cells (keys_of area split k) split n split.slots marks e

module _ (area cells : List ℕ) (split : Split) (k : Key) where
  abbrev sifted : List ℕ
  sifted = sifted_marks area cells split k (replicate 128 0)

  abbrev whole : List ℕ
  whole = mark_outside area cells split (replicate 128 0)

  -- the key's own cell
  pub needed-alike : (cell : ℕ) → search_for area cells k ≡ Found.At cell → is_marked sifted cell ≡ is_marked whole cell
  needed-alike cell at =
      let has = has-stays k area split (filter_with (replicate 128 0) k) (has-put k (replicate 128 0) (length-replicate {A = ℕ} 128 0)) in
      outside-agrees area cells (keys_of area split k) k has.has cell at split

  pub forgot-alike : (W : Layout) (live : Live) (i : ℕ) → i < split.slots → named split.victims i ≡ true →
      forgot_own W area cells sifted live split.size i ≡ forgot_own W area cells whole live split.size i
  forgot-alike W live i h v =
      gather-alike (forgot_entry W area cells sifted live) (forgot_entry W area cells whole live) split.size
      (placed_in (slot_layout area split.size i) i (slot_items area split.size i))
      (λ x m.
      ap (pick (eqb (place_of split.size x) live.place) (dead_bytes W live))
      (entry-alike area cells sifted whole W x.layout (placed_header x) (place_of split.size x)
      (sift-alike area cells split (filter_with (replicate 128 0) k) (has-put k (replicate 128 0) (length-replicate {A = ℕ} 128 0)).long i h v (item_of x)
      (mem-placed (slot_layout area split.size i) i x (slot_items area split.size i) m).item)))
