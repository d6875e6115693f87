-- A walk over the slots that a map names: what the header of each entry makes of some words, as a total function of any area.
-- Damage ends a segment.
-- What is proved of the definitions in `specs/Walks.antt`.
use Prim.Native.Nat.{ℕ, zero, suc, ◌+◌}
use Rattle.std.specs.Prelude.{◌≡◌, Bool}
use Rattle.std.proofs.Math.Path.{refl, sym, ap}
use Rattle.std.proofs.Common.{◌∙◌, add-one}
use Rattle.std.proofs.Math.Bool.{true, false}
use mathlib.Core.List.{List, [], ◌∷◌}
use Rattle.segment.specs.Choice.{pick}
use Rattle.segment.proofs.Choice.{pick_true, pick-false}
use Rattle.segment.specs.Layout.{Layout, digest_size}
use Rattle.segment.specs.Entries.{header_of}
use Rattle.segment.specs.declared.Header.{Header}
use Rattle.slot_map.specs.Bit.{named}
use Rattle.slot_map.proofs.BitLaws.{bit-of-zero, clear-named}
use Rattle.model.specs.Log.{Item, segment_of}
use Rattle.index.specs.Build.{entries_at}
use Rattle.cleaning.specs.Entries.{slot_layout, slot_items}
use Rattle.cleaning.specs.EntriesLaws.{Meets, entries-meets}
use Rattle.cleaning.specs.Walks.{Step, walk_below, walk_items, walk_part, walk_slot}

module _ (L : Layout) (step : Step) where
  -- ---- at each test of the code

  -- a turn of the loop over a segment: the whole is what comes from here on
  module _ (s : List ℕ) (at : ℕ) (words whole : List ℕ) (from : walk_items L step words (entries_at L s at) ≡ whole) where
    pub walk-stop : entries_at L s at ≡ [] → words ≡ whole
    unfolding walk_items
    walk-stop e = sym (ap (walk_items L step words) e) ∙ from

    pub walk-entry : {h : Header} → Meets L s at h → (words' : List ℕ) → words' ≡ step words h → (at' : ℕ) → at' ≡ at + h.length →
        walk_items L step words' (entries_at L s at') ≡ whole
    unfolding walk_items
    walk-entry {h} m words' e at' b =
        (λ i. walk_items L step ((e ∙ ap (step words) (sym m.its)) i) (entries_at L s (b i)))
        ∙ sym (ap (walk_items L step words) (entries-meets L s at m))
        ∙ from

  pub walk-whole : (area : List ℕ) (S : ℕ) (words : List ℕ) (i : ℕ) (s : List ℕ) → s ≡ segment_of area S i →
      walk_items L step words (entries_at L s (digest_size L)) ≡ walk_slot L step area S words i
  walk-whole area S words i s e = ap (λ (t : List ℕ). walk_items L step words (entries_at L t (digest_size L))) e

module _ (step : Step) where
  module _ (area : List ℕ) (S : ℕ) (words : List ℕ) (i map : ℕ) where
    pub walk-named : {words' : List ℕ} (L : Layout) → L ≡ slot_layout area S i → named map i ≡ true → words' ≡ walk_slot L step area S words i →
        words' ≡ walk_part step area S map words i
    unfolding walk_part
    walk-named L own e h =
        h ∙ ap (λ (K : Layout). walk_slot K step area S words i) own ∙ sym (pick_true (named map i) _ words e)

    pub walk-other : named map i ≡ false → words ≡ walk_part step area S map words i
    unfolding walk_part
    walk-other e = sym (pick-false (named map i) _ words e)

    pub walk_more : {now words' : List ℕ} → now ≡ walk_below step area S map words i → words' ≡ walk_part step area S map now i →
        words' ≡ walk_below step area S map words (i + 1)
    unfolding walk_below
    walk_more n e =
        e ∙ ap (λ (l : List ℕ). walk_part step area S map l i) n ∙ sym (ap (walk_below step area S map words) (add-one i))

  pub walk_none : (area : List ℕ) (S map : ℕ) (words : List ℕ) → words ≡ walk_below step area S map words 0
  unfolding walk_below
  walk_none area S map words = refl

  -- where the map names no slot
  pub walk-empty : (area : List ℕ) (S : ℕ) (words : List ℕ) (n : ℕ) → words ≡ walk_below step area S 0 words n
  unfolding walk_below
  walk-empty area S words zero = refl
  walk-empty area S words (suc n) =
      walk-empty area S words n ∙ walk-other area S (walk_below step area S 0 words n) n 0 (clear-named 0 n (bit-of-zero n))

  -- ---- what every step keeps stays

  module _ (P : List ℕ → Type 0) (keeps : (words : List ℕ) (h : Header) → P words → P (step words h)) where
    pub items_keep : (L : Layout) (is : List Item) (words : List ℕ) → P words → P (walk_items L step words is)
    unfolding walk_items
    items_keep L [] words p = p
    items_keep L (x ∷ xs) words p = items_keep L xs (step words (header_of L x.entry)) (keeps words (header_of L x.entry) p)

    module _ (area : List ℕ) (S map : ℕ) where
      pub part-keeps : (i : ℕ) (words : List ℕ) → P words → P (walk_part step area S map words i)
      unfolding walk_part pick
      part-keeps i words p = go (named map i)
        where
          go : (t : Bool) → P (pick t (walk_slot (slot_layout area S i) step area S words i) words)
          go true = items_keep (slot_layout area S i) (slot_items area S i) words p
          go false = p

      pub below-keeps : (n : ℕ) (words : List ℕ) → P words → P (walk_below step area S map words n)
      unfolding walk_below
      below-keeps zero words p = p
      below-keeps (suc n) words p = part-keeps n (walk_below step area S map words n) (below-keeps n words p)
