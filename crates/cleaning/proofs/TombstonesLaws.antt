-- Whether a victim holds a tombstone, as a total function of any area: only then the marks are made.
-- What is proved of the definitions in `specs/Tombstones.antt`.
use Rattle.std.specs.Prelude.{ℕ, ◌+◌, ◌≤◌, ◌<◌, ◌≡◌, refl, Bool, true, false}
use Rattle.std.proofs.Math.Path.{sym, ap}
use Rattle.std.proofs.Common.{◌∙◌, add-one, arith}
use mathlib.Core.List.Memᴰ
use mathlib.Core.List.{List, [], ◌∷◌}
use Rattle.segment.specs.Choice.{both, either}
use Rattle.segment.proofs.Choice.{either-false, either-false-left, either-false-right, either-true-left}
use Rattle.segment.specs.Layout.{Layout, digest_size}
use Rattle.segment.specs.Digest.{layout_in}
use Rattle.segment.specs.Entry.{is_tombstone}
use Rattle.slot_map.specs.Bit.{named}
use Rattle.model.specs.Log.{Item, segment_of}
use Rattle.laws.specs.Members.{In, clash}
use Rattle.laws.specs.LogLaws.{any_below, below_none}
use Rattle.index.specs.Build.{entries_at}
use Rattle.cleaning.specs.Entries.{slot_items}
use Rattle.cleaning.specs.EntriesLaws.{Meets, entries-meets}
use Rattle.cleaning.specs.declared.Split.{Split}
use Rattle.segment.specs.declared.Header.{Header}
use Rattle.cleaning.specs.Tombstones.{any_tombstone, tombstone_in, victim_holds}

-- ---- at each test of the code

-- a turn of the loop over a segment: the whole answer is the answer from here
module _ (L : Layout) (s : List ℕ) (at : ℕ) (whole : Bool) (from : tombstone_in (entries_at L s at) ≡ whole) where
  pub tombstone-none : entries_at L s at ≡ [] → false ≡ whole
  unfolding tombstone_in
  tombstone-none e = ap tombstone_in (sym e) ∙ from

  module _ {h : Header} (m : Meets L s at h) where
    its : is_tombstone m.met ≡ h.tombstone
    its = ap (λ (g : Header). g.tombstone) m.its

    pub tombstone-found : h.tombstone ≡ true → true ≡ whole
    unfolding tombstone_in
    tombstone-found e =
        sym (either-true-left (is_tombstone m.met) (tombstone_in (entries_at L s (at + h.length))) (its ∙ e))
        ∙ ap tombstone_in (sym (entries-meets L s at m))
        ∙ from

    pub tombstone-next : h.tombstone ≡ false → (at' : ℕ) → at' ≡ at + h.length → tombstone_in (entries_at L s at') ≡ whole
    unfolding tombstone_in either
    tombstone-next e at' b =
        let passed = its ∙ e in
        ap (λ (n : ℕ). tombstone_in (entries_at L s n)) b ∙ sym (ap tombstone_in (entries-meets L s at m) ∙ rw passed) ∙ from

-- a slot, and a turn of a loop over the slots
module _ (area : List ℕ) (split : Split) (i : ℕ) where
  pub victim-none : named split.victims i ≡ false → false ≡ victim_holds area split i
  unfolding victim_holds both
  victim-none e = rw e

  -- s is the slot's segment, and K its edition
  pub victim-goes : {r : Bool} (s : List ℕ) (K : Layout) → s ≡ segment_of area split.size i → K ≡ layout_in s → named split.victims i ≡ true →
      r ≡ tombstone_in (entries_at K s (digest_size K)) → r ≡ victim_holds area split i
  unfolding victim_holds both
  victim-goes s K own is e h =
      rw e
      (h
      ∙ ap (λ (M : Layout). tombstone_in (entries_at M s (digest_size M))) is
      ∙ ap (λ (t : List ℕ). tombstone_in (entries_at (layout_in t) t (digest_size (layout_in t)))) own)

module _ (g : ℕ → Bool) (i n : ℕ) where
  pub any_found : i < n → g i ≡ true → true ≡ any_below g n
  any_found h e = go (any_below g n) refl
    where
      go : (t : Bool) → any_below g n ≡ t → true ≡ t
      go true p = refl
      go false p = absurd (clash (g i) e (below_none n g p i h))

  pub any-more : any_below g i ≡ false → g i ≡ false → any_below g (i + 1) ≡ false
  unfolding any_below
  any-more p e = ap (any_below g) (add-one i) ∙ either-false (any_below g i) (g i) p e

  pub any_none : any_below g i ≡ false → i ≤ n → n ≤ i → false ≡ any_below g n
  any_none p h l = let e : i ≡ n = omega arith in sym p ∙ ap (any_below g) e

-- ---- where no victim holds one

none_in : (is : List Item) → tombstone_in is ≡ false → (y : Item) → In y is → is_tombstone y.entry ≡ false
unfolding tombstone_in
none_in [] e y m = elim m [ ]
none_in (x ∷ xs) e y (Memᴰ.head q) =
    ap (λ (z : Item). is_tombstone z.entry) q ∙ either-false-left (is_tombstone x.entry) (tombstone_in xs) e
none_in (x ∷ xs) e y (Memᴰ.tail m) = none_in xs (either-false-right (is_tombstone x.entry) (tombstone_in xs) e) y m

pub no-tombstone : (area : List ℕ) (split : Split) → any_tombstone area split ≡ false → (i : ℕ) → i < split.slots →
    named split.victims i ≡ true → (y : Item) → In y (slot_items area split.size i) → is_tombstone y.entry ≡ false
unfolding victim_holds both
no-tombstone area split e i h v y m =
    none_in (slot_items area split.size i) (rw v at (below_none split.slots (victim_holds area split) e i h)) y m
