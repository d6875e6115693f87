-- The test for an object outside the victims, as the code goes through the slots, is the model's on an undamaged log.
use Rattle.std.specs.Prelude.{ℕ, ◌<◌, ◌≡◌, Bool, not, ◌⊎◌, eqb}
use Rattle.std.proofs.Math.Path.{refl, ap}
use Rattle.std.proofs.Common.{sym, ◌∙◌, subst, inl, inr}
use Rattle.std.proofs.Math.Bool.{true, false}
use mathlib.Core.List.Memᴰ
use mathlib.Core.List.{List, [], ◌∷◌}
use Rattle.segment.specs.Choice.{both}
use Rattle.segment.proofs.Choice.{both_left, both_right, both_true, both-false-left, both-false-right, either-false, either-false-left, either-false-right}
use Rattle.segment.specs.Layout.{Layout}
use Rattle.segment.specs.Entries.{header_of}
use Rattle.segment.specs.declared.Key.{Key}
use Rattle.segment.specs.Entry.{is_tombstone}
use Rattle.slot_map.specs.Bit.{bit, named, less}
use Rattle.slot_map.proofs.BitLaws.{bit-cases, bit-less}
use Rattle.model.specs.Log.{Item, Placed, segment_of, views_of, items_of, log_of, same_keys, same_key}
use Rattle.model.specs.Operations.{object_outside}
use Rattle.laws.specs.Members.{fail-together, clash, In, first}
use Rattle.laws.specs.LogLaws.{AllScanned, InLog, item_of, placed_at, in-log, log-in, none_below_lem, below_none}
use Rattle.index.proofs.Entries.{entries-scan}
use Rattle.cleaning.specs.Entries.{slot_layout, slot_items, is_object, object_in, slot_holds, object_below}
use Rattle.cleaning.specs.declared.Split.{Split}

-- ---- no object of a key among entries

module _ (L : Layout) (k : Key) where
  pub items-none : (is : List Item) → ((y : Item) → In y is → is_object k (header_of L y.entry) ≡ false) → object_in L k is ≡ false
  unfolding object_in
  items-none [] f = refl
  items-none (x ∷ xs) f =
      either-false (is_object k (header_of L x.entry)) (object_in L k xs) (f x first) (items-none xs (λ y m. f y (Memᴰ.tail m)))

  pub none-items : (is : List Item) → object_in L k is ≡ false → (y : Item) → In y is → is_object k (header_of L y.entry) ≡ false
  unfolding object_in
  none-items [] e y m = elim m [ ]
  none-items (x ∷ xs) e y (Memᴰ.head q) =
      ap (λ (z : Item). is_object k (header_of L z.entry)) q ∙ either-false-left (is_object k (header_of L x.entry)) (object_in L k xs) e
  none-items (x ∷ xs) e y (Memᴰ.tail m) =
      none-items xs (either-false-right (is_object k (header_of L x.entry)) (object_in L k xs) e) y m

module _ (k : Key) where
  module _ (victims : ℕ) where
    -- the model's test of one entry
    abbrev seen : Placed → Bool
    seen x = both (both (not (named victims x.slot)) (same_key k x.entry)) (not (is_tombstone x.entry))

    outside-none : (log : List Placed) → ((x : Placed) → In x log → seen x ≡ false) → object_outside victims log k ≡ false
    unfolding object_outside
    outside-none [] f = refl
    outside-none (x ∷ xs) f = either-false (seen x) (object_outside victims xs k) (f x first) (outside-none xs (λ y m. f y (Memᴰ.tail m)))

    none-outside : (log : List Placed) → object_outside victims log k ≡ false → (x : Placed) → In x log → seen x ≡ false
    unfolding object_outside
    none-outside [] e x m = elim m [ ]
    none-outside (y ∷ ys) e x (Memᴰ.head q) = ap seen q ∙ either-false-left (seen y) (object_outside victims ys k) e
    none-outside (y ∷ ys) e x (Memᴰ.tail m) = none-outside ys (either-false-right (seen y) (object_outside victims ys k) e) x m

    -- the two tests of an entry agree outside the victims
    seen-victim : (x : Placed) → named victims x.slot ≡ true → seen x ≡ false
    seen-victim x e =
        both-false-left (both (not (named victims x.slot)) (same_key k x.entry)) _ (both-false-left (not (named victims x.slot)) _ (ap not e))

    seen-object : (L : Layout) (x : Placed) → named victims x.slot ≡ false → seen x ≡ is_object k (header_of L x.entry)
    unfolding is_object same_key same_keys both
    seen-object L x e =
        rw e
        (go (eqb k.table x.entry.table) (eqb k.key x.entry.key) (not (is_tombstone x.entry)))
      where
        go : (t j n : Bool) → both (both true (both t j)) n ≡ both n (both t j)
        go true true true = refl
        go true true false = refl
        go true false true = refl
        go true false false = refl
        go false j true = refl
        go false j false = refl

-- ---- the slots outside

both_rest : {b : Bool} (t : Bool) → t ≡ true → both t b ≡ false → b ≡ false
unfolding both
both_rest true p q = q
both_rest false p q = absurd (clash false p refl)

pub outside-named : (map victims i : ℕ) → named (less map victims) i ≡ both (named map i) (not (named victims i))
unfolding both
outside-named map victims i = go (bit-cases map i) (bit-cases victims i)
  where
    go : (bit map i ≡ 0) ⊎ (bit map i ≡ 1) → (bit victims i ≡ 0) ⊎ (bit victims i ≡ 1) →
        eqb (bit (less map victims) i) 1 ≡ both (eqb (bit map i) 1) (not (eqb (bit victims i) 1))
    go (inl m) (inl v) = rw (bit-less map victims i, m, v)
    go (inl m) (inr v) = rw (bit-less map victims i, m, v)
    go (inr m) (inl v) = rw (bit-less map victims i, m, v)
    go (inr m) (inr v) = rw (bit-less map victims i, m, v)

-- ---- the two tests of a key agree

-- the entries of a log slot
pub slot-items : (area : List ℕ) (S map n : ℕ) → AllScanned (views_of area S) (named map) n →
    (i : ℕ) → i < n → named map i ≡ true → slot_items area S i ≡ items_of (views_of area S i).scan
slot-items area S map n scans i h e = entries-scan (slot_layout area S i) (segment_of area S i) (scans i h e)

module _ (area : List ℕ) (S map victims n : ℕ) (scans : AllScanned (views_of area S) (named map) n) (k : Key) where
  abbrev log : List Placed
  log = log_of (views_of area S) (named map) n

  abbrev split : Split
  split = record { slots = n; size = S; victims = victims; outside = less map victims }

  to-model : object_below area split k ≡ false → object_outside victims log k ≡ false
  to-model e = outside-none k victims log (λ x m. go x (log-in (views_of area S) (named map) n x m) (named victims x.slot) refl)
    where
      go : (x : Placed) → InLog (views_of area S) (named map) n x → (t : Bool) → named victims x.slot ≡ t → seen k victims x ≡ false
      go x w true v = seen-victim k victims x v
      go x w false v =
          let out : named (less map victims) x.slot ≡ true =
          outside-named map victims x.slot ∙ both_true (named map x.slot) (not (named victims x.slot)) w.picked (ap not v) in
          seen-object k victims (slot_layout area S x.slot) x v
          ∙ none-items (slot_layout area S x.slot) k (slot_items area S x.slot) (both_rest (named (less map victims) x.slot) out (below_none n (slot_holds area split k) e x.slot w.below)) (item_of x)
          (subst (λ (is : List Item). In (item_of x) is) (sym (slot-items area S map n scans x.slot w.below w.picked)) w.item)

  from-model : object_outside victims log k ≡ false → object_below area split k ≡ false
  from-model e = none_below_lem n (slot_holds area split k) (λ i h. go i h (named (less map victims) i) refl)
    where
      go : (i : ℕ) → i < n → (t : Bool) → named (less map victims) i ≡ t → slot_holds area split k i ≡ false
      go i h false v = both-false-left (named (less map victims) i) _ v
      go i h true v =
          let both-parts : both (named map i) (not (named victims i)) ≡ true = sym (outside-named map victims i) ∙ v in
          let in_map = both_left (named map i) (not (named victims i)) both-parts in
          let no-victim = not-of (named victims i) (both_right (named map i) (not (named victims i)) both-parts) in
          both-false-right (named (less map victims) i) _
          (items-none (slot_layout area S i) k (slot_items area S i)
          (λ y m.
          sym (seen-object k victims (slot_layout area S i) (placed_at (slot_layout area S i) i y) no-victim)
          ∙ none-outside k victims log e (placed_at (slot_layout area S i) i y)
          (in-log (views_of area S) (named map) n (placed_at (slot_layout area S i) i y)
          (record { below = h; picked = in_map; layout = refl; item = subst (λ (is : List Item). In y is) (slot-items area S map n scans i h in_map) m }))))
        where
          not-of : (t : Bool) → not t ≡ true → t ≡ false
          not-of true p = sym p
          not-of false p = refl

  pub object-same : object_below area split k ≡ object_outside victims log k
  object-same = fail-together (object_below area split k) (object_outside victims log k) to-model from-model
