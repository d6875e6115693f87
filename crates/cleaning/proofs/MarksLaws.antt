-- The walk outside the victims at each test of the code, and what a mark means.
-- What is proved of the definitions in `specs/MarksLaws.antt`.
use Prim.Native.Nat.{ℕ, zero, suc, ◌≤◌, ◌<◌}
use Rattle.std.specs.Prelude.{◌≡◌, Bool, not}
use Rattle.std.proofs.Math.Path.{refl, sym, ap}
use Rattle.std.proofs.Common.{◌∙◌, arith}
use Rattle.std.proofs.Math.Bool.{true, false}
use mathlib.Core.List.Memᴰ
use mathlib.Core.List.{List, [], ◌∷◌}
use Rattle.std.proofs.Math.ListN.{length}
use Rattle.segment.specs.Choice.{pick, both, either}
use Rattle.segment.specs.Layout.{Layout}
use Rattle.segment.specs.Entries.{header_of}
use Rattle.segment.specs.declared.Header.{Header}
use Rattle.segment.specs.declared.Key.{Key}
use Rattle.slot_map.specs.Bit.{named}
use Rattle.model.specs.Log.{Item}
use Rattle.laws.specs.Members.{In, first}
use Rattle.laws.specs.LogLaws.{any_below}
use Rattle.index.specs.Search.{search_for}
use Rattle.index.specs.declared.Found.{Found}
use Rattle.cleaning.specs.Entries.{slot_layout, slot_items, is_key_of, is_object, object_in, slot_holds}
use Rattle.cleaning.specs.Marks.{is_marked, marked_with, mark_found, mark_entry, mark_items, mark_slot, mark_part, mark_below}
use Rattle.cleaning.proofs.MarksFacts.{length_marked, mark-own, mark-other}
use Rattle.cleaning.specs.declared.Split.{Split}
use Rattle.cleaning.specs.MarksLaws.{Tells}

-- ---- at each test of the code

module _ (area cells marks : List ℕ) where
  module _ (k : Key) where
    pub found-marks : (i : ℕ) (marks' : List ℕ) → search_for area cells k ≡ Found.At i → marks' ≡ marked_with marks i → marks' ≡ mark_found marks (search_for area cells k)
    unfolding mark_found
    found-marks i marks' e h = h ∙ sym (ap (mark_found marks) e)

    pub free-keeps : (i : ℕ) → search_for area cells k ≡ Found.Free i → marks ≡ mark_found marks (search_for area cells k)
    unfolding mark_found
    free-keeps i e = sym (ap (mark_found marks) e)

    pub full-keeps : search_for area cells k ≡ Found.Full → marks ≡ mark_found marks (search_for area cells k)
    unfolding mark_found
    full-keeps e = sym (ap (mark_found marks) e)

-- ---- the lengths

pub length_found : (marks : List ℕ) (f : Found) → length (mark_found marks f) ≡ length marks
unfolding mark_found
length_found marks (Found.At i) = length_marked marks i
length_found marks (Found.Free i) = refl
length_found marks Found.Full = refl

module _ (area cells : List ℕ) where
  pub length-entry : (marks : List ℕ) (h : Header) → length (mark_entry area cells marks h) ≡ length marks
  unfolding mark_entry pick
  length-entry marks h = go h.tombstone _
    where
      go : (t : Bool) (f : Found) → length (pick t marks (mark_found marks f)) ≡ length marks
      go true f = refl
      go false f = length_found marks f

  pub length-items : (L : Layout) (is : List Item) (marks : List ℕ) → length (mark_items L area cells marks is) ≡ length marks
  unfolding mark_items
  length-items L [] marks = refl
  length-items L (x ∷ xs) marks = length-items L xs (mark_entry area cells marks (header_of L x.entry)) ∙ length-entry marks (header_of L x.entry)

  module _ (split : Split) (marks : List ℕ) where
    pub length_part : (i : ℕ) (now : List ℕ) → length (mark_part area cells split now i) ≡ length now
    unfolding mark_part pick
    length_part i now = go (named split.outside i)
      where
        go : (t : Bool) → length (pick t (mark_slot area cells split now i) now) ≡ length now
        go true = length-items (slot_layout area split.size i) (slot_items area split.size i) now
        go false = refl

    pub length-below : (n : ℕ) → length (mark_below area cells split marks n) ≡ length marks
    unfolding mark_below
    length-below zero = refl
    length-below (suc n) = length_part n (mark_below area cells split marks n) ∙ length-below n

either-false' : (t : Bool) → t ≡ either t false
unfolding either
either-false' true = refl
either-false' false = refl

either-true' : (t : Bool) → true ≡ either t true
unfolding either
either-true' true = refl
either-true' false = refl

either-joins : (a b c : Bool) → either (either a b) c ≡ either a (either b c)
unfolding either
either-joins true b c = refl
either-joins false b c = refl

module _ (area cells : List ℕ) (k : Key) (c : ℕ) (low : c < 4096) where
  entry-mark : (marks : List ℕ) (h : Header) → length marks ≡ 128 → Tells area cells k c h →
      is_marked (mark_entry area cells marks h) c ≡ either (is_marked marks c) (is_object k h)
  unfolding is_object mark_entry mark_found pick both
  entry-mark marks h long t = go h.tombstone (is_key_of k h) refl
    where
      go : (b e : Bool) → is_key_of k h ≡ e →
          is_marked (pick b marks (mark_found marks (search_for area cells h.key))) c ≡ either (is_marked marks c) (both (not b) e)
      go true e p = either-false' (is_marked marks c)
      go false true p =
          ap (λ (f : Found). is_marked (mark_found marks f) c) (t.own p) ∙ mark-own marks long c ∙ either-true' (is_marked marks c)
      go false false p =
          let w = t.other p in
          ap (λ (f : Found). is_marked (mark_found marks f) c) w.3
          ∙ mark-other marks long w.0 c w.1 low w.2
          ∙ either-false' (is_marked marks c)

  items-mark : (L : Layout) (is : List Item) (marks : List ℕ) → length marks ≡ 128 → ((y : Item) → In y is → Tells area cells k c (header_of L y.entry)) →
      is_marked (mark_items L area cells marks is) c ≡ either (is_marked marks c) (object_in L k is)
  unfolding mark_items object_in
  items-mark L [] marks long f = either-false' (is_marked marks c)
  items-mark L (x ∷ xs) marks long f =
      items-mark L xs (mark_entry area cells marks (header_of L x.entry)) (length-entry area cells marks (header_of L x.entry) ∙ long)
      (λ y m. f y (Memᴰ.tail m))
      ∙ ap (λ (b : Bool). either b (object_in L k xs)) (entry-mark marks (header_of L x.entry) long (f x first))
      ∙ either-joins (is_marked marks c) (is_object k (header_of L x.entry)) (object_in L k xs)

  part-mark : (split : Split) (n : ℕ) (now : List ℕ) → length now ≡ 128 →
      (named split.outside n ≡ true → (y : Item) → In y (slot_items area split.size n) →
      Tells area cells k c (header_of (slot_layout area split.size n) y.entry)) →
      is_marked (mark_part area cells split now n) c ≡ either (is_marked now c) (slot_holds area split k n)
  unfolding mark_part pick both
  part-mark split n now long f = go (named split.outside n) refl
    where
      go : (t : Bool) → named split.outside n ≡ t →
          is_marked (pick t (mark_slot area cells split now n) now) c ≡ either (is_marked now c) (both t (object_in (slot_layout area split.size n) k (slot_items area split.size n)))
      go true e = items-mark (slot_layout area split.size n) (slot_items area split.size n) now long (f e)
      go false e = either-false' (is_marked now c)

  module _ (split : Split) (marks : List ℕ) (long : length marks ≡ 128) (clear : is_marked marks c ≡ false)
      (f : (i : ℕ) → i < split.slots → named split.outside i ≡ true → (y : Item) → In y (slot_items area split.size i) →
      Tells area cells k c (header_of (slot_layout area split.size i) y.entry)) where
    -- the cell c is marked exactly if an object of k stands in a slot outside the victims
    pub below-mark : (n : ℕ) → n ≤ split.slots → is_marked (mark_below area cells split marks n) c ≡ any_below (slot_holds area split k) n
    unfolding mark_below any_below
    below-mark zero h = clear
    below-mark (suc n) h =
        part-mark split n (mark_below area cells split marks n) (length-below area cells split marks n ∙ long) (f n h)
        ∙ ap (λ (b : Bool). either b (slot_holds area split k n)) (below-mark n (omega arith))
