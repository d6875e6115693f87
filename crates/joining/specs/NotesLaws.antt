-- The notes at each test of the code, and what a note means.
use Prim.Native.Nat.{ℕ, zero, suc, ◌+◌, ◌*◌, ◌-◌, ◌≤◌, ◌<◌}
use Rattle.std.specs.Prelude.{◌≡◌, Bool, not, eqb, ltb, set, replicate}
use Rattle.std.proofs.Math.Path.{refl, sym, ap, subst}
use Rattle.std.proofs.Common.{◌∙◌, mul-le-mul, add-one, get_or-set_same, eqb-true, eq-eqb, ne_eqb, le-leb, le-ltb}
use Rattle.std.proofs.Math.Bool.{true, false}
use mathlib.Core.List.Memᴰ
use mathlib.Core.List.{List, [], ◌∷◌}
use Rattle.std.proofs.Math.Decide.{ℕ_discrete}
use native.Mathlib.Omega.{arith}
use Rattle.std.proofs.Math.ListN.{length, get_or, length-set}
use Rattle.std.proofs.lemmas.List.{length-replicate}
use Rattle.std.proofs.Math.Seq.{get_or-set_other}
use Rattle.std.proofs.lemmas.Bool.{eqb-false, lt-leb}
use Rattle.segment.specs.Choice.{pick, both, either}
use Rattle.segment.proofs.Choice.{pick_true, pick-false}
use Rattle.segment.specs.Layout.{Layout, digest_size, entry_size}
use Rattle.segment.proofs.LayoutLaws.{width_low, width-high}
use Rattle.segment.specs.Entry.{size_of, key_of, is_tombstone}
use Rattle.segment.specs.Entries.{header_of}
use Rattle.segment.specs.declared.Header.{Header}
use Rattle.segment.specs.declared.Key.{Key}
use Rattle.slot_map.specs.Bit.{named}
use Rattle.model.specs.Log.{Item, segment_of, placed_in}
use Rattle.laws.specs.Members.{clash, In, first}
use Rattle.laws.specs.LogLaws.{any_below}
use Rattle.index.specs.Build.{entries_at}
use Rattle.index.specs.Search.{search_for}
use Rattle.index.specs.declared.Found.{Found}
use Rattle.cleaning.specs.Entries.{slot_layout, slot_items, is_key_of, is_object, object_in}
use Rattle.cleaning.specs.EntriesLaws.{Meets, entries-meets}
use Rattle.cleaning.proofs.EntriesLaws.{tombstone-length}
use Rattle.cleaning.specs.declared.Split.{Split}
use Rattle.joining.specs.declared.Sums.{Sums}
use Rattle.joining.specs.Notes.{NotesFit, note_with, tells_but, spot_of, cell_spot, elsewhere, note_newest, note_cell, note_found, note_entry, note_items, note_slot, note_part, note_below, note_all, found_length, object_at, objects_of, slot_objects, tombstones_of, tombstones_in, Summed, ObjectsCounted, TombstonesCounted}

-- ---- one note

module _ (n s : ℕ) where
  pub note-first : n ≡ 0 → s + 1 ≡ note_with n s
  unfolding note_with
  note-first e = sym (pick_true (eqb n 0) _ _ (eq-eqb n 0 e))

  module _ (some : n ≡ 0 → ⊥) where
    pub note-again : n ≡ s + 1 → n ≡ note_with n s
    unfolding note_with
    note-again e = sym (pick-false (eqb n 0) _ _ (ne_eqb n 0 some) ∙ pick_true (eqb n (s + 1)) n 64 (eq-eqb n (s + 1) e))

    pub note-several : (n ≡ s + 1 → ⊥) → 64 ≡ note_with n s
    unfolding note_with
    note-several e = sym (pick-false (eqb n 0) _ _ (ne_eqb n 0 some) ∙ pick-false (eqb n (s + 1)) n 64 (ne_eqb n (s + 1) e))

-- One slot more: another slot than j is noted if one was, or if the new one is another.
pub note-adds : (n s j : ℕ) → j < 32 → tells_but (note_with n s) j ≡ either (tells_but n j) (not (eqb s j))
unfolding note_with tells_but pick either
note-adds n s j few = go (eqb n 0) refl (eqb n (s + 1)) refl
  where
    same_test : (a b : ℕ) → eqb (a + 1) (b + 1) ≡ eqb a b
    same_test a b = at (eqb a b) refl
      where
        at : (t : Bool) → eqb a b ≡ t → eqb (a + 1) (b + 1) ≡ t
        at true p = eq-eqb (a + 1) (b + 1) (omega (arith, eqb-true a b p))
        at false p = ne_eqb (a + 1) (b + 1) (λ q. eqb-false a b p (omega arith))

    twice : (t : Bool) → t ≡ either t t
    twice true = refl
    twice false = refl

    go : (z : Bool) → eqb n 0 ≡ z → (o : Bool) → eqb n (s + 1) ≡ o →
        not (either (eqb (pick z (s + 1) (pick o n 64)) 0) (eqb (pick z (s + 1) (pick o n 64)) (j + 1)))
        ≡ either (not (either z (eqb n (j + 1)))) (not (eqb s j))
    go true p o q = rw (ne_eqb (s + 1) 0 (λ e. omega arith), same_test s j)
    go false p true q =
        rw (p, eqb-true n (s + 1) q, same_test s j) (twice (not (eqb s j)))
    go false p false q = rw (ne_eqb 64 (j + 1) (λ e. omega arith)) (sym (last (eqb s j) refl))
      where
        last : (t : Bool) → eqb s j ≡ t → either (not (eqb n (j + 1))) (not t) ≡ true
        last true e = rw (ne_eqb n (j + 1) (λ h. eqb-false n (s + 1) q (omega (arith, eqb-true s j e))))
        last false e = any (not (eqb n (j + 1)))
          where
            any : (t : Bool) → either t true ≡ true
            any true = refl
            any false = refl

-- ---- the cell's slot

-- where a slot lies
pub slot-low : (s S : ℕ) → s < 32 → S ≤ 2048 → s * S + S ≤ 65536 + 2048
slot-low s S l h = let few : s ≤ 32 = omega arith in omega (arith, mul-le-mul few h)

module _ (S s c : ℕ) where
  pub lies-low : c ≤ s * S → true ≡ elsewhere S s c
  unfolding elsewhere either
  lies-low h = rw (le-leb c (s * S) h)

  pub lies-on : {t : Bool} → s * S < c → t ≡ ltb (s * S + S) c → t ≡ elsewhere S s c
  unfolding elsewhere either
  lies-on h e = rw (lt-leb c (s * S) h) e

-- the place of an entry of the slot, one higher
lies-own : (S s c : ℕ) → s * S < c → c ≤ s * S + S → elsewhere S s c ≡ false
unfolding elsewhere either
lies-own S s c l h = rw (lt-leb c (s * S) l, le-ltb (s * S + S) c h)

-- ---- the walk at each test of the code

module _ (S s newest : ℕ) (notes : List ℕ) {t : Bool} (e : t ≡ elsewhere S s newest) where
  pub newest-stays : t ≡ false → notes ≡ note_newest S s newest notes
  unfolding note_newest
  newest-stays h = sym (pick-false _ _ _ (sym e ∙ h))

  pub newest-noted : (n : ℕ) → t ≡ true → n ≡ note_with (get_or notes (spot_of (newest - 1)) 0) s →
      set notes (spot_of (newest - 1)) n ≡ note_newest S s newest notes
  unfolding note_newest
  newest-noted n h w = ap (set notes (spot_of (newest - 1))) w ∙ sym (pick_true _ _ _ (sym e ∙ h))

module _ (area cells : List ℕ) (S s : ℕ) (notes : List ℕ) where
  -- what the code gives for an object of n bytes at a place, and for any entry
  module _ (k : Key) (place n : ℕ) where
    abbrev pub KeyNoted : ℕ → List ℕ → Type 0
    KeyNoted m notes' = (m ≡ found_length cells place n (search_for area cells k)) × (notes' ≡ note_found S s cells notes (search_for area cells k))

    pub key-own : (c : ℕ) → search_for area cells k ≡ Found.At c → get_or cells c 0 ≡ place + 1 → s * S ≤ place → place < s * S + S → KeyNoted n notes
    unfolding found_length note_found
    key-own c e own low high = (
      sym (ap (found_length cells place n) e ∙ pick_true _ _ _ (eq-eqb (get_or cells c 0) (place + 1) own)),
      newest-stays S s (get_or cells c 0) notes (sym (lies-own S s (get_or cells c 0) (omega arith) (omega arith))) refl ∙ sym (ap (note_found S s cells notes) e),
    )

    pub key-older : (c : ℕ) (notes' : List ℕ) → search_for area cells k ≡ Found.At c → (get_or cells c 0 ≡ place + 1 → ⊥) → notes' ≡ note_cell S s cells notes c →
        KeyNoted 0 notes'
    unfolding found_length note_found
    key-older c notes' e other h = (
      sym (ap (found_length cells place n) e ∙ pick-false _ _ _ (ne_eqb (get_or cells c 0) (place + 1) other)),
      h ∙ sym (ap (note_found S s cells notes) e),
    )

    pub key-free : (c : ℕ) → search_for area cells k ≡ Found.Free c → KeyNoted 0 notes
    unfolding found_length note_found
    key-free c e = (sym (ap (found_length cells place n) e), sym (ap (note_found S s cells notes) e))

    pub key-full : search_for area cells k ≡ Found.Full → KeyNoted 0 notes
    unfolding found_length note_found
    key-full e = (sym (ap (found_length cells place n) e), sym (ap (note_found S s cells notes) e))

-- ---- the lengths

module _ (area cells : List ℕ) (S s : ℕ) where
  length-cell : (notes : List ℕ) (c : ℕ) → length (note_cell S s cells notes c) ≡ length notes
  unfolding note_newest pick
  length-cell notes c = go (elsewhere S s (get_or cells c 0))
    where
      go : (t : Bool) → length (pick t (set notes (cell_spot cells c) (note_with (get_or notes (cell_spot cells c) 0) s)) notes) ≡ length notes
      go true = length-set notes (cell_spot cells c) (note_with (get_or notes (cell_spot cells c) 0) s)
      go false = refl

  length_found : (notes : List ℕ) (f : Found) → length (note_found S s cells notes f) ≡ length notes
  unfolding note_found
  length_found notes (Found.At c) = length-cell notes c
  length_found notes (Found.Free c) = refl
  length_found notes Found.Full = refl

  pub length-entry : (notes : List ℕ) (h : Header) → length (note_entry area cells S s notes h) ≡ length notes
  unfolding note_entry pick
  length-entry notes h = go h.tombstone
    where
      go : (t : Bool) → length (pick t notes (note_found S s cells notes (search_for area cells h.key))) ≡ length notes
      go true = refl
      go false = length_found notes (search_for area cells h.key)

  pub length-items : (K : Layout) (is : List Item) (notes : List ℕ) → length (note_items K area cells S s notes is) ≡ length notes
  unfolding note_items
  length-items K [] notes = refl
  length-items K (x ∷ xs) notes = length-items K xs (note_entry area cells S s notes (header_of K x.entry)) ∙ length-entry notes (header_of K x.entry)

-- an object counts with its length at most
pub found-short : (cells : List ℕ) (place n : ℕ) (f : Found) → found_length cells place n f ≤ n
unfolding found_length pick
found-short cells place n (Found.At c) = go (eqb (get_or cells c 0) (place + 1))
  where
    go : (b : Bool) → pick b n 0 ≤ n
    go true = omega arith
    go false = omega arith
found-short cells place n (Found.Free c) = omega arith
found-short cells place n Found.Full = omega arith

-- ---- a turn of the loop over a segment read in the layout K and counted in W: the whole is what comes from here on

-- rewritten, an entry differs by what stands before its value
module _ (K W : Layout) (s : List ℕ) (at : ℕ) {h : Header} (m : Meets K s at h) where
  pub rewritten-size : (head counted : ℕ) → head ≡ entry_size K 0 → counted ≡ entry_size W 0 → size_of W m.met ≡ h.length - head + counted
  rewritten-size head counted e f = omega (arith, e, f, ap (λ (g : Header). g.length) m.its)

  pub rewritten-tombstone : h.tombstone ≡ true → size_of W m.met ≡ entry_size W 0
  rewritten-tombstone t = omega (arith, ap (λ (g : Header). g.length) m.its, tombstone-length K s at m t)

  pub rewritten-short : size_of W m.met ≤ h.length + h.length
  rewritten-short = omega (arith, ap (λ (g : Header). g.length) m.its, width_low K, width-high W)

  -- what the header says of it besides
  pub met-tombstone : {b : Bool} → h.tombstone ≡ b → is_tombstone m.met ≡ b
  met-tombstone t = ap (λ (g : Header). g.tombstone) m.its ∙ t

  met-key : h.key ≡ key_of m.met
  met-key = sym (ap (λ (g : Header). g.key) m.its)

module _ (K W : Layout) (area cells : List ℕ) (S i : ℕ) where
  abbrev objects_from : List ℕ → ℕ → ℕ
  objects_from s at = objects_of W area cells S (placed_in K i (entries_at K s at))

  pub record Noting (s notes₀ notes : List ℕ) (at objects tombstones : ℕ) : Type 0 where
    pub noted : note_items K area cells S i notes (entries_at K s at) ≡ note_items K area cells S i notes₀ (entries_at K s (digest_size K))
    pub counted : objects + objects_from s at ≡ objects_from s (digest_size K)
    pub tombstones-are : tombstones + tombstones_of W (entries_at K s at) ≡ tombstones_of W (entries_at K s (digest_size K))
    pub same_length : length notes ≡ length notes₀
    pub short : objects + tombstones ≤ at + at
    pub inside : at ≤ length s

  pub noting-start : (s notes₀ : List ℕ) → digest_size K ≤ length s → Noting s notes₀ notes₀ (digest_size K) 0 0
  noting-start s notes₀ fits =
      record { noted = refl; counted = omega arith; tombstones-are = omega arith; same_length = refl; short = omega arith; inside = fits }

  module _ (s notes₀ notes : List ℕ) (at objects tombstones : ℕ) (w : Noting s notes₀ notes at objects tombstones) {h : Header} (m : Meets K s at h) where
    -- the entry, and those behind it
    notes-from : note_items K area cells S i notes (entries_at K s at) ≡ note_items K area cells S i (note_entry area cells S i notes h) (entries_at K s (at + h.length))
    unfolding note_items
    notes-from =
        ap (note_items K area cells S i notes) (entries-meets K s at m)
        ∙ ap (λ (g : Header). note_items K area cells S i (note_entry area cells S i notes g) (entries_at K s (at + h.length))) m.its

    objects-from : objects_from s at ≡ object_at area cells (header_of W m.met) (i * S + at) + objects_from s (at + h.length)
    unfolding objects_of placed_in
    objects-from = ap (λ (is : List Item). objects_of W area cells S (placed_in K i is)) (entries-meets K s at m)

    tombstones-from : tombstones_of W (entries_at K s at) ≡ pick (is_tombstone m.met) (size_of W m.met) 0 + tombstones_of W (entries_at K s (at + h.length))
    unfolding tombstones_of
    tombstones-from = ap (tombstones_of W) (entries-meets K s at m)

    -- what is found of its key
    abbrev found : ℕ
    found = found_length cells (i * S + at) (size_of W m.met) (search_for area cells (key_of m.met))

    pub noting-tombstone : h.tombstone ≡ true → (head counted : ℕ) → head ≡ entry_size K 0 → counted ≡ entry_size W 0 →
        Noting s notes₀ notes (at + head) objects (tombstones + counted)
    unfolding note_entry object_at
    noting-tombstone t head counted e f =
        let long : h.length ≡ head = tombstone-length K s at m t ∙ sym e in
        let dead = met-tombstone K W s at m t in
        let size : size_of W m.met ≡ counted = rewritten-tombstone K W s at m t ∙ sym f in
        subst (λ (k : ℕ). Noting s notes₀ notes (at + k) objects (tombstones + counted)) long
        (record {
          noted =
              ap (λ (l : List ℕ). note_items K area cells S i l (entries_at K s (at + h.length))) (sym (pick_true h.tombstone notes _ t))
              ∙ sym notes-from
              ∙ w.noted;
          counted = omega (arith, w.counted, objects-from, pick_true (is_tombstone m.met) 0 found dead);
          tombstones-are = omega (arith, w.tombstones-are, tombstones-from, pick_true (is_tombstone m.met) (size_of W m.met) 0 dead, size);
          same_length = w.same_length;
          short = omega (arith, w.short, size, rewritten-short K W s at m);
          inside = m.fits;
        })

    pub noting-object : h.tombstone ≡ false → (head counted : ℕ) → head ≡ entry_size K 0 → counted ≡ entry_size W 0 → (n : ℕ) (notes' : List ℕ) →
        KeyNoted area cells S i notes h.key (i * S + at) (h.length - head + counted) n notes' →
        Noting s notes₀ notes' (at + h.length) (objects + n) tombstones
    unfolding note_entry object_at
    noting-object t head counted e f n notes' made =
        record {
          noted = ap (λ (l : List ℕ). note_items K area cells S i l (entries_at K s (at + h.length))) entry ∙ sym notes-from ∙ w.noted;
          counted = omega (arith, w.counted, objects-from, its, pick-false (is_tombstone m.met) 0 found alive);
          tombstones-are = omega (arith, w.tombstones-are, tombstones-from, pick-false (is_tombstone m.met) (size_of W m.met) 0 alive);
          same_length = ap length entry ∙ length-entry area cells S i notes h ∙ w.same_length;
          short =
              omega (
                arith,
                w.short,
                its,
                found-short cells (i * S + at) (size_of W m.met) (search_for area cells (key_of m.met)),
                rewritten-short K W s at m,
              );
          inside = m.fits;
        }
      where
        alive : is_tombstone m.met ≡ false
        alive = met-tombstone K W s at m t

        its : n ≡ found
        its =
            made.0
            ∙ (λ x. found_length cells (i * S + at) (sym (rewritten-size K W s at m head counted e f) x) (search_for area cells (met-key K W s at m x)))

        entry : notes' ≡ note_entry area cells S i notes h
        entry = made.1 ∙ sym (pick-false h.tombstone notes _ t)

  pub noting-stop : (s notes₀ notes : List ℕ) (at objects tombstones : ℕ) → Noting s notes₀ notes at objects tombstones → entries_at K s at ≡ [] →
      s ≡ segment_of area S i → length s ≤ 2048 →
      Summed K W area cells S i (record { objects = objects; tombstones = tombstones }) × (notes ≡ note_slot K area cells S notes₀ i)
  unfolding note_items objects_of tombstones_of placed_in
  noting-stop s notes₀ notes at objects tombstones w e own few = (
    record {
      objects-are =
          omega (arith, w.counted, ap (λ (is : List Item). objects_of W area cells S (placed_in K i is)) e) ∙ ap (λ (t : List ℕ). objects_from t (digest_size K)) own;
      tombstones-are = omega (arith, w.tombstones-are, ap (tombstones_of W) e) ∙ ap (λ (t : List ℕ). tombstones_of W (entries_at K t (digest_size K))) own;
      few = omega (arith, w.short, w.inside);
    },
    sym (ap (note_items K area cells S i notes) e)
        ∙ w.noted
        ∙ ap (λ (t : List ℕ). note_items K area cells S i notes₀ (entries_at K t (digest_size K))) own,
  )

-- ---- the slots

pub zeros : (n k : ℕ) → get_or {A = ℕ} (replicate n 0) k 0 ≡ 0
zeros zero k = refl
zeros (suc n) zero = refl
zeros (suc n) (suc k) = zeros n k

module _ (W : Layout) (area cells : List ℕ) (split : Split) where
  pub counted_start : ObjectsCounted W area cells split 0 (replicate 32 0)
  counted_start = record { counted = λ i l. absurd (omega arith); few = λ i. omega (arith, zeros 32 i); totals-long = length-replicate {A = ℕ} 32 0 }

  module _ (n : ℕ) (totals : List ℕ) (w : ObjectsCounted W area cells split n totals) where
    pub counted_skip : named split.outside n ≡ false → ObjectsCounted W area cells split (n + 1) totals
    counted_skip e = record { counted = λ i l p. go i l p (ℕ_discrete i n); few = w.few; totals-long = w.totals-long }
      where
        go : (i : ℕ) → i < n + 1 → named split.outside i ≡ true → Dec (i ≡ n) → get_or totals i 0 ≡ slot_objects W area cells split.size i
        go i l p (yes q) = absurd (clash (named split.outside i) p (ap (named split.outside) q ∙ e))
        go i l p (no q) = w.counted i (omega arith) p

    pub counted-more : n < 32 → (total : ℕ) → total ≡ slot_objects W area cells split.size n → total ≤ 4096 →
        ObjectsCounted W area cells split (n + 1) (set totals n total)
    counted-more low total is high =
        record {
          counted = λ i l p. go i l p (ℕ_discrete i n);
          few = λ i. small i (ℕ_discrete i n);
          totals-long = length-set totals n total ∙ w.totals-long;
        }
      where
        own : (i : ℕ) → i ≡ n → get_or (set totals n total) i 0 ≡ total
        own i q = ap (λ (m : ℕ). get_or (set totals n total) m 0) q ∙ get_or-set_same totals n total 0 (omega (arith, w.totals-long))

        go : (i : ℕ) → i < n + 1 → named split.outside i ≡ true → Dec (i ≡ n) → get_or (set totals n total) i 0 ≡ slot_objects W area cells split.size i
        go i l p (yes q) = own i q ∙ is ∙ ap (slot_objects W area cells split.size) (sym q)
        go i l p (no q) = get_or-set_other totals n i total 0 q ∙ w.counted i (omega arith) p

        small : (i : ℕ) → Dec (i ≡ n) → get_or (set totals n total) i 0 ≤ 4096
        small i (yes q) = omega (arith, own i q)
        small i (no q) = omega (arith, get_or-set_other totals n i total 0 q, w.few i)

module _ (W : Layout) (area : List ℕ) (split : Split) where
  pub tombstones-start : TombstonesCounted W area split 0 (replicate 32 0)
  tombstones-start = record { tombstones-are = λ i l. absurd (omega arith); tombstones-long = length-replicate {A = ℕ} 32 0 }

  module _ (n : ℕ) (tombstones : List ℕ) (w : TombstonesCounted W area split n tombstones) where
    pub tombstones-skip : named split.outside n ≡ false → TombstonesCounted W area split (n + 1) tombstones
    tombstones-skip e = record { tombstones-are = λ i l p. go i l p (ℕ_discrete i n); tombstones-long = w.tombstones-long }
      where
        go : (i : ℕ) → i < n + 1 → named split.outside i ≡ true → Dec (i ≡ n) → get_or tombstones i 0 ≡ tombstones_in W area split.size i
        go i l p (yes q) = absurd (clash (named split.outside i) p (ap (named split.outside) q ∙ e))
        go i l p (no q) = w.tombstones-are i (omega arith) p

    pub tombstones-more : n < 32 → (m : ℕ) → m ≡ tombstones_in W area split.size n → TombstonesCounted W area split (n + 1) (set tombstones n m)
    tombstones-more low m is = record { tombstones-are = λ i l p. go i l p (ℕ_discrete i n); tombstones-long = length-set tombstones n m ∙ w.tombstones-long }
      where
        go : (i : ℕ) → i < n + 1 → named split.outside i ≡ true → Dec (i ≡ n) → get_or (set tombstones n m) i 0 ≡ tombstones_in W area split.size i
        go i l p (yes q) =
            ap (λ (k : ℕ). get_or (set tombstones n m) k 0) q
            ∙ get_or-set_same tombstones n m 0 (omega (arith, w.tombstones-long))
            ∙ is
            ∙ ap (tombstones_in W area split.size) (sym q)
        go i l p (no q) = get_or-set_other tombstones n i m 0 q ∙ w.tombstones-are i (omega arith) p

-- K is the slot's own edition
module _ (area cells : List ℕ) (split : Split) (notes : List ℕ) (i : ℕ) where
  pub part-noted : {notes' : List ℕ} (K : Layout) → K ≡ slot_layout area split.size i → named split.outside i ≡ true →
      notes' ≡ note_slot K area cells split.size notes i → notes' ≡ note_part area cells split notes i
  unfolding note_part
  part-noted K is e h =
      h ∙ ap (λ (M : Layout). note_slot M area cells split.size notes i) is ∙ sym (pick_true (named split.outside i) _ notes e)

  pub part-keeps : named split.outside i ≡ false → notes ≡ note_part area cells split notes i
  unfolding note_part
  part-keeps e = sym (pick-false (named split.outside i) _ notes e)

  pub notes-more : {now notes' : List ℕ} → now ≡ note_below area cells split notes i → notes' ≡ note_part area cells split now i →
      notes' ≡ note_below area cells split notes (i + 1)
  unfolding note_below
  notes-more n e =
      e ∙ ap (λ (l : List ℕ). note_part area cells split l i) n ∙ sym (ap (note_below area cells split notes) (add-one i))

pub summed-own : (K W : Layout) (area cells : List ℕ) (S i : ℕ) (sums : Sums) → K ≡ slot_layout area S i → Summed K W area cells S i sums →
    Summed (slot_layout area S i) W area cells S i sums
summed-own K W area cells S i sums is w = subst (λ (M : Layout). Summed M W area cells S i sums) is w

pub notes-none : (area cells : List ℕ) (split : Split) (notes : List ℕ) → notes ≡ note_below area cells split notes 0
unfolding note_below
notes-none area cells split notes = refl

-- the same with other notes
pub fits-again : {split : Split} {area cells notes : List ℕ} (notes' : List ℕ) → NotesFit split area cells notes → length notes' ≡ length notes →
    NotesFit split area cells notes'
fits-again notes' f e = record { slots = f.slots; cells-few = f.cells-few; notes-long = e ∙ f.notes-long }

module _ (area cells : List ℕ) (split : Split) where
  pub length_part : (i : ℕ) (notes : List ℕ) → length (note_part area cells split notes i) ≡ length notes
  unfolding note_part pick
  length_part i notes = go (named split.outside i)
    where
      go : (t : Bool) → length (pick t (note_slot (slot_layout area split.size i) area cells split.size notes i) notes) ≡ length notes
      go true = length-items area cells split.size i (slot_layout area split.size i) (slot_items area split.size i) notes
      go false = refl

  pub length-below : (notes : List ℕ) (n : ℕ) → length (note_below area cells split notes n) ≡ length notes
  unfolding note_below
  length-below notes zero = refl
  length-below notes (suc n) = length_part n (note_below area cells split notes n) ∙ length-below notes n

pub fits-noted : {split : Split} {area cells notes : List ℕ} (notes' : List ℕ) → NotesFit split area cells notes →
    notes' ≡ note_all area cells split notes → NotesFit split area cells notes'
fits-noted {split} {area} {cells} {notes} notes' f e = fits-again notes' f (ap length e ∙ length-below area cells split notes split.slots)

-- ---- what a note means

either-none : (t : Bool) → t ≡ either t false
unfolding either
either-none true = refl
either-none false = refl

either-joins : (a b c : Bool) → either (either a b) c ≡ either a (either b c)
unfolding either
either-joins true b c = refl
either-joins false b c = refl

both-none : (a : Bool) → both a false ≡ false
unfolding both
both-none true = refl
both-none false = refl

both-all : (a : Bool) → both a true ≡ a
unfolding both
both-all true = refl
both-all false = refl

both-parts : (a b d : Bool) → either (both a b) (both a d) ≡ both a (either b d)
unfolding both either
both-parts true b d = refl
both-parts false b d = refl

-- A note that no object's search leads to stays as it is.
module _ (area cells : List ℕ) (S q : ℕ) where
  -- the search for the key of an entry leads to another note
  abbrev pub Misses : Header → Type 0
  Misses h = (d : ℕ) × (search_for area cells h.key ≡ Found.At d) × (cell_spot cells d ≡ q → ⊥)

  cell-misses : (s : ℕ) (notes : List ℕ) (d : ℕ) → (cell_spot cells d ≡ q → ⊥) → get_or (note_cell S s cells notes d) q 0 ≡ get_or notes q 0
  unfolding note_newest pick
  cell-misses s notes d apart = go (elsewhere S s (get_or cells d 0))
    where
      go : (t : Bool) → get_or (pick t (set notes (cell_spot cells d) (note_with (get_or notes (cell_spot cells d) 0) s)) notes) q 0 ≡ get_or notes q 0
      go true = get_or-set_other notes (cell_spot cells d) q (note_with (get_or notes (cell_spot cells d) 0) s) 0 (λ e. apart (sym e))
      go false = refl

  entry-misses : (s : ℕ) (notes : List ℕ) (h : Header) → Misses h → get_or (note_entry area cells S s notes h) q 0 ≡ get_or notes q 0
  unfolding note_entry note_found pick
  entry-misses s notes h (d, e, apart) = go h.tombstone
    where
      go : (t : Bool) → get_or (pick t notes (note_found S s cells notes (search_for area cells h.key))) q 0 ≡ get_or notes q 0
      go true = refl
      go false = ap (λ (f : Found). get_or (note_found S s cells notes f) q 0) e ∙ cell-misses s notes d apart

  items-misses : (K : Layout) (s : ℕ) (is : List Item) (notes : List ℕ) → ((y : Item) → In y is → Misses (header_of K y.entry)) →
      get_or (note_items K area cells S s notes is) q 0 ≡ get_or notes q 0
  unfolding note_items
  items-misses K s [] notes f = refl
  items-misses K s (x ∷ xs) notes f =
      items-misses K s xs (note_entry area cells S s notes (header_of K x.entry)) (λ y m. f y (Memᴰ.tail m))
      ∙ entry-misses s notes (header_of K x.entry) (f x first)

  module _ (split : Split) (is : split.size ≡ S) (notes : List ℕ)
      (f : (s : ℕ) → s < split.slots → named split.outside s ≡ true → (y : Item) → In y (slot_items area split.size s) →
      Misses (header_of (slot_layout area split.size s) y.entry)) where
    pub below-misses : (n : ℕ) → n ≤ split.slots → get_or (note_below area cells split notes n) q 0 ≡ get_or notes q 0
    unfolding note_below note_part pick
    below-misses zero h = refl
    below-misses (suc n) h = go (named split.outside n) refl ∙ below-misses n (omega arith)
      where
        so_far : List ℕ
        so_far = note_below area cells split notes n

        go : (t : Bool) → named split.outside n ≡ t → get_or (pick t (note_slot (slot_layout area split.size n) area cells split.size so_far n) so_far) q 0 ≡ get_or so_far q 0
        go true e =
            ap (λ (z : ℕ). get_or (note_items (slot_layout area split.size n) area cells z n so_far (slot_items area split.size n)) q 0) is
            ∙ items-misses (slot_layout area split.size n) n (slot_items area split.size n) so_far (f n h e)
        go false e = refl

-- The cell c is that of key k, whose latest entry stands in slot i; j is the other victim.
module _ (area cells : List ℕ) (k : Key) (c i j : ℕ) (low : cell_spot cells c < 5958) (few : j < 32) (S : ℕ)
    (own-slot : (s : ℕ) → elsewhere S s (get_or cells c 0) ≡ not (eqb s i)) where
  -- the search for the key of an entry tells it from another key
  pub record Leads (h : Header) : Type 0 where
    pub own : is_key_of k h ≡ true → search_for area cells h.key ≡ Found.At c
    pub other : is_key_of k h ≡ false → Misses area cells S (cell_spot cells c) h

  -- an object of slot s counts
  abbrev pub counts : ℕ → Bool
  counts s = both (not (eqb s i)) (not (eqb s j))

  -- the note of the cell's entry tells of a slot other than j
  abbrev pub noted : List ℕ → Bool
  noted notes = tells_but (get_or notes (cell_spot cells c) 0) j

  own-note : (s : ℕ) (notes : List ℕ) → length notes ≡ 5958 → noted (note_cell S s cells notes c) ≡ either (noted notes) (counts s)
  unfolding note_newest pick both
  own-note s notes long =
      ap (λ (t : Bool). noted (pick t (set notes (cell_spot cells c) (note_with (get_or notes (cell_spot cells c) 0) s)) notes)) (own-slot s)
      ∙ go (not (eqb s i))
    where
      go : (t : Bool) → noted (pick t (set notes (cell_spot cells c) (note_with (get_or notes (cell_spot cells c) 0) s)) notes) ≡
          either (noted notes) (both t (not (eqb s j)))
      go true =
          ap (λ (n : ℕ). tells_but n j)
          (get_or-set_same notes (cell_spot cells c) (note_with (get_or notes (cell_spot cells c) 0) s) 0 (omega (arith, low, long)))
          ∙ note-adds (get_or notes (cell_spot cells c) 0) s j few
      go false = either-none (noted notes)

  entry-note : (s : ℕ) (notes : List ℕ) (h : Header) → length notes ≡ 5958 → Leads h →
      noted (note_entry area cells S s notes h) ≡ either (noted notes) (both (counts s) (is_object k h))
  unfolding note_entry note_found is_object pick both
  entry-note s notes h long t = go h.tombstone (is_key_of k h) refl
    where
      go : (b e : Bool) → is_key_of k h ≡ e →
          noted (pick b notes (note_found S s cells notes (search_for area cells h.key))) ≡ either (noted notes) (both (counts s) (both (not b) e))
      go true e p = either-none (noted notes) ∙ ap (either (noted notes)) (sym (both-none (counts s)))
      go false true p =
          ap (λ (f : Found). noted (note_found S s cells notes f)) (t.own p)
          ∙ own-note s notes long
          ∙ ap (either (noted notes)) (sym (both-all (counts s)))
      go false false p =
          let (d, e, apart) = t.other p in
          ap (λ (f : Found). noted (note_found S s cells notes f)) e
          ∙ ap (λ (n : ℕ). tells_but n j) (cell-misses area cells S (cell_spot cells c) s notes d apart)
          ∙ either-none (noted notes)
          ∙ ap (either (noted notes)) (sym (both-none (counts s)))

  items-note : (K : Layout) (s : ℕ) (is : List Item) (notes : List ℕ) → length notes ≡ 5958 →
      ((y : Item) → In y is → Leads (header_of K y.entry)) →
      noted (note_items K area cells S s notes is) ≡ either (noted notes) (both (counts s) (object_in K k is))
  unfolding note_items object_in
  items-note K s [] notes long f = either-none (noted notes) ∙ ap (either (noted notes)) (sym (both-none (counts s)))
  items-note K s (x ∷ xs) notes long f =
      items-note K s xs (note_entry area cells S s notes (header_of K x.entry)) (length-entry area cells S s notes (header_of K x.entry) ∙ long)
      (λ y m. f y (Memᴰ.tail m))
      ∙ ap (λ (b : Bool). either b (both (counts s) (object_in K k xs))) (entry-note s notes (header_of K x.entry) long (f x first))
      ∙ either-joins (noted notes) (both (counts s) (is_object k (header_of K x.entry))) (both (counts s) (object_in K k xs))
      ∙ ap (either (noted notes)) (both-parts (counts s) (is_object k (header_of K x.entry)) (object_in K k xs))

  module _ (split : Split) (is : split.size ≡ S) (notes : List ℕ) (long : length notes ≡ 5958) (clear : noted notes ≡ false)
      (f : (s : ℕ) → s < split.slots → named split.outside s ≡ true → (y : Item) → In y (slot_items area split.size s) →
      Leads (header_of (slot_layout area split.size s) y.entry)) where
    -- an object of the key stands in log slot s, which counts
    abbrev pub stands_in : ℕ → Bool
    stands_in s = both (named split.outside s) (both (counts s) (object_in (slot_layout area split.size s) k (slot_items area split.size s)))

    part-note : (s : ℕ) → s < split.slots → (now : List ℕ) → length now ≡ 5958 →
        noted (note_part area cells split now s) ≡ either (noted now) (stands_in s)
    unfolding note_part pick both
    part-note s l now long' = go (named split.outside s) refl
      where
        go : (t : Bool) → named split.outside s ≡ t →
            noted (pick t (note_slot (slot_layout area split.size s) area cells split.size now s) now)
            ≡ either (noted now) (both t (both (counts s) (object_in (slot_layout area split.size s) k (slot_items area split.size s))))
        go true e =
            ap (λ (z : ℕ). noted (note_items (slot_layout area split.size s) area cells z s now (slot_items area split.size s))) is
            ∙ items-note (slot_layout area split.size s) s (slot_items area split.size s) now long' (f s l e)
        go false e = either-none (noted now)

    -- Another slot than j is noted exactly if an object of the key stands in a log slot other than i and j.
    pub below-note : (n : ℕ) → n ≤ split.slots → noted (note_below area cells split notes n) ≡ any_below stands_in n
    unfolding note_below any_below
    below-note zero h = clear
    below-note (suc n) h =
        part-note n h (note_below area cells split notes n) (length-below area cells split notes n ∙ long)
        ∙ ap (λ (b : Bool). either b (stands_in n)) (below-note n (omega arith))
