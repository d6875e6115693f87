-- The two walks at each test of the code, and that what is chosen is what is kept.
-- What is proved of the definitions in `specs/ChosenLaws.antt`.
use Prim.Native.Nat.{ℕ, zero, suc, ◌+◌, ◌*◌, ◌/◌, ◌≤◌, ◌<◌}
use Rattle.std.specs.Prelude.{◌≡◌, Bool, replicate}
use Rattle.std.proofs.Math.Path.{refl, sym, ap, subst}
use Rattle.std.proofs.Common.{◌∙◌, add-one}
use Rattle.std.proofs.Math.Bool.{true, false}
use mathlib.Core.List.Memᴰ
use mathlib.Core.List.{List, [], ◌∷◌, ◌++◌}
use Rattle.std.proofs.Math.Decide.{ℕ_discrete}
use native.Mathlib.Omega.{arith}
use Rattle.std.proofs.Math.ListN.{length, length-append, length-replicate}
use Rattle.segment.specs.Choice.{pick}
use Rattle.segment.proofs.Choice.{pick_true, pick-false}
use Rattle.segment.specs.Layout.{Layout, digest_size}
use Rattle.segment.proofs.LayoutLaws.{width_low, width-high}
use Rattle.segment.specs.Entry.{Found, entry, end, damage, entry_at, size_of}
use Rattle.segment.proofs.EntryLaws.{found-fits}
use Rattle.segment.specs.declared.Header.{Header}
use Rattle.slot_map.specs.Bit.{named}
use Rattle.model.specs.Log.{Item, Placed, segment_of, place_of, placed_in}
use Rattle.laws.specs.Members.{In, clash}
use Rattle.laws.specs.Stores.{slots_apart}
use Rattle.index.specs.Build.{entries_at}
use Rattle.index.proofs.Entries.{entries-entry, entries-end, entries-damage}
use Rattle.cleaning.proofs.BitsLaws.{length-bits, bit-own, bit-other, clear-bits}
use Rattle.cleaning.specs.Entries.{SlotsFit, slot_layout, slot_items, placed_header}
use Rattle.cleaning.specs.EntriesLaws.{Meets, entries-meets}
use Rattle.cleaning.proofs.EntriesLaws.{slot-lies, slot-long, area-short}
use Rattle.cleaning.specs.Kept.{kept_test, moved_bytes, kept_entry, kept_slot, kept_part, kept_below, kept_bytes}
use Rattle.cleaning.proofs.KeptAlike.{gather-alike}
use Rattle.cleaning.specs.Chosen.{is_chosen, chosen_with, Test, choose_entry, choose_placed, choose_slot, choose_part, choose_below, choose_victims, chosen_entry, chosen_slot, chosen_part, chosen_below, chosen_bytes}
use Rattle.cleaning.specs.declared.Split.{Split}
use Rattle.cleaning.specs.ChosenLaws.{Spaced, Told}

-- ---- the bit of a place

pub length-chosen : (chosen : List ℕ) (p : ℕ) → length (chosen_with chosen p) ≡ length chosen
unfolding chosen_with
length-chosen chosen p = length-bits _ chosen (p / 8)

module _ (chosen : List ℕ) (long : length chosen ≡ 256) (p : ℕ) where
  choice-own : is_chosen (chosen_with chosen p) p ≡ true
  unfolding is_chosen chosen_with
  choice-own = bit-own _ (omega arith) chosen (omega (arith, long)) (p / 8)

  -- the bit of other eight bytes stays as it was
  choice-other : (q : ℕ) → p < 65536 → q < 65536 → (p / 8 ≡ q / 8 → ⊥) → is_chosen (chosen_with chosen p) q ≡ is_chosen chosen q
  unfolding is_chosen chosen_with
  choice-other q low high apart =
      bit-other _ (omega arith) chosen (omega (arith, long)) (p / 8) (q / 8) (omega arith) (omega arith) apart

clear-chosen : (q : ℕ) → is_chosen (replicate 256 0) q ≡ false
unfolding is_chosen
clear-chosen q = clear-bits _ (omega arith) 256 (omega arith) (q / 8)

-- ---- the walk that chooses, at each test of the code

module _ (test : Test) (chosen : List ℕ) (h : Header) (place : ℕ) where
  pub entry-chosen : {chosen' : List ℕ} → test h place ≡ true → chosen' ≡ chosen_with chosen place → chosen' ≡ choose_entry test chosen h place
  unfolding choose_entry
  entry-chosen e g = g ∙ sym (pick_true (test h place) _ chosen e)

  pub entry-left : test h place ≡ false → chosen ≡ choose_entry test chosen h place
  unfolding choose_entry
  entry-left e = sym (pick-false (test h place) _ chosen e)

  pub length-choice : (n : ℕ) → length chosen ≡ n → length (choose_entry test chosen h place) ≡ n
  unfolding choose_entry pick
  length-choice n e = go (test h place)
    where
      go : (t : Bool) → length (pick t (chosen_with chosen place) chosen) ≡ n
      go true = length-chosen chosen place ∙ e
      go false = e

module _ (test : Test) (S : ℕ) where
  -- a turn of the loop over a segment, of slot i: the whole is what comes from here on
  module _ (L : Layout) (i : ℕ) (s : List ℕ) (at : ℕ) (chosen whole : List ℕ) (from : choose_placed test S chosen (placed_in L i (entries_at L s at)) ≡ whole) where
    pub choice-stop : entries_at L s at ≡ [] → chosen ≡ whole
    unfolding choose_placed placed_in
    choice-stop e = sym (ap (λ (is : List Item). choose_placed test S chosen (placed_in L i is)) e) ∙ from

    pub choice-entry : {h : Header} → Meets L s at h → (chosen' : List ℕ) → chosen' ≡ choose_entry test chosen h (i * S + at) → (at' : ℕ) →
        at' ≡ at + h.length → choose_placed test S chosen' (placed_in L i (entries_at L s at')) ≡ whole
    unfolding choose_placed placed_in
    choice-entry {h} m chosen' e at' b =
        (λ j.
        choose_placed test S ((e ∙ ap (λ (g : Header). choose_entry test chosen g (i * S + at)) (sym m.its)) j) (placed_in L i (entries_at L s (b j))))
        ∙ sym (ap (λ (is : List Item). choose_placed test S chosen (placed_in L i is)) (entries-meets L s at m))
        ∙ from

  pub choice-whole : (L : Layout) (area chosen : List ℕ) (i : ℕ) (s : List ℕ) → s ≡ segment_of area S i →
      choose_placed test S chosen (placed_in L i (entries_at L s (digest_size L))) ≡ choose_slot L test area S chosen i
  choice-whole L area chosen i s e = ap (λ (t : List ℕ). choose_placed test S chosen (placed_in L i (entries_at L t (digest_size L)))) e

  length-placed : (n : ℕ) (xs : List Placed) (chosen : List ℕ) → length chosen ≡ n → length (choose_placed test S chosen xs) ≡ n
  unfolding choose_placed
  length-placed n [] chosen e = e
  length-placed n (x ∷ xs) chosen e =
      length-placed n xs (choose_entry test chosen (placed_header x) (place_of S x)) (length-choice test chosen (placed_header x) (place_of S x) n e)

module _ (test : Test) (area : List ℕ) (split : Split) where
  module _ (chosen : List ℕ) (i : ℕ) where
    pub choice-victim : {chosen' : List ℕ} (K : Layout) → K ≡ slot_layout area split.size i → named split.victims i ≡ true →
        chosen' ≡ choose_slot K test area split.size chosen i → chosen' ≡ choose_part test area split chosen i
    unfolding choose_part
    choice-victim K own e h =
        h ∙ ap (λ (M : Layout). choose_slot M test area split.size chosen i) own ∙ sym (pick_true (named split.victims i) _ chosen e)

    pub choice-passed : named split.victims i ≡ false → chosen ≡ choose_part test area split chosen i
    unfolding choose_part
    choice-passed e = sym (pick-false (named split.victims i) _ chosen e)

    pub choice-more : {now chosen' : List ℕ} → now ≡ choose_below test area split chosen i → chosen' ≡ choose_part test area split now i →
        chosen' ≡ choose_below test area split chosen (i + 1)
    unfolding choose_below
    choice-more n e =
        e ∙ ap (λ (l : List ℕ). choose_part test area split l i) n ∙ sym (ap (choose_below test area split chosen) (add-one i))

  pub choice-none : (chosen : List ℕ) → chosen ≡ choose_below test area split chosen 0
  unfolding choose_below
  choice-none chosen = refl

  length-choose : (n i : ℕ) (chosen : List ℕ) → length chosen ≡ n → length (choose_part test area split chosen i) ≡ n
  unfolding choose_part pick
  length-choose n i chosen e = go (named split.victims i)
    where
      go : (t : Bool) → length (pick t (choose_slot (slot_layout area split.size i) test area split.size chosen i) chosen) ≡ n
      go true = length-placed test split.size n (placed_in (slot_layout area split.size i) i (slot_items area split.size i)) chosen e
      go false = e

  pub length-choices : (n i : ℕ) (chosen : List ℕ) → length chosen ≡ n → length (choose_below test area split chosen i) ≡ n
  unfolding choose_below
  length-choices n zero chosen e = e
  length-choices n (suc i) chosen e = length-choose n i (choose_below test area split chosen i) (length-choices n i chosen e)

-- ---- the walk that copies, at each test of the code

module _ (W : Layout) (area chosen : List ℕ) (K : Layout) (h : Header) (place : ℕ) where
  pub bytes_left : is_chosen chosen place ≡ false → chosen_entry W area chosen K h place ≡ []
  bytes_left e = pick-false (is_chosen chosen place) (moved_bytes W area K h place) [] e

  pub bytes_chosen : is_chosen chosen place ≡ true → chosen_entry W area chosen K h place ≡ moved_bytes W area K h place
  bytes_chosen e = pick_true (is_chosen chosen place) (moved_bytes W area K h place) [] e

module _ (W : Layout) (area chosen : List ℕ) (split : Split) where
  module _ (i : ℕ) where
    pub chosen-victim : (K : Layout) → K ≡ slot_layout area split.size i → named split.victims i ≡ true →
        chosen_slot K W area chosen split.size i ≡ chosen_part W area chosen split i
    unfolding chosen_part
    chosen-victim K own e =
        ap (λ (M : Layout). chosen_slot M W area chosen split.size i) own
        ∙ sym (pick_true (named split.victims i) (chosen_slot (slot_layout area split.size i) W area chosen split.size i) [] e)

    pub chosen-other : named split.victims i ≡ false → chosen_part W area chosen split i ≡ []
    unfolding chosen_part
    chosen-other e = pick-false (named split.victims i) (chosen_slot (slot_layout area split.size i) W area chosen split.size i) [] e

    pub chosen_more : chosen_below W area chosen split (i + 1) ≡ chosen_below W area chosen split i ++ chosen_part W area chosen split i
    unfolding chosen_below
    chosen_more = ap (chosen_below W area chosen split) (add-one i)

    chosen-length : length (chosen_below W area chosen split (i + 1)) ≡ length (chosen_below W area chosen split i) + length (chosen_part W area chosen split i)
    chosen-length = ap length chosen_more ∙ length-append (chosen_below W area chosen split i) (chosen_part W area chosen split i)

  pub chosen_none : chosen_below W area chosen split 0 ≡ []
  unfolding chosen_below
  chosen_none = refl

  -- more slots, more bytes
  chosen-longer : (i n : ℕ) → i ≤ n → length (chosen_below W area chosen split i) ≤ length (chosen_below W area chosen split n)
  unfolding chosen_below
  chosen-longer i zero h = let e : i ≡ 0 = omega arith in rw e (omega arith)
  chosen-longer i (suc n) h = go (ℕ_discrete i (suc n)) (λ l. chosen-longer i n l)
    where
      go : Dec (i ≡ suc n) → (i ≤ n → length (chosen_below W area chosen split i) ≤ length (chosen_below W area chosen split n)) →
          length (chosen_below W area chosen split i) ≤ length (chosen_below W area chosen split n ++ chosen_part W area chosen split n)
      go (yes e) ih = rw e (omega arith)
      go (no ne) ih = omega (arith, ih (omega arith), length-append (chosen_below W area chosen split n) (chosen_part W area chosen split n))

  -- there is room for one slot more
  pub chosen-room : (from room i n : ℕ) → i < n → from + length (chosen_below W area chosen split n) ≤ room →
      from + length (chosen_below W area chosen split i) + length (chosen_part W area chosen split i) ≤ room
  chosen-room from room i n h fits = omega (arith, chosen-length i, chosen-longer (i + 1) n (omega arith))

module _ (S high : ℕ) where
  spaced-end : (low : ℕ) (xs : List Placed) → Spaced S low high xs → low ≤ high
  unfolding Spaced
  spaced-end low [] p = p
  spaced-end low (x ∷ xs) p = omega (arith, p.0, spaced-end (place_of S x + 8) xs p.1)

  spaced-in : (low : ℕ) (xs : List Placed) → Spaced S low high xs → (x : Placed) → In x xs → (low ≤ place_of S x) × (place_of S x + 8 ≤ high)
  unfolding Spaced
  spaced-in low [] p x m = elim m [ ]
  spaced-in low (y ∷ ys) p x (Memᴰ.head q) =
      let e : place_of S x ≡ place_of S y = ap (place_of S) q in
      (omega (arith, e, p.0), omega (arith, e, spaced-end (place_of S y + 8) ys p.1))
  spaced-in low (y ∷ ys) p x (Memᴰ.tail m) =
      let r = spaced-in (place_of S y + 8) ys p.1 x m in
      (omega (arith, p.0, r.0), r.1)

  spaced-lower : (low low' : ℕ) (xs : List Placed) → low ≤ low' → Spaced S low' high xs → Spaced S low high xs
  unfolding Spaced
  spaced-lower low low' [] h p = omega (arith, h, p)
  spaced-lower low low' (x ∷ xs) h p = (omega (arith, h, p.0), p.1)

-- the entries of a segment
module _ (L : Layout) (S i : ℕ) (s : List ℕ) where
  spaced-from : (f at : ℕ) → length s < at + f → at ≤ length s → Spaced S (i * S + at) (i * S + length s) (placed_in L i (entries_at L s at))
  unfolding Spaced placed_in
  spaced-from zero at h k = absurd (omega arith)
  spaced-from (suc f) at h k = go (entry_at L s at) refl (λ b p q. spaced-from f b p q)
    where
      stops : entries_at L s at ≡ [] → Spaced S (i * S + at) (i * S + length s) (placed_in L i (entries_at L s at))
      stops e = subst (λ (is : List Item). Spaced S (i * S + at) (i * S + length s) (placed_in L i is)) (sym e) (omega arith)

      go : (r : Found) → entry_at L s at ≡ r →
          ((b : ℕ) → length s < b + f → b ≤ length s → Spaced S (i * S + b) (i * S + length s) (placed_in L i (entries_at L s b))) →
          Spaced S (i * S + at) (i * S + length s) (placed_in L i (entries_at L s at))
      go (entry e) p ih =
          let fits = found-fits L s at e p in
          subst (λ (is : List Item). Spaced S (i * S + at) (i * S + length s) (placed_in L i is)) (sym (entries-entry L s at e p)) (
            omega arith,
            spaced-lower S (i * S + length s) (i * S + at + 8) (i * S + (at + size_of L e)) (placed_in L i (entries_at L s (at + size_of L e))) (omega (arith, width_low L))
                (ih (at + size_of L e) (omega arith) (omega (arith, fits))),
          )
      go end p ih = stops (entries-end L s at p)
      go damage p ih = stops (entries-damage L s at p)

-- ---- the bit of each entry is what the test says

module _ (test : Test) (chosen : List ℕ) (long : length chosen ≡ 256) (h : Header) (p : ℕ) (low : p < 65536) where
  entry-keeps : (q : ℕ) → q < 65536 → (p / 8 ≡ q / 8 → ⊥) → is_chosen (choose_entry test chosen h p) q ≡ is_chosen chosen q
  unfolding choose_entry pick
  entry-keeps q high apart = go (test h p)
    where
      go : (t : Bool) → is_chosen (pick t (chosen_with chosen p) chosen) q ≡ is_chosen chosen q
      go true = choice-other chosen long p q low high apart
      go false = refl

  entry-tells : is_chosen chosen p ≡ false → is_chosen (choose_entry test chosen h p) p ≡ test h p
  unfolding choose_entry pick
  entry-tells clear = go (test h p)
    where
      go : (t : Bool) → is_chosen (pick t (chosen_with chosen p) chosen) p ≡ t
      go true = choice-own chosen long p
      go false = clear

module _ (test : Test) (S high : ℕ) (inside : high ≤ 65536) where
  -- a place whose eight bytes are none of theirs
  placed-keep : (low : ℕ) (xs : List Placed) → Spaced S low high xs → (q : ℕ) → q < 65536 →
      ((p : ℕ) → low ≤ p → p + 8 ≤ high → p / 8 ≡ q / 8 → ⊥) → (chosen : List ℕ) → length chosen ≡ 256 →
      is_chosen (choose_placed test S chosen xs) q ≡ is_chosen chosen q
  unfolding choose_placed Spaced
  placed-keep low [] sp q hq apart chosen long = refl
  placed-keep low (x ∷ xs) sp q hq apart chosen long =
      let end = spaced-end S high (place_of S x + 8) xs sp.1 in
      placed-keep (place_of S x + 8) xs sp.1 q hq (λ p l r. apart p (omega (arith, sp.0)) r)
      (choose_entry test chosen (placed_header x) (place_of S x)) (length-choice test chosen (placed_header x) (place_of S x) 256 long)
      ∙ entry-keeps test chosen long (placed_header x) (place_of S x) (omega (arith, end)) q hq (apart (place_of S x) sp.0 end)

  placed-tell : (low : ℕ) (xs : List Placed) → Spaced S low high xs → (chosen : List ℕ) → length chosen ≡ 256 →
      ((q : ℕ) → low ≤ q → q < 65536 → is_chosen chosen q ≡ false) → (x : Placed) → In x xs →
      is_chosen (choose_placed test S chosen xs) (place_of S x) ≡ test (placed_header x) (place_of S x)
  unfolding choose_placed Spaced
  placed-tell low [] sp chosen long clear x m = elim m [ ]
  placed-tell low (y ∷ ys) sp chosen long clear x (Memᴰ.head e) =
      let end = spaced-end S high (place_of S y + 8) ys sp.1 in
      let h = placed_header y in
      ap (λ (z : Placed). is_chosen (choose_placed test S (choose_entry test chosen h (place_of S y)) ys) (place_of S z)) e
      ∙ placed-keep (place_of S y + 8) ys sp.1 (place_of S y) (omega (arith, end)) (λ p l r. λ q. omega arith)
      (choose_entry test chosen h (place_of S y)) (length-choice test chosen h (place_of S y) 256 long)
      ∙ entry-tells test chosen long h (place_of S y) (omega (arith, end)) (clear (place_of S y) sp.0 (omega (arith, end)))
      ∙ ap (λ (z : Placed). test (placed_header z) (place_of S z)) (sym e)
  placed-tell low (y ∷ ys) sp chosen long clear x (Memᴰ.tail m) =
      let end = spaced-end S high (place_of S y + 8) ys sp.1 in
      let h = placed_header y in
      placed-tell (place_of S y + 8) ys sp.1 (choose_entry test chosen h (place_of S y)) (length-choice test chosen h (place_of S y) 256 long)
      (λ q l r.
      entry-keeps test chosen long h (place_of S y) (omega (arith, end)) q r (λ e. omega arith)
      ∙ clear q (omega (arith, sp.0)) r)
      x m

module _ (test : Test) (area : List ℕ) (split : Split) (fits : SlotsFit split area) where
  abbrev S : ℕ
  S = split.size

  -- the entries of a slot
  abbrev own : ℕ → List Placed
  own i = placed_in (slot_layout area S i) i (slot_items area S i)

  slot-spaced : (i : ℕ) → i < split.slots → Spaced S (i * S) (i * S + S) (own i)
  slot-spaced i h =
      let s : List ℕ = segment_of area S i in
      let K : Layout = slot_layout area S i in
      let long : length s ≡ S = slot-long fits i h s refl in
      subst (λ (n : ℕ). Spaced S (i * S) (i * S + n) (own i)) long
      (spaced-lower S (i * S + length s) (i * S) (i * S + digest_size K) (own i) (omega arith)
      (spaced-from K S i s (suc (length s)) (digest_size K) (omega arith) (omega (arith, long, fits.size_low, width-high K))))

  slot-inside : (i : ℕ) → i < split.slots → i * S + S ≤ 65536
  slot-inside i h = omega (arith, slot-lies fits i h, area-short fits)

  told-next : (n : ℕ) → n < split.slots → (chosen : List ℕ) → Told test area split n chosen → Told test area split (suc n) (choose_part test area split chosen n)
  unfolding choose_part pick
  told-next n h chosen t = go (named split.victims n) refl
    where
      xs : List Placed
      xs = own n

      sp : Spaced S (n * S) (n * S + S) xs
      sp = slot-spaced n h

      go : (b : Bool) → named split.victims n ≡ b → Told test area split (suc n) (pick b (choose_placed test S chosen xs) chosen)
      go true v =
          record {
            long = length-placed test S 256 xs chosen t.long;
            clear =
                λ q l r.
                placed-keep test S (n * S + S) (slot-inside n h) (n * S) xs sp q r (λ p lo hi e. omega arith) chosen t.long
                ∙ t.clear q (omega arith) r;
            tells = λ i l vi x m. at i l vi x m (ℕ_discrete i n);
          }
        where
          at : (i : ℕ) → i < suc n → named split.victims i ≡ true → (x : Placed) → In x (own i) → Dec (i ≡ n) →
              is_chosen (choose_placed test S chosen xs) (place_of S x) ≡ test (placed_header x) (place_of S x)
          at i l vi x m (yes e) =
              placed-tell test S (n * S + S) (slot-inside n h) (n * S) xs sp chosen t.long t.clear x
              (subst (λ (j : ℕ). In x (own j)) e m)
          at i l vi x m (no ne) =
              let below : i < n = omega arith in
              let w = spaced-in S (i * S + S) (i * S) (own i) (slot-spaced i (omega arith)) x m in
              let gap = slots_apart S below in
              placed-keep test S (n * S + S) (slot-inside n h) (n * S) xs sp (place_of S x) (omega (arith, w.1, gap, slot-inside n h))
              (λ p lo hi e. omega (arith, w.1, gap)) chosen t.long
              ∙ t.tells i below vi x m
      go false v =
          record {
            long = t.long;
            clear = λ q l r. t.clear q (omega arith) r;
            tells = λ i l vi x m. at i l vi x m (ℕ_discrete i n);
          }
        where
          at : (i : ℕ) → i < suc n → named split.victims i ≡ true → (x : Placed) → In x (own i) → Dec (i ≡ n) →
              is_chosen chosen (place_of S x) ≡ test (placed_header x) (place_of S x)
          at i l vi x m (yes e) = absurd (clash (named split.victims n) (ap (named split.victims) (sym e) ∙ vi) v)
          at i l vi x m (no ne) = t.tells i (omega arith) vi x m

  told : (n : ℕ) → n ≤ split.slots → Told test area split n (choose_below test area split (replicate 256 0) n)
  unfolding choose_below
  told zero h =
      record {
        long = length-replicate {A = ℕ} 256 0;
        clear = λ q l r. clear-chosen q;
        tells = λ i l. absurd (omega arith);
      }
  told (suc n) h = told-next n h (choose_below test area split (replicate 256 0) n) (told n (omega arith))

-- ---- what is chosen is what is kept

module _ (area cells marks : List ℕ) (split : Split) (fits : SlotsFit split area) where
  abbrev choices : List ℕ
  choices = choose_victims (kept_test area cells marks) area split (replicate 256 0)

  all_told : Told (kept_test area cells marks) area split split.slots choices
  all_told = told (kept_test area cells marks) area split fits split.slots (omega arith)

  part_same : (W : Layout) (i : ℕ) → i < split.slots → chosen_part W area choices split i ≡ kept_part W area cells marks split i
  unfolding chosen_part kept_part pick
  part_same W i h = go (named split.victims i) refl
    where
      K : Layout
      K = slot_layout area split.size i

      go : (t : Bool) → named split.victims i ≡ t →
          pick t (chosen_slot K W area choices split.size i) [] ≡ pick t (kept_slot K W area cells marks split.size i) []
      go true v =
          gather-alike (chosen_entry W area choices) (kept_entry W area cells marks) split.size (placed_in K i (slot_items area split.size i))
          (λ x m.
          ap (λ (b : Bool). pick b (moved_bytes W area x.layout (placed_header x) (place_of split.size x)) []) (all_told.tells i h v x m))
      go false v = refl

  below-same : (W : Layout) (n : ℕ) → n ≤ split.slots → chosen_below W area choices split n ≡ kept_below W area cells marks split n
  unfolding chosen_below kept_below
  below-same W zero h = refl
  below-same W (suc n) h = λ i. below-same W n (omega arith) i ++ part_same W n (omega arith) i

  pub chosen-kept : (W : Layout) → chosen_bytes W area choices split ≡ kept_bytes W area cells marks split
  chosen-kept W = below-same W split.slots (omega arith)
