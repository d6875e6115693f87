-- Marks made by a walk that goes by a filter agree with those of the whole walk on the cell of each key that the filter has.
-- What is proved of the definitions in `specs/FilterLaws.antt`.
use Prim.Native.Nat.{ℕ, zero, suc, ◌+◌, ◌-◌, ◌≤◌, ◌<◌}
use Rattle.std.specs.Prelude.{◌≡◌, refl, Bool, eqb, leb, get_or, replicate}
use Rattle.std.proofs.Math.Path.{sym, ap, subst}
use Rattle.std.proofs.Common.{◌∙◌, arith}
use Rattle.std.proofs.Math.Bool.{true, false}
use mathlib.Core.List.Memᴰ
use mathlib.Core.List.{List, [], ◌∷◌}
use Rattle.std.proofs.Math.Decide.{ℕ_discrete, dec_lt}
use Rattle.std.proofs.Math.ListN.{length}
use Rattle.std.proofs.lemmas.List.{length-replicate}
use borrow.Author.Tests.{eqb-true}
use Rattle.segment.specs.Choice.{pick, both}
use Rattle.segment.proofs.Choice.{pick_true, pick-false, both_left, both_right}
use Rattle.segment.specs.Layout.{Layout, edition1, entry_size}
use Rattle.segment.specs.Entries.{header_of}
use Rattle.segment.specs.Entry.{key_of, is_tombstone}
use Rattle.segment.specs.declared.Header.{Header}
use Rattle.segment.specs.declared.Key.{Key}
use Rattle.slot_map.specs.Bit.{named}
use Rattle.model.specs.Log.{Item}
use Rattle.model.specs.Index.{start_cell}
use Rattle.laws.specs.Members.{clash, In}
use Rattle.index.proofs.Around.{start-below}
use Rattle.index.proofs.Probe.{Probed, probed}
use Rattle.index.specs.Search.{table_at, key_at, has_key_at, cell_has, search_for}
use Rattle.index.proofs.SearchLaws.{search-within, search-above, search-inside}
use Rattle.index.specs.declared.Found.{Found}
use Rattle.cleaning.specs.Entries.{slot_layout, slot_items}
use Rattle.cleaning.specs.Marks.{is_marked, marked_with, mark_found, mark_entry, mark_items, mark_slot, mark_part, mark_below, mark_outside}
use Rattle.cleaning.proofs.MarksFacts.{length_marked, mark-own, mark-other}
use Rattle.cleaning.proofs.MarksLaws.{length_found, length-entry}
use Rattle.cleaning.specs.Tombstones.{any_tombstone}
use Rattle.cleaning.specs.Walks.{walk_items, walk_slot, walk_part, walk_below}
use Rattle.cleaning.proofs.Walks.{walk-empty, items_keep, part-keeps, below-keeps}
use Rattle.cleaning.specs.Filter.{spread, filter_has, filter_with, note_entry, note_victims, sift_entry, sift_outside, sift_needed}
use Rattle.cleaning.proofs.FilterFacts.{spread-low}
use Rattle.cleaning.specs.declared.Split.{Split}
use Rattle.cleaning.specs.FilterLaws.{Agree, Has}

-- ---- at each test of the code

module _ (filter : List ℕ) (h : Header) where
  pub object-passed : h.tombstone ≡ false → filter ≡ note_entry filter h
  unfolding note_entry
  object-passed e = sym (pick-false h.tombstone _ filter e)

  pub tombstone-noted : {filter' : List ℕ} → h.tombstone ≡ true → filter' ≡ filter_with filter h.key → filter' ≡ note_entry filter h
  unfolding note_entry
  tombstone-noted e g = g ∙ sym (pick_true h.tombstone _ filter e)

module _ (area cells filter marks : List ℕ) (h : Header) where
  pub sift-dead : h.tombstone ≡ true → marks ≡ sift_entry area cells filter marks h
  unfolding sift_entry
  sift-dead e = sym (pick_true h.tombstone marks _ e)

  module _ (object : h.tombstone ≡ false) where
    pub sift-passed : filter_has filter h.key ≡ false → marks ≡ sift_entry area cells filter marks h
    unfolding sift_entry
    sift-passed e = sym (pick-false h.tombstone marks _ object ∙ pick-false (filter_has filter h.key) _ marks e)

    pub sift-marks : {marks' : List ℕ} → filter_has filter h.key ≡ true → marks' ≡ mark_found marks (search_for area cells h.key) →
        marks' ≡ sift_entry area cells filter marks h
    unfolding sift_entry
    sift-marks e g = g ∙ sym (pick-false h.tombstone marks _ object ∙ pick_true (filter_has filter h.key) _ marks e)

-- where no search finds a cell
pub sift-nothing : (area cells filter : List ℕ) (split : Split) (marks : List ℕ) → ((k : Key) → Found.Full ≡ search_for area cells k) →
    marks ≡ sift_outside area cells filter split marks
unfolding sift_entry mark_found pick
sift-nothing area cells filter split marks none =
    below-keeps (sift_entry area cells filter) (λ (words : List ℕ). marks ≡ words) keeps area split.size split.outside split.slots marks refl
  where
    go : (words : List ℕ) (f : Found) (t u : Bool) → Found.Full ≡ f → words ≡ pick t words (pick u (mark_found words f) words)
    go words f true u e = refl
    go words f false true e = ap (mark_found words) e
    go words f false false e = refl

    keeps : (words : List ℕ) (h : Header) → marks ≡ words → marks ≡ sift_entry area cells filter words h
    keeps words h p = p ∙ go words (search_for area cells h.key) h.tombstone (filter_has filter h.key) (none h.key)

module _ (area cells : List ℕ) (split : Split) (marks : List ℕ) where
  -- where no slot is outside the victims
  pub no-outside : split.outside ≡ 0 → marks ≡ sift_needed area cells split marks
  unfolding sift_needed pick
  no-outside e = go (any_tombstone area split)
    where
      filter : List ℕ
      filter = note_victims area split (replicate 128 0)

      go : (t : Bool) → marks ≡ pick t (sift_outside area cells filter split marks) marks
      go true = rw e (walk-empty (sift_entry area cells filter) area split.size marks split.slots)
      go false = refl

  pub not-needed : any_tombstone area split ≡ false → marks ≡ sift_needed area cells split marks
  unfolding sift_needed
  not-needed e = sym (pick-false (any_tombstone area split) _ marks e)

  pub is-needed : {marks' : List ℕ} (filter : List ℕ) → any_tombstone area split ≡ true → filter ≡ note_victims area split (replicate 128 0) →
      marks' ≡ sift_outside area cells filter split marks → marks' ≡ sift_needed area cells split marks
  unfolding sift_needed
  is-needed filter e f h =
      h
      ∙ ap (λ (l : List ℕ). sift_outside area cells l split marks) f
      ∙ sym (pick_true (any_tombstone area split) _ marks e)

-- ---- the lengths

pub length-note : (n : ℕ) (filter : List ℕ) (h : Header) → length filter ≡ n → length (note_entry filter h) ≡ n
unfolding note_entry pick
length-note n filter h e = go h.tombstone
  where
    go : (t : Bool) → length (pick t (filter_with filter h.key) filter) ≡ n
    go true = length_marked filter (spread h.key) ∙ e
    go false = e

pub length-noted : (area : List ℕ) (split : Split) (n i : ℕ) (filter : List ℕ) → length filter ≡ n →
    length (walk_below note_entry area split.size split.victims filter i) ≡ n
length-noted area split n i filter e =
    below-keeps note_entry (λ (l : List ℕ). length l ≡ n) (length-note n) area split.size split.victims i filter e

module _ (area cells filter : List ℕ) where
  pub length-sift : (n : ℕ) (marks : List ℕ) (h : Header) → length marks ≡ n → length (sift_entry area cells filter marks h) ≡ n
  unfolding sift_entry pick
  length-sift n marks h e = go h.tombstone (filter_has filter h.key)
    where
      go : (t u : Bool) → length (pick t marks (pick u (mark_found marks (search_for area cells h.key)) marks)) ≡ n
      go true u = e
      go false true = length_found marks (search_for area cells h.key) ∙ e
      go false false = e

  pub length-sifted : (split : Split) (n i : ℕ) (marks : List ℕ) → length marks ≡ n →
      length (walk_below (sift_entry area cells filter) area split.size split.outside marks i) ≡ n
  length-sifted split n i marks e =
      below-keeps (sift_entry area cells filter) (λ (l : List ℕ). length l ≡ n) (length-sift n) area split.size split.outside i marks e

pub length-needed : (area cells : List ℕ) (split : Split) (n : ℕ) (marks : List ℕ) → length marks ≡ n →
    length (sift_needed area cells split marks) ≡ n
unfolding sift_needed pick
length-needed area cells split n marks e = go (any_tombstone area split)
  where
    filter : List ℕ
    filter = note_victims area split (replicate 128 0)

    go : (t : Bool) → length (pick t (sift_outside area cells filter split marks) marks) ≡ n
    go true = length-sifted area cells filter split n split.slots marks e
    go false = e

pub has-put : (k : Key) (filter : List ℕ) → length filter ≡ 128 → Has k (filter_with filter k)
has-put k filter long = record { long = length_marked filter (spread k) ∙ long; has = mark-own filter long (spread k) }

module _ (k : Key) where
  -- a key stays
  has-with : (filter : List ℕ) (j : Key) → Has k filter → Has k (filter_with filter j)
  has-with filter j p = go (ℕ_discrete (spread j) (spread k))
    where
      go : Dec (spread j ≡ spread k) → Has k (filter_with filter j)
      go (yes e) =
          subst (λ (c : ℕ). Has k (marked_with filter c)) (sym e) (has-put k filter p.long)
      go (no n) =
          record {
            long = length_marked filter (spread j) ∙ p.long;
            has = mark-other filter p.long (spread j) (spread k) (spread-low j) (spread-low k) n ∙ p.has;
          }

  has-note : (filter : List ℕ) (h : Header) → Has k filter → Has k (note_entry filter h)
  unfolding note_entry pick
  has-note filter h p = go h.tombstone
    where
      go : (t : Bool) → Has k (pick t (filter_with filter h.key) filter)
      go true = has-with filter h.key p
      go false = p

  pub has-stays : (area : List ℕ) (split : Split) (filter : List ℕ) → Has k filter → Has k (note_victims area split filter)
  has-stays area split filter p =
      below-keeps note_entry (Has k) has-note area split.size split.victims split.slots filter p

module _ (y : Item) (dead : is_tombstone y.entry ≡ true) where
  abbrev own : Key
  own = key_of y.entry

  items-have : (L : Layout) (is : List Item) (filter : List ℕ) → length filter ≡ 128 → In y is → Has own (walk_items L note_entry filter is)
  unfolding walk_items note_entry
  items-have L [] filter long m = elim m [ ]
  items-have L (x ∷ xs) filter long (Memᴰ.head q) =
      items_keep note_entry (Has own) (has-note own) L xs _
      (subst (λ (z : Item). Has own (note_entry filter (header_of L z.entry))) q
      (subst (λ (l : List ℕ). Has own l) (sym (pick_true (is_tombstone y.entry) _ filter dead)) (has-put own filter long)))
  items-have L (x ∷ xs) filter long (Memᴰ.tail m) =
      items-have L xs (note_entry filter (header_of L x.entry)) (length-note 128 filter (header_of L x.entry) long) m

  module _ (area : List ℕ) (split : Split) (filter : List ℕ) (long : length filter ≡ 128) (i : ℕ) (v : named split.victims i ≡ true)
      (m : In y (slot_items area split.size i)) where
    below-have : (n : ℕ) → i < n → Has own (walk_below note_entry area split.size split.victims filter n)
    unfolding walk_below walk_part
    below-have zero h = absurd (omega arith)
    below-have (suc n) h = go (ℕ_discrete i n) (λ l. below-have n l)
      where
        so_far : List ℕ
        so_far = walk_below note_entry area split.size split.victims filter n

        go : Dec (i ≡ n) → (i < n → Has own so_far) → Has own (walk_part note_entry area split.size split.victims so_far n)
        go (yes e) ih =
            subst (λ (j : ℕ). Has own (walk_part note_entry area split.size split.victims so_far j)) e
            (subst (λ (l : List ℕ). Has own l) (sym (pick_true (named split.victims i) _ so_far v))
            (items-have (slot_layout area split.size i) (slot_items area split.size i) so_far (length-noted area split 128 n filter long) m))
        go (no ne) ih = part-keeps note_entry (Has own) (has-note own) area split.size split.victims n so_far (ih (omega arith))

    pub victims-have : i < split.slots → Has own (note_victims area split filter)
    victims-have h = below-have split.slots h

-- ---- a cell is one key's

module _ (area cells : List ℕ) where
  few : (k : Key) (i : ℕ) → search_for area cells k ≡ Found.At i → length cells ≤ 4096
  few k i e = go (dec_lt 4096 (length cells))
    where
      go : Dec (4096 < length cells) → length cells ≤ 4096
      go (yes l) =
          let p : Found.Full ≡ Found.At i = search-above area cells k l ∙ e in
          let z : ◌≡◌ {A = ℕ} 0 1 = cc in
          absurd (omega arith)
      go (no l) = omega arith

  found-low : (k : Key) (i : ℕ) → search_for area cells k ≡ Found.At i → i < 4096
  found-low k i e = omega (arith, few k i e, (search-inside area cells k i e).below)

  found-has : (k : Key) (i : ℕ) → search_for area cells k ≡ Found.At i → cell_has area k (get_or cells i 0) ≡ true
  unfolding Probed
  found-has k i e =
      let s = start-below (length cells) k (omega (arith, (search-inside area cells k i e).below)) in
      let w : Probed (cell_has area k) cells (start_cell (length cells) k) (Found.At i) = rw (sym (search-within area cells k (few k i e)) ∙ e) at (probed (cell_has area k) cells (start_cell (length cells) k) s) in
      w.2

  has_one : (j k : Key) (p : ℕ) → has_key_at area j p ≡ true → has_key_at area k p ≡ true → j ≡ k
  unfolding has_key_at
  has_one j k p a b = λ i. record { table = ((its j a).0 ∙ sym (its k b).0) i; key = ((its j a).1 ∙ sym (its k b).1) i }
    where
      its : (h : Key) → both (leb (p + entry_size edition1 0) (length area)) (both (eqb h.table (table_at area p)) (eqb h.key (key_at area p))) ≡ true →
          (h.table ≡ table_at area p) × (h.key ≡ key_at area p)
      its h e =
          let f = both_right (leb (p + entry_size edition1 0) (length area)) _ e in (
            eqb-true h.table (table_at area p) (both_left (eqb h.table (table_at area p)) _ f),
            eqb-true h.key (key_at area p) (both_right (eqb h.table (table_at area p)) _ f),
          )

  one_key : (j k : Key) (c : ℕ) → search_for area cells j ≡ Found.At c → search_for area cells k ≡ Found.At c → j ≡ k
  one_key j k c a b = has_one j k (get_or cells c 0 - 1) (found-has j c a) (found-has k c b)

module _ (area cells filter : List ℕ) (k : Key) (has : filter_has filter k ≡ true) (c : ℕ) (at : search_for area cells k ≡ Found.At c) where
  abbrev low : c < 4096
  low = found-low area cells k c at

  -- where both mark what a search found
  both-mark : (a b : List ℕ) (j : Key) → Agree c a b → (f : Found) → search_for area cells j ≡ f → is_marked (mark_found a f) c ≡ is_marked (mark_found b f) c
  unfolding mark_found
  both-mark a b j g (Found.At d) e = go (ℕ_discrete d c)
    where
      go : Dec (d ≡ c) → is_marked (marked_with a d) c ≡ is_marked (marked_with b d) c
      go (yes p) =
          subst (λ (x : ℕ). is_marked (marked_with a x) c ≡ is_marked (marked_with b x) c) (sym p)
          (mark-own a g.left-long c ∙ sym (mark-own b g.right-long c))
      go (no n) =
          mark-other a g.left-long d c (found-low area cells j d e) low n
          ∙ g.same
          ∙ sym (mark-other b g.right-long d c (found-low area cells j d e) low n)
  both-mark a b j g (Found.Free d) e = g.same
  both-mark a b j g Found.Full e = g.same

  -- where the filter has not the key that was searched for, it is not k, and so its cell another
  one-marks : (a b : List ℕ) (j : Key) → Agree c a b → filter_has filter j ≡ false → (f : Found) → search_for area cells j ≡ f →
      is_marked a c ≡ is_marked (mark_found b f) c
  unfolding mark_found
  one-marks a b j g without (Found.At d) e = go (ℕ_discrete d c)
    where
      go : Dec (d ≡ c) → is_marked a c ≡ is_marked (marked_with b d) c
      go (yes p) =
          let own : j ≡ k = one_key area cells j k c (e ∙ ap (λ (x : ℕ). Found.At x) p) at in
          absurd (clash (filter_has filter k) has (ap (filter_has filter) (sym own) ∙ without))
      go (no n) = g.same ∙ sym (mark-other b g.right-long d c (found-low area cells j d e) low n)
  one-marks a b j g without (Found.Free d) e = g.same
  one-marks a b j g without Found.Full e = g.same

  agree-entry : (a b : List ℕ) (h : Header) → Agree c a b → Agree c (sift_entry area cells filter a h) (mark_entry area cells b h)
  unfolding sift_entry mark_entry pick
  agree-entry a b h g =
      record {
        left-long = length-sift area cells filter 128 a h g.left-long;
        right-long = length-entry area cells b h ∙ g.right-long;
        same = go h.tombstone (filter_has filter h.key) refl;
      }
    where
      f : Found
      f = search_for area cells h.key

      go : (t u : Bool) → filter_has filter h.key ≡ u →
          is_marked (pick t a (pick u (mark_found a f) a)) c ≡ is_marked (pick t b (mark_found b f)) c
      go true u e = g.same
      go false true e = both-mark a b h.key g f refl
      go false false e = one-marks a b h.key g e f refl

  agree-items : (L : Layout) (is : List Item) (a b : List ℕ) → Agree c a b → Agree c (walk_items L (sift_entry area cells filter) a is) (mark_items L area cells b is)
  unfolding walk_items mark_items
  agree-items L [] a b g = g
  agree-items L (x ∷ xs) a b g =
      agree-items L xs (sift_entry area cells filter a (header_of L x.entry)) (mark_entry area cells b (header_of L x.entry))
      (agree-entry a b (header_of L x.entry) g)

  module _ (split : Split) where
    agree-part : (i : ℕ) (a b : List ℕ) → Agree c a b →
        Agree c (walk_part (sift_entry area cells filter) area split.size split.outside a i) (mark_part area cells split b i)
    unfolding walk_part mark_part pick
    agree-part i a b g = go (named split.outside i)
      where
        go : (t : Bool) → Agree c (pick t (walk_slot (slot_layout area split.size i) (sift_entry area cells filter) area split.size a i) a) (pick t (mark_slot area cells split b i) b)
        go true = agree-items (slot_layout area split.size i) (slot_items area split.size i) a b g
        go false = g

    agree-below : (n : ℕ) (a b : List ℕ) → Agree c a b →
        Agree c (walk_below (sift_entry area cells filter) area split.size split.outside a n) (mark_below area cells split b n)
    unfolding walk_below mark_below
    agree-below zero a b g = g
    agree-below (suc n) a b g = agree-part n _ _ (agree-below n a b g)

    pub outside-agrees : is_marked (sift_outside area cells filter split (replicate 128 0)) c ≡ is_marked (mark_outside area cells split (replicate 128 0)) c
    outside-agrees =
        let long = length-replicate {A = ℕ} 128 0 in
        (agree-below split.slots (replicate 128 0) (replicate 128 0) (record { left-long = long; right-long = long; same = refl })).same
