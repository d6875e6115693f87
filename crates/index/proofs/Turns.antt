-- Laws of: Rebuilding at each test of the code. Premises are the tests as the code has them, and what its callees give.
use Rattle.std.specs.Prelude.{ℕ, ◌+◌, ◌-◌, ◌*◌, ◌^◌, ◌≤◌, ◌<◌, ◌≡◌, refl, Bool, true, false, ltb, leb, length, get_or, drop, set, Some, None}
use Rattle.std.proofs.Math.Path.{sym, ap, subst}
use Rattle.std.proofs.Common.{◌∙◌, mul-le-mul, add-one, arith, length-set, drop_of_length-le, drop-cons, ltb-true, ltb-false, leb-true}
use mathlib.Core.List.{List, [], ◌∷◌, ◌++◌, append-nil}
use Rattle.std.proofs.Math.ListN.{replicate}
use Rattle.std.proofs.Math.Seq.{drop-length}
use Rattle.std.proofs.lemmas.List.Edits.{fill_more}
use Rattle.segment.specs.Choice.{both}
use Rattle.segment.proofs.Choice.{pick_true, pick-false, both_right, both-false-left}
use Rattle.segment.specs.Layout.{Layout, digest_size}
use Rattle.segment.specs.Entry.{Entry, entry, entry_at, size_of, key_of}
use Rattle.segment.specs.Entries.{header_of, next_of}
use Rattle.segment.proofs.EntriesLaws.{next-entry, next_fits, next-end, next-damage}
use Rattle.segment.proofs.Packed.{length_part}
use Rattle.segment.specs.declared.Key.{Key}
use Rattle.segment.specs.declared.Header.{Header}
use Rattle.segment.specs.declared.Next.{Next}
use Rattle.segment.specs.declared.Next.TheVariants as N
use Rattle.slot_map.specs.Bit.{named}
use Rattle.slot_map.proofs.BitLaws.{bit-above, clear-named}
use Rattle.model.specs.Log.{Item, Placed, segment_of, place_of, placed_in}
use Rattle.index.specs.Insert.{Insertion, inserted, Tally, counted, over, tallied, insert_one, insert_next, insert_all}
use Rattle.index.proofs.InsertLaws.{tally-new, tally-over, tally-newer, tally-older, tally-full, insert-newer, insert-older, insert-new, insert-full, insert-over}
use Rattle.index.specs.Build.{entries_at, in_log, slot_entries, listed_slot, listed, tally_of, Rebuilt, finished, built, Built}
use Rattle.index.proofs.Entries.{entries-entry, entries-end, entries-damage}
use Rattle.index.specs.Search.{version_at, search_for}
use Rattle.index.specs.declared.Found.{Found as Searched}
use Rattle.index.specs.declared.Inserted.{Inserted}
use Rattle.segment.specs.Digest.{layout_in}
use Rattle.index.specs.Turns.{Few}

-- ---- all cells 0

module _ (cells old : List ℕ) (n : ℕ) (e : cells ≡ replicate n 0 ++ drop n old) where
  pub clear-turn : n < length old → set cells n 0 ≡ replicate (n + 1) 0 ++ drop (n + 1) old
  clear-turn h = ap (λ (l : List ℕ). set l n 0) e ∙ fill_more n 0 old h

  pub clear-end : n ≤ length old → length old ≤ n → cells ≡ replicate (length old) 0
  clear-end h g =
      let all : n ≡ length old = omega arith in
      e ∙ ap (λ (k : ℕ). replicate k 0 ++ drop k old) all
      ∙ ap (λ (l : List ℕ). replicate (length old) 0 ++ l) (drop-length old)
      ∙ append-nil (replicate (length old) 0)

-- ---- one entry more

module _ (area : List ℕ) (place : ℕ) (k : Key) (version : ℕ) (cells : List ℕ) (n : ℕ) (r : Inserted) (after : List ℕ)
    (e : ◌≡◌ {A = Insertion} (record { answer = r; cells = after }) (inserted area cells place k version)) where
  one : tallied r after n ≡ insert_one area place k version cells n
  one = ap (λ (i : Insertion). tallied i.answer i.cells n) e

  pub one-new : r ≡ Inserted.New → n + 1 < length after → tally_of (Some (n + 1)) after ≡ insert_one area place k version cells n
  unfolding tally_of
  one-new p h = sym (tally-new after n h) ∙ ap (λ (i : Inserted). tallied i after n) (sym p) ∙ one

  pub one-over : r ≡ Inserted.New → length after ≤ n + 1 → tally_of None after ≡ insert_one area place k version cells n
  unfolding tally_of
  one-over p h = sym (tally-over after n h) ∙ ap (λ (i : Inserted). tallied i after n) (sym p) ∙ one

  pub one-newer : {old : ℕ} → r ≡ Inserted.Newer old → tally_of (Some n) after ≡ insert_one area place k version cells n
  unfolding tally_of
  one-newer {old} p = sym (tally-newer after n old) ∙ ap (λ (i : Inserted). tallied i after n) (sym p) ∙ one

  pub one-older : r ≡ Inserted.Older → tally_of (Some n) after ≡ insert_one area place k version cells n
  unfolding tally_of
  one-older p = sym (tally-older after n) ∙ ap (λ (i : Inserted). tallied i after n) (sym p) ∙ one

  pub one-full : r ≡ Inserted.Full → tally_of None after ≡ insert_one area place k version cells n
  unfolding tally_of
  one-full p = sym (tally-full after n) ∙ ap (λ (i : Inserted). tallied i after n) (sym p) ∙ one

few-tallied : (r : Inserted) (cells : List ℕ) (n : ℕ) → n ≤ length cells → Few (tallied r cells n)
unfolding Few tallied
few-tallied Inserted.New cells n h = go (ltb (n + 1) (length cells)) refl
  where
    go : (t : Bool) → ltb (n + 1) (length cells) ≡ t → Few (tallied Inserted.New cells n)
    go true e =
        let below = ltb-true (n + 1) (length cells) e in
        rw (tally-new cells n below) (omega arith)
    go false e = rw (tally-over cells n (ltb-false (n + 1) (length cells) e)) tt
few-tallied (Inserted.Newer old) cells n h = h
few-tallied Inserted.Older cells n h = h
few-tallied Inserted.Full cells n h = tt

module _ (area : List ℕ) where
  length_inserted : (cells : List ℕ) (place : ℕ) (k : Key) (version : ℕ) → length (inserted area cells place k version).cells ≡ length cells
  length_inserted cells place k version = go (search_for area cells k) refl
    where
      newer : (i : ℕ) → search_for area cells k ≡ Searched.At i → (t : Bool) → ltb (version_at area (get_or cells i 0 - 1)) version ≡ t →
          length (inserted area cells place k version).cells ≡ length cells
      newer i e true t =
          ap (λ (j : Insertion). length j.cells)
          (insert-newer area cells place k version i e (ltb-true (version_at area (get_or cells i 0 - 1)) version t))
          ∙ length-set cells i (place + 1)
      newer i e false t =
          ap (λ (j : Insertion). length j.cells)
          (insert-older area cells place k version i e (ltb-false (version_at area (get_or cells i 0 - 1)) version t))

      go : (f : Searched) → search_for area cells k ≡ f → length (inserted area cells place k version).cells ≡ length cells
      go (Searched.At i) e = newer i e (ltb (version_at area (get_or cells i 0 - 1)) version) refl
      go (Searched.Free i) e = ap (λ (j : Insertion). length j.cells) (insert-new area cells place k version i e) ∙ length-set cells i (place + 1)
      go Searched.Full e = ap (λ (j : Insertion). length j.cells) (insert-full area cells place k version e)

  few-one : (place : ℕ) (k : Key) (version : ℕ) (cells : List ℕ) (n : ℕ) → n ≤ length cells → Few (insert_one area place k version cells n)
  few-one place k version cells n h =
      few-tallied (inserted area cells place k version).answer (inserted area cells place k version).cells n
      (omega (arith, length_inserted cells place k version))

  few-all : (S : ℕ) (xs : List Placed) (s : Tally) → Few s → Few (insert_all area S xs s)
  unfolding insert_all insert_next Few
  few-all S [] s h = h
  few-all S (x ∷ xs) (counted cells n) h =
      few-all S xs (insert_next area S x (counted cells n)) (few-one (place_of S x) (key_of x.entry) x.entry.version cells n h)
  few-all S (x ∷ xs) over h = few-all S xs over tt

-- ---- a turn over the entries of a slot: going on from here gives the whole tally

pub slot-start : (L : Layout) (area : List ℕ) (S i at : ℕ) (cells : List ℕ) (n : ℕ) → at ≡ digest_size L →
    insert_all area S (placed_in L i (entries_at L (segment_of area S i) at)) (counted cells n) ≡
    insert_all area S (slot_entries L area S i) (counted cells n)
slot-start L area S i at cells n e = ap (λ (k : ℕ). insert_all area S (placed_in L i (entries_at L (segment_of area S i) k)) (counted cells n)) e

module _ (L : Layout) (area : List ℕ) (S i at : ℕ) (cells : List ℕ) (n : ℕ) (whole : Tally)
    (from : insert_all area S (placed_in L i (entries_at L (segment_of area S i) at)) (counted cells n) ≡ whole) (s : List ℕ)
    (cut : s ≡ segment_of area S i) (r : Next) (read : r ≡ next_of L (entry_at L s at)) where
  is : r ≡ next_of L (entry_at L (segment_of area S i) at)
  is = read ∙ ap (λ (l : List ℕ). next_of L (entry_at L l at)) cut

  stops : entries_at L (segment_of area S i) at ≡ [] → tally_of (Some n) cells ≡ whole
  unfolding tally_of insert_all placed_in
  stops none = sym (ap (λ (l : List Item). insert_all area S (placed_in L i l) (counted cells n)) none) ∙ from

  pub slot-end : r ≡ N.End → tally_of (Some n) cells ≡ whole
  slot-end e = stops (entries-end L (segment_of area S i) at (next-end L (segment_of area S i) at r is e))

  pub slot-damage : r ≡ N.Damage → tally_of (Some n) cells ≡ whole
  slot-damage e = stops (entries-damage L (segment_of area S i) at (next-damage L (segment_of area S i) at r is e))

  module _ (h : Header) (e : r ≡ N.Entry h) where
    pub slot-fits : i * S + S ≤ length area → (0 < h.length) × (at + h.length ≤ S)
    slot-fits room =
        let fits = next_fits L (segment_of area S i) at r is h e in
        (fits.0, omega (arith, fits.1, length_part S (i * S) area room))

    -- b and after are what one entry more gives
    module _ (b : Built) (after : List ℕ) (one_more : tally_of b after ≡ insert_one area (i * S + at) h.key h.version.0 cells n) where
      rest : insert_all area S (placed_in L i (entries_at L (segment_of area S i) (at + h.length))) (tally_of b after) ≡ whole
      unfolding insert_all insert_next placed_in
      rest = go (next-entry L (segment_of area S i) at r is h e)
        where
          go : (x : Entry) × (entry_at L (segment_of area S i) at ≡ entry x) × (header_of L x ≡ h) →
              insert_all area S (placed_in L i (entries_at L (segment_of area S i) (at + h.length))) (tally_of b after) ≡ whole
          go (x, p, q) =
              let same : tally_of b after ≡ insert_one area (i * S + at) (key_of x) x.version cells n =
              one_more ∙ λ j. insert_one area (i * S + at) (sym q j).key (sym q j).version.0 cells n in
              ap (λ (w : Header). insert_all area S (placed_in L i (entries_at L (segment_of area S i) (at + w.length))) (tally_of b after)) (sym q)
              ∙ ap (insert_all area S (placed_in L i (entries_at L (segment_of area S i) (at + size_of L x)))) same
              ∙ ap (λ (l : List Item). insert_all area S (placed_in L i l) (counted cells n)) (sym (entries-entry L (segment_of area S i) at x p))
              ∙ from

      pub slot-over : b ≡ None → tally_of None after ≡ whole
      unfolding tally_of
      slot-over p =
          sym (insert-over area S (placed_in L i (entries_at L (segment_of area S i) (at + h.length))))
          ∙ ap (λ (j : Built). insert_all area S (placed_in L i (entries_at L (segment_of area S i) (at + h.length))) (tally_of j after)) (sym p)
          ∙ rest

      module _ (m : ℕ) (p : b ≡ Some m) where
        -- behind is where the walk goes on
        pub slot_next : (behind : ℕ) → behind ≡ at + h.length
            → insert_all area S (placed_in L i (entries_at L (segment_of area S i) behind)) (counted after m) ≡ whole
        unfolding tally_of
        slot_next behind on =
            ap (λ (a : ℕ). insert_all area S (placed_in L i (entries_at L (segment_of area S i) a)) (counted after m)) on
            ∙ ap (λ (j : Built). insert_all area S (placed_in L i (entries_at L (segment_of area S i) (at + h.length))) (tally_of j after)) (sym p) ∙ rest

        pub slot-few : n ≤ length cells → m ≤ length after
        unfolding tally_of Few
        slot-few f = subst Few (sym (ap (λ (j : Built). tally_of j after) (sym p) ∙ one_more)) (few-one area (i * S + at) h.key h.version.0 cells n f)

-- ---- whether a slot is in the log

-- a map of 32 bits names no slot above 31
pub not-in-log-high : (area_length S map i : ℕ) → map < 2 ^ 32 → 32 ≤ i → false ≡ in_log area_length S map i
unfolding in_log
not-in-log-high area_length S map i h l =
    sym (both-false-left (named map i) (leb (i * S + S) area_length) (clear-named map i (bit-above map 32 i h l)))

module _ (area_length S map i : ℕ) (t : Bool) (is : t ≡ named map i) where
  pub not-in-log : t ≡ false → false ≡ in_log area_length S map i
  unfolding in_log
  not-in-log e = sym (both-false-left (named map i) (leb (i * S + S) area_length) (sym is ∙ e))

  pub in-log-by-room : t ≡ true → leb (i * S + S) area_length ≡ in_log area_length S map i
  unfolding in_log both
  in-log-by-room e = rw (sym is ∙ e)

pub in-log-room : (area_length S map i : ℕ) → in_log area_length S map i ≡ true → i * S + S ≤ area_length
unfolding in_log
in-log-room area_length S map i e =
    leb-true (i * S + S) area_length (both_right (named map i) (leb (i * S + S) area_length) e)

-- a slot's place in the area is small
pub slot_small : (i S : ℕ) → i < 256 → S ≤ 65536 → i * S + S < 4294967295
slot_small i S h g = omega (arith, mul-le-mul {n₁ = i} {m₁ = S} {n₂ = 255} {m₂ = 65536} (omega arith) g)

-- ---- a slot of the order list

module _ (area : List ℕ) (S map i : ℕ) (cells : List ℕ) (n : ℕ) (t : Bool) (is : t ≡ in_log (length area) S map i) where
  pub listed-out : t ≡ false → tally_of (Some n) cells ≡ insert_all area S (listed_slot area S map i) (counted cells n)
  unfolding tally_of insert_all
  listed-out e = rw (pick-false (in_log (length area) S map i) (slot_entries (layout_in (segment_of area S i)) area S i) [] (sym is ∙ e))

  pub listed-slot : t ≡ true → {L : Layout} → L ≡ layout_in (segment_of area S i) → (s : Tally) → s ≡ insert_all area S (slot_entries L area S i) (counted cells n) →
      s ≡ insert_all area S (listed_slot area S map i) (counted cells n)
  listed-slot e of s p =
      p ∙ ap (λ (K : Layout). insert_all area S (slot_entries K area S i) (counted cells n)) of
      ∙ ap (λ (l : List Placed). insert_all area S l (counted cells n)) (sym (pick_true (in_log (length area) S map i) (slot_entries (layout_in (segment_of area S i)) area S i) [] (sym is ∙ e)))

-- ---- a turn over the order list

insert-append : (area : List ℕ) (S : ℕ) (a b : List Placed) (s : Tally) → insert_all area S (a ++ b) s ≡ insert_all area S b (insert_all area S a s)
unfolding insert_all
insert-append area S [] b s = refl
insert-append area S (x ∷ a) b s = insert-append area S a b (insert_next area S x s)

module _ (area : List ℕ) (S map : ℕ) (order : List ℕ) (j : ℕ) (cells : List ℕ) (n : ℕ) (whole : Tally)
    (from : insert_all area S (listed area S map (drop j order)) (counted cells n) ≡ whole) where
  pub order-end : length order ≤ j → tally_of (Some n) cells ≡ whole
  unfolding tally_of insert_all listed
  order-end h = ap (λ (l : List ℕ). insert_all area S (listed area S map l) (counted cells n)) (sym (drop_of_length-le order h)) ∙ from

  -- b and after are what the slot at j gives
  module _ (h : j < length order) (i : ℕ) (at : i ≡ get_or order j 0) (b : Built) (after : List ℕ)
      (slot : tally_of b after ≡ insert_all area S (listed_slot area S map i) (counted cells n)) where
    behind : i ∷ drop (j + 1) order ≡ drop j order
    behind = rw (at, add-one j) (sym (drop-cons order j 0 h))

    on : insert_all area S (listed area S map (drop (j + 1) order)) (tally_of b after) ≡ whole
    unfolding listed
    on =
        ap (insert_all area S (listed area S map (drop (j + 1) order))) slot
        ∙ sym (insert-append area S (listed_slot area S map i) (listed area S map (drop (j + 1) order)) (counted cells n))
        ∙ ap (λ (l : List ℕ). insert_all area S (listed area S map l) (counted cells n)) behind
        ∙ from

    pub order-over : b ≡ None → tally_of None after ≡ whole
    unfolding tally_of
    order-over p =
        sym (insert-over area S (listed area S map (drop (j + 1) order)))
        ∙ ap (λ (q : Built). insert_all area S (listed area S map (drop (j + 1) order)) (tally_of q after)) (sym p)
        ∙ on

    module _ (k : ℕ) (p : b ≡ Some k) where
      pub order-next : insert_all area S (listed area S map (drop (j + 1) order)) (counted after k) ≡ whole
      unfolding tally_of
      order-next = ap (λ (q : Built). insert_all area S (listed area S map (drop (j + 1) order)) (tally_of q after)) (sym p) ∙ on

      pub order-few : n ≤ length cells → k ≤ length after
      unfolding Few tally_of
      order-few f =
          subst Few (sym (ap (λ (q : Built). tally_of q after) (sym p) ∙ slot)) (few-all area S (listed_slot area S map i) (counted cells n) f)

-- ---- the whole: free cells, the slots of the list, and free cells again where there are too many keys

module _ (area : List ℕ) (S map : ℕ) (order : List ℕ) (m : ℕ) (free : List ℕ) (e : free ≡ replicate m 0) (b : Built) (after : List ℕ)
    (all : tally_of b after ≡ insert_all area S (listed area S map order) (counted free 0)) where
  tally : tally_of b after ≡ insert_all area S (listed area S map order) (counted (replicate m 0) 0)
  tally = all ∙ ap (λ (l : List ℕ). insert_all area S (listed area S map order) (counted l 0)) e

  pub built-keys : (n : ℕ) → b ≡ Some n → ◌≡◌ {A = Rebuilt} (record { answer = Some n; cells = after }) (built area S map order m)
  unfolding tally_of finished
  built-keys n p = ap (λ (q : Built). finished m (tally_of q after)) (sym p) ∙ ap (finished m) tally

  -- r and cleared are what giving up leaves
  pub built-many :
      b ≡ None → (r : Built) (cleared : List ℕ) → (r ≡ None) × (cleared ≡ replicate (length after) 0) → length after ≡ m →
      ◌≡◌ {A = Rebuilt} (record { answer = r; cells = cleared }) (built area S map order m)
  unfolding tally_of finished
  built-many p r cleared (er, ec) l =
      (λ j. record { answer = er j; cells = (ec ∙ ap (λ (n : ℕ). replicate n 0) l) j })
      ∙ ap (λ (q : Built). finished m (tally_of q after)) (sym p)
      ∙ ap (finished m) tally
