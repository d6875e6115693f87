-- The weights at each test of the code, and the numbers of the slots.
use Rattle.std.specs.Prelude.{ℕ, ◌+◌, ◌*◌, ◌-◌, ◌≤◌, ◌<◌, ◌≡◌, Bool, not, leb, ltb, set, replicate}
use Rattle.std.proofs.Math.Path.{refl, sym, ap, subst}
use Rattle.std.proofs.Common.{◌∙◌, add-zero}
use Rattle.std.proofs.Math.Bool.{true, false}
use mathlib.Core.List.{List, [], ◌∷◌}
use Rattle.std.proofs.Math.Decide.{ℕ_discrete}
use Rattle.std.proofs.Math.Nat.{zero-add}
use native.Mathlib.Omega.{arith}
use Rattle.std.proofs.Math.Dec.{eqb}
use Rattle.std.proofs.Math.ListN.{length, get_or, length-set}
use Rattle.std.proofs.lemmas.List.{length-replicate}
use Rattle.std.proofs.Math.Seq.{get_or-set_same, get_or-set_other}
use borrow.Author.Tests.{eq-eqb, ne_eqb, lt-ltb, le-ltb, le-leb, lt-leb, eqb-true, eqb-false, leb-true, leb-false, ltb-true, ltb-false}
use Rattle.segment.specs.Choice.{pick, either, both}
use Rattle.segment.proofs.Choice.{pick_true, pick-false, both-false-left, both-false-right}
use Rattle.segment.specs.Layout.{Layout, digest_size, entry_size}
use Rattle.segment.specs.Entry.{size_of, is_tombstone}
use Rattle.segment.specs.Entries.{header_of}
use Rattle.segment.specs.declared.Header.{Header}
use Rattle.slot_map.specs.Bit.{named}
use Rattle.model.specs.Log.{Item, segment_of, placed_in}
use Rattle.laws.specs.Members.{clash}
use Rattle.index.specs.Build.{entries_at}
use Rattle.cleaning.specs.Entries.{slot_layout, slot_items}
use Rattle.cleaning.specs.EntriesLaws.{Meets, entries-meets}
use Rattle.cleaning.proofs.EntriesLaws.{tombstone-length}
use Rattle.cleaning.specs.declared.Split.{Split}
use Rattle.joining.specs.declared.Share.{Share}
use Rattle.joining.specs.Notes.{tells_but, spot_of, tombstones_of, tombstones_in, ObjectsCounted}
use Rattle.joining.specs.NotesLaws.{zeros, rewritten-tombstone, rewritten-short, met-tombstone}
use Rattle.joining.specs.Weights.{note_share, share_at, share_kept, weight_at, weight_of, weight_read, slot_weight, Low, Clear, ShareFits, share_length, shares_with, Weighed, Rows, Passed, numbers_fit, weights_fit}

-- ---- the share of a note

module _ (n : ℕ) where
  pub share-none : n ≡ 0 → Share.Nothing ≡ note_share n
  unfolding note_share
  share-none e = sym (pick_true (eqb n 0) _ _ (eq-eqb n 0 e))

  module _ (some : n ≡ 0 → ⊥) where
    pub share-whole : 32 < n → Share.Whole ≡ note_share n
    unfolding note_share
    share-whole h = sym (pick-false (eqb n 0) _ _ (ne_eqb n 0 some) ∙ pick_true (ltb 32 n) _ _ (lt-ltb 32 n h))

    pub share-unless : n ≤ 32 → Share.Unless (n - 1) ≡ note_share n
    unfolding note_share
    share-unless h = sym (pick-false (eqb n 0) _ _ (ne_eqb n 0 some) ∙ pick-false (ltb 32 n) _ _ (le-ltb 32 n h))

-- it is kept exactly if the note tells of a slot other than j
pub note-kept : (n j : ℕ) → j < 32 → share_kept (note_share n) j ≡ tells_but n j
unfolding note_share share_kept tells_but pick either
note-kept n j few = go (eqb n 0) refl (ltb 32 n) refl
  where
    go : (z : Bool) → eqb n 0 ≡ z → (b : Bool) → ltb 32 n ≡ b →
        share_kept (pick z Share.Nothing (pick b Share.Whole (Share.Unless (n - 1)))) j ≡ not (either z (eqb n (j + 1)))
    go true p b q = refl
    go false p true q = rw (ne_eqb n (j + 1) (λ e. omega (arith, ltb-true 32 n q)))
    go false p false q = ap not (last (eqb n (j + 1)) refl)
      where
        last : (t : Bool) → eqb n (j + 1) ≡ t → eqb (n - 1) j ≡ t
        last true e = eq-eqb (n - 1) j (omega (arith, eqb-true n (j + 1) e))
        last false e = ne_eqb (n - 1) j (λ h. eqb-false n (j + 1) e (omega (arith, eqb-false n 0 p)))

pub note-fits : (n : ℕ) → ShareFits (note_share n)
unfolding note_share pick
note-fits n = go (eqb n 0) refl (ltb 32 n) refl
  where
    go : (z : Bool) → eqb n 0 ≡ z → (b : Bool) → ltb 32 n ≡ b → ShareFits (pick z Share.Nothing (pick b Share.Whole (Share.Unless (n - 1))))
    go true p b q = tt
    go false p true q = tt
    go false p false q = omega (arith, ltb-false 32 n q, eqb-false n 0 p)

-- ---- the share of an entry

module _ (notes : List ℕ) (h : Header) (place : ℕ) where
  pub share-object : h.tombstone ≡ false → Share.Nothing ≡ share_at notes h place
  unfolding share_at
  share-object t = sym (pick-false h.tombstone _ Share.Nothing t)

  pub share-tombstone : {s : Share} → h.tombstone ≡ true → s ≡ note_share (get_or notes (spot_of place) 0) → s ≡ share_at notes h place
  unfolding share_at
  share-tombstone t m = m ∙ sym (pick_true h.tombstone _ Share.Nothing t)

  pub share-fits : ShareFits (share_at notes h place)
  unfolding share_at pick
  share-fits = go h.tombstone
    where
      go : (t : Bool) → ShareFits (pick t (note_share (get_or notes (spot_of place) 0)) Share.Nothing)
      go true = note-fits (get_or notes (spot_of place) 0)
      go false = tt

-- ---- a share added

module _ (shares : List ℕ) (base : ℕ) (share : Share) (n : ℕ) where
  pub length-with : length (shares_with shares base share n) ≡ length shares
  unfolding shares_with
  length-with = go share
    where
      go : (s : Share) → length (shares_with shares base s n) ≡ length shares
      go Share.Nothing = refl
      go Share.Whole = refl
      go (Share.Unless p) = length-set shares (base + p) (get_or shares (base + p) 0 + n)

  -- the number of j grows by what the total has more than is kept where j is the other victim
  pub with_row : base + 32 ≤ length shares → ShareFits share → (j : ℕ) → j < 32 →
      get_or (shares_with shares base share n) (base + j) 0 + pick (share_kept share j) n 0 ≡ get_or shares (base + j) 0 + share_length share n
  unfolding shares_with share_kept share_length pick
  with_row long fits j few = go share fits
    where
      go : (s : Share) → ShareFits s →
          get_or (shares_with shares base s n) (base + j) 0 + pick (share_kept s j) n 0 ≡ get_or shares (base + j) 0 + share_length s n
      go Share.Nothing f = refl
      go Share.Whole f = refl
      go (Share.Unless p) f = at (eqb p j) refl
        where
          at : (t : Bool) → eqb p j ≡ t →
              get_or (set shares (base + p) (get_or shares (base + p) 0 + n)) (base + j) 0 + pick (not t) n 0 ≡ get_or shares (base + j) 0 + n
          at true e =
              let same : base + p ≡ base + j = omega (arith, eqb-true p j e) in
              omega (
                arith,
                ap (λ (k : ℕ). get_or (set shares (base + p) (get_or shares (base + p) 0 + n)) k 0) same,
                ap (λ (k : ℕ). get_or shares k 0) same,
                get_or-set_same shares (base + p) (get_or shares (base + p) 0 + n) 0 (omega arith),
              )
          at false e =
              omega (
                arith,
                get_or-set_other shares (base + p) (base + j) (get_or shares (base + p) 0 + n) 0 (λ q. eqb-false p j e (omega arith)),
              )

  -- the numbers of other slots stay
  pub with-other : ShareFits share → (k : ℕ) → (base ≤ k → k < base + 32 → ⊥) → get_or (shares_with shares base share n) k 0 ≡ get_or shares k 0
  unfolding shares_with
  with-other fits k out = go share fits
    where
      go : (s : Share) → ShareFits s → get_or (shares_with shares base s n) k 0 ≡ get_or shares k 0
      go Share.Nothing f = refl
      go Share.Whole f = refl
      go (Share.Unless p) f =
          get_or-set_other shares (base + p) k (get_or shares (base + p) 0 + n) 0 (λ e. out (omega (arith, e)) (omega (arith, e, f)))

pub share-short : (share : Share) (n : ℕ) → share_length share n ≤ n
unfolding share_length
share-short Share.Nothing n = omega arith
share-short Share.Whole n = omega arith
share-short (Share.Unless p) n = omega arith

-- the code's cases
pub added_none : (shares : List ℕ) (base n : ℕ) (s : Share) → s ≡ Share.Nothing → (0 ≡ share_length s n) × (shares ≡ shares_with shares base s n)
unfolding share_length shares_with
added_none shares base n s e = rw e (refl, refl)

pub added-whole : (shares : List ℕ) (base n : ℕ) (s : Share) → s ≡ Share.Whole → (n ≡ share_length s n) × (shares ≡ shares_with shares base s n)
unfolding share_length shares_with
added-whole shares base n s e = rw e (refl, refl)

pub added-unless : (shares shares' : List ℕ) (base n : ℕ) (s : Share) (p : ℕ) → s ≡ Share.Unless p →
    shares' ≡ set shares (base + p) (get_or shares (base + p) 0 + n) → (n ≡ share_length s n) × (shares' ≡ shares_with shares base s n)
unfolding share_length shares_with
added-unless shares shares' base n s p e w = rw e (refl, w)

-- ---- a turn of the loop over a segment read in the layout K and counted in W

module _ (K W : Layout) (area notes : List ℕ) (S i : ℕ) where
  -- what is kept of the tombstones of slot i, of the bytes s, from an offset on, where the other victim is j
  abbrev pub weight_from : List ℕ → ℕ → ℕ → ℕ
  weight_from s at j = weight_of W notes S j (placed_in K i (entries_at K s at))

  module _ (s : List ℕ) (at : ℕ) (j : ℕ) where
    pub from-stop : entries_at K s at ≡ [] → weight_from s at j ≡ 0
    unfolding weight_of placed_in
    from-stop e = ap (λ (is : List Item). weight_of W notes S j (placed_in K i is)) e

    pub from-entry : {h : Header} (m : Meets K s at h) →
        weight_from s at j ≡ weight_at notes j (header_of W m.met) (i * S + at) + weight_from s (at + h.length) j
    unfolding weight_of placed_in
    from-entry m = ap (λ (is : List Item). weight_of W notes S j (placed_in K i is)) (entries-meets K s at m)

  -- The numbers so far: `shares₀` at the start, `total` is what the entries so far add up to.
  pub record Weighing (s shares₀ shares : List ℕ) (at total : ℕ) : Type 0 where
    pub row : (j : ℕ) → j < 32 → get_or shares (i * 32 + j) 0 + weight_from s (digest_size K) j ≡ total + weight_from s at j
    pub low : Low shares (i * 32) total
    pub below : (k : ℕ) → k < i * 32 → get_or shares k 0 ≡ get_or shares₀ k 0
    pub above : (k : ℕ) → i * 32 + 32 ≤ k → get_or shares k 0 ≡ get_or shares₀ k 0
    pub same_length : length shares ≡ length shares₀
    pub short : total ≤ at + at
    pub inside : at ≤ length s

  module _ (s shares₀ : List ℕ) where
    pub weighing-start : Clear shares₀ (i * 32) → digest_size K ≤ length s → Weighing s shares₀ shares₀ (digest_size K) 0
    weighing-start clear fits =
        record {
          row = λ j few. omega (arith, clear (i * 32 + j) (omega arith));
          low = λ j few. omega (arith, clear (i * 32 + j) (omega arith));
          below = λ k h. refl;
          above = λ k h. refl;
          same_length = refl;
          short = omega arith;
          inside = fits;
        }

    module _ (shares : List ℕ) (at total : ℕ) (w : Weighing s shares₀ shares at total) where
      weighing-entry : {h : Header} (m : Meets K s at h) (share : Share) → share ≡ share_at notes (header_of W m.met) (i * S + at) →
          i * 32 + 32 ≤ length shares → (n : ℕ) (shares' : List ℕ) →
          (n ≡ share_length share (size_of W m.met)) × (shares' ≡ shares_with shares (i * 32) share (size_of W m.met)) →
          Weighing s shares₀ shares' (at + h.length) (total + n)
      weighing-entry {h} m share is long n shares' made =
          record {
            row = λ j few. omega (arith, w.row j few, one j few, from-entry s at j m, weight j, made.0);
            low = λ j few. omega (arith, w.low j few, one j few, made.0);
            below = λ k l. other k (λ p q. omega arith) ∙ w.below k l;
            above = λ k l. other k (λ p q. omega arith) ∙ w.above k l;
            same_length = ap length made.1 ∙ length-with shares (i * 32) share size ∙ w.same_length;
            short = omega (arith, w.short, made.0, share-short share size, rewritten-short K W s at m);
            inside = m.fits;
          }
        where
          size : ℕ
          size = size_of W m.met

          fits : ShareFits share
          fits = rw is (share-fits notes (header_of W m.met) (i * S + at))

          one : (j : ℕ) → j < 32 → get_or shares' (i * 32 + j) 0 + pick (share_kept share j) size 0 ≡ get_or shares (i * 32 + j) 0 + share_length share size
          one j few =
              ap (λ (l : List ℕ). get_or l (i * 32 + j) 0 + pick (share_kept share j) size 0) made.1
              ∙ with_row shares (i * 32) share size long fits j few

          weight : (j : ℕ) → weight_at notes j (header_of W m.met) (i * S + at) ≡ pick (share_kept share j) size 0
          weight j = ap (λ (x : Share). pick (share_kept x j) size 0) (sym is)

          other : (k : ℕ) → (i * 32 ≤ k → k < i * 32 + 32 → ⊥) → get_or shares' k 0 ≡ get_or shares k 0
          other k out = ap (λ (l : List ℕ). get_or l k 0) made.1 ∙ with-other shares (i * 32) share size fits k out

      pub weighing-tombstone : {h : Header} → Meets K s at h → h.tombstone ≡ true → (head counted : ℕ) → head ≡ entry_size K 0 → counted ≡ entry_size W 0 →
          (share : Share) → share ≡ note_share (get_or notes (spot_of (i * S + at)) 0) → i * 32 + 32 ≤ length shares → (n : ℕ) (shares' : List ℕ) →
          (n ≡ share_length share counted) × (shares' ≡ shares_with shares (i * 32) share counted) → Weighing s shares₀ shares' (at + head) (total + n)
      weighing-tombstone {h} m t head counted e f share is long n shares' made =
          let size : counted ≡ size_of W m.met = f ∙ sym (rewritten-tombstone K W s at m t) in
          subst (λ (l : ℕ). Weighing s shares₀ shares' (at + l) (total + n)) (tombstone-length K s at m t ∙ sym e)
          (weighing-entry m share (share-tombstone notes (header_of W m.met) (i * S + at) (met-tombstone K W s at m t) is) long n shares'
          (subst (λ (l : ℕ). (n ≡ share_length share l) × (shares' ≡ shares_with shares (i * 32) share l)) size made))

      pub weighing-object : {h : Header} → Meets K s at h → h.tombstone ≡ false → i * 32 + 32 ≤ length shares →
          Weighing s shares₀ shares (at + h.length) total
      weighing-object {h} m t long =
          subst (λ (n : ℕ). Weighing s shares₀ shares (at + h.length) n) (add-zero total)
          (weighing-entry m Share.Nothing (share-object notes (header_of W m.met) (i * S + at) (met-tombstone K W s at m t)) long 0 shares
          (added_none shares (i * 32) (size_of W m.met) Share.Nothing refl))

      pub weighing-passed : (to : ℕ) → Passed K s at to → Weighing s shares₀ shares to total
      weighing-passed to p =
          record {
            row = λ j few. omega (arith, w.row j few, p.same W notes S i j);
            low = w.low;
            below = w.below;
            above = w.above;
            same_length = w.same_length;
            short = omega (arith, w.short, p.forward);
            inside = p.inside;
          }

      pub weighing-stop : entries_at K s at ≡ [] → s ≡ segment_of area S i → length s ≤ 2048 → Weighed K W area notes S i shares₀ shares total
      weighing-stop e own few =
          record {
            row = λ j l. omega (arith, w.row j l, from-stop s at j e, whole j);
            below = w.below;
            above = w.above;
            same_length = w.same_length;
            small = omega (arith, w.short, w.inside);
          }
        where
          whole : (j : ℕ) → weight_from s (digest_size K) j ≡ weight_read K W area notes S i j
          whole j = ap (λ (t : List ℕ). weight_from t (digest_size K) j) own

-- ---- objects passed over

module _ (K : Layout) (s : List ℕ) (from : ℕ) where
  pub passed_start : from ≤ length s → Passed K s from from
  passed_start h = record { same = λ W notes S i j. refl; forward = omega arith; inside = h }

  pub passed-object : (at : ℕ) → Passed K s from at → {h : Header} → Meets K s at h → h.tombstone ≡ false → (n : ℕ) → h.length ≡ n →
      Passed K s from (at + n)
  unfolding share_kept
  passed-object at w {h} m t n e =
      subst (λ (k : ℕ). Passed K s from (at + k)) e
      (record {
        same =
            λ W notes S i j.
            w.same W notes S i j
            ∙ from-entry K W [] notes S i s at j m
            ∙ ap (λ (k : ℕ). k + weight_from K W [] notes S i s (at + h.length) j) (none W notes S i j)
            ∙ zero-add _;
        forward = omega (arith, w.forward);
        inside = m.fits;
      })
    where
      none : (W : Layout) (notes : List ℕ) (S i j : ℕ) → weight_at notes j (header_of W m.met) (i * S + at) ≡ 0
      none W notes S i j =
          ap (λ (x : Share). pick (share_kept x j) (size_of W m.met) 0) (sym (share-object notes (header_of W m.met) (i * S + at) (met-tombstone K W s at m t)))
          ∙ pick-false false (size_of W m.met) 0 refl

-- ---- the slots

-- of tombstones no more is kept than there is
tombstones-most : (K W : Layout) (notes : List ℕ) (S i j : ℕ) (is : List Item) → weight_of W notes S j (placed_in K i is) ≤ tombstones_of W is
unfolding weight_of tombstones_of placed_in share_at share_kept pick
tombstones-most K W notes S i j [] = omega arith
tombstones-most K W notes S i j (x ∷ xs) = omega (arith, tombstones-most K W notes S i j xs, one (is_tombstone x.entry))
  where
    share : Share
    share = note_share (get_or notes (spot_of (i * S + x.offset)) 0)

    at : (b : Bool) → pick b (size_of W x.entry) 0 ≤ size_of W x.entry
    at true = omega arith
    at false = omega arith

    one : (t : Bool) → pick (share_kept (pick t share Share.Nothing) j) (size_of W x.entry) 0 ≤ pick t (size_of W x.entry) 0
    one true = at (share_kept share j)
    one false = omega arith

module _ (W : Layout) (area cells notes : List ℕ) (split : Split) where
  pub rows_start : (totals : List ℕ) → ObjectsCounted W area cells split split.slots totals → Rows W area cells notes split 0 totals (replicate 1024 0)
  rows_start totals w =
      record {
        rows = λ i l. absurd (omega arith);
        rest = λ i l. w.counted i;
        few = λ i l. w.few i;
        clear = λ k h. zeros 1024 k;
        shares-long = length-replicate {A = ℕ} 1024 0;
        totals-long = w.totals-long;
      }

  module _ (n : ℕ) (totals shares : List ℕ) (w : Rows W area cells notes split n totals shares) where
    pub rows-skip : named split.outside n ≡ false → Rows W area cells notes split (n + 1) totals shares
    rows-skip e =
        record {
          rows = λ i l p. go i l p (ℕ_discrete i n);
          rest = λ i l. w.rest i (omega arith);
          few = λ i l. w.few i (omega arith);
          clear = λ k h. w.clear k (omega arith);
          shares-long = w.shares-long;
          totals-long = w.totals-long;
        }
      where
        go : (i : ℕ) → i < n + 1 → named split.outside i ≡ true → Dec (i ≡ n) → (j : ℕ) → j < 32 →
            get_or shares (i * 32 + j) 0 + slot_weight W area cells notes split.size i j ≡ get_or totals i 0
        go i l p (yes q) = absurd (clash (named split.outside i) p (ap (named split.outside) q ∙ e))
        go i l p (no q) = w.rows i (omega arith) p

    -- a slot without tombstones
    pub rows_none : n < split.slots → named split.outside n ≡ true → tombstones_in W area split.size n ≡ 0 → Rows W area cells notes split (n + 1) totals shares
    rows_none below is none =
        record {
          rows = λ i l p. go i l p (ℕ_discrete i n);
          rest = λ i l. w.rest i (omega arith);
          few = λ i l. w.few i (omega arith);
          clear = λ k h. w.clear k (omega arith);
          shares-long = w.shares-long;
          totals-long = w.totals-long;
        }
      where
        own : (j : ℕ) → get_or shares (n * 32 + j) 0 + slot_weight W area cells notes split.size n j ≡ get_or totals n 0
        own j =
            omega (
              arith,
              w.clear (n * 32 + j) (omega arith),
              w.rest n (omega arith) below is,
              none,
              tombstones-most (slot_layout area split.size n) W notes split.size n j (slot_items area split.size n),
            )

        go : (i : ℕ) → i < n + 1 → named split.outside i ≡ true → Dec (i ≡ n) → (j : ℕ) → j < 32 →
            get_or shares (i * 32 + j) 0 + slot_weight W area cells notes split.size i j ≡ get_or totals i 0
        go i l p (yes q) j b = subst (λ (m : ℕ). get_or shares (m * 32 + j) 0 + slot_weight W area cells notes split.size m j ≡ get_or totals m 0) (sym q) (own j)
        go i l p (no q) j b = w.rows i (omega arith) p j b

    -- K is the slot's own edition
    pub rows_more : n < 32 → n < split.slots → named split.outside n ≡ true → (shares' : List ℕ) (total : ℕ) (K : Layout) →
        K ≡ slot_layout area split.size n → Weighed K W area notes split.size n shares shares' total →
        Rows W area cells notes split (n + 1) (set totals n (get_or totals n 0 + total)) shares'
    rows_more low below is shares' total K its h =
        record {
          rows = λ i l p. go i l p (ℕ_discrete i n);
          rest = λ i l b p. other i (λ q. omega arith) ∙ w.rest i (omega arith) b p;
          few = λ i l. omega (arith, other i (λ q. omega arith), w.few i (omega arith));
          clear = λ k b. h.above k (omega arith) ∙ w.clear k (omega arith);
          shares-long = h.same_length ∙ w.shares-long;
          totals-long = length-set totals n sum ∙ w.totals-long;
        }
      where
        sum : ℕ
        sum = get_or totals n 0 + total

        other : (i : ℕ) → (i ≡ n → ⊥) → get_or (set totals n sum) i 0 ≡ get_or totals i 0
        other i q = get_or-set_other totals n i sum 0 q

        own : (j : ℕ) → j < 32 → get_or shares' (n * 32 + j) 0 + slot_weight W area cells notes split.size n j ≡ sum
        own j b =
            omega (arith, h.row j b, ap (λ (M : Layout). weight_read M W area notes split.size n j) its, w.rest n (omega arith) below is)

        go : (i : ℕ) → i < n + 1 → named split.outside i ≡ true → Dec (i ≡ n) → (j : ℕ) → j < 32 →
            get_or shares' (i * 32 + j) 0 + slot_weight W area cells notes split.size i j ≡ get_or (set totals n sum) i 0
        go i l p (yes q) j b =
            ap (λ (m : ℕ). get_or shares' (m * 32 + j) 0 + slot_weight W area cells notes split.size m j) q
            ∙ own j b
            ∙ sym (get_or-set_same totals n sum 0 (omega (arith, w.totals-long)))
            ∙ ap (λ (m : ℕ). get_or (set totals n sum) m 0) (sym q)
        go i l p (no q) j b =
            let l' : i < n = omega arith in
            ap (λ (m : ℕ). m + slot_weight W area cells notes split.size i j) (h.below (i * 32 + j) (omega (arith, l', b)))
            ∙ w.rows i l' p j b
            ∙ sym (other i q)

-- ---- the test of a pair

module _ (totals shares : List ℕ) (split : Split) (digest i j : ℕ) where
  pub fits-order : j ≤ i → false ≡ both (ltb i j) (numbers_fit totals shares split digest i j)
  fits-order h = sym (both-false-left (ltb i j) _ (le-ltb i j h))

  module _ (apart : i < j) where
    in_order : {t : Bool} → t ≡ numbers_fit totals shares split digest i j → t ≡ both (ltb i j) (numbers_fit totals shares split digest i j)
    unfolding both
    in_order e = rw (lt-ltb i j apart) e

    pub fits-first : named split.outside i ≡ false → false ≡ both (ltb i j) (numbers_fit totals shares split digest i j)
    unfolding numbers_fit
    fits-first e = in_order (sym (both-false-left _ _ (both-false-left _ _ e)))

    pub fits-second : named split.outside j ≡ false → false ≡ both (ltb i j) (numbers_fit totals shares split digest i j)
    unfolding numbers_fit
    fits-second e = in_order (sym (both-false-left _ _ (both-false-right _ _ e)))

    pub fits_both : named split.outside i ≡ true → named split.outside j ≡ true → {t : Bool} →
        t ≡ leb (digest + get_or totals i 0 + get_or totals j 0) (split.size + get_or shares (i * 32 + j) 0 + get_or shares (j * 32 + i) 0) →
        t ≡ both (ltb i j) (numbers_fit totals shares split digest i j)
    unfolding numbers_fit both
    fits_both p q e = in_order (rw (p, q) e)

-- by the numbers it is the test by what is kept
pub fits-same : (W : Layout) (area cells notes : List ℕ) (split : Split) (n : ℕ) (totals shares : List ℕ) → n ≤ 32 →
    Rows W area cells notes split n totals shares → (i j : ℕ) → i < j → j < n →
    numbers_fit totals shares split (digest_size W) i j ≡ weights_fit W area cells notes split i j
unfolding numbers_fit weights_fit
fits-same W area cells notes split n totals shares few w i j apart below = go (named split.outside i) refl (named split.outside j) refl
  where
    sums : ℕ
    sums = slot_weight W area cells notes split.size i j + slot_weight W area cells notes split.size j i

    test : named split.outside i ≡ true → named split.outside j ≡ true →
        leb (digest_size W + get_or totals i 0 + get_or totals j 0) (split.size + get_or shares (i * 32 + j) 0 + get_or shares (j * 32 + i) 0)
        ≡ leb (digest_size W + sums) split.size
    test p q = at (leb (digest_size W + sums) split.size) refl
      where
        a : get_or shares (i * 32 + j) 0 + slot_weight W area cells notes split.size i j ≡ get_or totals i 0
        a = w.rows i (omega arith) p j (omega arith)

        b : get_or shares (j * 32 + i) 0 + slot_weight W area cells notes split.size j i ≡ get_or totals j 0
        b = w.rows j below q i (omega arith)

        need : ℕ
        need = digest_size W + get_or totals i 0 + get_or totals j 0

        room : ℕ
        room = split.size + get_or shares (i * 32 + j) 0 + get_or shares (j * 32 + i) 0

        at : (t : Bool) → leb (digest_size W + sums) split.size ≡ t →
            leb (digest_size W + get_or totals i 0 + get_or totals j 0) (split.size + get_or shares (i * 32 + j) 0 + get_or shares (j * 32 + i) 0) ≡ t
        at true e = le-leb need room (omega (arith, a, b, leb-true (digest_size W + sums) split.size e))
        at false e = lt-leb need room (omega (arith, a, b, leb-false (digest_size W + sums) split.size e))

    go : (p : Bool) → named split.outside i ≡ p → (q : Bool) → named split.outside j ≡ q →
        both (both (named split.outside i) (named split.outside j))
        (leb (digest_size W + get_or totals i 0 + get_or totals j 0) (split.size + get_or shares (i * 32 + j) 0 + get_or shares (j * 32 + i) 0))
        ≡ both (both (named split.outside i) (named split.outside j)) (leb (digest_size W + sums) split.size)
    go true p true q = ap (both (both (named split.outside i) (named split.outside j))) (test p q)
    go true p false q = both-false-left _ _ (both-false-right _ _ q) ∙ sym (both-false-left _ _ (both-false-right _ _ q))
    go false p b q = both-false-left _ _ (both-false-left _ _ p) ∙ sym (both-false-left _ _ (both-false-left _ _ p))
