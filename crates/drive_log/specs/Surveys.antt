-- What a walk of the log tells: damage, the highest version, and whether the filter tells all versions apart.
use Rattle.std.specs.Prelude.{ℕ, ◌+◌, ◌≤◌, ◌<◌, max, ◌≡◌, Bool, length, ltb, cond}
use Rattle.std.proofs.Math.Path.{refl, sym, ap, subst}
use Rattle.std.proofs.Common.{◌∙◌, ap₂, arith}
use Rattle.std.proofs.Math.Bool.{true, false}
use mathlib.Core.List.{List, [], ◌∷◌, ◌++◌, append-nil, append_assoc}
use Rattle.std.proofs.Math.Decide.{dec_le}
use Rattle.std.proofs.Math.Dec.{eqb}
use borrow.Author.Tests.{eqb-true, ltb-true, ltb-false}
use Rattle.std.specs.Ordering.{is_lt, nat_cmp}
use Rattle.std.specs.Prelude as P
use Rattle.drive_log.specs.Heads.{lt-tested}
use Rattle.drive_log.specs.declared.Passed.{Passed}
use Rattle.segment.specs.declared.Version.{Version}
use Rattle.segment.specs.Choice.{pick}
use Rattle.segment.proofs.Choice.{both-false-left, both-false-right}
use Rattle.segment.specs.Layout.{Layout, digest_size}
use Rattle.segment.specs.Entry.{end, damage, entry_at}
use Rattle.model.specs.Log.{View, Item, Placed, Scan, damaged, scanned, item_first, scan, items_of, is_damaged, placed_in, log_of, highest, version_shared}
use Rattle.model.specs.Recovery.{log_damaged}
use Rattle.laws.specs.Members.{clash, total}
use Rattle.laws.specs.Scans.{item_at}
use Rattle.laws.specs.LogLaws.{placed_at, placed-append}
use Rattle.laws.specs.Versions.{counted, count, count-shared, highest-append}
use Rattle.drive_log.specs.Extents.{Meets, rest_of, rest-whole, rest-entry, rest_end, rest-damage, log-take, log-skip, sound-slot, damaged-slot}
use Rattle.drive_log.specs.Filter.{is_marked, marked_with, length_marked, mark-own, mark-keeps, count-more}

-- What a walk answers for the log that it passed, none for damage: whether that is undamaged, its highest version, and whether its
-- versions are apart.
unfoldable pub is_sound : P.Option Passed → Bool
is_sound P.None = false
is_sound (P.Some p) = true

unfoldable pub highest_in : P.Option Passed → ℕ
highest_in P.None = 0
highest_in (P.Some p) = p.highest.0

unfoldable pub apart_in : P.Option Passed → Bool
apart_in P.None = false
apart_in (P.Some p) = p.apart

-- What has been passed: its highest version, and, as long as the versions are apart, none stands twice and the bit of each is set.
pub record Told (log : List Placed) (top : ℕ) (apart : Bool) (filter : List ℕ) : Type 0 where
  pub highest-is : top ≡ highest log
  pub size : length filter ≡ 512
  pub once : apart ≡ true → (v : ℕ) → count v log ≤ 1
  pub marks : apart ≡ true → (v : ℕ) → 1 ≤ count v log → is_marked filter v ≡ true

pub told_none : (v : ℕ → View) (p : ℕ → Bool) (filter : List ℕ) → length filter ≡ 512 → Told (log_of v p 0) 0 true filter
unfolding log_of highest total
told_none v p filter size =
    record { highest-is = refl; size = size; once = λ e u. omega arith; marks = λ e u h. absurd (omega arith) }

-- What it means that the version w is marked as long as those before are apart, with the answer still: they are apart with it
-- only if they were and its bit was not set.
pub record MarkedApart (filter : List ℕ) (w : ℕ) (apart still : Bool) (filter₁ : List ℕ) : Type 0 where
  pub size : length filter₁ ≡ length filter
  pub was : still ≡ true → apart ≡ true
  pub unset : still ≡ true → is_marked filter w ≡ false
  pub marked : still ≡ true → filter₁ ≡ marked_with filter w

module _ (filter : List ℕ) (w : ℕ) (apart : Bool) (r : Bool) (was-set : r ≡ is_marked filter w) (filter₁ : List ℕ) (now-set : filter₁ ≡ marked_with filter w) where
  pub apart-lost : MarkedApart filter w apart false filter₁
  apart-lost =
      record {
        size = ap length now-set ∙ length_marked filter w;
        was = λ q. absurd (clash false q refl);
        unset = λ q. absurd (clash false q refl);
        marked = λ q. absurd (clash false q refl);
      }

  pub apart-kept : r ≡ false → MarkedApart filter w apart apart filter₁
  apart-kept e =
      record {
        size = ap length now-set ∙ length_marked filter w;
        was = λ q. q;
        unset = λ q. sym was-set ∙ e;
        marked = λ q. now-set;
      }

-- one entry more
module _ (log : List Placed) (x : Placed) (top : ℕ) (apart : Bool) (filter : List ℕ) (so_far : Told log top apart filter) where
  module _ (w : ℕ) (its : x.entry.version ≡ w) where
    -- only an entry of that version adds to its count
    its-count : (u : ℕ) (t : Bool) → eqb x.entry.version u ≡ t → counted u x.entry ≡ pick t 1 0
    unfolding counted
    its-count u t e = ap (λ (b : Bool). pick b 1 0) e

    fresh : is_marked filter w ≡ false → apart ≡ true → Dec (1 ≤ count w log) → count w log ≡ 0
    fresh unset a (yes l) = absurd (clash (is_marked filter w) (so_far.marks a w l) unset)
    fresh unset a (no l) = omega arith

    once_more : is_marked filter w ≡ false → apart ≡ true → (u : ℕ) → count u (log ++ (x ∷ [])) ≤ 1
    unfolding pick
    once_more unset a u = go (eqb x.entry.version u) refl
      where
        go : (t : Bool) → eqb x.entry.version u ≡ t → count u (log ++ (x ∷ [])) ≤ 1
        go true e =
            let same : w ≡ u = sym its ∙ eqb-true x.entry.version u e in
            omega (arith, count-more log x u, its-count u true e, ap (λ (k : ℕ). count k log) same, fresh unset a (dec_le 1 (count w log)))
        go false e = omega (arith, count-more log x u, its-count u false e, so_far.once a u)

    marks-more : apart ≡ true → (u : ℕ) → 1 ≤ count u (log ++ (x ∷ [])) → is_marked (marked_with filter w) u ≡ true
    unfolding pick
    marks-more a u l = go (eqb x.entry.version u) refl
      where
        go : (t : Bool) → eqb x.entry.version u ≡ t → is_marked (marked_with filter w) u ≡ true
        go true e =
            let same : w ≡ u = sym its ∙ eqb-true x.entry.version u e in
            ap (is_marked (marked_with filter w)) (sym same) ∙ mark-own filter so_far.size w
        go false e = mark-keeps filter so_far.size w u (so_far.marks a u (omega (arith, count-more log x u, its-count u false e)))

    pub told_more : (top₁ : ℕ) → top₁ ≡ max top w → (apart₁ : Bool) (filter₁ : List ℕ) → MarkedApart filter w apart apart₁ filter₁
        → Told (log ++ (x ∷ [])) top₁ apart₁ filter₁
    unfolding highest
    told_more top₁ t apart₁ filter₁ a =
        record {
          highest-is = omega (arith, t, its, so_far.highest-is, highest-append log (x ∷ []));
          size = a.size ∙ so_far.size;
          once = λ e. once_more (a.unset e) (a.was e);
          marks = λ e u l. ap (λ (g : List ℕ). is_marked g u) (a.marked e) ∙ marks-more (a.was e) u l;
        }

-- the higher of two versions
pub higher_is : (a b : Version) → (cond (is_lt (nat_cmp b.0 a.0)) a b).0 ≡ max a.0 b.0
higher_is a b = go (is_lt (nat_cmp b.0 a.0)) (lt-tested b.0 a.0)
  where
    go : (t : Bool) → t ≡ ltb b.0 a.0 → (cond t a b).0 ≡ max a.0 b.0
    go true e = omega (arith, ltb-true b.0 a.0 (sym e))
    go false e = omega (arith, ltb-false b.0 a.0 (sym e))

-- ---- the entries of one slot

-- a scan after some items
unfoldable pub after : List Item → Scan → Scan
after is damaged = damaged
after is (scanned js e) = scanned (is ++ js) e

pub after_none : (r : Scan) → after [] r ≡ r
unfolding after
after_none damaged = refl
after_none (scanned js e) = refl

pub after_first : (is : List Item) (x : Item) (r : Scan) → after is (item_first x r) ≡ after (is ++ (x ∷ [])) r
unfolding after item_first
after_first is x damaged = refl
after_first is x (scanned js e) = ap (λ (l : List Item). scanned l e) (sym (append_assoc is (x ∷ []) js))

-- What the answer after the segment s means: where it is undamaged, the same is told with its entries as was told before, whatever log
-- stands before it.
pub record PartTold (L : Layout) (s : List ℕ) (top₀ : ℕ) (apart₀ : Bool) (filter₀ : List ℕ) (sound : Bool) (top : ℕ) (apart : Bool) (filter : List ℕ) : Type 0 where
  pub damage : sound ≡ false → is_damaged (scan L s) ≡ true
  pub undamaged : sound ≡ true → is_damaged (scan L s) ≡ false
  pub told : sound ≡ true → (i : ℕ) (before : List Placed) → Told before top₀ apart₀ filter₀ → Told (before ++ placed_in L i (items_of (scan L s))) top apart filter

-- Between two of its entries.
pub record Telling (L : Layout) (s : List ℕ) (top₀ : ℕ) (apart₀ : Bool) (filter₀ : List ℕ) (at top : ℕ) (apart : Bool) (filter : List ℕ) : Type 0 where
  pub size : length filter ≡ 512
  pub items : List Item
  pub splits : scan L s ≡ after items (rest_of L s at)
  pub told : (i : ℕ) (before : List Placed) → Told before top₀ apart₀ filter₀ → Told (before ++ placed_in L i items) top apart filter

module _ (L : Layout) (s : List ℕ) (top₀ : ℕ) (apart₀ : Bool) (filter₀ : List ℕ) where
  pub telling-start : length filter₀ ≡ 512 → Telling L s top₀ apart₀ filter₀ (digest_size L) top₀ apart₀ filter₀
  unfolding placed_in
  telling-start size =
      record {
        size = size;
        items = [];
        splits = sym (after_none (rest_of L s (digest_size L)) ∙ rest-whole L s);
        told = λ i before h. subst (λ (l : List Placed). Told l top₀ apart₀ filter₀) (sym (append-nil before)) h;
      }

  module _ (at top : ℕ) (apart : Bool) (filter : List ℕ) (so_far : Telling L s top₀ apart₀ filter₀ at top apart filter) where
    pub telling-turn : {w len : ℕ} → Meets L s at w len → (top₁ : ℕ) → top₁ ≡ max top w → (apart₁ : Bool) (filter₁ : List ℕ)
        → MarkedApart filter w apart apart₁ filter₁ → Telling L s top₀ apart₀ filter₀ (at + len) top₁ apart₁ filter₁
    unfolding placed_in
    telling-turn {w} {len} m top₁ t apart₁ filter₁ a =
        record {
          size = a.size ∙ so_far.size;
          items = so_far.items ++ (item_at at m.met ∷ []);
          splits =
              so_far.splits ∙ ap (after so_far.items) (rest-entry L s at m)
              ∙ after_first so_far.items (item_at at m.met) (rest_of L s (at + len));
          told =
              λ i before h.
              subst (λ (l : List Placed). Told l top₁ apart₁ filter₁) (sym (longer i before))
              (told_more (before ++ placed_in L i so_far.items) (placed_at L i (item_at at m.met)) top apart filter (so_far.told i before h) w
              m.its-version top₁ t apart₁ filter₁ a);
        }
      where
        longer : (i : ℕ) (before : List Placed) → before ++ placed_in L i (so_far.items ++ (item_at at m.met ∷ []))
            ≡ (before ++ placed_in L i so_far.items) ++ (placed_at L i (item_at at m.met) ∷ [])
        longer i before =
            ap (λ (l : List Placed). before ++ l) (placed-append L i so_far.items (item_at at m.met ∷ []))
            ∙ sym (append_assoc before (placed_in L i so_far.items) (placed_at L i (item_at at m.met) ∷ []))

    pub telling-end : entry_at L s at ≡ end → PartTold L s top₀ apart₀ filter₀ true top apart filter
    unfolding after is_damaged items_of
    telling-end e =
        record {
          damage = λ q. absurd (clash true refl q);
          undamaged = λ q. ap is_damaged whole;
          told =
              λ q i before h.
              subst (λ (r : Scan). Told (before ++ placed_in L i (items_of r)) top apart filter) (sym whole) (so_far.told i before h);
        }
      where
        whole : scan L s ≡ scanned so_far.items at
        whole =
            so_far.splits ∙ ap (after so_far.items) (rest_end L s at e)
            ∙ ap (λ (l : List Item). scanned l at) (append-nil so_far.items)

    -- whatever is said beside it of the highest version and of versions that are apart
    pub telling-damage : {top₁ : ℕ} {apart₁ : Bool} → entry_at L s at ≡ damage → PartTold L s top₀ apart₀ filter₀ false top₁ apart₁ filter
    unfolding after is_damaged
    telling-damage e =
        record {
          damage = λ q. ap is_damaged (so_far.splits ∙ ap (after so_far.items) (rest-damage L s at e));
          undamaged = λ q. absurd (clash false q refl);
          told = λ q. absurd (clash false q refl);
        }

-- What the answer after the slot i of a log means.
pub record SlotTold (v : ℕ → View) (p : ℕ → Bool) (i : ℕ) (sound : Bool) (top : ℕ) (apart : Bool) (filter : List ℕ) : Type 0 where
  pub damage : sound ≡ false → is_damaged (v i).scan ≡ true
  pub undamaged : sound ≡ true → is_damaged (v i).scan ≡ false
  pub told : sound ≡ true → Told (log_of v p (i + 1)) top apart filter

-- the answer after its bytes is one, where the slots before it were told
pub slot-told : (v : ℕ → View) (p : ℕ → Bool) (i : ℕ) (L : Layout) (s : List ℕ) → (v i).layout ≡ L → (v i).scan ≡ scan L s → p i ≡ true
    → (top₀ : ℕ) (apart₀ : Bool) (filter₀ : List ℕ) → Told (log_of v p i) top₀ apart₀ filter₀
    → (sound : Bool) (top : ℕ) (apart : Bool) (filter : List ℕ) → PartTold L s top₀ apart₀ filter₀ sound top apart filter
    → SlotTold v p i sound top apart filter
slot-told v p i L s of own picked top₀ apart₀ filter₀ before sound top apart filter part =
    record {
      damage = λ q. ap is_damaged own ∙ part.damage q;
      undamaged = λ q. ap is_damaged own ∙ part.undamaged q;
      told = λ q. subst (λ (l : List Placed). Told l top apart filter) (sym all) (part.told q i (log_of v p i) before);
    }
  where
    all : log_of v p (i + 1) ≡ log_of v p i ++ placed_in L i (items_of (scan L s))
    all = log-take v p i picked ∙ ap₂ (λ (K : Layout) (r : Scan). log_of v p i ++ placed_in K i (items_of r)) of own

-- ---- the log

-- What the survey of the log means.
pub record Surveyed (v : ℕ → View) (p : ℕ → Bool) (n : ℕ) (sound : Bool) (top : ℕ) (apart : Bool) : Type 0 where
  pub damage : sound ≡ false → log_damaged v p n ≡ true
  pub undamaged : sound ≡ true → log_damaged v p n ≡ false
  pub highest-is : sound ≡ true → top ≡ highest (log_of v p n)
  pub unshared : sound ≡ true → apart ≡ true → version_shared (log_of v p n) ≡ false

-- The slots below i that p picks are undamaged, and this was told of them.
pub record Surveying (v : ℕ → View) (p : ℕ → Bool) (i : ℕ) (sound : Bool) (top : ℕ) (apart : Bool) (filter : List ℕ) : Type 0 where
  pub is-sound : sound ≡ true
  pub undamaged : log_damaged v p i ≡ false
  pub told : Told (log_of v p i) top apart filter

pub survey-none : (v : ℕ → View) (p : ℕ → Bool) (filter : List ℕ) → length filter ≡ 512 → Surveying v p 0 true 0 true filter
unfolding log_damaged
survey-none v p filter size = record { is-sound = refl; undamaged = refl; told = told_none v p filter size }

-- what is told of a slot, by the answer for it
told-slot : (v : ℕ → View) (p : ℕ → Bool) (i : ℕ) (filter : List ℕ) → P.Option Passed → Type 0
told-slot v p i filter r = SlotTold v p i (is_sound r) (highest_in r) (apart_in r) filter

module _ (v : ℕ → View) (p : ℕ → Bool) (i : ℕ) (sound : Bool) (top : ℕ) (apart : Bool) (filter : List ℕ) (so_far : Surveying v p i sound top apart filter) where
  pub survey-skip : p i ≡ false → Surveying v p (i + 1) sound top apart filter
  survey-skip q =
      record {
        is-sound = so_far.is-sound;
        undamaged = sound-slot v p i (both-false-left (p i) (is_damaged (v i).scan) q) so_far.undamaged;
        told = subst (λ (l : List Placed). Told l top apart filter) (sym (log-skip v p i q)) so_far.told;
      }

  pub survey-take : (sound₁ : Bool) (top₁ : ℕ) (apart₁ : Bool) (filter₁ : List ℕ) → SlotTold v p i sound₁ top₁ apart₁ filter₁ → sound₁ ≡ true
      → Surveying v p (i + 1) sound₁ top₁ apart₁ filter₁
  survey-take sound₁ top₁ apart₁ filter₁ h e =
      record {
        is-sound = e;
        undamaged = sound-slot v p i (both-false-right (p i) (is_damaged (v i).scan) (h.undamaged e)) so_far.undamaged;
        told = h.told e;
      }

  -- the same where the answer for the slot is what it has passed
  pub passed-take : (r : P.Option Passed) (filter₁ : List ℕ) → SlotTold v p i (is_sound r) (highest_in r) (apart_in r) filter₁ → (q : Passed)
      → r ≡ P.Some q → Surveying v p (i + 1) true q.highest.0 q.apart filter₁
  unfolding is_sound highest_in apart_in told-slot
  passed-take r filter₁ h q e = survey-take true q.highest.0 q.apart filter₁ (subst (told-slot v p i filter₁) e h) refl

  pub survey-end : Surveyed v p i sound top apart
  survey-end =
      record {
        damage = λ e. absurd (clash sound so_far.is-sound e);
        undamaged = λ e. so_far.undamaged;
        highest-is = λ e. so_far.told.highest-is;
        unshared = λ e a. count-shared (log_of v p i) (so_far.told.once a);
      }

pub survey-damaged : (v : ℕ → View) (p : ℕ → Bool) (i n : ℕ) → i < n → p i ≡ true → (sound : Bool) (top : ℕ) (apart : Bool) (filter : List ℕ)
    → SlotTold v p i sound top apart filter → sound ≡ false → Surveyed v p n sound top apart
survey-damaged v p i n h q sound top apart filter told e =
    record {
      damage = λ f. damaged-slot v p i n h q (told.damage e);
      undamaged = λ f. absurd (clash sound f e);
      highest-is = λ f. absurd (clash sound f e);
      unshared = λ f a. absurd (clash sound f e);
    }

-- the same where the answer for the slot is none
pub none-damaged : (v : ℕ → View) (p : ℕ → Bool) (i n : ℕ) → i < n → p i ≡ true → (r : P.Option Passed) (filter : List ℕ)
    → SlotTold v p i (is_sound r) (highest_in r) (apart_in r) filter → r ≡ P.None → Surveyed v p n false 0 false
unfolding is_sound highest_in apart_in told-slot
none-damaged v p i n h q r filter told e = survey-damaged v p i n h q false 0 false filter (subst (told-slot v p i filter) e told) refl
