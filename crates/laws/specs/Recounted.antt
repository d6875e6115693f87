-- 02, R-5: what a cleaning, also one that deletes, does to the present bytes of the slots, and that they fit a segment.
use Rattle.std.specs.Prelude.{ℕ, zero, suc, ◌+◌, ◌-◌, ◌<◌, ◌≡◌, Bool, not, List, [], ◌∷◌, ◌++◌, eqb, length, get_or}
use Rattle.std.proofs.Math.Path.{refl, sym, ap}
use Rattle.std.proofs.Common.{◌∙◌, ap₂, zero-add, length-set, get_or-set_same, get_or-set_other, eq-eqb, ne_eqb}
use Rattle.std.proofs.Math.Bool.{true, false}
use mathlib.Core.List.Memᴰ
use Rattle.std.proofs.Math.Option.{Option, none, some}
use Rattle.std.proofs.Math.Decide.{ℕ_discrete}
use native.Mathlib.Omega.{arith}
use Rattle.segment.specs.Choice.{pick}
use Rattle.segment.proofs.Choice.{pick_true, pick-false}
use Rattle.segment.specs.Layout.{Layout}
use Rattle.segment.specs.Entry.{Entry, key_of, is_tombstone, size_of}
use Rattle.slot_map.specs.Bit.{named}
use Rattle.model.specs.Log.{Placed, is_version, object_only, present, version_shared, placed_size}
use Rattle.model.specs.Counts.{is_present, present_size, counts_of, object_size, object_bytes, without_victims, renewed_counts}
use Rattle.model.specs.Operations.{is_highest, is_kept, kept, placed_from}
use Rattle.laws.specs.Members.{clash, In, first, entry_of, those, those-in, total}
use Rattle.laws.specs.Latest.{found, latest-unique}
use Rattle.laws.specs.Versions.{shared-apart}
use Rattle.laws.specs.MapLaws.{outside, outside-in, kept-those, kept-highest, highest-newest, Cleaned, log-clean}
use Rattle.laws.specs.LogLaws.{OnePart}
use Rattle.laws.specs.Counted.{slot_total, slot-total-cons, slot-total-append, slot-total-same, slot-total-none, length-tally, tally-at, counts-are, present-same}

-- ---- the numbers without those of the victims

pub length_without : (victims i : ℕ) (c : List ℕ) → length (without_victims victims i c) ≡ length c
unfolding without_victims
length_without victims i [] = refl
length_without victims i (n ∷ c) = rw (length_without victims (suc i) c)

pub without_at : (victims i j : ℕ) (c : List ℕ) → j < length c → get_or (without_victims victims i c) j 0 ≡ pick (named victims (i + j)) 0 (get_or c j 0)
unfolding without_victims
without_at victims i j [] l = absurd (omega arith)
without_at victims i zero (n ∷ c) l = ap (λ (k : ℕ). pick (named victims k) 0 n) (omega arith)
without_at victims i (suc j) (n ∷ c) l =
    without_at victims (suc i) j c (omega arith) ∙ ap (λ (k : ℕ). pick (named victims k) 0 (get_or c j 0)) (omega arith)

-- ---- sums over what is left and over what has moved

-- a slot that is no victim's has all its members outside the victims
pub outside-total : (f : Placed → ℕ) (victims i : ℕ) (xs : List Placed) → named victims i ≡ false → slot_total f i (outside victims xs) ≡ slot_total f i xs
unfolding those
outside-total f victims i [] e = refl
outside-total f victims i (x ∷ xs) e = go (named victims x.slot) refl (outside-total f victims i xs e)
  where
    goal : Bool → Type 0
    goal t = slot_total f i (pick (not t) (x ∷ outside victims xs) (outside victims xs)) ≡ slot_total f i (x ∷ xs)

    go : (t : Bool) → named victims x.slot ≡ t → slot_total f i (outside victims xs) ≡ slot_total f i xs → goal t
    go false p ih = unfold pick in
        slot-total-cons f i x (outside victims xs)
        ∙ ap (λ (n : ℕ). pick (eqb x.slot i) (f x) 0 + n) ih ∙ sym (slot-total-cons f i x xs)
    go true p ih = unfold pick in
        omega (
          arith,
          ih,
          slot-total-cons f i x xs,
          pick-false (eqb x.slot i) (f x) 0
              (ne_eqb x.slot i (λ d. clash (named victims i) (ap (named victims) (sym d) ∙ p) e)),
        )

-- entries that all come to one slot
pub moved-total : (L : Layout) (f : Layout → Entry → ℕ) (j i at : ℕ) (es : List Entry)
    → slot_total (λ (x : Placed). f x.layout x.entry) i (placed_from L j at es) ≡ pick (eqb j i) (total (f L) es) 0
unfolding placed_from those total
moved-total L f j i at [] = go (eqb j i)
  where
    go : (t : Bool) → ◌≡◌ {A = ℕ} 0 (pick t 0 0)
    go true = unfold pick in refl
    go false = unfold pick in refl
moved-total L f j i at (e ∷ es) =
    slot-total-cons (λ (x : Placed). f x.layout x.entry) i (record { slot = j; layout = L; offset = at; entry = e })
    (placed_from L j (at + size_of L e) es)
    ∙ ap (λ (n : ℕ). pick (eqb j i) (f L e) 0 + n) (moved-total L f j i (at + size_of L e) es) ∙ go (eqb j i)
  where
    go : (t : Bool) → pick t (f L e) 0 + pick t (total (f L) es) 0 ≡ pick t (f L e + total (f L) es) 0
    go true = unfold pick in refl
    go false = unfold pick in refl

total-same : (f g : Entry → ℕ) (es : List Entry) → ((e : Entry) → In e es → f e ≡ g e) → total f es ≡ total g es
unfolding total
total-same f g [] h = refl
total-same f g (e ∷ es) h = ap₂ (λ (m n : ℕ). m + n) (h e first) (total-same f g es (λ d m. h d (Memᴰ.tail m)))

objects-total : (L : Layout) (es : List Entry) → object_bytes L es ≡ total (object_size L) es
unfolding object_bytes total
objects-total L [] = refl
objects-total L (e ∷ es) = ap (λ (n : ℕ). object_size L e + n) (objects-total L es)

-- what an entry of a layout counts in a log
abbrev entry_size_in : List Placed → Layout → Entry → ℕ
entry_size_in log L e = pick (is_present log e) (size_of L e) 0

-- a key's highest version is present if it is an object
highest-size : (L : Layout) (log : List Placed) (x : Placed) → version_shared log ≡ false → In x log → is_highest log x.entry ≡ true
    → entry_size_in log L x.entry ≡ object_size L x.entry
unfolding present object_only
highest-size L log x apart m h =
    ap (λ (o : Option Placed). pick (is_version (object_only o) x.entry.version) (size_of L x.entry) 0)
    (latest-unique log (key_of x.entry) (some x) (shared-apart log apart) (found (highest-newest log x (shared-apart log apart) m h)))
    ∙ go (is_tombstone x.entry)
  where
    go : (t : Bool) → pick (is_version (pick t none (some x)) x.entry.version) (size_of L x.entry) 0 ≡ pick t 0 (size_of L x.entry)
    go true = unfold pick is_version in refl
    go false = unfold pick is_version in pick_true (eqb x.entry.version x.entry.version) (size_of L x.entry) 0 (eq-eqb x.entry.version x.entry.version refl)

-- ---- a cleaning by a log that stands for the store's

module _ (L : Layout) (victims j at : ℕ) (log stand after : List Placed)
    (c : Cleaned victims stand (placed_from L j at (kept victims stand)) after)
    (parts : OnePart [] (placed_from L j at (kept victims stand)) (outside victims log) after)
    (versions : version_shared stand ≡ false)
    (none-there : (y : Placed) → In y log → y.slot ≡ j → ⊥)
    (as_before : (y : Placed) → In y (outside victims log) → is_present stand y.entry ≡ is_present log y.entry) where
  -- every key has what it had
  still : (e : Entry) → is_present after e ≡ is_present stand e
  still e =
      present-same after stand e
      (log-clean victims stand (placed_from L j at (kept victims stand)) after c (shared-apart stand versions) (key_of e))

  kept-total : total (entry_size_in after L) (kept victims stand) ≡ object_bytes L (kept victims stand)
  kept-total =
      total-same (entry_size_in after L) (object_size L) (kept victims stand)
      (λ e m. ap (λ (t : Bool). pick t (size_of L e) 0) (still e) ∙ by-member e (entry_kept e m)) ∙ sym (objects-total L (kept victims stand))
    where
      entry_kept : (e : Entry) → In e (kept victims stand) → (x : Placed) × In x stand × (is_kept victims stand x ≡ true) × (x.entry ≡ e)
      entry_kept e m =
          let h = entry_of (those (is_kept victims stand) stand) e (rw (kept-those victims stand stand) at m) in
          let k = those-in (is_kept victims stand) stand h.0 h.1 in
          (h.0, k.0, k.1, h.2)

      by-member : (e : Entry) → (x : Placed) × In x stand × (is_kept victims stand x ≡ true) × (x.entry ≡ e) → entry_size_in stand L e ≡ object_size L e
      by-member e h =
          ap (entry_size_in stand L) (sym h.3)
          ∙ highest-size L stand h.0 versions h.1 (kept-highest victims stand h.0 h.2) ∙ ap (object_size L) h.3

  after-total : (i : ℕ) → slot_total (present_size after) i after ≡
      slot_total (present_size log) i (outside victims log) + pick (eqb j i) (object_bytes L (kept victims stand)) 0
  after-total i =
      omega (
        arith,
        ap (slot_total (present_size after) i) parts.new,
        ap (slot_total (present_size after) i) parts.old,
        slot-total-append (present_size after) i parts.before (placed_from L j at (kept victims stand) ++ parts.after),
        slot-total-append (present_size after) i (placed_from L j at (kept victims stand)) parts.after,
        slot-total-append (present_size after) i parts.before parts.after,
        moved-total L (entry_size_in after) j i at (kept victims stand),
        ap (λ (n : ℕ). pick (eqb j i) n 0) kept-total,
        slot-total-same (present_size after) (present_size log) i (outside victims log) (λ y m. ap (λ (t : Bool). pick t (placed_size y) 0) (still y.entry ∙ as_before y m)),
      )

  pub renewed-counts : counts_of after ≡ renewed_counts L victims j (kept victims stand) (counts_of log)
  renewed-counts =
      counts-are after (renewed_counts L victims j (kept victims stand) (counts_of log))
      (length-set (without_victims victims 0 (counts_of log)) j (object_bytes L (kept victims stand)) ∙ long)
      (λ i l. go i l (ℕ_discrete i j) (named victims i) refl)
    where
      long : length (without_victims victims 0 (counts_of log)) ≡ 32
      long = length_without victims 0 (counts_of log) ∙ length-tally log log

      goal : ℕ → Type 0
      goal i = get_or (renewed_counts L victims j (kept victims stand) (counts_of log)) i 0 ≡ slot_total (present_size after) i after

      go : (i : ℕ) → i < 32 → Dec (i ≡ j) → (t : Bool) → named victims i ≡ t → goal i
      go i l (yes e) t p =
          omega (
            arith,
            ap (λ (k : ℕ). get_or (renewed_counts L victims j (kept victims stand) (counts_of log)) k 0) e,
            get_or-set_same (without_victims victims 0 (counts_of log)) j (object_bytes L (kept victims stand)) 0 (omega (arith, long, e)),
            after-total i,
            pick_true (eqb j i) (object_bytes L (kept victims stand)) 0 (eq-eqb j i (sym e)),
            slot-total-none (present_size log) i (outside victims log) (λ y m d. none-there y (outside-in victims log y m).0 (d ∙ e)),
          )
      go i l (no e) true p =
          omega (
            arith,
            get_or-set_other (without_victims victims 0 (counts_of log)) j i (object_bytes L (kept victims stand)) 0 e,
            without_at victims 0 i (counts_of log) (omega (arith, length-tally log log)),
            pick_true (named victims (0 + i)) 0 (get_or (counts_of log) i 0) (ap (named victims) (zero-add i) ∙ p),
            after-total i,
            pick-false (eqb j i) (object_bytes L (kept victims stand)) 0 (ne_eqb j i (λ d. e (sym d))),
            slot-total-none (present_size log) i (outside victims log)
                (λ y m d. clash (named victims i) p (ap (named victims) (sym d) ∙ (outside-in victims log y m).1)),
          )
      go i l (no e) false p =
          omega (
            arith,
            get_or-set_other (without_victims victims 0 (counts_of log)) j i (object_bytes L (kept victims stand)) 0 e,
            without_at victims 0 i (counts_of log) (omega (arith, length-tally log log)),
            pick-false (named victims (0 + i)) 0 (get_or (counts_of log) i 0) (ap (named victims) (zero-add i) ∙ p),
            after-total i,
            pick-false (eqb j i) (object_bytes L (kept victims stand)) 0 (ne_eqb j i (λ d. e (sym d))),
            outside-total (present_size log) victims i log p,
            tally-at log i l log,
          )
