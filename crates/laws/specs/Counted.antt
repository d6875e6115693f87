-- 02, R-5: the present bytes of the slots as sums over the log, and what one entry more does to them.
use Rattle.std.specs.Prelude.{ℕ, zero, suc, ◌+◌, ◌-◌, ◌^◌, ◌≤◌, ◌<◌, ◌≡◌, Bool, List, [], ◌∷◌, ◌++◌, eqb, length, get_or}
use Rattle.std.proofs.Math.Path.{refl, ap}
use Rattle.std.proofs.Common.{sym, ◌∙◌, ap₂, append-nil, get_or-set_same, get_or-set_other, ext_get_or}
use Rattle.std.proofs.Math.Bool.{true, false}
use mathlib.Core.List.Memᴰ
use Rattle.std.proofs.Math.Option.{Option, none, some}
use Rattle.std.proofs.Math.Decide.{ℕ_discrete, dec_lt}
use native.Mathlib.Omega.{arith}
use Rattle.std.proofs.Math.ListN.{length-set, get_or-replicate, get_or-eq_default}
use Rattle.std.proofs.lemmas.List.{length-replicate}
use borrow.Author.Tests.{eq-eqb, ne_eqb, eqb-false}
use Rattle.segment.specs.Choice.{both, pick}
use Rattle.segment.proofs.Choice.{both_true, both-false-right, pick_true, pick-false, either-false-left, either-false-right}
use Rattle.segment.specs.Layout.{Layout}
use Rattle.segment.specs.Entry.{Entry, key_of, is_tombstone, encoded}
use Rattle.segment.proofs.EntryLaws.{length-encoded}
use Rattle.segment.specs.declared.Key.{Key}
use Rattle.slot_map.specs.Bit.{named}
use Rattle.slot_map.proofs.BitLaws.{bit-pow-same, set-named}
use Rattle.record.specs.Range.{counts_good}
use Rattle.record.specs.RangeLaws.{counts-true}
use Rattle.model.specs.Log.{View, Item, items_of, placed_in, log_of, Placed, placed_size, same_key, is_version, object_only, present, has_version, version_shared, highest}
use Rattle.model.specs.Operations.{all_encoded, replaced}
use Rattle.model.specs.Counts.{is_present, present_size, more_bytes, fewer_bytes, tally, counts_of, object_size, without_live, entry_counts}
use Rattle.laws.specs.Members.{clash, In, first, entries_of, those, total, total-append}
use Rattle.laws.specs.Latest.{same_key_lem, key-same, own_key, latest-some}
use Rattle.laws.specs.Versions.{shared-apart, below-highest}
use Rattle.laws.specs.MapLaws.{unplaced, value_at, gives, Above, value-added, outside, outside-in, in_slot, encoded-total}
use Rattle.laws.specs.Forgotten.{IsLive, present-live, forgotten-value}
use Rattle.laws.specs.Scans.{item_entries}
use Rattle.laws.specs.LogLaws.{part_of, part-picked, part-passed, no-parts, log-those, log-in, those-append, Entered, entered-added}

-- ---- numbers that are added to one of a list

pub length_more : (i n : ℕ) (c : List ℕ) → length (more_bytes i n c) ≡ length c
length_more i n c = length-set c i (get_or c i 0 + n)

pub more-at : (i j n : ℕ) (c : List ℕ) → j < length c → get_or (more_bytes i n c) j 0 ≡ get_or c j 0 + pick (eqb i j) n 0
more-at i j n c l = go (ℕ_discrete j i)
  where
    go : Dec (j ≡ i) → get_or (more_bytes i n c) j 0 ≡ get_or c j 0 + pick (eqb i j) n 0
    go (yes e) =
        ap (λ (k : ℕ). get_or (more_bytes i n c) k 0) e ∙ get_or-set_same c i (get_or c i 0 + n) 0 (omega arith)
        ∙ ap₂ (λ (k m : ℕ). get_or c k 0 + m) (sym e) (sym (pick_true (eqb i j) n 0 (eq-eqb i j (sym e))))
    go (no d) =
        get_or-set_other c i j (get_or c i 0 + n) 0 d
        ∙ omega (arith, pick-false (eqb i j) n 0 (ne_eqb i j (λ e. d (sym e))))

pub fewer-at : (i j n : ℕ) (c : List ℕ) → j < length c → get_or (fewer_bytes i n c) j 0 ≡ get_or c j 0 - pick (eqb i j) n 0
fewer-at i j n c l = go (ℕ_discrete j i)
  where
    go : Dec (j ≡ i) → get_or (fewer_bytes i n c) j 0 ≡ get_or c j 0 - pick (eqb i j) n 0
    go (yes e) =
        ap (λ (k : ℕ). get_or (fewer_bytes i n c) k 0) e ∙ get_or-set_same c i (get_or c i 0 - n) 0 (omega arith)
        ∙ ap₂ (λ (k m : ℕ). get_or c k 0 - m) (sym e) (sym (pick_true (eqb i j) n 0 (eq-eqb i j (sym e))))
    go (no d) =
        get_or-set_other c i j (get_or c i 0 - n) 0 d
        ∙ omega (arith, pick-false (eqb i j) n 0 (ne_eqb i j (λ e. d (sym e))))

-- fewer bytes are not more, in any slot
pub fewer-most : (i j n : ℕ) (c : List ℕ) → get_or (fewer_bytes i n c) j 0 ≤ get_or c j 0
fewer-most i j n c = go (dec_lt j (length c))
  where
    go : Dec (j < length c) → get_or (fewer_bytes i n c) j 0 ≤ get_or c j 0
    go (yes l) = omega (arith, fewer-at i j n c l)
    go (no l) =
        omega (
          arith,
          get_or-eq_default (fewer_bytes i n c) 0 {n = j} (omega (arith, length-set c i (get_or c i 0 - n))),
        )

-- ---- sums over the entries of one slot

-- the sum of a number for each entry in slot i
abbrev pub slot_total : (Placed → ℕ) → ℕ → List Placed → ℕ
slot_total f i log = total f (in_slot i log)

pub slot-total-cons : (f : Placed → ℕ) (i : ℕ) (x : Placed) (xs : List Placed)
    → slot_total f i (x ∷ xs) ≡ pick (eqb x.slot i) (f x) 0 + slot_total f i xs
unfolding those total pick
slot-total-cons f i x xs = go (eqb x.slot i)
  where
    go : (t : Bool) → total f (pick t (x ∷ in_slot i xs) (in_slot i xs)) ≡ pick t (f x) 0 + slot_total f i xs
    go true = omega arith
    go false = omega arith

pub slot-total-append : (f : Placed → ℕ) (i : ℕ) (a b : List Placed) → slot_total f i (a ++ b) ≡ slot_total f i a + slot_total f i b
slot-total-append f i a b =
    ap (total f) (those-append (λ x. eqb x.slot i) a b) ∙ total-append f (in_slot i a) (in_slot i b)

-- where each member adds the same, and where each adds a sum
pub slot-total-same : (f g : Placed → ℕ) (i : ℕ) (xs : List Placed) → ((x : Placed) → In x xs → f x ≡ g x)
    → slot_total f i xs ≡ slot_total g i xs
unfolding those total
slot-total-same f g i [] h = refl
slot-total-same f g i (x ∷ xs) h =
    slot-total-cons f i x xs
    ∙ ap₂ (λ (m k : ℕ). pick (eqb x.slot i) m 0 + k) (h x first) (slot-total-same f g i xs (λ y m. h y (Memᴰ.tail m)))
    ∙ sym (slot-total-cons g i x xs)

pick-sum : (t : Bool) (m n : ℕ) → pick t (m + n) 0 ≡ pick t m 0 + pick t n 0
unfolding pick
pick-sum true m n = refl
pick-sum false m n = refl

pub slot-total-sum : (f g : Placed → ℕ) (i : ℕ) (xs : List Placed) → slot_total (λ e. f e + g e) i xs ≡ slot_total f i xs + slot_total g i xs
unfolding those total
slot-total-sum f g i [] = refl
slot-total-sum f g i (x ∷ xs) =
    omega (
      arith,
      slot-total-cons (λ e. f e + g e) i x xs,
      slot-total-cons f i x xs,
      slot-total-cons g i x xs,
      pick-sum (eqb x.slot i) (f x) (g x),
      slot-total-sum f g i xs,
    )

pick-zero : (t : Bool) → ◌≡◌ {A = ℕ} (pick t 0 0) 0
unfolding pick
pick-zero true = refl
pick-zero false = refl

-- where no member adds anything
pub slot-total-zero : (f : Placed → ℕ) (i : ℕ) (xs : List Placed) → ((x : Placed) → In x xs → f x ≡ 0) → slot_total f i xs ≡ 0
unfolding those total pick
slot-total-zero f i [] h = refl
slot-total-zero f i (x ∷ xs) h =
    omega (
      arith,
      slot-total-cons f i x xs,
      ap (λ (n : ℕ). pick (eqb x.slot i) n 0) (h x first),
      pick-zero (eqb x.slot i),
      slot-total-zero f i xs (λ y m. h y (Memᴰ.tail m)),
    )

-- a slot that no member stands in
pub slot-total-none : (f : Placed → ℕ) (i : ℕ) (xs : List Placed) → ((x : Placed) → In x xs → x.slot ≡ i → ⊥) → slot_total f i xs ≡ 0
unfolding those total
slot-total-none f i [] h = refl
slot-total-none f i (x ∷ xs) h =
    omega (
      arith,
      slot-total-cons f i x xs,
      pick-false (eqb x.slot i) (f x) 0 (ne_eqb x.slot i (h x first)),
      slot-total-none f i xs (λ y m. h y (Memᴰ.tail m)),
    )

-- ---- the part of a log that one slot holds

pub entries-in : (L : Layout) (i : ℕ) (is : List Item) → entries_of (placed_in L i is) ≡ item_entries is
unfolding placed_in
entries-in L i [] = refl
entries-in L i (x ∷ xs) = ap (λ l. x.entry ∷ l) (entries-in L i xs)

-- a sum over the items of a slot, by the slot's own edition
items-total : (f : Layout → Entry → ℕ) (L : Layout) (i : ℕ) (is : List Item)
    → total (λ (x : Placed). f x.layout x.entry) (placed_in L i is) ≡ total (f L) (item_entries is)
unfolding placed_in total
items-total f L i [] = refl
items-total f L i (x ∷ xs) = ap (λ (n : ℕ). f L x.entry + n) (items-total f L i xs)

one-picked :
    (v : ℕ → View) (p : ℕ → Bool) (i n : ℕ) → i < n → p i ≡ true → ((j : ℕ) → (j ≡ i → ⊥) → p j ≡ false) →
    log_of v p n ≡ placed_in (v i).layout i (items_of (v i).scan)
unfolding log_of
one-picked v p i zero l q o = absurd (omega arith)
one-picked v p i (suc n) l q o = go (ℕ_discrete i n) (λ h. one-picked v p i n h q o)
  where
    go : Dec (i ≡ n) → (i < n → log_of v p n ≡ placed_in (v i).layout i (items_of (v i).scan)) → log_of v p n ++ part_of v p n ≡ placed_in (v i).layout i (items_of (v i).scan)
    go (yes e) ih =
        ap (λ (l : List Placed). l ++ part_of v p n) (no-parts v p n (λ j h. part-passed v p j (o j (λ z. omega arith)))) ∙
        ap (part_of v p) (sym e) ∙ part-picked v p i q
    go (no e) ih =
        ap (λ (l : List Placed). log_of v p n ++ l) (part-passed v p n (o n (λ z. e (sym z)))) ∙ append-nil (log_of v p n) ∙ ih (omega arith)

-- the part of a log in one of its slots is what the slot holds
pub slot-log : (v : ℕ → View) (map n i : ℕ) → i < n → named map i ≡ true → in_slot i (log_of v (named map) n) ≡ placed_in (v i).layout i (items_of (v i).scan)
slot-log v map n i l q =
    log-those v (named map) (λ j. eqb j i) n
    ∙ one-picked v (λ j. both (named map j) (eqb j i)) i n l (both_true _ _ q (eq-eqb i i refl)) (λ j o. both-false-right _ _ (ne_eqb j i o))

-- ---- what is counted is such a sum

pub length-tally : (log xs : List Placed) → length (tally log xs) ≡ 32
unfolding tally
length-tally log [] = length-replicate {A = ℕ} 32 0
length-tally log (x ∷ xs) = length_more x.slot (present_size log x) (tally log xs) ∙ length-tally log xs

pub tally-at : (log : List Placed) (i : ℕ) → i < 32 → (xs : List Placed) →
    get_or (tally log xs) i 0 ≡ slot_total (present_size log) i xs
unfolding tally
tally-at log i l [] = unfold those total in get_or-replicate 32 i 0 0 l
tally-at log i l (x ∷ xs) =
    let long = length-tally log xs in
    omega (
      arith,
      more-at x.slot i (present_size log x) (tally log xs) (omega arith),
      slot-total-cons (present_size log) i x xs,
      tally-at log i l xs,
    )

-- 32 numbers are what is counted of a log if each is its slot's sum
pub counts-are : (log : List Placed) (c : List ℕ) → length c ≡ 32
    → ((i : ℕ) → i < 32 → get_or c i 0 ≡ slot_total (present_size log) i log) → counts_of log ≡ c
counts-are log c long h =
    ext_get_or 0 (counts_of log) c (length-tally log log ∙ sym long)
    (λ i l. let m : i < 32 = omega (arith, length-tally log log) in tally-at log i m log ∙ sym (h i m))

-- ---- whether an entry is present goes by what its key has

unfoldable pub entry_version : Option Entry → ℕ → Bool
entry_version none v = false
entry_version (some e) v = eqb e.version v

unplaced-version : (o : Option Placed) (v : ℕ) → is_version o v ≡ entry_version (unplaced o) v
unfolding is_version entry_version unplaced
unplaced-version none v = refl
unplaced-version (some x) v = refl

pub present-by-value : (log : List Placed) (e : Entry) → is_present log e ≡ entry_version (value_at log (key_of e)) e.version
present-by-value log e = unplaced-version (present log (key_of e)) e.version

pub present-same : (a b : List Placed) (e : Entry) → value_at a (key_of e) ≡ value_at b (key_of e) → is_present a e ≡ is_present b e
present-same a b e h = present-by-value a e ∙ ap (λ (o : Option Entry). entry_version o e.version) h ∙ sym (present-by-value b e)

pub present-size-same : (a b : List Placed) (x : Placed) → value_at a (key_of x.entry) ≡ value_at b (key_of x.entry) → present_size a x ≡ present_size b x
present-size-same a b x h = ap (λ (t : Bool). pick t (placed_size x) 0) (present-same a b x.entry h)

-- ---- the one entry that has a version

absent-version : (ys : List Placed) (v : ℕ) → has_version ys v ≡ false → (y : Placed) → In y ys → y.entry.version ≡ v → ⊥
unfolding has_version
absent-version [] v q y m e = elim m [ ]
absent-version (w ∷ ws) v q y (Memᴰ.head d) e =
    eqb-false w.entry.version v (either-false-left (eqb w.entry.version v) (has_version ws v) q)
    (ap (λ (u : Placed). u.entry.version) (sym d) ∙ e)
absent-version (w ∷ ws) v q y (Memᴰ.tail d) e =
    absent-version ws v (either-false-right (eqb w.entry.version v) (has_version ws v) q) y d e

-- Where versions are not shared, the entries of slot i that have a member's version are that member, if it stands there.
pub one-version : (g : Placed → ℕ) (i : ℕ) (xs : List Placed) (z : Placed) → version_shared xs ≡ false → In z xs
    → slot_total (λ (y : Placed). pick (eqb z.entry.version y.entry.version) (g y) 0) i xs ≡ pick (eqb z.slot i) (g z) 0
unfolding version_shared
one-version g i [] z apart m = elim m [ ]
one-version g i (x ∷ xs) z apart (Memᴰ.head d) =
    slot-total-cons h i x xs
    ∙ omega (
      arith,
      ap (λ (n : ℕ). pick (eqb x.slot i) n 0) (pick_true (eqb z.entry.version x.entry.version) (g x) 0 (eq-eqb z.entry.version x.entry.version (ap (λ (u : Placed). u.entry.version) d))),
      ap (λ (u : Placed). pick (eqb u.slot i) (g u) 0) d,
      slot-total-zero h i xs
          (λ y k.
          pick-false (eqb z.entry.version y.entry.version) (g y) 0
          (ne_eqb z.entry.version y.entry.version
          (λ e. absent-version xs x.entry.version (either-false-left (has_version xs x.entry.version) (version_shared xs) apart) y k (sym e ∙ ap (λ (u : Placed). u.entry.version) d)))),
    )
  where
    h : Placed → ℕ
    h y = pick (eqb z.entry.version y.entry.version) (g y) 0
one-version g i (x ∷ xs) z apart (Memᴰ.tail k) =
    slot-total-cons h i x xs
    ∙ omega (
      arith,
      ap (λ (n : ℕ). pick (eqb x.slot i) n 0)
          (pick-false (eqb z.entry.version x.entry.version) (g x) 0
          (ne_eqb z.entry.version x.entry.version
          (λ e. absent-version xs x.entry.version (either-false-left (has_version xs x.entry.version) (version_shared xs) apart) z k e))),
      pick-zero (eqb x.slot i),
      one-version g i xs z (either-false-right (has_version xs x.entry.version) (version_shared xs) apart) k,
    )
  where
    h : Placed → ℕ
    h y = pick (eqb z.entry.version y.entry.version) (g y) 0

-- ---- one entry more, of a version above all others

module _ (log : List Placed) (x : Placed) (after : List Placed) (w : Entered log x after) (top : highest log < x.entry.version)
    (apart : version_shared log ≡ false) where
  above : Above x log
  above = below-highest log x.entry.version top

  value : (k : Key) → value_at after k ≡ pick (same_key k x.entry) (gives x.entry) (value_at log k)
  value k = value-added log x after (entered-added log x after w) above (shared-apart log apart) k

  -- it is present if it is an object
  own-size : present_size after x ≡ object_size x.layout x.entry
  unfolding gives entry_version pick
  own-size =
      ap (λ (t : Bool). pick t (placed_size x) 0)
      (present-by-value after x.entry
      ∙ ap (λ (o : Option Entry). entry_version o x.entry.version)
      (value (key_of x.entry) ∙ pick_true (same_key (key_of x.entry) x.entry) (gives x.entry) (value_at log (key_of x.entry)) (own_key x.entry)))
      ∙ go (is_tombstone x.entry)
    where
      go : (t : Bool) → pick (entry_version (pick t none (some x.entry)) x.entry.version) (placed_size x) 0 ≡ pick t 0 (placed_size x)
      go true = refl
      go false = pick_true (eqb x.entry.version x.entry.version) (placed_size x) 0 (eq-eqb x.entry.version x.entry.version refl)

  -- what a key's object takes of slot i
  abbrev live_in : Option Placed → ℕ → ℕ
  live_in none i = 0
  live_in (some z) i = pick (eqb z.slot i) (placed_size z) 0

  length-live : (o : Option Placed) (c : List ℕ) → length (without_live o c) ≡ length c
  unfolding without_live
  length-live none c = refl
  length-live (some z) c = length-set c z.slot (get_or c z.slot 0 - placed_size z)

  live_at : (o : Option Placed) (i : ℕ) (c : List ℕ) → i < length c → get_or (without_live o c) i 0 ≡ get_or c i 0 - live_in o i
  unfolding without_live
  live_at none i c l = omega arith
  live_at (some z) i c l = fewer-at z.slot i (placed_size z) c l

  -- the bytes that a member loses: all where it is the object that the new entry takes the place of
  abbrev lost : Option Placed → Placed → ℕ
  lost none y = 0
  lost (some z) y = pick (eqb z.entry.version y.entry.version) (placed_size y) 0

  -- which are none of a member with another key, and all that a member with its key had
  lost-other : (y : Placed) → In y log → same_key (key_of y.entry) x.entry ≡ false → (o : Option Placed)
      → present log (key_of x.entry) ≡ o → lost o y ≡ 0
  lost-other y m f none p = refl
  lost-other y m f (some z) p =
      let l = latest-some log (key_of x.entry) z (present-live log (key_of x.entry) z p).latest-of in
      pick-false (eqb z.entry.version y.entry.version) (placed_size y) 0
      (ne_eqb z.entry.version y.entry.version
      (λ e.
      let same : z ≡ y = shared-apart log apart z y l.member m e in
      let key : key_of x.entry ≡ key_of y.entry = same_key_lem (key_of x.entry) z.entry l.of-key ∙ ap (λ (u : Placed). key_of u.entry) same in
      clash (same_key (key_of y.entry) x.entry) (key-same (key_of y.entry) x.entry (sym key)) f))

  lost-own : (o : Option Placed) (y : Placed) → pick (is_version o y.entry.version) (placed_size y) 0 ≡ lost o y
  unfolding is_version pick
  lost-own none y = refl
  lost-own (some z) y = refl

  -- a member of the new entry's key is no longer present
  own-gone : (y : Placed) → In y log → entry_version (gives x.entry) y.entry.version ≡ false
  unfolding gives entry_version
  own-gone y m = go (is_tombstone x.entry)
    where
      go : (t : Bool) → entry_version (pick t none (some x.entry)) y.entry.version ≡ false
      go true = unfold pick in refl
      go false = unfold pick in ne_eqb x.entry.version y.entry.version (λ e. omega (arith, above y m))

  old-size : (y : Placed) → In y log → present_size log y ≡ present_size after y + lost (present log (key_of x.entry)) y
  old-size y m = go (same_key (key_of y.entry) x.entry) refl
    where
      goal : Type 0
      goal = present_size log y ≡ present_size after y + lost (present log (key_of x.entry)) y

      go : (t : Bool) → same_key (key_of y.entry) x.entry ≡ t → goal
      go true p =
          let key : key_of y.entry ≡ key_of x.entry = same_key_lem (key_of y.entry) x.entry p in
          let gone : present_size after y ≡ 0 =
          pick-false (is_present after y.entry) (placed_size y) 0
          (present-by-value after y.entry
          ∙ ap (λ (o : Option Entry). entry_version o y.entry.version)
          (value (key_of y.entry) ∙ pick_true (same_key (key_of y.entry) x.entry) (gives x.entry) (value_at log (key_of y.entry)) p)
          ∙ own-gone y m) in
          let all : present_size log y ≡ lost (present log (key_of x.entry)) y =
          ap (λ (k : Key). pick (is_version (present log k) y.entry.version) (placed_size y) 0) key
          ∙ lost-own (present log (key_of x.entry)) y in
          omega arith
      go false p =
          let same : present_size after y ≡ present_size log y =
          present-size-same after log y
          (value (key_of y.entry) ∙ pick-false (same_key (key_of y.entry) x.entry) (gives x.entry) (value_at log (key_of y.entry)) p) in
          let none-lost = lost-other y m p (present log (key_of x.entry)) refl in
          omega arith

  -- what the key's object took, in its slot
  lost-total : (i : ℕ) (o : Option Placed) → present log (key_of x.entry) ≡ o → slot_total (lost o) i log ≡ live_in o i
  lost-total i none p = slot-total-zero (λ (y : Placed). 0) i log (λ y m. refl)
  lost-total i (some z) p =
      one-version placed_size i log z apart
      (latest-some log (key_of x.entry) z (present-live log (key_of x.entry) z p).latest-of).member

  before-total : (i : ℕ) → slot_total (present_size log) i log ≡ slot_total (present_size after) i log + live_in (present log (key_of x.entry)) i
  before-total i =
      slot-total-same (present_size log) (λ (y : Placed). present_size after y + lost (present log (key_of x.entry)) y) i log old-size
      ∙ slot-total-sum (present_size after) (lost (present log (key_of x.entry))) i log
      ∙ ap (λ (n : ℕ). slot_total (present_size after) i log + n) (lost-total i (present log (key_of x.entry)) refl)

  after-total : (i : ℕ) → slot_total (present_size after) i after ≡ slot_total (present_size after) i log + pick (eqb x.slot i) (object_size x.layout x.entry) 0
  after-total i =
      omega (
        arith,
        ap (slot_total (present_size after) i) w.old,
        ap (slot_total (present_size after) i) w.new,
        slot-total-append (present_size after) i w.before w.behind,
        slot-total-append (present_size after) i w.before (x ∷ w.behind),
        slot-total-cons (present_size after) i x w.behind,
        ap (λ (n : ℕ). pick (eqb x.slot i) n 0) own-size,
      )

  pub entered-counts : counts_of after ≡ entry_counts x.layout log x.slot x.entry (counts_of log)
  entered-counts =
      counts-are after (entry_counts x.layout log x.slot x.entry (counts_of log))
      (length_more x.slot (object_size x.layout x.entry) (without_live (present log (key_of x.entry)) (counts_of log))
      ∙ length-live (present log (key_of x.entry)) (counts_of log) ∙ length-tally log log)
      (λ i l.
      let long : i < length (counts_of log) = omega (arith, length-tally log log) in
      omega (
        arith,
        more-at x.slot i (object_size x.layout x.entry) (without_live (present log (key_of x.entry)) (counts_of log))
            (omega (arith, length-live (present log (key_of x.entry)) (counts_of log))),
        live_at (present log (key_of x.entry)) i (counts_of log) long,
        tally-at log i l log,
        before-total i,
        after-total i,
      ))

-- ---- a tombstone in the place of a live object

module _ (log : List Placed) (k : Key) (x : Placed) (live : IsLive log k x) (e : Entry) (of-key : key_of e ≡ k) (dead : is_tombstone e ≡ true)
    (above : highest log < e.version) (versions : version_shared log ≡ false) where
  is-present : present log k ≡ some x
  unfolding present object_only
  is-present = rw live.latest-of (pick-false (is_tombstone x.entry) none (some x) live.object)

  -- outside its slot no entry of its key was present, and none is
  pub forgotten-present : (y : Placed) → In y (outside (2 ^ x.slot) log) → is_present (replaced x.entry.version e log) y.entry ≡ is_present log y.entry
  unfolding pick entry_version is_version
  forgotten-present y m =
      present-by-value (replaced x.entry.version e log) y.entry
      ∙ ap (λ (o : Option Entry). entry_version o y.entry.version)
      (forgotten-value log k x live e of-key dead above versions (key_of y.entry))
      ∙ go (same_key (key_of y.entry) e) refl
    where
      other : x.entry.version ≡ y.entry.version → ⊥
      other p =
          let h = outside-in (2 ^ x.slot) log y m in
          let same : x ≡ y = shared-apart log versions x y (latest-some log k x live.latest-of).member h.0 p in
          clash (named (2 ^ x.slot) y.slot)
          (ap (λ (z : Placed). named (2 ^ x.slot) z.slot) (sym same) ∙ set-named (2 ^ x.slot) x.slot (bit-pow-same x.slot)) h.1

      go : (t : Bool) → same_key (key_of y.entry) e ≡ t → entry_version (pick t none (value_at log (key_of y.entry))) y.entry.version ≡ is_present log y.entry
      go true s =
          let key : key_of y.entry ≡ k = same_key_lem (key_of y.entry) e s ∙ of-key in
          sym
          (ap (λ (o : Option Placed). is_version o y.entry.version) (ap (present log) key ∙ is-present)
          ∙ ne_eqb x.entry.version y.entry.version other)
      go false s = sym (present-by-value log y.entry)

-- ---- the numbers fit a segment

-- an entry adds no more than its bytes
present-most : (log : List Placed) (x : Placed) → present_size log x ≤ length (encoded x.layout x.entry)
present-most log x = go (is_present log x.entry)
  where
    go : (t : Bool) → pick t (placed_size x) 0 ≤ length (encoded x.layout x.entry)
    go true = unfold pick in omega (arith, length-encoded x.layout x.entry)
    go false = unfold pick in omega arith

total-most : {A : Type 0} (f g : A → ℕ) (es : List A) → ((e : A) → f e ≤ g e) → total f es ≤ total g es
unfolding total
total-most f g [] h = omega arith
total-most f g (e ∷ es) h = omega (arith, h e, total-most f g es h)

-- a slot that is not in the log has none
module _ (v : ℕ → View) (map n room : ℕ)
    (holds : (i : ℕ) → i < n → named map i ≡ true → length (all_encoded (v i).layout (item_entries (items_of (v i).scan))) ≤ room) where
  slot-most : (i : ℕ) → slot_total (present_size (log_of v (named map) n)) i (log_of v (named map) n) ≤ room
  slot-most i = go (dec_lt i n) (named map i) refl
    where
      bytes : Placed → ℕ
      bytes x = length (encoded x.layout x.entry)

      outside-none : ((x : Placed) → In x (log_of v (named map) n) → x.slot ≡ i → ⊥) → slot_total (present_size (log_of v (named map) n)) i (log_of v (named map) n) ≤ room
      outside-none h = omega (arith, slot-total-none (present_size (log_of v (named map) n)) i (log_of v (named map) n) h)

      go : Dec (i < n) → (t : Bool) → named map i ≡ t → slot_total (present_size (log_of v (named map) n)) i (log_of v (named map) n) ≤ room
      go (yes l) true q =
          omega (
            arith,
            holds i l q,
            total-most (present_size (log_of v (named map) n)) bytes (in_slot i (log_of v (named map) n)) (present-most (log_of v (named map) n)),
            ap (total bytes) (slot-log v map n i l q),
            items-total (λ K e. length (encoded K e)) (v i).layout i (items_of (v i).scan),
            encoded-total (v i).layout (item_entries (items_of (v i).scan)),
          )
      go (yes l) false q = outside-none (λ x m d. clash (named map i) (ap (named map) (sym d) ∙ (log-in v (named map) n x m).picked) q)
      go (no l) t q = outside-none (λ x m d. l (omega (arith, (log-in v (named map) n x m).below)))

  pub counts-fit : counts_good room (counts_of (log_of v (named map) n)) ≡ true
  counts-fit =
      counts-true room (counts_of (log_of v (named map) n))
      (λ i l.
      let short : i < 32 = omega (arith, length-tally (log_of v (named map) n) (log_of v (named map) n)) in
      omega (arith, tally-at (log_of v (named map) n) i short (log_of v (named map) n), slot-most i))
