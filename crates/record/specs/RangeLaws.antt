-- What the range-and-length test says, as plain facts, and the test in the parts in which the code makes it.
use Rattle.std.specs.Prelude.{ℕ, zero, suc, ◌+◌, ◌*◌, ◌-◌, ◌^◌, ◌≤◌, ◌<◌, ◌≡◌, refl, Bool, true, false, not, List, [], ◌∷◌, eqb, ltb, leb, length, get_or, replicate, drop}
use Rattle.std.proofs.Common.{sym, ◌∙◌, ap, ap₂, arith, lt_of_not-le, add-one, drop_of_length-le, drop-cons}
use Rattle.std.proofs.Math.Decide.{dec_lt}
use borrow.Author.Tests.{ltb-true, leb-true, eqb-true, eqb-false, not-true, not-false, lt-ltb, le-ltb, le-leb, lt-leb, eq-eqb, ne_eqb}
use Rattle.segment.specs.Choice.{both}
use Rattle.segment.proofs.Choice.{both_left, both_right, both_true, both-false-right}
use Rattle.segment.specs.Layout.{Layout, digest_size, version_limit}
use Rattle.slot_map.specs.Bit.{named}
use Rattle.slot_map.proofs.BitLaws.{bit-above, named-true, clear-named}
use Rattle.slot_map.specs.Count.{used, all_slots}
use Rattle.slot_map.proofs.CountLaws.{not-all, all_named}
use Rattle.record.specs.Answers.{stores_left, with_pending, bare, blank}
use Rattle.record.specs.Range.{between, slots_good, size_good, cells_good, map_good, left_good, next_good, counts_good, most_present, in_range, lengths_own, fits_lent}
use Rattle.record.specs.Switch.{with_switch, unswitched}
use Rattle.record.specs.declared.Pending.{Pending}
use Rattle.record.specs.declared.Pending.TheVariants.{Idle, Append, NewHead, Clean, Forget}
use Rattle.record.specs.declared.Record.{Record}

-- A record in range whose lent area and index are as long as it says. Where it is idle, 0 stores are left. That its next version
-- is not above the limit stands beside (`lent-next`): of a recovered record it is known where the area consists of bytes, the
-- rest of any list.
pub record Lent (L : Layout) (r : Record) (area_length index_length : ℕ) : Type 0 where
  pub slots-low : 4 ≤ r.slots
  pub slots-high : r.slots ≤ 32
  pub size_low : 256 ≤ r.size
  pub size-high : r.size ≤ 2048
  pub cells_low : 16 ≤ r.cells
  pub cells-high : r.cells ≤ 4096
  pub map_below : r.map < 2 ^ r.slots
  pub head-below : r.head < r.slots
  pub head-named : named r.map r.head ≡ true
  pub some-free : used r.slots r.map < r.slots
  pub end_low : digest_size L ≤ r.end
  pub end-high : r.end ≤ r.size
  pub number-some : 0 < r.digest.0
  pub next-some : 0 < r.next.0
  pub keys-high : r.keys ≤ r.cells - 1
  pub counts-high : counts_good (most_present r.size) r.counts ≡ true
  pub left-some : (r.pending ≡ Idle → ⊥) → 0 < stores_left r.pending
  pub left-high : stores_left r.pending ≤ r.size + 1
  pub area-own : area_length ≡ r.slots * r.size
  pub index-own : index_length ≡ r.cells

-- ---- numbers

pub between-low : (a b x : ℕ) → between a b x ≡ true → a ≤ x
unfolding between
between-low a b x e = leb-true a x (both_left (leb a x) (leb x b) e)

pub between-high : (a b x : ℕ) → between a b x ≡ true → x ≤ b
unfolding between
between-high a b x e = leb-true x b (both_right (leb a x) (leb x b) e)

pub between-true : (a b x : ℕ) → a ≤ x → x ≤ b → between a b x ≡ true
unfolding between
between-true a b x low high = both_true (leb a x) (leb x b) (le-leb a x low) (le-leb x b high)

not-zero : (x : ℕ) → not (eqb x 0) ≡ true → 0 < x
not-zero x e = let ne : x ≡ 0 → ⊥ = eqb-false x 0 (not-true (eqb x 0) e) in omega arith

pub zero-not : (x : ℕ) → x ≡ 0 → not (eqb x 0) ≡ false
zero-not x e = rw (eq-eqb x 0 e)

pub some-not : (x : ℕ) → (x ≡ 0 → ⊥) → not (eqb x 0) ≡ true
some-not x ne = rw (ne_eqb x 0 ne)

-- ---- the stores left

-- the test, where an operation is pending
pub left-pending : (s : ℕ) (p : Pending) → (p ≡ Idle → ⊥) → left_good s p ≡ between 1 (s + 1) (stores_left p)
unfolding left_good
left-pending s Idle busy = absurd (busy refl)
left-pending s (Append n k) busy = refl
left-pending s (NewHead i n k) busy = refl
left-pending s (Clean i v n k) busy = refl
left-pending s (Forget i v n k) busy = refl

left-pos : (s : ℕ) (p : Pending) → left_good s p ≡ true → (p ≡ Idle → ⊥) → 0 < stores_left p
left-pos s p e busy = between-low 1 (s + 1) (stores_left p) (sym (left-pending s p busy) ∙ e)

left-most : (s : ℕ) (p : Pending) → left_good s p ≡ true → stores_left p ≤ s + 1
unfolding left_good
left-most s Idle e = omega arith
left-most s (Append n k) e = between-high 1 (s + 1) k e
left-most s (NewHead i n k) e = between-high 1 (s + 1) k e
left-most s (Clean i v n k) e = between-high 1 (s + 1) k e
left-most s (Forget i v n k) e = between-high 1 (s + 1) k e

left-true : (s : ℕ) (p : Pending) → ((p ≡ Idle → ⊥) → 0 < stores_left p) → stores_left p ≤ s + 1 → left_good s p ≡ true
unfolding left_good
left-true s Idle some most = refl
left-true s (Append n k) some most = between-true 1 (s + 1) k (some (λ e. let z : ◌≡◌ {A = ℕ} 0 1 = cc in absurd (omega arith))) most
left-true s (NewHead i n k) some most = between-true 1 (s + 1) k (some (λ e. let z : ◌≡◌ {A = ℕ} 0 1 = cc in absurd (omega arith))) most
left-true s (Clean i v n k) some most = between-true 1 (s + 1) k (some (λ e. let z : ◌≡◌ {A = ℕ} 0 1 = cc in absurd (omega arith))) most
left-true s (Forget i v n k) some most = between-true 1 (s + 1) k (some (λ e. let z : ◌≡◌ {A = ℕ} 0 1 = cc in absurd (omega arith))) most

-- ---- the present bytes

both-assoc : (a b c : Bool) → both (both a b) c ≡ both a (both b c)
unfolding both
both-assoc true b c = refl
both-assoc false b c = refl

-- one number more, and what the test says of each
pub counts-cons : (m i : ℕ) (cs : List ℕ) → i < length cs → counts_good m (drop i cs) ≡ both (leb (get_or cs i 0) m) (counts_good m (drop (i + 1) cs))
unfolding counts_good
counts-cons m i cs h = rw (add-one i, drop-cons cs i 0 h)

pub counts-turn : (t : Bool) (m i : ℕ) (cs : List ℕ) → i < length cs
    → both (both t (leb (get_or cs i 0) m)) (counts_good m (drop (i + 1) cs)) ≡ both t (counts_good m (drop i cs))
counts-turn t m i cs h = both-assoc t (leb (get_or cs i 0) m) (counts_good m (drop (i + 1) cs)) ∙ ap (both t) (sym (counts-cons m i cs h))

pub counts_end : (t : Bool) (m i : ℕ) (cs : List ℕ) → length cs ≤ i → t ≡ both t (counts_good m (drop i cs))
unfolding counts_good both
counts_end true m i cs h = rw (drop_of_length-le cs h)
counts_end false m i cs h = refl

-- the test by each of the numbers
pub counts-true : (m : ℕ) (cs : List ℕ) → ((i : ℕ) → i < length cs → get_or cs i 0 ≤ m) → counts_good m cs ≡ true
unfolding counts_good
counts-true m [] h = refl
counts-true m (c ∷ cs) h =
    both_true (leb c m) (counts_good m cs) (le-leb c m (h 0 (omega arith))) (counts-true m cs (λ i l. h (suc i) (omega arith)))

pub counts-below : (m i : ℕ) (cs : List ℕ) → counts_good m cs ≡ true → get_or cs i 0 ≤ m
unfolding counts_good
counts-below m i [] e = omega arith
counts-below m zero (c ∷ cs) e = leb-true c m (both_left (leb c m) (counts_good m cs) e)
counts-below m (suc i) (c ∷ cs) e = counts-below m i cs (both_right (leb c m) (counts_good m cs) e)

-- ---- the map

-- What the test of a map of n slots says. That the head is one of them follows: such a map names no other.
pub record MapIn (n head map : ℕ) : Type 0 where
  pub below : map < 2 ^ n
  pub head_in : head < n
  pub head-named : named map head ≡ true
  pub some-free : used n map < n

pub map-in : (n head map : ℕ) → map_good n head map ≡ true → MapIn n head map
unfolding map_good
map-in n head map e =
    let below = ltb-true map (2 ^ n) (both_left _ _ e) in
    let named = both_left _ _ (both_right _ _ e) in
    record {
      below = below;
      head_in = lt_of_not-le (λ h. omega (arith, named-true map head named, bit-above map n head below h));
      head-named = named;
      some-free = ltb-true (used n map) n (both_right _ _ (both_right _ _ e));
    }

both-last : (t : Bool) → both true (both t true) ≡ both true t
unfolding both
both-last true = refl
both-last false = refl

-- the test in the code's order: first that the map is below the map of all n slots, then the head
pub map-test : (n head map : ℕ) → both (ltb map (all_slots n)) (named map head) ≡ map_good n head map
unfolding map_good both
map-test n head map = go (dec_lt map (all_slots n)) (dec_lt map (2 ^ n))
  where
    go : Dec (map < all_slots n) → Dec (map < 2 ^ n) → both (ltb map (all_slots n)) (named map head) ≡ map_good n head map
    go (yes h) b =
        ap (λ (t : Bool). both t (named map head)) (lt-ltb map (all_slots n) h)
        ∙ sym (ap₂ (λ (t u : Bool). both t (both (named map head) u)) (lt-ltb map (2 ^ n) (omega arith)) (lt-ltb (used n map) n (not-all n map h))
        ∙ both-last (named map head))
    go (no h) (yes b) =
        let all : map ≡ all_slots n = omega arith in
        ap (λ (t : Bool). both t (named map head)) (le-ltb map (all_slots n) (omega arith))
        ∙ sym (ap (λ (u : Bool). both (ltb map (2 ^ n)) (both (named map head) u)) (le-ltb (used n map) n (omega (arith, all_named n map all)))
        ∙ both-false-right (ltb map (2 ^ n)) (both (named map head) false) (both-false-right (named map head) false refl))
    go (no h) (no b) =
        ap (λ (t : Bool). both t (named map head)) (le-ltb map (all_slots n) (omega arith))
        ∙ sym (ap (λ (t : Bool). both t (both (named map head) (ltb (used n map) n))) (le-ltb map (2 ^ n) (omega arith)))

-- a head that is none of the n slots is not looked for
pub past-slots : (n head map : ℕ) → ltb map (all_slots n) ≡ true → n ≤ head → named map head ≡ false
past-slots n head map e past = clear-named map head (bit-above map n head (omega (arith, ltb-true map (all_slots n) e)) past)

-- ---- the test of a record in the code's parts: limits, map, counters, present bytes, stores left

-- N, S and M within their limits
unfoldable pub limits_good : Record → Bool
limits_good r = both (slots_good r.slots) (both (size_good r.size) (cells_good r.cells))

-- the end of the head's entries, the digest number, the next version and the number of keys
unfoldable pub counters_good : Layout → Record → Bool
counters_good L r =
    both (between (digest_size L) r.size r.end)
    (both (not (eqb r.digest.0 0)) (both (next_good L r.next.0) (leb r.keys (r.cells - 1))))

-- A chain of tests, from left to right: t is what the code finds for the test x, and r its answer in the end. `stop` and `go`
-- are for `if !t { return false; }`, `ends` and `goes` for `t && ..`.
module _ {t x : Bool} (b : Bool) (e : t ≡ x) where
  pub stop : not t ≡ true → false ≡ both x b
  unfolding both
  stop f = rw (← e, not-true t f)

  pub go : {r : Bool} → not t ≡ false → r ≡ b → r ≡ both x b
  unfolding both
  go f g = rw (← e, not-false t f) g

  pub ends : t ≡ false → t ≡ both x b
  unfolding both
  ends f = rw (← e, f)

  pub goes : {r : Bool} → t ≡ true → r ≡ b → r ≡ both x b
  unfolding both
  goes f g = rw (← e, f) g

pub in_parts : (L : Layout) (r : Record) → in_range L r
    ≡ both (limits_good r) (both (map_good r.slots r.head r.map) (both (counters_good L r) (both (counts_good (most_present r.size) r.counts) (left_good r.size r.pending))))
unfolding in_range limits_good counters_good
in_parts L r = simp both-assoc

-- the test of all numbers but those of present bytes and of the pending operation
unfoldable pub numbers_good : Layout → Record → Bool
numbers_good L r = both (limits_good r) (both (map_good r.slots r.head r.map) (counters_good L r))

-- the test of all numbers but those of present bytes, which no other looks at
unfoldable pub front_good : Layout → Record → Bool
front_good L r =
    both (limits_good r) (both (map_good r.slots r.head r.map) (both (counters_good L r) (left_good r.size r.pending)))

pub front-numbers : (L : Layout) (r : Record) → front_good L r ≡ both (numbers_good L r) (left_good r.size r.pending)
unfolding front_good numbers_good
front-numbers L r = simp both-assoc

pub front-bare : (L : Layout) (r : Record) → front_good L (bare r) ≡ front_good L r
unfolding front_good limits_good counters_good
front-bare L r = refl

both-comm : (a b : Bool) → both a b ≡ both b a
unfolding both
both-comm true true = refl
both-comm true false = refl
both-comm false true = refl
both-comm false false = refl

pub in-front : (L : Layout) (r : Record) → in_range L r ≡ both (front_good L r) (counts_good (most_present r.size) r.counts)
unfolding front_good
in-front L r =
    in_parts L r
    ∙ ap (λ (t : Bool). both (limits_good r) (both (map_good r.slots r.head r.map) (both (counters_good L r) t)))
    (both-comm (counts_good (most_present r.size) r.counts) (left_good r.size r.pending))
    ∙ simp both-assoc

-- the whole test in the order in which it is made on a record's words, the present bytes last
pub fits-front : (L : Layout) (r : Record) (a i : ℕ)
    → fits_lent L r a i ≡ both (front_good L (bare r)) (both (lengths_own (bare r) a i) (counts_good (most_present r.size) r.counts))
unfolding fits_lent lengths_own
fits-front L r a i =
    ap (λ (t : Bool). both t (lengths_own r a i)) (in-front L r)
    ∙ both-assoc (front_good L r) (counts_good (most_present r.size) r.counts) (lengths_own r a i)
    ∙ ap₂ both (sym (front-bare L r)) (both-comm (counts_good (most_present r.size) r.counts) (lengths_own r a i))

-- the record without its present bytes passes where the record does
no-counts : (m n : ℕ) → counts_good m (replicate n 0) ≡ true
unfolding counts_good
no-counts m zero = refl
no-counts m (suc n) = both_true (leb 0 m) (counts_good m (replicate n 0)) (le-leb 0 m (omega arith)) (no-counts m n)

pub fits-bare : (L : Layout) (r : Record) (a i : ℕ) → fits_lent L r a i ≡ true → fits_lent L (bare r) a i ≡ true
fits-bare L r a i e =
    let parts = sym (fits-front L r a i) ∙ e in
    fits-front L (bare r) a i
    ∙ both_true _ _ (both_left _ _ parts) (both_true _ _ (both_left _ _ (both_right _ _ parts)) (no-counts (most_present r.size) 32))

-- What the test of the limits says.
pub record Limits (r : Record) : Type 0 where
  pub slots-low : 4 ≤ r.slots
  pub slots-high : r.slots ≤ 32
  pub size_low : 256 ≤ r.size
  pub size-high : r.size ≤ 2048
  pub cells_low : 16 ≤ r.cells
  pub cells-high : r.cells ≤ 4096

pub limits : (r : Record) → limits_good r ≡ true → Limits r
unfolding limits_good
limits r e =
    record {
      slots-low = between-low 4 32 r.slots (both_left _ _ e);
      slots-high = between-high 4 32 r.slots (both_left _ _ e);
      size_low = between-low 256 2048 r.size (both_left _ _ (both_right _ _ e));
      size-high = between-high 256 2048 r.size (both_left _ _ (both_right _ _ e));
      cells_low = between-low 16 4096 r.cells (both_right _ _ (both_right _ _ e));
      cells-high = between-high 16 4096 r.cells (both_right _ _ (both_right _ _ e));
    }

pub front-limits : (L : Layout) (r : Record) → front_good L r ≡ true → Limits r
unfolding front_good
front-limits L r e = limits r (both_left _ _ e)

pub numbers-limits : (L : Layout) (r : Record) → numbers_good L r ≡ true → Limits r
unfolding numbers_good
numbers-limits L r e = limits r (both_left _ _ e)

pub range-limits : (L : Layout) (r : Record) → in_range L r ≡ true → Limits r
range-limits L r e = limits r (both_left _ _ (sym (in_parts L r) ∙ e))

-- ---- the whole test, both ways

module _ (L : Layout) (r : Record) (a i : ℕ) (e : fits_lent L r a i ≡ true) where
  range : in_range L r ≡ true
  unfolding fits_lent
  range = both_left _ _ e

  own : lengths_own r a i ≡ true
  unfolding fits_lent
  own = both_right _ _ e

  after-limits : both (map_good r.slots r.head r.map) (both (counters_good L r) (both (counts_good (most_present r.size) r.counts) (left_good r.size r.pending))) ≡ true
  after-limits = both_right _ _ (sym (in_parts L r) ∙ range)

  map-facts : MapIn r.slots r.head r.map
  map-facts = map-in r.slots r.head r.map (both_left _ _ after-limits)

  counters : counters_good L r ≡ true
  counters = both_left _ _ (both_right _ _ after-limits)

  counts : counts_good (most_present r.size) r.counts ≡ true
  counts = both_left _ _ (both_right _ _ (both_right _ _ after-limits))

  left : left_good r.size r.pending ≡ true
  left = both_right _ _ (both_right _ _ (both_right _ _ after-limits))

  next : next_good L r.next.0 ≡ true
  unfolding counters_good
  next = both_left _ _ (both_right _ _ (both_right _ _ counters))

  pub lent-next : r.next.0 ≤ version_limit L
  lent-next = between-high 1 (version_limit L) r.next.0 next

  pub lent : Lent L r a i
  unfolding lengths_own counters_good
  lent =
      let l = range-limits L r range in
      let m = map-facts in
      record {
        slots-low = l.slots-low;
        slots-high = l.slots-high;
        size_low = l.size_low;
        size-high = l.size-high;
        cells_low = l.cells_low;
        cells-high = l.cells-high;
        map_below = m.below;
        head-below = m.head_in;
        head-named = m.head-named;
        some-free = m.some-free;
        end_low = between-low (digest_size L) r.size r.end (both_left _ _ counters);
        end-high = between-high (digest_size L) r.size r.end (both_left _ _ counters);
        number-some = not-zero r.digest.0 (both_left _ _ (both_right _ _ counters));
        next-some = between-low 1 (version_limit L) r.next.0 next;
        keys-high = leb-true r.keys (r.cells - 1) (both_right _ _ (both_right _ _ (both_right _ _ counters)));
        counts-high = counts;
        left-some = left-pos r.size r.pending left;
        left-high = left-most r.size r.pending left;
        area-own = eqb-true a (r.slots * r.size) (both_left _ _ own);
        index-own = eqb-true i r.cells (both_right _ _ own);
      }

pub fits-lent : (L : Layout) (r : Record) (a i : ℕ) → Lent L r a i → r.next.0 ≤ version_limit L → fits_lent L r a i ≡ true
unfolding fits_lent in_range lengths_own map_good both
fits-lent L r a i h limit =
    rw (
      between-true 4 32 r.slots h.slots-low h.slots-high,
      between-true 256 2048 r.size h.size_low h.size-high,
      between-true 16 4096 r.cells h.cells_low h.cells-high,
      lt-ltb r.map (2 ^ r.slots) h.map_below,
      h.head-named,
      lt-ltb (used r.slots r.map) r.slots h.some-free,
      between-true (digest_size L) r.size r.end h.end_low h.end-high,
      some-not r.digest.0 (λ e. omega arith),
      between-true 1 (version_limit L) r.next.0 h.next-some limit,
      le-leb r.keys (r.cells - 1) h.keys-high,
      h.counts-high,
      left-true r.size r.pending h.left-some h.left-high,
      eq-eqb a (r.slots * r.size) h.area-own,
      eq-eqb i r.cells h.index-own,
    )

-- another pending operation with a right number of stores left keeps all that
pub lent-pending : {L : Layout} {r : Record} {a i : ℕ} (p : Pending) → Lent L r a i → ((p ≡ Idle → ⊥) → 0 < stores_left p)
    → stores_left p ≤ r.size + 1 → Lent L (with_pending r p) a i
lent-pending p h some most =
    record {
      slots-low = h.slots-low;
      slots-high = h.slots-high;
      size_low = h.size_low;
      size-high = h.size-high;
      cells_low = h.cells_low;
      cells-high = h.cells-high;
      map_below = h.map_below;
      head-below = h.head-below;
      head-named = h.head-named;
      some-free = h.some-free;
      end_low = h.end_low;
      end-high = h.end-high;
      number-some = h.number-some;
      next-some = h.next-some;
      keys-high = h.keys-high;
      counts-high = h.counts-high;
      left-some = some;
      left-high = most;
      area-own = h.area-own;
      index-own = h.index-own;
    }

-- The test does not look at the switch (02, R-13).
pub lent-switched : {L : Layout} {a i : ℕ} (r : Record) → Lent L (unswitched r) a i → Lent L r a i
lent-switched r h =
    record {
      slots-low = h.slots-low;
      slots-high = h.slots-high;
      size_low = h.size_low;
      size-high = h.size-high;
      cells_low = h.cells_low;
      cells-high = h.cells-high;
      map_below = h.map_below;
      head-below = h.head-below;
      head-named = h.head-named;
      some-free = h.some-free;
      end_low = h.end_low;
      end-high = h.end-high;
      number-some = h.number-some;
      next-some = h.next-some;
      keys-high = h.keys-high;
      counts-high = h.counts-high;
      left-some = h.left-some;
      left-high = h.left-high;
      area-own = h.area-own;
      index-own = h.index-own;
    }

pub fits-switched : (L : Layout) (r : Record) (t : Bool) (a i : ℕ) → fits_lent L (with_switch r t) a i ≡ fits_lent L r a i
unfolding fits_lent in_range lengths_own
fits-switched L r t a i = refl

-- ---- the blank record is out of range, whatever is lent

pub blank-out : (L : Layout) → in_range L blank ≡ false
unfolding in_range between both
blank-out L = refl

pub blank-unfit : (L : Layout) (a i : ℕ) → fits_lent L blank a i ≡ false
unfolding fits_lent in_range between both
blank-unfit L a i = refl
