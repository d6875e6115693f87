-- The filter of bits over versions, and why what passes it shares no version.
use Prim.Native.Nat.{ℕ, zero, suc, ◌+◌, ◌/◌, ◌%◌, ◌≤◌, ◌<◌}
use Rattle.std.specs.Prelude.{◌≡◌, Bool, ltb, length, get_or, replicate}
use Rattle.std.proofs.Math.Path.{refl, sym, ap, subst}
use Rattle.std.proofs.Common.{◌∙◌}
use Rattle.std.proofs.Math.Bool.{true, false}
use mathlib.Core.List.{List, [], ◌∷◌, ◌++◌, append-nil, append_assoc}
use native.Mathlib.Omega.{arith}
use Rattle.std.proofs.Math.Decide.{dec_le}
use Rattle.std.proofs.Math.Dec.{eqb}
use Rattle.std.proofs.Math.ListN.{length-set}
use borrow.Author.Tests.{eq-eqb, eqb-true, eqb-false}
use Rattle.segment.specs.Choice.{pick}
use Rattle.segment.proofs.Choice.{pick_true, pick-false}
use Rattle.segment.specs.Layout.{Layout, digest_size}
use Rattle.segment.specs.Entry.{end, damage, entry_at}
use Rattle.slot_map.specs.Bit.{with_bit}
use Rattle.model.specs.Log.{View, Item, scanned, scan, items_of, end_of, is_damaged, placed_in, Placed, views_of, log_of, version_shared}
use Rattle.model.specs.Recovery.{log_damaged}
use Rattle.laws.specs.Scans.{item-first}
use Rattle.laws.specs.Members.{clash, total}
use Rattle.laws.specs.Versions.{counted, count, count-append, count-shared}
use Rattle.laws.specs.LogLaws.{scan-whole}
use Rattle.drive_log.specs.Extents.{Meets, rest_of, rest-whole, rest-entry, rest_end, rest-damage, log-take, log-skip, damaged-slot}
use Rattle.drive_log.specs.Marks.{bit_in, set_in, set_own, set_keeps}
use Rattle.drive_log.specs.Tables.{vacant, holds, occupied, empty-new}
use Rattle.drive_log.specs.Suspects.{hits, log-below, Suspects, suspects-none, Suspecting, look-shared, look-alone}

-- ---- the bit of a version

unfoldable pub is_marked : List ℕ → ℕ → Bool
is_marked filter v = bit_in filter (v % 512) (v / 512 % 32)

unfoldable pub marked_with : List ℕ → ℕ → List ℕ
marked_with filter v = set_in filter (v % 512) (v / 512 % 32)

module _ (filter : List ℕ) (v : ℕ) where
  pub length_marked : length (marked_with filter v) ≡ length filter
  unfolding marked_with
  length_marked = length-set filter (v % 512) (with_bit (get_or filter (v % 512) 0) (v / 512 % 32))

module _ (filter : List ℕ) (size : length filter ≡ 512) (v : ℕ) where
  pub mark-own : is_marked (marked_with filter v) v ≡ true
  unfolding is_marked marked_with
  mark-own = set_own filter (v % 512) (v / 512 % 32) (omega arith)

  pub mark-keeps : (u : ℕ) → is_marked filter u ≡ true → is_marked (marked_with filter v) u ≡ true
  unfolding is_marked marked_with
  mark-keeps u e = set_keeps filter (v % 512) (v / 512 % 32) (omega arith) (u % 512) (u / 512 % 32) e

-- ---- what has passed

-- Of the entries passed, no version but a suspect's stands twice, and the bit of each is set; the suspects are those of the
-- whole log.
pub record Filtered (log past : List Placed) (filter table : List ℕ) : Type 0 where
  pub once : (v : ℕ) → holds table v ≡ false → count v past ≤ 1
  pub marks : (v : ℕ) → 1 ≤ count v past → is_marked filter v ≡ true
  pub suspects : Suspects log table

pub filtered-none : (area : List ℕ) (s : ℕ) (p : ℕ → Bool) (n : ℕ) (filter : List ℕ)
    → Filtered (log_of (views_of area s) p n) (log_of (views_of area s) p 0) filter (replicate 192 vacant)
unfolding log_of total
filtered-none area s p n filter =
    record {
      once = λ u e. omega arith;
      marks = λ u h. absurd (omega arith);
      suspects = suspects-none (log_of (views_of area s) p n) (log-below area s p n) (replicate 192 vacant) empty-new;
    }

pub count-more : (log : List Placed) (x : Placed) (u : ℕ) → count u (log ++ (x ∷ [])) ≡ count u log + counted u x.entry
unfolding total
count-more log x u = omega (arith, count-append u log (x ∷ []))

-- An entry more, whose version w is a suspect if its bit was set.
module _ (log past : List Placed) (x : Placed) (filter table : List ℕ) (size : length filter ≡ 512) (filtered : Filtered log past filter table)
    (inside : (u : ℕ) → count u past ≤ count u log) where
  filtered-more : (w : ℕ) → x.entry.version ≡ w → (more : List ℕ) → Suspecting log table w (is_marked filter w) false more
      → Filtered log (past ++ (x ∷ [])) (marked_with filter w) more
  unfolding counted
  filtered-more w its more h =
      record {
        once = λ u q. once u q (eqb x.entry.version u) refl;
        marks = λ u. marks u (eqb x.entry.version u) refl;
        suspects = h.suspects refl;
      }
    where
      other : (u : ℕ) → eqb x.entry.version u ≡ false → counted u x.entry ≡ 0
      other u p = pick-false {A = ℕ} (eqb x.entry.version u) 1 0 p

      same : (u : ℕ) → eqb x.entry.version u ≡ true → w ≡ u
      same u p = sym its ∙ eqb-true x.entry.version u p

      -- a version that is no suspect now
      before : (u : ℕ) → holds more u ≡ false → (t : Bool) → holds table u ≡ t → count u past ≤ 1
      before u q true p = omega (arith, h.let_go refl u q p, inside u)
      before u q false p = filtered.once u p

      -- the entry's own version: no suspect, so its bit was not set, and it has not passed
      alone : holds more w ≡ false → Dec (1 ≤ count w past) → count w past ≡ 0
      alone q (yes l) = absurd (clash (holds more w) (h.has refl (filtered.marks w l)) q)
      alone q (no l) = omega arith

      once : (u : ℕ) → holds more u ≡ false → (t : Bool) → eqb x.entry.version u ≡ t → count u (past ++ (x ∷ [])) ≤ 1
      once u q true p =
          omega (
            arith,
            count-more past x u,
            ap (λ (k : ℕ). count k past) (same u p),
            alone (ap (holds more) (same u p) ∙ q) (dec_le 1 (count w past)),
            pick_true {A = ℕ} (eqb x.entry.version u) 1 0 p,
          )
      once u q false p = omega (arith, count-more past x u, other u p, before u q (holds table u) refl)

      marks : (u : ℕ) (t : Bool) → eqb x.entry.version u ≡ t → 1 ≤ count u (past ++ (x ∷ [])) → is_marked (marked_with filter w) u ≡ true
      marks u true p h = ap (is_marked (marked_with filter w)) (sym (same u p)) ∙ mark-own filter size w
      marks u false p h = mark-keeps filter size w u (filtered.marks u (omega (arith, count-more past x u, other u p)))

-- ---- the entries of one slot

-- What the filter needs before the entries of slot i: the log below it has passed, and the slot is one of the log, undamaged.
pub record Entering (v : ℕ → View) (p : ℕ → Bool) (i n : ℕ) (filter table : List ℕ) : Type 0 where
  pub below : i < n
  pub picked : p i ≡ true
  pub undamaged : is_damaged (v i).scan ≡ false
  pub size : length filter ≡ 512
  pub filtered : Filtered (log_of v p n) (log_of v p i) filter table

-- What the answer r after them means: a version is shared, or the log with slot i has passed.
pub record SlotFiltered (v : ℕ → View) (p : ℕ → Bool) (i n : ℕ) (r : Bool) (filter table : List ℕ) : Type 0 where
  pub shared : r ≡ true → version_shared (log_of v p n) ≡ true
  pub filtered : r ≡ false → Filtered (log_of v p n) (log_of v p (i + 1)) filter table

module _ {v : ℕ → View} {p : ℕ → Bool} {i n : ℕ} (filter table : List ℕ) where
  pub slot-shared : version_shared (log_of v p n) ≡ true → SlotFiltered v p i n true filter table
  slot-shared h = record { shared = λ e. h; filtered = λ e. absurd (clash true refl e) }

  pub slot-filtered : Filtered (log_of v p n) (log_of v p (i + 1)) filter table → SlotFiltered v p i n false filter table
  slot-filtered h = record { shared = λ e. absurd (clash false e refl); filtered = λ e. h }

-- Between two entries of the slot whose bytes are s: those before have passed, and the scan goes on from here.
pub record Filtering (L : Layout) (s : List ℕ) (i : ℕ) (log after : List Placed) (at : ℕ) (filter table : List ℕ) : Type 0 where
  pub size : length filter ≡ 512
  pub past : List Placed
  pub rest : List Item
  pub stop : ℕ
  pub scans : rest_of L s at ≡ scanned rest stop
  pub splits : after ≡ past ++ placed_in L i rest
  pub filtered : Filtered log past filter table

pub filter-start : (L : Layout) (v : ℕ → View) (p : ℕ → Bool) (i n : ℕ) (filter table s : List ℕ) → Entering v p i n filter table → (v i).layout ≡ L → (v i).scan ≡ scan L s
    → Filtering L s i (log_of v p n) (log_of v p (i + 1)) (digest_size L) filter table
filter-start L v p i n filter table s h own e =
    record {
      size = h.size;
      past = log_of v p i;
      rest = items_of (v i).scan;
      stop = end_of (v i).scan;
      scans = rest-whole L s ∙ sym e ∙ scan-whole (v i).scan h.undamaged;
      splits = log-take v p i h.picked ∙ ap (λ (K : Layout). log_of v p i ++ placed_in K i (items_of (v i).scan)) own;
      filtered = h.filtered;
    }

module _ (L : Layout) (s : List ℕ) (i : ℕ) (log after : List Placed) (at : ℕ) (filter table : List ℕ) (so_far : Filtering L s i log after at filter table) where
  module _ (inside : (u : ℕ) → count u after ≤ count u log) {w len : ℕ} (m : Meets L s at w len) where
    abbrev here : Placed
    here = record { slot = i; layout = L; offset = at; entry = m.met }

    -- the entry and those after it
    pub record Ahead : Type 0 where
      pub later : List Item
      pub on : rest_of L s (at + len) ≡ scanned later so_far.stop
      pub whole : after ≡ so_far.past ++ (here ∷ placed_in L i later)

    ahead : Ahead
    unfolding placed_in
    ahead =
        let (js, on, all) = item-first (rest_of L s (at + len)) (sym (rest-entry L s at m) ∙ so_far.scans) in
        record { later = js; on = on; whole = so_far.splits ∙ ap (λ (l : List Item). so_far.past ++ placed_in L i l) (sym all) }

    counts : (u : ℕ) → count u after ≡ count u so_far.past + (counted u m.met + count u (placed_in L i ahead.later))
    unfolding total
    counts u = ap (count u) ahead.whole ∙ count-append u so_far.past (here ∷ placed_in L i ahead.later)

    -- the entry's version is one of the log
    pub filter-stands : 1 ≤ count w log
    unfolding counted
    filter-stands =
        omega (
          arith,
          counts w,
          inside w,
          pick_true {A = ℕ} (eqb m.met.version w) 1 0 (eq-eqb m.met.version w m.its-version),
        )

    pub filter-turn : (r : Bool) (filter₁ table₁ : List ℕ) → Suspecting log table w (is_marked filter w) r table₁ → r ≡ false → filter₁ ≡ marked_with filter w
        → Filtering L s i log after (at + len) filter₁ table₁
    filter-turn r filter₁ table₁ h e q =
        record {
          size = ap length q ∙ length_marked filter w ∙ so_far.size;
          past = so_far.past ++ (here ∷ []);
          rest = ahead.later;
          stop = so_far.stop;
          scans = ahead.on;
          splits = ahead.whole ∙ sym (append_assoc so_far.past (here ∷ []) (placed_in L i ahead.later));
          filtered =
              subst (λ (f : List ℕ). Filtered log (so_far.past ++ (here ∷ [])) f table₁) (sym q)
              (filtered-more log so_far.past here filter table so_far.size so_far.filtered (λ u. omega (arith, counts u, inside u)) w
              m.its-version table₁ (subst (λ (t : Bool). Suspecting log table w (is_marked filter w) t table₁) e h));
        }

  pub filter-end : entry_at L s at ≡ end → Filtered log after filter table
  unfolding placed_in
  filter-end e =
      let none : so_far.rest ≡ [] = cc (rest_end L s at e, so_far.scans) in
      let same : so_far.past ≡ after =
      sym (so_far.splits ∙ ap (λ (l : List Item). so_far.past ++ placed_in L i l) none ∙ append-nil so_far.past) in
      subst (λ (l : List Placed). Filtered log l filter table) same so_far.filtered

  pub filter-damage : entry_at L s at ≡ damage → ⊥
  filter-damage e = let z : ◌≡◌ {A = ℕ} 0 1 = cc (rest-damage L s at e, so_far.scans) in omega arith

-- ---- the slots of the log

module _ (v : ℕ → View) (p : ℕ → Bool) where
  -- the log of fewer slots has no more entries
  log-inside : (u i n : ℕ) → i ≤ n → count u (log_of v p i) ≤ count u (log_of v p n)
  unfolding log_of
  log-inside u i zero h =
      let e : i ≡ zero = omega arith in
      subst (λ (m : ℕ). count u (log_of v p i) ≤ count u (log_of v p m)) e (omega arith)
  log-inside u i (suc n) h = go (eqb i (suc n)) refl (λ l. log-inside u i n l)
    where
      go : (t : Bool) → eqb i (suc n) ≡ t → (i ≤ n → count u (log_of v p i) ≤ count u (log_of v p n))
          → count u (log_of v p i) ≤ count u (log_of v p (suc n))
      go true q below = subst (λ (m : ℕ). count u (log_of v p i) ≤ count u (log_of v p m)) (eqb-true i (suc n) q) (omega arith)
      go false q below =
          let apart = eqb-false i (suc n) q in
          omega (arith, below (omega arith), count-append u (log_of v p n) (pick (p n) (placed_in (v n).layout n (items_of (v n).scan)) []))

  pub slot-inside-log : (i n : ℕ) → i < n → (u : ℕ) → count u (log_of v p (i + 1)) ≤ count u (log_of v p n)
  slot-inside-log i n h u = log-inside u (i + 1) n (omega arith)

  pub filtered-skip : (i n : ℕ) (filter table : List ℕ) → Filtered (log_of v p n) (log_of v p i) filter table → p i ≡ false
      → Filtered (log_of v p n) (log_of v p (i + 1)) filter table
  filtered-skip i n filter table h q = subst (λ (l : List Placed). Filtered (log_of v p n) l filter table) (sym (log-skip v p i q)) h

  pub enters : (i n : ℕ) (filter table : List ℕ) → log_damaged v p n ≡ false → i < n → p i ≡ true → length filter ≡ 512
      → Filtered (log_of v p n) (log_of v p i) filter table → Entering v p i n filter table
  enters i n filter table sound below picked size filtered =
      record { below = below; picked = picked; undamaged = go (is_damaged (v i).scan) refl; size = size; filtered = filtered }
    where
      go : (t : Bool) → is_damaged (v i).scan ≡ t → is_damaged (v i).scan ≡ false
      go true e = absurd (clash (log_damaged v p n) (damaged-slot v p i n below picked e) sound)
      go false e = e

-- the last look at the suspects decides
pub filtered-all : (log : List Placed) (filter table : List ℕ) → Filtered log log filter table → (r : Bool) → r ≡ ltb (occupied table) (hits table log)
    → r ≡ version_shared log
filtered-all log filter table h r told = go r refl
  where
    one : (u : ℕ) (t : Bool) → holds table u ≡ t → r ≡ false → count u log ≤ 1
    one u true p e = look-alone log table h.suspects r told e u p
    one u false p e = h.once u p

    go : (t : Bool) → r ≡ t → r ≡ version_shared log
    go true e = e ∙ sym (look-shared log table h.suspects r told e)
    go false e = e ∙ sym (count-shared log (λ u. one u (holds table u) refl e))
