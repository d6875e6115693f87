-- The table of suspects, and why as many entries as suspects mean that no suspect is shared.
use Rattle.std.specs.Prelude.{ℕ, ◌+◌, ◌≤◌, ◌<◌, ◌≡◌, Bool, ltb}
use Rattle.std.proofs.Math.Path.{refl, ap}
use Rattle.std.proofs.Common.{sym, ◌∙◌}
use Rattle.std.proofs.Math.Bool.{true, false}
use mathlib.Core.List.Memᴰ
use mathlib.Core.List.{List, [], ◌∷◌, ◌++◌}
use native.Mathlib.Omega.{arith}
use Rattle.std.proofs.Math.Decide.{dec_le}
use Rattle.std.proofs.Math.Dec.{eqb}
use borrow.Author.Tests.{eqb-true, eqb-false, ltb-true, ltb-false}
use Rattle.segment.specs.Choice.{pick}
use Rattle.segment.proofs.Choice.{pick_true, pick-false}
use Rattle.segment.proofs.LayoutLaws.{limit-high}
use Rattle.segment.specs.Digest.{layout_in}
use Rattle.segment.specs.Entry.{Entry}
use Rattle.segment.proofs.EntryLaws.{found_below}
use Rattle.model.specs.Log.{Placed, Scan, damaged, scanned, items_of, segment_of, views_of, log_of, version_shared}
use Rattle.laws.specs.Members.{clash, In, first, entries_of, entries-append, total, total-append}
use Rattle.laws.specs.Scans.{scan-scans, scans-found}
use Rattle.laws.specs.LogLaws.{log-in}
use Rattle.laws.specs.Versions.{counted, count, count-found, shared-count}
use Rattle.drive_log.specs.Tables.{vacant, holds, occupied, Empty, empty-occupied, empty_holds, Sorted, empty-sorted, Put, put_has, put-others, put-occupied}

-- ---- one suspect more

-- What it means that more is the table with one suspect more, v.
pub record Adds (table : List ℕ) (v : ℕ) (more : List ℕ) : Type 0 where
  pub sorted : Sorted more
  pub fresh : holds table v ≡ false
  pub has : holds more v ≡ true
  pub others : (u : ℕ) → u < vacant → (u ≡ v → ⊥) → holds more u ≡ holds table u
  pub one_more : occupied more ≡ occupied table + 1

put-adds : (table : List ℕ) (v : ℕ) → v < vacant → holds table v ≡ false → (more : List ℕ) → Put table v more → Adds table v more
put-adds table v p new more put =
    record {
      sorted = put.sorted;
      fresh = new;
      has = put_has table v p more put;
      others = put-others table v p more put;
      one_more = put-occupied table v p more put;
    }

-- ---- the entries with a suspect's version

unfoldable pub hit : List ℕ → Entry → ℕ
hit table e = pick (holds table e.version) 1 0

abbrev pub hits : List ℕ → List Placed → ℕ
hits table log = total (hit table) (entries_of log)

pub hits-append : (table : List ℕ) (a b : List Placed) → hits table (a ++ b) ≡ hits table a + hits table b
hits-append table a b = rw (entries-append a b) (total-append (hit table) (entries_of a) (entries_of b))

-- no entry's version is that of an empty cell
abbrev pub Below : List Placed → Type 0
Below log = (x : Placed) → In x log → x.entry.version < vacant

pub log-below : (area : List ℕ) (S : ℕ) (p : ℕ → Bool) (n : ℕ) → Below (log_of (views_of area S) p n)
unfolding items_of
log-below area S p n x m =
    let w = log-in (views_of area S) p n x m in
    go (views_of area S x.slot).scan refl w.item
  where
    go : (r : Scan) → (views_of area S x.slot).scan ≡ r → In (record { offset = x.offset; entry = x.entry }) (items_of r) → x.entry.version < vacant
    go damaged e i = absurd (Memᴰ.not-nil i)
    go (scanned is k) e i =
        let s : List ℕ = segment_of area S x.slot in
        let l = found_below (layout_in s) s x.offset x.entry (scans-found (scan-scans (layout_in s) s e) i) in
        omega (arith, limit-high (layout_in s))

count_none : (log : List Placed) → Below log → (u : ℕ) → vacant ≤ u → count u log ≡ 0
count_none log h u q = go (dec_le 1 (count u log))
  where
    go : Dec (1 ≤ count u log) → count u log ≡ 0
    go (yes l) = let w = count-found u log l in absurd (omega (arith, h w.0 w.1, w.2))
    go (no l) = omega arith

empty-hits : (table : List ℕ) → Empty table → (log : List Placed) → Below log → hits table log ≡ 0
unfolding total hit
empty-hits table h [] p = refl
empty-hits table h (x ∷ xs) p =
    omega (
      arith,
      pick-false {A = ℕ} (holds table x.entry.version) 1 0 (empty_holds table h x.entry.version (p x first)),
      empty-hits table h xs (λ y m. p y (Memᴰ.tail m)),
    )

module _ (table : List ℕ) (v : ℕ) (more : List ℕ) (adds : Adds table v more) where
  hit-more : (e : Entry) → e.version < vacant → hit more e ≡ hit table e + counted v e
  unfolding hit counted
  hit-more e p = go (eqb e.version v) refl
    where
      go : (t : Bool) → eqb e.version v ≡ t → pick (holds more e.version) 1 0 ≡ pick (holds table e.version) 1 0 + pick (eqb e.version v) 1 0
      go true q =
          let same : e.version ≡ v = eqb-true e.version v q in
          omega (
            arith,
            pick_true {A = ℕ} (holds more e.version) 1 0 (ap (holds more) same ∙ adds.has),
            pick-false {A = ℕ} (holds table e.version) 1 0 (ap (holds table) same ∙ adds.fresh),
            pick_true {A = ℕ} (eqb e.version v) 1 0 q,
          )
      go false q =
          omega (
            arith,
            ap (λ (t : Bool). pick {A = ℕ} t 1 0) (adds.others e.version p (eqb-false e.version v q)),
            pick-false {A = ℕ} (eqb e.version v) 1 0 q,
          )

  hits_more : (log : List Placed) → Below log → hits more log ≡ hits table log + count v log
  unfolding total
  hits_more [] p = refl
  hits_more (x ∷ xs) p = omega (arith, hit-more x.entry (p x first), hits_more xs (λ y m. p y (Memᴰ.tail m)))

-- ---- what the suspects of a log tell

-- Each suspect is the version of an entry. So there are no fewer such entries than suspects; if as many, each suspect stands
-- once, and if more, one is shared.
pub record Suspects (log : List Placed) (table : List ℕ) : Type 0 where
  pub sorted : Sorted table
  pub below : Below log
  pub none : occupied table ≡ 0 → hits table log ≡ 0
  pub least : occupied table ≤ hits table log
  pub alone : hits table log ≡ occupied table → (u : ℕ) → holds table u ≡ true → count u log ≤ 1
  pub shared : occupied table < hits table log → version_shared log ≡ true

twice-shared : (log : List Placed) (v : ℕ) → 1 < count v log → version_shared log ≡ true
twice-shared log v h = go (version_shared log) refl
  where
    go : (t : Bool) → version_shared log ≡ t → version_shared log ≡ true
    go true p = p
    go false p = absurd (omega (arith, shared-count log p v))

pub suspects-none : (log : List Placed) → Below log → (table : List ℕ) → Empty table → Suspects log table
suspects-none log p table h =
    let k = empty-occupied table h in
    let t = empty-hits table h log p in
    record {
      sorted = empty-sorted table h;
      below = p;
      none = λ e. t;
      least = omega arith;
      alone = λ e u q. alone u q (dec_le vacant u);
      shared = λ l. absurd (omega arith);
    }
  where
    alone : (u : ℕ) → holds table u ≡ true → Dec (vacant ≤ u) → count u log ≤ 1
    alone u q (yes l) = omega (arith, count_none log p u l)
    alone u q (no l) = absurd (clash (holds table u) q (empty_holds table h u (omega arith)))

pub suspects-more : (log : List Placed) (table : List ℕ) → Suspects log table → (v : ℕ) → 1 ≤ count v log → (more : List ℕ) → Adds table v more → Suspects log more
suspects-more log table h v stands more adds =
    let t = hits_more table v more adds log h.below in
    record {
      sorted = adds.sorted;
      below = h.below;
      none = λ e. absurd (omega (arith, adds.one_more));
      least = omega (arith, adds.one_more, h.least);
      alone = λ e u q. alone u q (eqb u v) refl (dec_le vacant u) (omega (arith, adds.one_more, h.least)) (omega (arith, adds.one_more, h.least));
      shared = λ l. shared (dec_le 2 (count v log)) (λ i. h.shared (omega (arith, adds.one_more)));
    }
  where
    alone : (u : ℕ) → holds more u ≡ true → (t : Bool) → eqb u v ≡ t → Dec (vacant ≤ u) → hits table log ≡ occupied table → count v log ≤ 1 → count u log ≤ 1
    alone u q true e d same few = omega (arith, ap (λ (w : ℕ). count w log) (eqb-true u v e))
    alone u q false e (yes d) same few = omega (arith, count_none log h.below u d)
    alone u q false e (no d) same few = h.alone same u (sym (adds.others u (omega arith) (eqb-false u v e)) ∙ q)

    shared : Dec (2 ≤ count v log) → ((count v log ≤ 1) → version_shared log ≡ true) → version_shared log ≡ true
    shared (yes l) f = twice-shared log v l
    shared (no l) f = f (omega arith)

-- ---- the look at the suspects, and the version put among them

module _ (log : List Placed) (table : List ℕ) (h : Suspects log table) where
  pub look_none : occupied table ≡ 0 → false ≡ ltb (occupied table) (hits table log)
  look_none e = rw (e, h.none e)

  pub look-some : (k d : ℕ) → k ≡ occupied table → d ≡ hits table log → ltb k d ≡ ltb (occupied table) (hits table log)
  look-some k d p q = ap (λ (j : ℕ). ltb j d) p ∙ ap (ltb (occupied table)) q

  module _ (r : Bool) (told : r ≡ ltb (occupied table) (hits table log)) where
    pub look-shared : r ≡ true → version_shared log ≡ true
    look-shared e = h.shared (ltb-true (occupied table) (hits table log) (sym told ∙ e))

    pub look-alone : r ≡ false → (u : ℕ) → holds table u ≡ true → count u log ≤ 1
    look-alone e = h.alone (omega (arith, h.least, ltb-false (occupied table) (hits table log) (sym told ∙ e)))

-- What it means that the entry's version w has been taken for a suspect if b holds, with the answer r: a version is shared,
-- or more is a table of suspects of the log, and what it has let go stands once at most.
pub record Suspecting (log : List Placed) (table : List ℕ) (w : ℕ) (b r : Bool) (more : List ℕ) : Type 0 where
  pub shared : r ≡ true → version_shared log ≡ true
  pub has : r ≡ false → b ≡ true → holds more w ≡ true
  pub suspects : r ≡ false → Suspects log more
  pub let_go : r ≡ false → (u : ℕ) → holds more u ≡ false → holds table u ≡ true → count u log ≤ 1

module _ (log : List Placed) (table : List ℕ) (h : Suspects log table) (w : ℕ) where
  -- the table stays
  pub suspect-kept : (b : Bool) → (b ≡ true → holds table w ≡ true) → Suspecting log table w b false table
  suspect-kept b f =
      record {
        shared = λ e. absurd (clash false e refl);
        has = λ e. f;
        suspects = λ e. h;
        let_go = λ e u p q. absurd (clash (holds table u) q p);
      }

  pub suspect-told : (b : Bool) (more : List ℕ) → version_shared log ≡ true → Suspecting log table w b true more
  suspect-told b more s =
      record {
        shared = λ e. s;
        has = λ e. absurd (clash true refl e);
        suspects = λ e. absurd (clash true refl e);
        let_go = λ e. absurd (clash true refl e);
      }

  module _ (stands : 1 ≤ count w log) where
    pub w-below : w < vacant
    w-below = let x = count-found w log stands in omega (arith, h.below x.0 x.1, x.2)

    pub suspect-put : holds table w ≡ false → (more : List ℕ) → Put table w more → Suspecting log table w true false more
    suspect-put new more put =
        let adds = put-adds table w w-below new more put in
        record {
          shared = λ e. absurd (clash false e refl);
          has = λ e b. adds.has;
          suspects = λ e. suspects-more log table h w stands more adds;
          let_go = λ e u p q. go adds u p q (eqb u w) refl (dec_le vacant u);
        }
      where
        go : Adds table w more → (u : ℕ) → holds more u ≡ false → holds table u ≡ true → (t : Bool) → eqb u w ≡ t → Dec (vacant ≤ u) → count u log ≤ 1
        go adds u p q true e d = absurd (clash (holds more w) adds.has (ap (holds more) (sym (eqb-true u w e)) ∙ p))
        go adds u p q false e (yes d) = omega (arith, count_none log h.below u d)
        go adds u p q false e (no d) = absurd (clash (holds more u) (adds.others u (omega arith) (eqb-false u w e) ∙ q) p)

    pub suspect-anew : ((u : ℕ) → holds table u ≡ true → count u log ≤ 1) → (cleared : List ℕ) → Empty cleared → (more : List ℕ) → Put cleared w more
        → Suspecting log table w true false more
    suspect-anew alone cleared e more put =
        let adds = put-adds cleared w w-below (empty_holds cleared e w w-below) more put in
        record {
          shared = λ q. absurd (clash false q refl);
          has = λ q b. adds.has;
          suspects = λ q. suspects-more log cleared (suspects-none log h.below cleared e) w stands more adds;
          let_go = λ q u p. alone u;
        }

-- taken for one always is taken for one if b holds
pub suspecting-if : (log : List Placed) (table : List ℕ) (w : ℕ) (b r : Bool) (more : List ℕ) → Suspecting log table w true r more → Suspecting log table w b r more
suspecting-if log table w b r more h =
    record { shared = h.shared; has = λ e q. h.has e refl; suspects = h.suspects; let_go = h.let_go }
