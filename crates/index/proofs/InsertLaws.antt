-- Laws of: An insertion at each of its tests, and going through a list of entries, in any order, gives the index rule for them.
use Prim.Native.Nat.{ℕ, ◌+◌, ◌-◌, ◌≤◌, ◌<◌}
use Rattle.std.specs.Prelude.{◌≡◌, Bool, ltb, length, get_or, replicate}
use Rattle.std.proofs.Math.Path.{refl, sym, ap, subst}
use Rattle.std.proofs.Common.{◌∙◌, inl, arith}
use Rattle.std.proofs.Math.Bool.{true, false}
use mathlib.Core.List.Memᴰ
use mathlib.Core.List.{List, [], ◌∷◌, ◌++◌, append-nil}
use Rattle.std.proofs.Math.Option.{Option, none, some}
use Rattle.std.proofs.Math.Dec.{eqb}
use Rattle.std.proofs.Math.ListN.{set, length-set}
use Rattle.std.proofs.lemmas.List.{length-replicate, get_or-replicate}
use borrow.Author.Tests.{lt-ltb, le-ltb, ltb-true, ltb-false, eqb-true, eqb-false}
use Rattle.segment.proofs.Choice.{pick_true, pick-false}
use Rattle.segment.specs.Entry.{key_of}
use Rattle.segment.specs.declared.Key.{Key}
use Rattle.model.specs.Log.{Placed, place_of, same_key, latest, has_key, keys_of}
use Rattle.model.specs.Index.{HasCell, IndexRule}
use Rattle.laws.specs.Members.{clash, first, Within, Same, same-sym, same-trans, added-same, added-between}
use Rattle.laws.specs.Latest.{Newest, latest-some, latest-none, latest-has, key-none, Apart, apart-same}
use Rattle.laws.specs.Keys.{keys-same}
use Rattle.index.specs.Search.{version_at, cell_has, search_for, most_cells}
use Rattle.index.proofs.SearchLaws.{search-within}
use Rattle.index.specs.Finds.{Picks, FreeCell}
use Rattle.index.proofs.Finds.{search-known, search-new}
use Rattle.index.proofs.Front.{latest-again}
use Rattle.index.proofs.Puts.{rule-latest, rule-same, target-known, target-new, put-newest, put-older}
use Rattle.index.specs.Area.{AllIn}
use Rattle.index.proofs.Area.{area-picks, cell-version}
use Rattle.index.specs.Insert.{Insertion, inserted_at, inserted, Tally, counted, over, tallied, insert_next, insert_all}
use Rattle.index.specs.declared.Found.{Found}
use Rattle.index.specs.declared.Inserted.{Inserted}
use Rattle.index.specs.InsertLaws.{Indexed, Tells, tells_none}

-- ---- one insertion at each of its tests

module _ (area cells : List ℕ) (place : ℕ) (k : Key) (version : ℕ) where
  pub insert-newer :
      (i : ℕ) → search_for area cells k ≡ Found.At i → version_at area (get_or cells i 0 - 1) < version →
      inserted area cells place k version ≡ record { answer = Inserted.Newer (get_or cells i 0 - 1); cells = set cells i (place + 1) }
  unfolding inserted_at
  insert-newer i e h =
      ap (inserted_at area cells place version) e
      ∙ pick_true (ltb (version_at area (get_or cells i 0 - 1)) version) _ _ (lt-ltb (version_at area (get_or cells i 0 - 1)) version h)

  pub insert-older :
      (i : ℕ) → search_for area cells k ≡ Found.At i → version ≤ version_at area (get_or cells i 0 - 1) →
      inserted area cells place k version ≡ record { answer = Inserted.Older; cells = cells }
  unfolding inserted_at
  insert-older i e h =
      ap (inserted_at area cells place version) e
      ∙ pick-false (ltb (version_at area (get_or cells i 0 - 1)) version) _ _ (le-ltb (version_at area (get_or cells i 0 - 1)) version h)

  pub insert-new :
      (i : ℕ) → search_for area cells k ≡ Found.Free i →
      inserted area cells place k version ≡ record { answer = Inserted.New; cells = set cells i (place + 1) }
  unfolding inserted_at
  insert-new i e = ap (inserted_at area cells place version) e

  pub insert-full : search_for area cells k ≡ Found.Full → inserted area cells place k version ≡ record { answer = Inserted.Full; cells = cells }
  unfolding inserted_at
  insert-full e = ap (inserted_at area cells place version) e

-- ---- the tally at each answer

module _ (cells : List ℕ) (n : ℕ) where
  pub tally-new : n + 1 < length cells → tallied Inserted.New cells n ≡ counted cells (n + 1)
  unfolding tallied
  tally-new h = pick_true (ltb (n + 1) (length cells)) (counted cells (n + 1)) over (lt-ltb (n + 1) (length cells) h)

  pub tally-over : length cells ≤ n + 1 → tallied Inserted.New cells n ≡ over
  unfolding tallied
  tally-over h = pick-false (ltb (n + 1) (length cells)) (counted cells (n + 1)) over (le-ltb (n + 1) (length cells) h)

  pub tally-newer : (old : ℕ) → tallied (Inserted.Newer old) cells n ≡ counted cells n
  unfolding tallied
  tally-newer old = refl

  pub tally-older : tallied Inserted.Older cells n ≡ counted cells n
  unfolding tallied
  tally-older = refl

  pub tally-full : tallied Inserted.Full cells n ≡ over
  unfolding tallied
  tally-full = refl

pub insert-next :
    (area : List ℕ) (S : ℕ) (x : Placed) (cells : List ℕ) (n : ℕ) (i : Insertion) →
    inserted area cells (place_of S x) (key_of x.entry) x.entry.version ≡ i →
    insert_next area S x (counted cells n) ≡ tallied i.answer i.cells n
unfolding insert_next
insert-next area S x cells n i e = ap (λ (j : Insertion). tallied j.answer j.cells n) e

pub insert-over : (area : List ℕ) (S : ℕ) (xs : List Placed) → insert_all area S xs over ≡ over
unfolding insert_all insert_next
insert-over area S [] = refl
insert-over area S (x ∷ xs) = insert-over area S xs

-- ---- what a tally says of the entries gone through

-- the keys of a log with one more entry
keys-old : (log : List Placed) (x : Placed) → has_key log (key_of x.entry) ≡ true → keys_of (x ∷ log) ≡ keys_of log
unfolding keys_of
keys-old log x e = pick_true (has_key log (key_of x.entry)) (keys_of log) (key_of x.entry ∷ keys_of log) e

keys-new : (log : List Placed) (x : Placed) → has_key log (key_of x.entry) ≡ false → keys_of (x ∷ log) ≡ key_of x.entry ∷ keys_of log
unfolding keys_of
keys-new log x e = pick-false (has_key log (key_of x.entry)) (keys_of log) (key_of x.entry ∷ keys_of log) e

module _ (area : List ℕ) (S m : ℕ) (log : List Placed) (x : Placed) (most : m ≤ most_cells) (there : AllIn area S (x ∷ log)) (apart : Apart (x ∷ log)) where
  picks-all : Picks (cell_has area (key_of x.entry)) S (x ∷ log) (key_of x.entry)
  picks-all = area-picks area S (x ∷ log) (key_of x.entry) there

  more-keys : length (keys_of log) ≤ length (keys_of (x ∷ log))
  more-keys = go (has_key log (key_of x.entry)) refl
    where
      go : (t : Bool) → has_key log (key_of x.entry) ≡ t → length (keys_of log) ≤ length (keys_of (x ∷ log))
      go true e = rw (keys-old log x e) (omega arith)
      go false e = rw (keys-new log x e) (omega arith)

  module _ (cells : List ℕ) (n : ℕ) (ix : Indexed S m log cells n) where
    -- a known key
    module _ (y : Placed) (l : latest log (key_of x.entry) ≡ some y) where
      same_keys : n ≡ length (keys_of (x ∷ log))
      same_keys = ix.keys ∙ ap length (sym (keys-old log x (latest-has log (key_of x.entry) y l)))

      newest : Newest log (key_of x.entry) y
      newest = latest-some log (key_of x.entry) y l

      module _ (c : HasCell S cells y) (found : search_for area cells (key_of x.entry) ≡ Found.At c.cell) where
        its-version : version_at area (get_or cells c.cell 0 - 1) ≡ y.entry.version
        its-version = cell-version area S cells y (there y (Memᴰ.tail newest.member)) c

        newer : y.entry.version < x.entry.version → Tells S m (x ∷ log) (insert_next area S x (counted cells n))
        unfolding Tells
        newer h =
            subst (Tells S m (x ∷ log))
            (sym
            (insert-next area S x cells n
            (record { answer = Inserted.Newer (get_or cells c.cell 0 - 1); cells = set cells c.cell (place_of S x + 1) })
            (insert-newer area cells (place_of S x) (key_of x.entry) x.entry.version c.cell found (omega (arith, its-version)))
            ∙ tally-newer (set cells c.cell (place_of S x + 1)) n (get_or cells c.cell 0 - 1)))
            (record {
              rule =
                  put-newest S log cells ix.rule x (cell_has area (key_of x.entry)) picks-all c.cell
                  (target-known S log cells (key_of x.entry) y l c) (λ z i s. omega (arith, newest.none_above z i s));
              keys = same_keys;
              few = ix.few;
              long = length-set cells c.cell (place_of S x + 1) ∙ ix.long;
            })

        older : x.entry.version ≤ y.entry.version → Tells S m (x ∷ log) (insert_next area S x (counted cells n))
        unfolding Tells
        older h =
            subst (Tells S m (x ∷ log))
            (sym
            (insert-next area S x cells n (record { answer = Inserted.Older; cells = cells })
            (insert-older area cells (place_of S x) (key_of x.entry) x.entry.version c.cell found (omega (arith, its-version)))
            ∙ tally-older cells n))
            (record { rule = rule (eqb x.entry.version y.entry.version) refl; keys = same_keys; few = ix.few; long = ix.long })
          where
            rule : (t : Bool) → eqb x.entry.version y.entry.version ≡ t → IndexRule S (x ∷ log) cells
            rule true e =
                let same : x ≡ y = apart x y first (Memᴰ.tail newest.member) (eqb-true x.entry.version y.entry.version e) in
                rule-latest S log (x ∷ log) cells (λ j. sym (latest-again log x (l ∙ ap some (sym same)) j)) ix.rule
            rule false e =
                let apart_by = eqb-false x.entry.version y.entry.version e in
                put-older S log cells x y ix.rule l (omega arith)

    -- a new key
    module _ (l : latest log (key_of x.entry) ≡ none) (c : FreeCell cells (key_of x.entry))
        (found : search_for area cells (key_of x.entry) ≡ Found.Free c.cell) where
      one_more : length (keys_of (x ∷ log)) ≡ n + 1
      one_more = ap length (keys-new log x (key-none log (key_of x.entry) (latest-none log (key_of x.entry) l))) ∙ omega (arith, ix.keys)

      went : insert_next area S x (counted cells n) ≡ tallied Inserted.New (set cells c.cell (place_of S x + 1)) n
      went =
          insert-next area S x cells n
          (record { answer = Inserted.New; cells = set cells c.cell (place_of S x + 1) })
          (insert-new area cells (place_of S x) (key_of x.entry) x.entry.version c.cell found)

      fresh : Tells S m (x ∷ log) (insert_next area S x (counted cells n))
      unfolding Tells
      fresh = go (ltb (n + 1) (length (set cells c.cell (place_of S x + 1)))) refl
        where
          after : List ℕ
          after = set cells c.cell (place_of S x + 1)

          long : length after ≡ m
          long = length-set cells c.cell (place_of S x + 1) ∙ ix.long

          go : (t : Bool) → ltb (n + 1) (length after) ≡ t → Tells S m (x ∷ log) (insert_next area S x (counted cells n))
          go true e =
              let below = ltb-true (n + 1) (length after) e in
              subst (Tells S m (x ∷ log)) (sym (went ∙ tally-new after n below))
              (record {
                rule =
                    put-newest S log cells ix.rule x (cell_has area (key_of x.entry)) picks-all c.cell
                    (target-new S log cells (key_of x.entry) l c)
                    (λ z i s. absurd (clash (same_key (key_of x.entry) z.entry) s (latest-none log (key_of x.entry) l z i)));
                keys = sym one_more;
                few = omega (arith, long);
                long = long;
              })
          go false e =
              let many = ltb-false (n + 1) (length after) e in
              subst (Tells S m (x ∷ log)) (sym (went ∙ tally-over after n many)) (omega (arith, one_more, long))

    one : Tells S m (x ∷ log) (insert_next area S x (counted cells n))
    one = go (latest log (key_of x.entry)) refl
      where
        some_key : (y : Placed) (l : latest log (key_of x.entry) ≡ some y) (c : HasCell S cells y) →
            search_for area cells (key_of x.entry) ≡ Found.At c.cell → (t : Bool) → ltb y.entry.version x.entry.version ≡ t →
            Tells S m (x ∷ log) (insert_next area S x (counted cells n))
        some_key y l c f true e = newer y l c f (ltb-true y.entry.version x.entry.version e)
        some_key y l c f false e = older y l c f (ltb-false y.entry.version x.entry.version e)

        go : (o : Option Placed) → latest log (key_of x.entry) ≡ o → Tells S m (x ∷ log) (insert_next area S x (counted cells n))
        go none l =
            let f = search-new S log cells ix.rule (cell_has area (key_of x.entry)) (key_of x.entry)
            (λ y i. picks-all y (Memᴰ.tail i)) l (omega (arith, ix.keys, ix.few, ix.long)) in
            fresh l f.0 (search-within area cells (key_of x.entry) (omega (arith, ix.long, most)) ∙ f.1)
        go (some y) l =
            let f = search-known S log cells ix.rule (cell_has area (key_of x.entry)) (key_of x.entry)
            (λ z i. picks-all z (Memᴰ.tail i)) y l in
            some_key y l f.0 (search-within area cells (key_of x.entry) (omega (arith, ix.long, most)) ∙ f.1) (ltb y.entry.version x.entry.version) refl

    -- what an insertion of a newer entry answers: the place of the key's latest entry, which it replaces, or that the key is new
    pub replaces : (y : Placed) → latest log (key_of x.entry) ≡ some y → y.entry.version < x.entry.version
        → (inserted area cells (place_of S x) (key_of x.entry) x.entry.version).answer ≡ Inserted.Newer (place_of S y)
    replaces y l h =
        let f = search-known S log cells ix.rule (cell_has area (key_of x.entry)) (key_of x.entry)
        (λ z i. picks-all z (Memᴰ.tail i)) y l in
        ap (λ (i : Insertion). i.answer)
        (insert-newer area cells (place_of S x) (key_of x.entry) x.entry.version f.0.cell (search-within area cells (key_of x.entry) (omega (arith, ix.long, most)) ∙ f.1)
        (omega (arith, its-version y l f.0 (search-within area cells (key_of x.entry) (omega (arith, ix.long, most)) ∙ f.1))))
        ∙ ap Inserted.Newer (omega (arith, f.0.holds))

    pub comes-new : latest log (key_of x.entry) ≡ none
        → (inserted area cells (place_of S x) (key_of x.entry) x.entry.version).answer ≡ Inserted.New
    comes-new l =
        let f = search-new S log cells ix.rule (cell_has area (key_of x.entry)) (key_of x.entry)
        (λ y i. picks-all y (Memᴰ.tail i)) l (omega (arith, ix.keys, ix.few, ix.long)) in
        ap (λ (i : Insertion). i.answer)
        (insert-new area cells (place_of S x) (key_of x.entry) x.entry.version f.0.cell
        (search-within area cells (key_of x.entry) (omega (arith, ix.long, most)) ∙ f.1))

  -- one entry more
  pub tells-next : (s : Tally) → Tells S m log s → Tells S m (x ∷ log) (insert_next area S x s)
  unfolding Tells insert_next
  tells-next (counted cells n) w = one cells n w
  tells-next over w = omega (arith, more-keys)

-- ---- a list of entries, in any order

pub tells-same : (S m : ℕ) (a b : List Placed) → Same a b → Apart a → (s : Tally) → Tells S m a s → Tells S m b s
unfolding Tells
tells-same S m a b e d (counted cells n) w =
    record { rule = rule-same S a b cells e d w.rule; keys = w.keys ∙ keys-same a b e; few = w.few; long = w.long }
tells-same S m a b e d over w = omega (arith, keys-same a b e)

module _ (area : List ℕ) (S m : ℕ) (most : m ≤ most_cells) (all : List Placed) (there : AllIn area S all) (apart : Apart all) where
  -- items are left to go through, and log is what was gone through
  pub tells-rest :
      (items log : List Placed) → Within items all → Within log all → (s : Tally) → Tells S m log s →
      (gone : List Placed) × Same (items ++ log) gone × Tells S m gone (insert_all area S items s)
  unfolding insert_all
  tells-rest [] log wi wl s w = (log, record { to = λ y i. i; from = λ y i. i }, w)
  tells-rest (x ∷ items) log wi wl s w =
      let rest = tells-rest items (x ∷ log) (λ y i. wi y (Memᴰ.tail i)) within (insert_next area S x s)
      (tells-next area S m log x most (λ y i. there y (within y i)) (λ y z i j. apart y z (within y i) (within z j)) s w) in
      (rest.0, same-trans (added-same (added-between items x log)) rest.1, rest.2)
    where
      within : Within (x ∷ log) all
      within y (Memᴰ.head e) = wi y (Memᴰ.head e)
      within y (Memᴰ.tail i) = wl y i

-- Whatever the order of a log's entries, going through them gives the rule for the log and the number of its keys, or finds
-- as many keys as cells or more.
pub tells-log :
    (area : List ℕ) (S m : ℕ) (items log : List Placed) → 0 < m → m ≤ most_cells → Same items log → AllIn area S log → Apart log →
    Tells S m log (insert_all area S items (counted (replicate m 0) 0))
tells-log area S m items log h most e there apart =
    let w = tells-rest area S m most log there apart items [] e.to (λ y i. absurd (Memᴰ.not-nil i)) (counted (replicate m 0) 0) (tells_none S m h) in
    let same : Same w.0 log =
    same-trans (same-sym w.1) (same-trans (record { to = λ y i. rw (append-nil items) at i; from = λ y i. rw (append-nil items) i }) e) in
    tells-same S m w.0 log same (apart-same (same-sym same) apart) (insert_all area S items (counted (replicate m 0) 0)) w.2
