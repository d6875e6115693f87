-- Laws of: The cells of an index that keeps its rule give the ranks of the present keys, each once.
use Rattle.std.specs.Prelude.{ℕ, ◌+◌, ◌*◌, ◌-◌, ◌<◌, ◌≤◌, Bool, List, eqb, length, get_or, drop}
use Rattle.std.proofs.Math.Path.{◌≡◌, refl, sym, ap}
use Rattle.std.proofs.Common.{◌∙◌, subst, arith, ne_eqb, eq-eqb}
use Rattle.std.proofs.Math.Bool.{true, false}
use Rattle.std.proofs.Math.Option.{Option, none, some}
use Rattle.word.specs.Laws.{bytes_take, bytes_drop}
use Rattle.segment.specs.Area.{stands_at}
use Rattle.segment.specs.Choice.{pick}
use Rattle.segment.proofs.Choice.{pick_true, pick-false}
use Rattle.segment.specs.Layout.{Layout}
use Rattle.segment.specs.Entry.{entry, answer, key_of, is_tombstone}
use Rattle.segment.proofs.EntryLaws.{found-stands}
use Rattle.segment.specs.declared.Key.{Key}
use Rattle.segment.specs.declared.Read.{Read}
use Rattle.slot_map.specs.Bit.{named}
use Rattle.record.specs.Reach.{all_tables}
use Rattle.record.specs.RangeLaws.{Lent, lent}
use Rattle.record.specs.declared.Record.{Record}
use Rattle.model.specs.Log.{Placed, place_of, placed_kind, placed_size, segment_of, latest, object_only, present}
use Rattle.model.specs.Index.{IsLatest, HasCell}
use Rattle.model.specs.Operations.{log_now, TypedKey}
use Rattle.laws.specs.Members.{In}
use Rattle.laws.specs.Latest.{latest-some, same_key_lem}
use Rattle.index.proofs.Area.{place-back}
use Rattle.index.proofs.BuildLaws.{log-reads}
use Rattle.index.proofs.Finds.{held}
use Rattle.recovery.proofs.LookupLaws.{genuine-scans, at_place}
use Rattle.report.specs.Ascent.{gathered}
use Rattle.report.proofs.Ascent.{Gives, GivesOnce, gathered-given, given-gathered, gathered-ascending, ascending-one}
use Rattle.report.specs.Ordered.{rank, ranks, AllTyped}
use Rattle.report.proofs.Ordered.{rank-one, HasObject, present-latest, present-typed, present-ranked}
use Rattle.report.specs.Listing.{present_keys}
use Rattle.report.specs.Gather.{RecoveredArea, cell_rank, present_ranks, rank_read}

pub cell_free : (area : List ℕ) (c : ℕ) → c ≡ 0 → cell_rank area c ≡ none
unfolding cell_rank
cell_free area c e = pick_true (eqb c 0) _ _ (eq-eqb c 0 e)

pub cell-taken : (area : List ℕ) (c : ℕ) → (c ≡ 0 → ⊥) → cell_rank area c ≡ rank_read (stands_at area (c - 1))
unfolding cell_rank
cell-taken area c e = pick-false (eqb c 0) _ _ (ne_eqb c 0 e)

-- what the reader answers at the place
pub cell-read : (area : List ℕ) (c : ℕ) (found : Read) → (c ≡ 0 → ⊥) → found ≡ stands_at area (c - 1) → cell_rank area c ≡ rank_read found
cell-read area c found taken e = cell-taken area c taken ∙ ap rank_read (sym e)

module _ (L : Layout) (area : List ℕ) (r : Record) (cells : List ℕ) (ready : RecoveredArea L area r cells) where
  abbrev S : ℕ
  S = r.size

  abbrev log : List Placed
  log = log_now area r

  limits : Lent L r (length area) (length cells)
  limits = lent L r (length area) (length cells) ready.fit

  pub cells-few : length cells ≤ 4096
  cells-few = omega (arith, limits.index-own, limits.cells-high)

  -- ---- the entries of the log

  typed-entry : (x : Placed) → In x log → TypedKey (key_of x.entry)
  typed-entry x m =
      let found = log-reads area S (named r.map) r.slots (genuine-scans L r area cells ready.genuine) x m in
      let formed = (found-stands x.layout (segment_of area S x.slot) x.offset x.entry found
      (bytes_take S (drop (x.slot * S) area) (bytes_drop (x.slot * S) area ready.bytes))).formed in
      (formed.table_fits, formed.key_fits)

  -- ---- a key's latest entry

  module _ (x : Placed) (l : IsLatest log x) where
    member : In x log
    member = (latest-some log (key_of x.entry) x l).member

    its-present : present log (key_of x.entry) ≡ pick (is_tombstone x.entry) none (some x)
    unfolding present object_only
    its-present = ap object_only l

    its-rank : cell_rank area (place_of S x + 1) ≡ pick (is_tombstone x.entry) none (some (rank (key_of x.entry)))
    its-rank =
        cell-taken area (place_of S x + 1) (λ e. omega arith)
        ∙ ap (λ (p : ℕ). rank_read (stands_at area p)) (place-back (place_of S x))
        ∙ ap rank_read (at_place L r area cells all_tables (key_of x.entry) ready.genuine ready.fit x member)
        ∙ of-answer
      where
        of-answer : rank_read (answer x.layout (entry x.entry)) ≡ pick (is_tombstone x.entry) none (some (rank (key_of x.entry)))
        of-answer = unfold rank_read answer pick in go (is_tombstone x.entry)
          where
            go : (t : Bool) → rank_read (pick t (Read.Tombstone (key_of x.entry) (record { 0 = x.entry.version }) (placed_size x))
                (Read.Object (key_of x.entry) (record { 0 = x.entry.version }) (placed_kind x) (placed_size x)))
                ≡ pick t none (some (rank (key_of x.entry)))
            go true = unfold rank_read pick in refl
            go false = unfold rank_read pick in refl

  -- the entry behind a cell that gives a rank
  pub record Behind (i z : ℕ) : Type 0 where
    pub object : Placed
    pub is-latest : IsLatest log object
    pub holds : get_or cells i 0 ≡ place_of S object + 1
    pub is-present : present log (key_of object.entry) ≡ some object
    pub ranks-so : z ≡ rank (key_of object.entry)

  given-behind : (i z : ℕ) → i < length cells → cell_rank area (get_or cells i 0) ≡ some z → Behind i z
  given-behind i z below e = from (held S log cells ready.genuine.rule i below taken)
    where
      taken : get_or cells i 0 ≡ 0 → ⊥
      taken q = let d = cell_free area (get_or cells i 0) q in let w : ◌≡◌ {A = ℕ} 0 1 = cc in absurd (omega arith)

      from : (x : Placed) × IsLatest log x × (get_or cells i 0 ≡ place_of S x + 1) → Behind i z
      from (x, l, c) = go (is_tombstone x.entry) (sym (its-rank x l) ∙ ap (cell_rank area) (sym c) ∙ e) (its-present x l)
        where
          go : (t : Bool) → pick t none (some (rank (key_of x.entry))) ≡ some z → present log (key_of x.entry) ≡ pick t none (some x) → Behind i z
          go true q p = unfold pick in (let w : ◌≡◌ {A = ℕ} 0 1 = cc in absurd (omega arith))
          go false q p =
              let q' : some (rank (key_of x.entry)) ≡ some z = sym (pick-false false _ _ refl) ∙ q in
              record { object = x; is-latest = l; holds = c; is-present = p ∙ pick-false false _ _ refl; ranks-so = cc }

  gives-once : GivesOnce (cell_rank area) cells
  gives-once i j z bi bj p q =
      let a = given-behind i z bi p in
      let b = given-behind j z bj q in
      let x = a.object in
      let y = b.object in
      let keys : key_of x.entry ≡ key_of y.entry =
      rank-one (key_of x.entry) (key_of y.entry) (typed-entry x (member x a.is-latest)) (typed-entry y (member y b.is-latest))
      (sym a.ranks-so ∙ b.ranks-so) in
      let one : some x ≡ some y = sym a.is-latest ∙ ap (latest log) keys ∙ b.is-latest in
      let same : x ≡ y = cc in
      ready.genuine.rule.once i j bi bj (λ e. omega (arith, a.holds, e)) (a.holds ∙ ap (λ (w : Placed). place_of S w + 1) same ∙ sym b.holds)

  object-key : (k : Key) (x : Placed) → present log k ≡ some x → k ≡ key_of x.entry
  object-key k x e = same_key_lem k x.entry (latest-some log k x (present-latest log k x e)).of-key

  typed-object : (k : Key) → HasObject log k → TypedKey k
  typed-object k (x, e) =
      subst TypedKey (sym (object-key k x e)) (typed-entry x (latest-some log k x (present-latest log k x e)).member)

  object-gives : (k : Key) → HasObject log k → Gives (cell_rank area) cells (rank k)
  object-gives k (x, e) = at (ready.genuine.rule.found x is-latest)
    where
      is-latest : IsLatest log x
      is-latest = ap (latest log) (sym (object-key k x e)) ∙ present-latest log k x e

      its : pick (is_tombstone x.entry) none (some x) ≡ some x
      its = sym (its-present x is-latest) ∙ ap (present log) (sym (object-key k x e)) ∙ e

      go : (t : Bool) → pick t none (some x) ≡ some x → pick t none (some (rank (key_of x.entry))) ≡ some (rank k)
      go true q = unfold pick in (let w : ◌≡◌ {A = ℕ} 0 1 = cc in absurd (omega arith))
      go false q = pick-false false _ _ refl ∙ ap (λ (j : Key). some (rank j)) (sym (object-key k x e))

      at : HasCell S cells x → Gives (cell_rank area) cells (rank k)
      at c = (c.cell, c.below, ap (cell_rank area) c.holds ∙ its-rank x is-latest ∙ go (is_tombstone x.entry) its)

  -- ---- what the walk over the index gathers

  pub index-gathers : gathered (cell_rank area) cells ≡ present_ranks area r
  index-gathers =
      let o = present-ranked log typed-object in
      ascending-one (gathered (cell_rank area) cells) (ranks (present_keys log))
      (gathered-ascending (cell_rank area) cells gives-once) o.ascend
      (record {
        to = λ z m. to z (gathered-given (cell_rank area) cells z m);
        from = λ z m. from z (o.only z m);
      })
    where
      to : (z : ℕ) → Gives (cell_rank area) cells z → In z (ranks (present_keys log))
      to z (i, l, e) =
          let b = given-behind i z l e in
          subst (λ (w : ℕ). In w (ranks (present_keys log))) (sym b.ranks-so)
          ((present-ranked log typed-object).all (key_of b.object.entry) (b.object, b.is-present))

      from : (z : ℕ) → (k : Key) × HasObject log k × (z ≡ rank k) → In z (gathered (cell_rank area) cells)
      from z (k, h, e) =
          subst (λ (w : ℕ). In w (gathered (cell_rank area) cells)) (sym e)
          (given-gathered (cell_rank area) cells (rank k) (object-gives k h))

  pub keys-typed : AllTyped (present_keys log)
  keys-typed = present-typed log typed-object
