-- Laws of: The present keys by their ranks: a key's rank is one number that goes by table and then key.
use Rattle.std.specs.Prelude.{ℕ, ◌+◌, ◌*◌, ◌<◌, ◌/◌, ◌%◌, ◌⊎◌, Bool, eqb, ltb}
use Rattle.std.proofs.Math.Path.{◌≡◌, refl, ap}
use Rattle.std.proofs.Common.{sym, ◌∙◌, subst, inl, inr, arith, ltb-true, ltb-false, lt-ltb, le-ltb, eqb-true}
use Rattle.std.proofs.Math.Bool.{true, false}
use mathlib.Core.List.Memᴰ
use mathlib.Core.List.{List, [], ◌∷◌, map}
use Rattle.std.proofs.Math.Option.{Option, none, some}
use Rattle.std.proofs.lemmas.Bool.{eqb-false}
use Rattle.segment.specs.Choice.{pick, both, either, is_none}
use Rattle.segment.proofs.Choice.{pick_true, pick-false}
use Rattle.segment.specs.declared.Key.{Key}
use Rattle.segment.specs.Entry.{is_tombstone}
use Rattle.model.specs.Log.{Placed, latest, object_only, present, keys_of}
use Rattle.model.specs.Operations.{TypedKey}
use Rattle.model.specs.Refused.{key_absent}
use Rattle.laws.specs.Members.{In, first, Within, Once, empty, more, clash}
use Rattle.laws.specs.Latest.{latest-has}
use Rattle.laws.specs.Keys.{key-listed, keys-once}
use Rattle.report.specs.Listing.{before, in_order, ascending, present_of, present_keys}
use Rattle.report.specs.Ascent.{carried, Ascending, none_left, then-higher}
use Rattle.report.proofs.Ascent.{ascending-under, ascending-rest, carried-only, carried-new, carried-old, carried-ascending, carried-least, carried-behind}
use Rattle.report.specs.Ordered.{AllTyped, Ranked, rank, ranked, ranks}

pub ranked-rank : (k : Key) → TypedKey k → ranked (rank k) ≡ k
ranked-rank k t = λ i. record { table = table i; key = key i }
  where
    table : rank k / 4294967296 ≡ k.table
    table = omega (arith, t.1)

    key : rank k % 4294967296 ≡ k.key
    key = omega (arith, t.1)

pub rank-one : (j k : Key) → TypedKey j → TypedKey k → rank j ≡ rank k → j ≡ k
rank-one j k s t e = sym (ranked-rank j s) ∙ ap ranked e ∙ ranked-rank k t

-- by table and then key is by rank
before-rank : (j k : Key) → TypedKey j → TypedKey k → before j k ≡ ltb (rank j) (rank k)
unfolding before both either
before-rank j k s t = go (ltb j.table k.table) refl (eqb j.table k.table) refl (ltb j.key k.key) refl
  where
    go : (a : Bool) → ltb j.table k.table ≡ a → (b : Bool) → eqb j.table k.table ≡ b → (c : Bool) → ltb j.key k.key ≡ c
        → either a (both b c) ≡ ltb (rank j) (rank k)
    go true p b q c r = sym (lt-ltb (rank j) (rank k) (omega (arith, ltb-true j.table k.table p, s.1)))
    go false p true q true r =
        sym (lt-ltb (rank j) (rank k) (omega (arith, eqb-true j.table k.table q, ltb-true j.key k.key r)))
    go false p true q false r =
        sym (le-ltb (rank j) (rank k) (omega (arith, eqb-true j.table k.table q, ltb-false j.key k.key r)))
    go false p false q c r =
        sym (le-ltb (rank j) (rank k) (omega (arith, eqb-false j.table k.table q, ltb-false j.table k.table p, t.1)))

order-only : (k : Key) (js : List Key) (j : Key) → In j (in_order k js) → (j ≡ k) ⊎ In j js
unfolding in_order pick
order-only k [] j (Memᴰ.tail m) = elim m [ ]
order-only k [] j (Memᴰ.head e) = inl e
order-only k (i ∷ is) j m = go (before k i) m (order-only k is j)
  where
    front : In j (k ∷ i ∷ is) → (j ≡ k) ⊎ In j (i ∷ is)
    front (Memᴰ.head e) = inl e
    front (Memᴰ.tail n) = inr n

    behind : (j ≡ k) ⊎ In j is → (j ≡ k) ⊎ In j (i ∷ is)
    behind (inl e) = inl e
    behind (inr n) = inr (Memᴰ.tail n)

    rest : In j (i ∷ in_order k is) → (In j (in_order k is) → (j ≡ k) ⊎ In j is) → (j ≡ k) ⊎ In j (i ∷ is)
    rest (Memᴰ.head e) ih = inr (Memᴰ.head e)
    rest (Memᴰ.tail n) ih = behind (ih n)

    go : (t : Bool) → In j (pick t (k ∷ i ∷ is) (i ∷ in_order k is)) → (In j (in_order k is) → (j ≡ k) ⊎ In j is) → (j ≡ k) ⊎ In j (i ∷ is)
    go true n ih = front n
    go false n ih = rest n ih

ascending-only : (ks : List Key) → Within (ascending ks) ks
unfolding ascending
ascending-only [] j m = absurd (Memᴰ.not-nil m)
ascending-only (k ∷ ks) j m = go (order-only k (ascending ks) j m) (ascending-only ks j)
  where
    go : (j ≡ k) ⊎ In j (ascending ks) → (In j (ascending ks) → In j ks) → In j (k ∷ ks)
    go (inl e) ih = Memᴰ.head e
    go (inr n) ih = Memᴰ.tail (ih n)

-- to put a key in order is to carry its rank
order-rank : (k : Key) (js : List Key) → TypedKey k → AllTyped js → Ascending (ranks js) → ranks (in_order k js) ≡ carried (rank k) (ranks js)
unfolding in_order carried
order-rank k [] t ts a = refl
order-rank k (j ∷ js) t ts a = go (before k j) (before-rank k j t (ts j first)) (order-rank k js t (λ i m. ts i (Memᴰ.tail m)) (ascending-rest a))
  where
    higher : rank k < rank j → Ascending (rank k ∷ rank j ∷ ranks js)
    higher l = then-higher under a
      where
        under : (y : ℕ) → In y (rank j ∷ ranks js) → rank k < y
        under y (Memᴰ.head e) = omega (arith, l, e)
        under y (Memᴰ.tail m) = omega (arith, l, ascending-under a y m)

    go : (b : Bool) → b ≡ ltb (rank k) (rank j) → ranks (in_order k js) ≡ carried (rank k) (ranks js)
        → ranks (pick b (k ∷ j ∷ js) (j ∷ in_order k js)) ≡ carried (rank k) (rank j ∷ ranks js)
    go true e ih = ap ranks (pick_true true _ _ refl) ∙ sym (carried-least (rank k) (rank j ∷ ranks js) (higher (ltb-true (rank k) (rank j) (sym e))))
    go false e ih =
        ap ranks (pick-false false _ _ refl)
        ∙ ap (λ (xs : List ℕ). rank j ∷ xs) ih
        ∙ sym (carried-behind (rank k) (rank j) (ranks js) (ltb-false (rank k) (rank j) (sym e)))

module _ (k : Key) (ks : List Key) (xs : List ℕ) (r : Ranked ks xs) (t : TypedKey k) (ts : AllTyped ks) (new : In k ks → ⊥) where
  ranked-more : Ranked (k ∷ ks) (carried (rank k) xs)
  ranked-more = record { ascend = carried-ascending (rank k) xs r.ascend fresh; only = λ z m. only z (carried-only (rank k) xs z m); all = all }
    where
      fresh : In (rank k) xs → ⊥
      fresh m = apart (r.only (rank k) m)
        where
          apart : (j : Key) × In j ks × (rank k ≡ rank j) → ⊥
          apart (j, n, e) = new (subst (λ (i : Key). In i ks) (sym (rank-one k j t (ts j n) e)) n)

      only : (z : ℕ) → (z ≡ rank k) ⊎ In z xs → (j : Key) × In j (k ∷ ks) × (z ≡ rank j)
      only z (inl e) = (k, first, e)
      only z (inr m) = let w = r.only z m in (w.0, Memᴰ.tail w.1, w.2)

      all : (j : Key) → In j (k ∷ ks) → In (rank j) (carried (rank k) xs)
      all j (Memᴰ.head e) = subst (λ (i : Key). In (rank i) (carried (rank k) xs)) (sym e) (carried-new (rank k) xs)
      all j (Memᴰ.tail m) = carried-old (rank k) xs (rank j) (r.all j m)

pub ascending-ranked : (ks : List Key) → AllTyped ks → Once ks → Ranked ks (ranks (ascending ks))
unfolding ascending
ascending-ranked [] ts empty =
    record { ascend = none_left; only = λ z m. absurd (Memᴰ.not-nil m); all = λ k m. absurd (Memᴰ.not-nil m) }
ascending-ranked (k ∷ ks) ts (more new once) =
    let rest : AllTyped ks = λ j m. ts j (Memᴰ.tail m) in
    let r = ascending-ranked ks rest once in
    let sorted : AllTyped (ascending ks) = λ j m. rest j (ascending-only ks j m) in
    subst (Ranked (k ∷ ks)) (sym (order-rank k (ascending ks) (ts k first) sorted r.ascend)) (ranked-more k ks (ranks (ascending ks)) r (ts k first) rest new)

-- ---- the present keys

module _ (log : List Placed) where
  present-only : (ks : List Key) (k : Key) → In k (present_of log ks) → In k ks × (key_absent log k ≡ false)
  unfolding present_of pick
  present-only [] k m = absurd (Memᴰ.not-nil m)
  present-only (j ∷ js) k m = go (key_absent log j) refl m (present-only js k)
    where
      front : key_absent log j ≡ false → In k (j ∷ present_of log js) → (In k (present_of log js) → In k js × (key_absent log k ≡ false))
          → In k (j ∷ js) × (key_absent log k ≡ false)
      front e (Memᴰ.head q) ih = (Memᴰ.head q, ap (key_absent log) q ∙ e)
      front e (Memᴰ.tail n) ih = let w = ih n in (Memᴰ.tail w.0, w.1)

      go : (t : Bool) → key_absent log j ≡ t → In k (pick t (present_of log js) (j ∷ present_of log js))
          → (In k (present_of log js) → In k js × (key_absent log k ≡ false)) → In k (j ∷ js) × (key_absent log k ≡ false)
      go true e n ih = let w = ih n in (Memᴰ.tail w.0, w.1)
      go false e n ih = front e n ih

  present-all : (ks : List Key) (k : Key) → In k ks → key_absent log k ≡ false → In k (present_of log ks)
  unfolding present_of pick
  present-all [] k m e = elim m [ ]
  present-all (j ∷ js) k (Memᴰ.head q) e = go (key_absent log j) refl
    where
      go : (t : Bool) → key_absent log j ≡ t → In k (pick t (present_of log js) (j ∷ present_of log js))
      go true d = absurd (clash (key_absent log j) d (ap (key_absent log) (sym q) ∙ e))
      go false d = Memᴰ.head q
  present-all (j ∷ js) k (Memᴰ.tail m) e = go (key_absent log j) (present-all js k m e)
    where
      go : (t : Bool) → In k (present_of log js) → In k (pick t (present_of log js) (j ∷ present_of log js))
      go true i = i
      go false i = Memᴰ.tail i

  present-once : (ks : List Key) → Once ks → Once (present_of log ks)
  unfolding present_of pick
  present-once [] empty = empty
  present-once (j ∷ js) (more new once) = go (key_absent log j) (present-once js once)
    where
      go : (t : Bool) → Once (present_of log js) → Once (pick t (present_of log js) (j ∷ present_of log js))
      go true o = o
      go false o = more (λ m. new (present-only js j m).0) o

  -- a key is among them exactly if it has an object
  is-present : (k : Key) → key_absent log k ≡ false → (x : Placed) × (present log k ≡ some x)
  unfolding is_none
  is-present k e = go (present log k) e
    where
      go : (o : Option Placed) → is_none o ≡ false → (x : Placed) × (o ≡ some x)
      go none q = let z : ◌≡◌ {A = ℕ} 0 1 = cc in absurd (omega arith)
      go (some x) q = (x, refl)

  abbrev pub HasObject : Key → Type 0
  HasObject k = (x : Placed) × (present log k ≡ some x)

  pub present-latest : (k : Key) (x : Placed) → present log k ≡ some x → latest log k ≡ some x
  unfolding present object_only pick
  present-latest k x e = go (latest log k) e
    where
      at : (y : Placed) (t : Bool) → pick t none (some y) ≡ some x → some y ≡ some x
      at y true q = let z : ◌≡◌ {A = ℕ} 0 1 = cc in absurd (omega arith)
      at y false q = q

      go : (o : Option Placed) → object_only o ≡ some x → o ≡ some x
      go none q = let z : ◌≡◌ {A = ℕ} 0 1 = cc in absurd (omega arith)
      go (some y) q = at y (is_tombstone y.entry) q

  module _ (typed : (k : Key) → HasObject k → TypedKey k) where
    listed-object : (k : Key) → In k (present_of log (keys_of log)) → HasObject k
    listed-object k m = is-present k (present-only (keys_of log) k m).1

    object-listed : (k : Key) → HasObject k → In k (present_of log (keys_of log))
    unfolding is_none
    object-listed k (x, e) = present-all (keys_of log) k (key-listed log k (latest-has log k x (present-latest k x e))) (ap is_none e)

    pub present-typed : AllTyped (present_keys log)
    present-typed k m = typed k (listed-object k (ascending-only (present_of log (keys_of log)) k m))

    -- The ranks of the present keys ascend, and are those of the keys that have an object.
    pub record Objects (xs : List ℕ) : Type 0 where
      pub ascend : Ascending xs
      pub only : (z : ℕ) → In z xs → (k : Key) × HasObject k × (z ≡ rank k)
      pub all : (k : Key) → HasObject k → In (rank k) xs

    pub present-ranked : Objects (ranks (present_keys log))
    present-ranked =
        let r = ascending-ranked (present_of log (keys_of log)) (λ k m. typed k (listed-object k m)) (present-once (keys_of log) (keys-once log)) in
        record {
          ascend = r.ascend;
          only = λ z m. let w = r.only z m in (w.0, listed-object w.0 w.1, w.2);
          all = λ k o. r.all k (object-listed k o);
        }
