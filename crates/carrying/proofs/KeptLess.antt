-- What a cleaning of one slot keeps gets no more by the cleaning of another slot before it.
use Prim.Native.Nat.{ℕ, ◌^◌, ◌≤◌}
use native.Mathlib.Omega.{arith}
use native.Mathlib.Decide.{ℕ_discrete}
use mathlib.Core.Path.{◌≡◌, refl, sym, ap, ◌∙◌}
use mathlib.Core.Bool.{Bool, true, false, not}
use mathlib.Core.List.Memᴰ
use mathlib.Core.List.{List, [], ◌∷◌}
use mathlib.Core.Option.{Option, none, some}
use lib.Dec.{eqb}
use lib.ListN.{length}
use borrow.Author.Tests.{eq-eqb, not-true}
use Rattle.segment.specs.Choice.{pick, both, either}
use Rattle.segment.proofs.Choice.{pick_true, pick-false, both_left, both_right, either-true-left, either-true-right}
use Rattle.segment.specs.Layout.{Layout}
use Rattle.segment.specs.Entry.{Entry, is_tombstone, key_of, encoded}
use Rattle.segment.specs.declared.Key.{Key}
use Rattle.slot_map.specs.Bit.{named}
use Rattle.slot_map.proofs.BitLaws.{bit-pow-other, named-true, clear-named}
use Rattle.model.specs.Log.{Placed, same_key, latest}
use Rattle.model.specs.Operations.{is_highest, object_outside, is_kept, kept, all_encoded}
use Rattle.model.specs.Refused.{kept_length}
use Rattle.laws.specs.Members.{In, first, clash, entries_of, those, those-in, total-those}
use Rattle.laws.specs.Latest.{Apart, Newest, LatestIs, absent, found, latest-is, own_key}
use Rattle.laws.specs.MapLaws.{in_slot, kept-those, object-seen, newest-highest, highest-newest, worth, kept-when, kept-victim, kept-highest, Cleaned, Origin, stood, copied, LatestAfter, stays, moves, goes, origin, latest-after, encoded-total}

-- ---- one slot as the victim

pub only-victim : (i j : ℕ) → named (2 ^ i) j ≡ true → j ≡ i
only-victim i j p = go (ℕ_discrete j i)
  where
    go : Dec (j ≡ i) → j ≡ i
    go (yes h) = h
    go (no h) = absurd (omega (arith, named-true (2 ^ i) j p, bit-pow-other i j (λ z. h (sym z))))

pub other-victim : (i j : ℕ) → (j ≡ i → ⊥) → named (2 ^ i) j ≡ false
other-victim i j o = clear-named (2 ^ i) j (bit-pow-other i j (λ z. o (sym z)))

-- ---- members that a test picks

-- those of which another test picks all are among the other's
those-twice : (p q : Placed → Bool) (xs : List Placed) → ((x : Placed) → p x ≡ true → q x ≡ true) → those p (those q xs) ≡ those p xs
unfolding those pick
those-twice p q [] h = refl
those-twice p q (x ∷ xs) h = go (q x) refl (p x) refl (those-twice p q xs h)
  where
    go : (t : Bool) → q x ≡ t → (u : Bool) → p x ≡ u → those p (those q xs) ≡ those p xs →
        those p (pick t (x ∷ those q xs) (those q xs)) ≡ pick u (x ∷ those p xs) (those p xs)
    go true e true f ih = ap (λ (b : Bool). pick b (x ∷ those p (those q xs)) (those p (those q xs))) f ∙ ap (λ (l : List Placed). x ∷ l) ih
    go true e false f ih = ap (λ (b : Bool). pick b (x ∷ those p (those q xs)) (those p (those q xs))) f ∙ ih
    go false e true f ih = absurd (clash (q x) (h x f) e)
    go false e false f ih = ih

-- an object of a key outside the victims is a member
abbrev ObjectThere : ℕ → Key → List Placed → Type 0
ObjectThere victims k log =
    (z : Placed) × In z log × (named victims z.slot ≡ false) × (same_key k z.entry ≡ true) × (is_tombstone z.entry ≡ false)

object-there : (victims : ℕ) (k : Key) (log : List Placed) → object_outside victims log k ≡ true → ObjectThere victims k log
unfolding object_outside either
object-there victims k [] e = absurd (clash false e refl)
object-there victims k (x ∷ xs) e = go (here x) refl e (λ f. object-there victims k xs f)
  where
    here : Placed → Bool
    here z = both (both (not (named victims z.slot)) (same_key k z.entry)) (not (is_tombstone z.entry))

    go : (t : Bool) → here x ≡ t → either t (object_outside victims xs k) ≡ true → (object_outside victims xs k ≡ true → ObjectThere victims k xs) →
        ObjectThere victims k (x ∷ xs)
    go true h f rest =
        let l = both_left _ _ h in (x, first, not-true _ (both_left _ _ l), both_right _ _ l, not-true _ (both_right _ _ h))
    go false h f rest = let (z, m, a, b, c) = rest f in (z, Memᴰ.tail m, a, b, c)

-- ---- a member that is kept later is kept before

module _ (i j : ℕ) (other : j ≡ i → ⊥) (log moved after : List Placed) (c : Cleaned (2 ^ i) log moved after) (d : Apart log) (d' : Apart after) where
  -- an object of a key outside slot j stood outside it before, or in slot i
  object-before : (k : Key) → object_outside (2 ^ j) after k ≡ true → object_outside (2 ^ j) log k ≡ true
  object-before k e = let (z, m, a, b, t) = object-there (2 ^ j) k after e in go z a b t (origin (2 ^ i) log moved after c z m)
    where
      go : (z : Placed) → named (2 ^ j) z.slot ≡ false → same_key k z.entry ≡ true → is_tombstone z.entry ≡ false → Origin (2 ^ i) log z →
          object_outside (2 ^ j) log k ≡ true
      go z a b t (stood m e) = object-seen (2 ^ j) k m a b t
      go z a b t (copied x m same q) =
          object-seen (2 ^ j) k m
          (other-victim j x.slot (λ s. other (sym s ∙ only-victim i x.slot (kept-victim (2 ^ i) log x q))))
          (ap (same_key k) same ∙ b) (ap is_tombstone same ∙ t)

  module _ (x : Placed) (in-log : In x log) (in_after : In x after) (is : is_kept (2 ^ j) after x ≡ true) where
    abbrev k : Key
    k = key_of x.entry

    worth-after : worth (2 ^ j) after x ≡ true
    worth-after = both_right (is_highest after x.entry) _ (both_right (named (2 ^ j) x.slot) _ is)

    own : same_key k x.entry ≡ true
    own = own_key x.entry

    highest-before : is_highest log x.entry ≡ true
    highest-before = by-latest (latest log k) (latest-is log k)
      where
        newest-after : Newest after k x
        newest-after = highest-newest after x d' in_after (kept-highest (2 ^ j) after x is)

        -- the latest entry of the key, still there in some place
        there : (y z : Placed) → Newest log k y → In z after → z.entry ≡ y.entry → is_highest log x.entry ≡ true
        there y z n m same =
            let equal : x ≡ y =
            d x y in-log n.member
            (omega (
              arith,
              n.none_above x in-log own,
              newest-after.none_above z m (ap (same_key k) same ∙ n.of-key),
              ap (λ (e : Entry). e.version) same,
            )) in
            newest-highest log k x d (rw (← equal) at n)

        by-fate : (y : Placed) → Newest log k y → LatestAfter (2 ^ i) log after k y → is_highest log x.entry ≡ true
        by-fate y n (stays s m) = there y y n m refl
        by-fate y n (moves s z m same) = there y z n m same
        by-fate y n (goes t o f) = absurd (by_kind (is_tombstone x.entry) (f x in_after own) worth-after)
          where
            by_kind : (b : Bool) → is_tombstone x.entry ≡ true → worth (2 ^ j) after x ≡ true → ⊥
            by_kind b dead w =
                let seen : object_outside (2 ^ j) after k ≡ true = unfold either in ap (λ (u : Bool). either (not u) (object_outside (2 ^ j) after k)) (sym dead) ∙ w in
                let (z, m, a, p, q) = object-there (2 ^ j) k after seen in
                clash (is_tombstone z.entry) (f z m p) q

        by-latest : (o : Option Placed) → LatestIs log k o → is_highest log x.entry ≡ true
        by-latest none (absent f) = absurd (clash (same_key k x.entry) own (f x in-log))
        by-latest (some y) (found n) = by-fate y n (latest-after (2 ^ i) log moved after c d k y n)

    pub kept-before : is_kept (2 ^ j) log x ≡ true
    kept-before = kept-when (2 ^ j) log x (kept-victim (2 ^ j) after x is) highest-before (by_kind (is_tombstone x.entry) refl)
      where
        by_kind : (b : Bool) → is_tombstone x.entry ≡ b → worth (2 ^ j) log x ≡ true
        by_kind false e = either-true-left (not (is_tombstone x.entry)) (object_outside (2 ^ j) log k) (ap not e)
        by_kind true e =
            either-true-right (not (is_tombstone x.entry)) (object_outside (2 ^ j) log k)
            (object-before k (unfold either in ap (λ (u : Bool). either (not u) (object_outside (2 ^ j) after k)) (sym e) ∙ worth-after))

  -- Where the slot holds what it held, it keeps no more bytes, in any layout.
  pub keeps-less : (W : Layout) → in_slot j after ≡ in_slot j log → kept_length W after (2 ^ j) ≤ kept_length W log (2 ^ j)
  keeps-less W same =
      omega (
        arith,
        ap length (ap (all_encoded W) (in-slot after)),
        ap length (ap (all_encoded W) (in-slot log)),
        encoded-total W (entries_of (those (is_kept (2 ^ j) after) (in_slot j after))),
        encoded-total W (entries_of (those (is_kept (2 ^ j) log) (in_slot j log))),
        ap (λ (l : List Placed). length (all_encoded W (entries_of (those (is_kept (2 ^ j) after) l)))) same,
        ap (λ (l : List Placed). length (all_encoded W (entries_of (those (is_kept (2 ^ j) after) l)))) (sym same),
        encoded-total W (entries_of (those (is_kept (2 ^ j) after) (in_slot j log))),
        total-those (λ e. length (encoded W e)) (is_kept (2 ^ j) after) (is_kept (2 ^ j) log) (in_slot j log)
            (λ x m e.
            kept-before x (those-in (λ y. eqb y.slot j) log x m).0
            (those-in (λ y. eqb y.slot j) after x (rw (← same) at m)).0 e),
      )
    where
      -- what is kept of a log stands in the slot
      in-slot : (l : List Placed) → kept (2 ^ j) l ≡ entries_of (those (is_kept (2 ^ j) l) (in_slot j l))
      in-slot l =
          kept-those (2 ^ j) l l
          ∙ ap entries_of
          (sym (those-twice (is_kept (2 ^ j) l) (λ x. eqb x.slot j) l (λ x e. eq-eqb x.slot j (only-victim j x.slot (kept-victim (2 ^ j) l x e)))))
