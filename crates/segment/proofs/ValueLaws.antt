-- A value, the kind that the layout gives its entry, and the bytes that stand for it: each is had back from the others.
use Rattle.std.specs.Prelude.{ℕ, ◌≡◌, Bool, List, [], ◌∷◌, length}
use Rattle.std.proofs.Math.Path.{refl, sym, ap}
use Rattle.std.proofs.Common.{◌∙◌, arith, eq-eqb, eqb-true}
use Rattle.std.proofs.Math.Bool.{true, false, not}
use Rattle.std.proofs.Math.Option.{Option, none, some}
use Rattle.std.proofs.lemmas.Bool.{not-true}
use Rattle.segment.specs.Choice.{is_none, or_zero}
use Rattle.segment.proofs.Choice.{pick_true, pick-false, not_none}
use Rattle.segment.specs.Layout.{Layout, value_length, object_kind, is_tombstone_kind, table}
use Rattle.segment.proofs.LayoutLaws.{tombstone-length, tombstone-empty, object-kind, object-no-tombstone, kind-of-length}
use Rattle.segment.specs.Entry.{bytes_in, kind_for, value_for, length_known}

no_bytes : (v : List ℕ) → length v ≡ 0 → [] ≡ v
no_bytes [] e = refl
no_bytes (b ∷ v) e = absurd (omega arith)

module _ (L : Layout) where
  -- ---- from a value

  -- the kind of an object of a known length
  object-known : (v : List ℕ) → length_known L (some v) ≡ true → object_kind L (length v) ≡ some (kind_for L (some v))
  unfolding length_known kind_for
  object-known v g = not_none (object_kind L (length v)) (not-true (is_none (object_kind L (length v))) g)

  pub value-known : (v : Option (List ℕ)) → length_known L v ≡ true → value_length L (kind_for L v) ≡ some (length (bytes_in v))
  unfolding bytes_in
  value-known none g = unfold kind_for in tombstone-length L
  value-known (some v) g = object-kind L (length v) (kind_for L (some v)) (object-known v g)

  -- kind and bytes say the value
  pub value-back : (v : Option (List ℕ)) → length_known L v ≡ true → value_for L (kind_for L v) (bytes_in v) ≡ v
  unfolding bytes_in value_for
  value-back none g =
      unfold kind_for in pick_true (is_tombstone_kind L (table L).tombstone_kind) none (some []) (eq-eqb (table L).tombstone_kind (table L).tombstone_kind refl)
  value-back (some v) g =
      pick-false (is_tombstone_kind L (kind_for L (some v))) none (some v) (object-no-tombstone L (length v) (kind_for L (some v)) (object-known v g))

  pub tombstone-kind : (v : Option (List ℕ)) → is_none v ≡ true → kind_for L v ≡ (table L).tombstone_kind
  unfolding is_none kind_for
  tombstone-kind none t = refl
  tombstone-kind (some v) t = cc

  -- only a value of unknown length has kind 0
  pub length-of-kind : (v : Option (List ℕ)) → (kind_for L v ≡ 0 → ⊥) → length_known L v ≡ true
  unfolding length_known
  length-of-kind none h = refl
  length-of-kind (some v) h = go (object_kind L (length v)) refl
    where
      go : (o : Option ℕ) → object_kind L (length v) ≡ o → not (is_none (object_kind L (length v))) ≡ true
      go none e = absurd (h (unfold kind_for or_zero in ap or_zero e))
      go (some k) e = unfold is_none in ap (λ (x : Option ℕ). not (is_none x)) e

  -- ---- from a kind and bytes

  pub value-tombstone : (k : ℕ) (v : List ℕ) → is_tombstone_kind L k ≡ true → value_for L k v ≡ none
  unfolding value_for
  value-tombstone k v t = pick_true (is_tombstone_kind L k) none (some v) t

  pub value-object : (k : ℕ) (v : List ℕ) → is_tombstone_kind L k ≡ false → value_for L k v ≡ some v
  unfolding value_for
  value-object k v t = pick-false (is_tombstone_kind L k) none (some v) t

  -- without a value exactly if the kind is the tombstone's
  pub no_value : (k : ℕ) (v : List ℕ) → is_none (value_for L k v) ≡ is_tombstone_kind L k
  unfolding is_none
  no_value k v = go (is_tombstone_kind L k) refl
    where
      go : (t : Bool) → is_tombstone_kind L k ≡ t → is_none (value_for L k v) ≡ is_tombstone_kind L k
      go true t = ap is_none (value-tombstone k v t) ∙ sym t
      go false t = ap is_none (value-object k v t) ∙ sym t

  module _ (k : ℕ) (v : List ℕ) (known : value_length L k ≡ some (length v)) where
    pub kind-back : kind_for L (value_for L k v) ≡ k
    unfolding kind_for or_zero
    kind-back = go (is_tombstone_kind L k) refl
      where
        go : (t : Bool) → is_tombstone_kind L k ≡ t → kind_for L (value_for L k v) ≡ k
        go true t = ap (kind_for L) (value-tombstone k v t) ∙ sym (eqb-true k (table L).tombstone_kind t)
        go false t = ap (kind_for L) (value-object k v t) ∙ ap or_zero (kind-of-length L k (length v) known t)

    pub bytes_back : bytes_in (value_for L k v) ≡ v
    unfolding bytes_in
    bytes_back = go (is_tombstone_kind L k) refl
      where
        go : (t : Bool) → is_tombstone_kind L k ≡ t → bytes_in (value_for L k v) ≡ v
        go true t = ap bytes_in (value-tombstone k v t) ∙ no_bytes v (tombstone-empty L k (length v) t known)
        go false t = ap bytes_in (value-object k v t)
