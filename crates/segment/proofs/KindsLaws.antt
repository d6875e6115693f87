-- Laws of: The table of kinds as numbers, with 0 for none: no kind is 0, and no entry is empty.
use Rattle.std.specs.Prelude.{ℕ, ◌+◌, ◌≤◌, ◌≡◌}
use Rattle.std.proofs.Math.Path.{refl, ap}
use Rattle.std.proofs.Common.{sym, ◌∙◌, arith}
use Rattle.std.proofs.Math.Option.{Option, none, some}
use Rattle.segment.specs.Choice.{or_zero}
use Rattle.segment.specs.Layout.{Layout, value_length, object_kind, entry_size, table}
use Rattle.segment.proofs.LayoutLaws.{entry-not-end, object-kind}
use Rattle.segment.specs.Kinds.{Kind, kind_size, size_or_zero}

module _ (L : Layout) (k : ℕ) where
  pub no_size : kind_size L k ≡ 0 → value_length L k ≡ none
  unfolding size_or_zero
  no_size e = go (value_length L k) refl
    where
      go : (o : Option ℕ) → value_length L k ≡ o → value_length L k ≡ none
      go none p = p
      go (some n) p = let z : entry_size L n ≡ 0 = ap (size_or_zero L) (sym p) ∙ e in absurd (omega arith)

  pub has-size : (kind_size L k ≡ 0 → ⊥) → (n : ℕ) × Kind L k n
  unfolding size_or_zero
  has-size h = go (value_length L k) refl
    where
      go : (o : Option ℕ) → value_length L k ≡ o → (n : ℕ) × Kind L k n
      go none p = absurd (h (ap (size_or_zero L) p))
      go (some n) p = (n, record { known = p; size = ap (size_or_zero L) p })

  -- an entry has at least the bytes before its value
  pub size-least : (kind_size L k ≡ 0 → ⊥) → 7 + (table L).width ≤ kind_size L k
  size-least h = let (n, kind) = has-size h in omega (arith, kind.size)

module _ (L : Layout) (n : ℕ) where
  pub no_kind : or_zero (object_kind L n) ≡ 0 → object_kind L n ≡ none
  unfolding or_zero
  no_kind e = go (object_kind L n) refl
    where
      go : (o : Option ℕ) → object_kind L n ≡ o → object_kind L n ≡ none
      go none p = p
      go (some k) p = absurd (entry-not-end L k n (object-kind L n k p) (ap or_zero (sym p) ∙ e))

  pub has-kind : (k : ℕ) → k ≡ or_zero (object_kind L n) → (k ≡ 0 → ⊥) → object_kind L n ≡ some k
  unfolding or_zero
  has-kind k e h = go (object_kind L n) refl
    where
      go : (o : Option ℕ) → object_kind L n ≡ o → object_kind L n ≡ some k
      go none p = absurd (h (e ∙ ap or_zero p))
      go (some m) p = p ∙ ap some (sym (e ∙ ap or_zero p))
