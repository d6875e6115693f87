-- The entries of a segment as the code goes through them, and that they are those of the scan.
use Prim.Native.Nat.{ℕ, zero, suc, ◌+◌, ◌<◌}
use Rattle.std.specs.Prelude.{◌≡◌, false, List, [], ◌∷◌, length}
use Rattle.std.proofs.Math.Path.{refl}
use Rattle.std.proofs.Common.{sym, ◌∙◌, ap, arith}
use Rattle.segment.specs.Layout.{Layout, digest_size}
use Rattle.segment.specs.Entry.{Entry, Found, entry, end, damage, entry_at, size_of}
use Rattle.segment.proofs.EntryLaws.{past_end}
use Rattle.model.specs.Log.{Item, scan, items_of, is_damaged}
use Rattle.laws.specs.LogLaws.{scan-whole}
use Rattle.laws.specs.Scans.{Scans, done, more, item_at, scan-scans}
use Rattle.index.specs.Build.{entries_from, entries_at}

module _ (L : Layout) (s : List ℕ) where
  -- ---- with fuel

  module _ (f at : ℕ) where
    from-entry : (e : Entry) → entry_at L s at ≡ entry e → entries_from L s (suc f) at ≡ item_at at e ∷ entries_from L s f (at + size_of L e)
    unfolding entries_from
    from-entry e p = rw (p, entries_from)

    from_end : entry_at L s at ≡ end → entries_from L s (suc f) at ≡ []
    unfolding entries_from
    from_end p = rw (p, entries_from)

    from-damage : entry_at L s at ≡ damage → entries_from L s (suc f) at ≡ []
    unfolding entries_from
    from-damage p = rw (p, entries_from)

  from_past : (f at : ℕ) → length s < at → entries_from L s f at ≡ []
  unfolding entries_from
  from_past zero at h = refl
  from_past (suc f) at h = from-damage f at (past_end L s at h)

  -- fuel for each byte from the offset on is enough
  fuel-free : (f g at : ℕ) → length s < at + f → length s < at + g → entries_from L s f at ≡ entries_from L s g at
  fuel-free zero g at hf hg = from_past zero at (omega arith) ∙ sym (from_past g at (omega arith))
  fuel-free (suc f) zero at hf hg = from_past (suc f) at (omega arith) ∙ sym (from_past zero at (omega arith))
  fuel-free (suc f) (suc g) at hf hg = go (entry_at L s at) refl (λ b p q. fuel-free f g b p q)
    where
      go : (r : Found) → entry_at L s at ≡ r →
          ((b : ℕ) → length s < b + f → length s < b + g → entries_from L s f b ≡ entries_from L s g b) →
          entries_from L s (suc f) at ≡ entries_from L s (suc g) at
      go (entry e) p ih =
          from-entry f at e p
          ∙ ap (λ (is : List Item). item_at at e ∷ is) (ih (at + size_of L e) (omega arith) (omega arith))
          ∙ sym (from-entry g at e p)
      go end p ih = from_end f at p ∙ sym (from_end g at p)
      go damage p ih = from-damage f at p ∙ sym (from-damage g at p)

  -- ---- what stands at an offset decides

  module _ (at : ℕ) where
    pub entries-entry : (e : Entry) → entry_at L s at ≡ entry e → entries_at L s at ≡ item_at at e ∷ entries_at L s (at + size_of L e)
    entries-entry e p =
        from-entry (length s) at e p
        ∙ ap (λ (is : List Item). item_at at e ∷ is)
        (fuel-free (length s) (suc (length s)) (at + size_of L e) (omega arith) (omega arith))

    pub entries-end : entry_at L s at ≡ end → entries_at L s at ≡ []
    entries-end p = from_end (length s) at p

    pub entries-damage : entry_at L s at ≡ damage → entries_at L s at ≡ []
    entries-damage p = from-damage (length s) at p

  -- ---- without damage they are the items of the scan

  entries-scans : {at e : ℕ} {is : List Item} → Scans L s at is e → entries_at L s at ≡ is
  entries-scans (done {at} p) = entries-end at p
  entries-scans (more {at} x p r) = entries-entry at x p ∙ ap (λ (is : List Item). item_at at x ∷ is) (entries-scans r)

  pub entries-scan : is_damaged (scan L s) ≡ false → entries_at L s (digest_size L) ≡ items_of (scan L s)
  entries-scan e = entries-scans (scan-scans L s (scan-whole (scan L s) e))
