-- The lengths that kinds tell.
use Rattle.std.specs.Prelude.{◌≡◌, refl, ℕ}
use Rattle.std.proofs.Common.{sym, ap}
use Rattle.std.proofs.Math.Option.{Option, none, some}
use Rattle.segment.specs.Layout.{Layout, value_length}
use Rattle.segment.proofs.LayoutLaws.{entry-not-end}
use Rattle.segment.specs.Kinds.{size_or_zero, kind_size}

-- no entry has the kind of the end
pub no-size-of-end : (L : Layout) → 0 ≡ kind_size L 0
unfolding size_or_zero
no-size-of-end L = go (value_length L 0) refl
  where
    go : (o : Option ℕ) → value_length L 0 ≡ o → 0 ≡ kind_size L 0
    go none p = sym (ap (size_or_zero L) p)
    go (some n) p = absurd (entry-not-end L 0 n p refl)
