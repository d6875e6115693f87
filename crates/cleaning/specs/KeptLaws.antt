-- What is kept, at each test of the code.
use Rattle.std.specs.Prelude.{ℕ, ◌+◌, ◌*◌, ◌≡◌, length}
use Rattle.std.proofs.Math.Path.{ap}
use Rattle.std.proofs.Common.{◌∙◌, arith, length-append}
use mathlib.Core.List.{List, [], ◌++◌}
use Rattle.segment.specs.Layout.{Layout}
use Rattle.segment.specs.declared.Header.{Header}
use Rattle.model.specs.Log.{Item, placed_in}
use Rattle.index.specs.Build.{entries_at}
use Rattle.cleaning.specs.EntriesLaws.{Meets, entries-meets}
use Rattle.cleaning.specs.Kept.{Part, gather_by}

-- ---- a turn of a loop over a segment

module _ (L : Layout) (part : Part) (S : ℕ) where
  -- what the entries of slot i, of the bytes s, give from an offset on
  abbrev pub parts_from : ℕ → List ℕ → ℕ → List ℕ
  parts_from i s at = gather_by part S (placed_in L i (entries_at L s at))

  module _ (i : ℕ) (s : List ℕ) (at : ℕ) where
    pub parts-stop : entries_at L s at ≡ [] → parts_from i s at ≡ []
    unfolding gather_by placed_in
    parts-stop e = ap (λ (is : List Item). gather_by part S (placed_in L i is)) e

    pub parts-entry : {h : Header} → Meets L s at h → parts_from i s at ≡ part L h (i * S + at) ++ parts_from i s (at + h.length)
    unfolding gather_by placed_in
    parts-entry {h} m =
        ap (λ (is : List Item). gather_by part S (placed_in L i is)) (entries-meets L s at m)
        ∙ ap (λ (g : Header). part L g (i * S + at) ++ parts_from i s (at + h.length)) m.its

    -- their lengths: total is that of what came before
    module _ (total whole : ℕ) (so_far : total + length (parts_from i s at) ≡ whole) where
      pub measured-stop : entries_at L s at ≡ [] → total ≡ whole
      measured-stop e = omega (arith, so_far, ap length (parts-stop e))

      pub measured-entry : {h : Header} → Meets L s at h → (n : ℕ) → n ≡ length (part L h (i * S + at)) → (at' : ℕ) → at' ≡ at + h.length →
          total + n + length (parts_from i s at') ≡ whole
      measured-entry {h} m n e at' b =
          omega (
            arith,
            so_far,
            ap (λ (k : ℕ). length (parts_from i s k)) b,
            ap length (parts-entry m),
            length-append (part L h (i * S + at)) (parts_from i s (at + h.length)),
          )
