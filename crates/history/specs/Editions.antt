-- 02, R-13: which editions the slots of a store may have, by the format and the list of calls since.
use Rattle.std.specs.Prelude.{ℕ, ◌≡◌, Bool, true, false, ◌⊎◌, List, [], ◌∷◌}
use Rattle.std.proofs.Common.{arith, inl, inr}
use Rattle.segment.specs.Choice.{pick}
use Rattle.segment.specs.Layout.{Layout, edition2}
use Rattle.history.specs.Book.{starts, steps, switches, asks, recovers, Event, called, cut, accepted}

-- The edition that the format was told, and whether a switch was accepted since.
pub record Editions : Type 0 where
  pub format : Layout
  pub switched : Bool

-- A slot of the log is of the format's edition or, after a switch, of the second.
abbrev pub Among : Editions → Layout → Type 0
Among E K = (K ≡ E.format) ⊎ ((E.switched ≡ true) × (K ≡ edition2))

-- without a switch all are of the format's
pub only-format : (E : Editions) (K : Layout) → E.switched ≡ false → Among E K → K ≡ E.format
only-format E K off (inl e) = e
only-format E K off (inr e) = let z : ◌≡◌ {A = ℕ} 0 1 = cc (e.0, off) in absurd (omega arith)

-- from an accepted format on
abbrev pub formatted_in : Layout → Editions
formatted_in L = record { format = L; switched = false }

unfoldable pub editions_after : Editions → Event → Editions
editions_after E (called (starts t o) lent a) = E
editions_after E (called steps lent a) = E
editions_after E (called switches lent a) = pick (accepted a) (record { format = E.format; switched = true }) E
editions_after E (called (asks q) lent a) = E
editions_after E (called (recovers n s order) lent a) = E
editions_after E cut = E

unfoldable pub editions_behind : Editions → List Event → Editions
editions_behind E [] = E
editions_behind E (e ∷ es) = editions_behind (editions_after E e) es
