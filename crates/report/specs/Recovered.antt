-- Recovery with the slots in ascending order, and what its answer makes of the text.
use Rattle.std.specs.Prelude.{ℕ, zero, suc, ◌≤◌, min, Bool, true, not, List, [], ◌∷◌, eqb, leb, length, take}
use Rattle.std.proofs.Math.Path.{◌≡◌, refl, sym, ap, subst}
use Rattle.std.proofs.Common.{◌∙◌, arith, leb-true, eqb-true}
use Rattle.std.proofs.Math.Bool.{false}
use Rattle.std.proofs.Math.Option.{Option, none, some}
use Rattle.std.proofs.lemmas.Bool.{eqb-false, not-true}
use Rattle.segment.specs.Choice.{both}
use Rattle.model.specs.Recovery.{order_bad}

-- ---- the order list

abbrev pub slot_numbers : List ℕ
slot_numbers =
    0 ∷ 1 ∷ 2 ∷ 3 ∷ 4 ∷ 5 ∷ 6 ∷ 7 ∷ 8 ∷ 9 ∷ 10 ∷ 11 ∷ 12 ∷ 13 ∷ 14 ∷ 15
    ∷ 16 ∷ 17 ∷ 18 ∷ 19 ∷ 20 ∷ 21 ∷ 22 ∷ 23 ∷ 24 ∷ 25 ∷ 26 ∷ 27 ∷ 28 ∷ 29 ∷ 30 ∷ 31 ∷ []

-- the slots of N, as far as there can be so many
abbrev pub slots_in_order : ℕ → List ℕ
slots_in_order n = take (min n 32) slot_numbers

-- it is an order list for every N up to k
abbrev pub good_up_to : ℕ → Bool
good_up_to zero = true
good_up_to (suc k) = both (good_up_to k) (not (order_bad (suc k) (slots_in_order (suc k))))
