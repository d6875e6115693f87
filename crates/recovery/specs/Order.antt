-- 01, "Refused calls", cause 15: the test of an order list by the map of the slots that it names.
use Rattle.std.specs.Prelude.{ℕ, ◌+◌, ◌-◌, ◌/◌, ◌^◌, ◌≤◌, ◌<◌, ◌≡◌, Bool, not, length, get_or, drop}
use Rattle.std.proofs.Math.Path.{refl, sym, ap}
use Rattle.std.proofs.Common.{◌∙◌, subst, add-one, arith, drop_of_length-le, pow_pos, drop-cons}
use Rattle.std.proofs.Math.Bool.{true, false}
use mathlib.Core.List.{List, [], ◌∷◌}
use Rattle.std.proofs.Math.Dec.{eqb, ltb}
use borrow.Author.Tests.{eqb-true, eqb-false, eq-eqb, ne_eqb, ltb-true, ltb-false, lt-ltb, le-ltb}
use Rattle.segment.specs.Choice.{pick}
use Rattle.slot_map.specs.Bit.{with_bit}

-- the slots seen so far and one more, if it is one of the n
unfoldable pub see_slot : ℕ → ℕ → ℕ → ℕ
see_slot n seen slot = pick (ltb slot n) (with_bit seen slot) seen

unfoldable pub seen_from : ℕ → ℕ → List ℕ → ℕ
seen_from n seen [] = seen
seen_from n seen (x ∷ xs) = seen_from n (see_slot n seen x) xs
