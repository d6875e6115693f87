-- Rebuilding at each test of the code. Premises are the tests as the code has them, and what its callees give.
use Rattle.std.specs.Prelude.{ℕ, ◌+◌, ◌-◌, ◌*◌, ◌^◌, ◌≤◌, ◌<◌, ◌≡◌, refl, Bool, true, false, ltb, leb, length, get_or, drop, set}
use Rattle.std.proofs.Math.Path.{sym, ap, subst}
use Rattle.std.proofs.Common.{◌∙◌, mul-le-mul, add-one, arith, length-set, drop_of_length-le, drop-cons, ltb-true, ltb-false, leb-true}
use mathlib.Core.List.{List, [], ◌∷◌, ◌++◌, append-nil}
use Rattle.std.proofs.Math.ListN.{replicate}
use Rattle.std.proofs.Math.Seq.{drop-length}
use Rattle.std.proofs.lemmas.List.Edits.{fill_more}
use Rattle.segment.specs.declared.Next.TheVariants as N
use Rattle.index.specs.Insert.{Tally, counted, over}

-- ---- the keys stay within the number of cells

unfoldable pub Few : Tally → Type 0
Few (counted cells n) = n ≤ length cells
Few over = Unit {0}
