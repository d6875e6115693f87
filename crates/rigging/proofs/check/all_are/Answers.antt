-- `rigging::check::all_are` meets its contract.
use Rattle.std.proofs.Common.{refl, rules}
use Rattle.std.proofs.Common.{◌∙◌, ne_eqb}
use Rattle.std.proofs.Math.Dec.{eqb}
use Rattle.std.proofs.lemmas.List.Recursion.{and_is}
use Prim.Native.Nat.{ℕ}
use mathlib.Core.List.{List}
use Rattle.segment.specs.Choice.{both}
use Rattle.rig_model.specs.Verdict.{all_are}
use Rattle.rig_model.proofs.CheckLaws.{eight-not, eight_is}
use Rattle.rigging.proofs.check.all_are.Goals as goal

pub returns-then-bytes-eq8 : goal.returns-then-bytes-eq8
unfolding all_are both
returns-then-bytes-eq8 c =
    eight_is _ _ _ c.if-bytes-eq8.true
    (and_is (λ (xs : List ℕ). all_are xs c.args.byte) (λ (x : ℕ). eqb x c.args.byte) refl (λ _ _. refl) c.args.bytes.now 0 _ (search rules) (search rules))

pub returns-else-bytes-eq8 : goal.returns-else-bytes-eq8
returns-else-bytes-eq8 c = ne_eqb _ 8 c.if-bytes-eq8.false ∙ eight-not _ _ c.if-bytes-eq8.false
