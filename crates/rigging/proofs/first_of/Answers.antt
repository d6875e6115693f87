use Prim.Native.Nat.{ℕ, ◌+◌, ◌-◌}
use mathlib.Core.Path.{◌≡◌, ap, ◌∙◌}
use native.Mathlib.Omega.{arith}
use Rattle.histories.specs.List.{legal_ones}
use Rattle.histories.specs.Numbered.{numbered}
use Rattle.rig_model.specs.Verdict.{first_wrong}
use Rattle.rigging.specs.Text.{words-start, word-found, word-passed, words-end}
use Rattle.rigging.proofs.first_of.Goals as goal

less : (a n : ℕ) → a - n - 1 ≡ a - (n + 1)
less a n = omega arith

pub loop-number-init : goal.loop-number-init
loop-number-init c = words-start c.args.faulty c.args.letters c.words-number-end.result c.words-number-end.ensures

pub returns-then-is_found : goal.returns-then-is_found
returns-then-is_found c = word-found c.args.faulty _ c.args.letters c.loop-number.number (c.words-number-end.result - c.loop-number.number) (omega arith) c.loop-number.invariant c.is_found.result c.is_found.ensures c.if-is_found.true

pub loop-number-preserved : goal.loop-number-preserved
loop-number-preserved c = word-passed c.args.faulty _ c.args.letters c.loop-number.number (c.words-number-end.result - c.loop-number.number) (omega arith) c.loop-number.invariant c.is_found.result c.is_found.ensures c.if-is_found.false ∙ ap (λ (k : ℕ). first_wrong c.args.faulty (legal_ones (numbered c.args.letters (c.loop-number.number + 1) k))) (less c.words-number-end.result c.loop-number.number)

pub returns : goal.returns
returns c = words-end c.args.faulty _ c.args.letters c.loop-number.number _ (omega arith) c.loop-number.invariant
