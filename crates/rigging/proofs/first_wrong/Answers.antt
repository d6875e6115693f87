use Prim.Native.Nat.{◌+◌}
use mathlib.Core.Path.{sym, ap, ◌∙◌}
use native.Mathlib.Omega.{arith}
use Rattle.rigging.specs.Text.{named, lengths-start, lengths-turn, lengths-found, lengths-end}
use Rattle.rigging.proofs.first_wrong.Goals as goal

pub loop-letters-init : goal.loop-letters-init
loop-letters-init c = lengths-start c.args.faulty

pub returns-in-Some : goal.returns-in-Some
returns-in-Some c = lengths-found c.args.faulty c.loop-letters.letters c.args.longest _ c.loop-letters.invariant (ap named (sym c.in-Some.is) ∙ c.first_of.ensures) (omega arith)

pub loop-letters-preserved : goal.loop-letters-preserved
loop-letters-preserved c = lengths-turn c.args.faulty c.loop-letters.letters c.loop-letters.invariant (ap named (sym c.in_default.is) ∙ c.first_of.ensures)

-- after the longest
pub returns-in_default : goal.returns-in_default
returns-in_default c =
    lengths-end c.args.faulty (c.loop-letters.letters + 1) c.args.longest (omega arith)
    (lengths-turn c.args.faulty c.loop-letters.letters c.loop-letters.invariant (ap named (sym c.in_default.is) ∙ c.first_of.ensures))
