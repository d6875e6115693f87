use mathlib.Core.Path.{sym, ◌∙◌}
use native.Mathlib.Omega.{arith}
use Rattle.report.proofs.Inserting.{carry-turn, carry-end}
use Rattle.report.proofs.ranks.insert.Goals as goal

pub loop-i-preserved : goal.loop-i-preserved
loop-i-preserved c =
    let l = c.loop-i in
    let turn = carry-turn l.ranks l.i c.args.n l.carry (omega arith) (omega (arith, l.auto.ranks, c.requires)) in
    rw (c.min.ensures, c.max-carry.ensures) (sym turn ∙ l.invariant)

pub returns : goal.returns
returns c =
    let l = c.loop-i in
    carry-end l.ranks l.i c.args.n l.carry (omega arith) (omega (arith, l.auto.ranks, c.requires)) l.invariant
