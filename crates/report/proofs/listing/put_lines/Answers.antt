use native.Mathlib.Omega.{arith}
use Rattle.report.proofs.GatherLaws.{keys-typed}
use Rattle.report.proofs.LineLaws.{lines_start, lines_end, lines-turn, rank-fits}
use Rattle.report.proofs.listing.put_lines.Goals as goal

pub loop-rank-init : goal.loop-rank-init
loop-rank-init c = lines_start _ _ _ _

pub key_of-requires : goal.key_of-requires
key_of-requires c =
    rank-fits _ _ c.requires.1 (keys-typed _ _ _ _ c.requires.0) _ c.loop-rank-test.true

pub put_line-end-requires : goal.put_line-end-requires
put_line-end-requires c =
    let left = c.loop-rank.invariant in
    (c.requires.0, omega (arith, left.within, left.long, c.requires.2))

pub loop-rank-preserved : goal.loop-rank-preserved
loop-rank-preserved c =
    let l = c.loop-rank in
    lines-turn _ _ _ c.requires.1 _ _ _ _ _ l.invariant (keys-typed _ _ _ _ c.requires.0) c.loop-rank-test.true _
    c.key_of.ensures _ _ c.put_line-end.auto.out c.put_line-end.ensures

pub returns : goal.returns
returns c = lines_end _ _ _ c.requires.1 _ _ _ _ _ c.loop-rank.invariant c.loop-rank-test.false
