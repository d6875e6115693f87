use native.Mathlib.Omega.{arith}
use Rattle.segment.specs.Layout.{digest_size}
use Rattle.joining.specs.Weights.{numbers_fit}
use Rattle.joining.specs.PairLaws.{pair-hit, pair-skip, pair-start, pair_end}
use Rattle.joining.proofs.pairs.lowest_pair.Goals as goal

pub loop-i-init : goal.loop-i-init
loop-i-init c = pair-start (numbers_fit c.args.totals.now c.args.shares.now c.args.split (digest_size c.args.edition)) c.args.split.slots

pub returns-in-Some : goal.returns-in-Some
returns-in-Some c = pair-hit (numbers_fit c.args.totals.now c.args.shares.now c.args.split (digest_size c.args.edition)) c.args.split.slots c.loop-i.i _ c.partner.ensures c.loop-i.invariant c.loop-i-test.true _ c.in-Some.is

pub loop-i-preserved : goal.loop-i-preserved
loop-i-preserved c = pair-skip (numbers_fit c.args.totals.now c.args.shares.now c.args.split (digest_size c.args.edition)) c.args.split.slots c.loop-i.i _ c.partner.ensures c.loop-i.invariant c.in_default.is

pub returns : goal.returns
returns c = pair_end (numbers_fit c.args.totals.now c.args.shares.now c.args.split (digest_size c.args.edition)) c.args.split.slots c.loop-i.i (omega arith) c.loop-i.invariant
