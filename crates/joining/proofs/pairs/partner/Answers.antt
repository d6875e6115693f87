use native.Mathlib.Omega.{arith}
use Rattle.segment.specs.Layout.{digest_size}
use Rattle.joining.specs.Weights.{numbers_fit}
use Rattle.joining.specs.PairLaws.{partner-hit, partner-skip, partner-start, partner-end}
use Rattle.joining.proofs.pairs.partner.Goals as goal

pub loop-j-init : goal.loop-j-init
loop-j-init c = partner-start (numbers_fit c.args.totals.now c.args.shares.now c.args.split (digest_size c.args.edition)) _

pub returns-then-pair_fits : goal.returns-then-pair_fits
returns-then-pair_fits c = partner-hit (numbers_fit c.args.totals.now c.args.shares.now c.args.split (digest_size c.args.edition)) _ _ _ _ c.pair_fits.ensures c.loop-j.invariant c.loop-j-test.true c.if-pair_fits.true

pub loop-j-preserved : goal.loop-j-preserved
loop-j-preserved c = partner-skip (numbers_fit c.args.totals.now c.args.shares.now c.args.split (digest_size c.args.edition)) c.args.split.slots _ _ _ c.pair_fits.ensures c.loop-j.invariant c.if-pair_fits.false

pub returns : goal.returns
returns c = partner-end (numbers_fit c.args.totals.now c.args.shares.now c.args.split (digest_size c.args.edition)) c.args.split.slots _ c.loop-j.j (omega arith) c.loop-j.invariant
