-- `bytes_are` meets its contract.
use Rattle.std.proofs.Common.{refl}
use Rattle.play.specs.Values.{rises-turn, rises-not, rises-end, length-differs, length-agrees}
use Rattle.play.proofs.reads.bytes_are.Goals as goal

pub returns-then-bytes-value : goal.returns-then-bytes-value
returns-then-bytes-value c = length-differs c.args.bytes.now c.args.value c.if-bytes-value.true

pub returns-then-byte-due : goal.returns-then-byte-due
returns-then-byte-due c =
    length-agrees c.args.bytes.now c.args.value _ c.if-bytes-value.false
    (rises-not _ _ _ _ _ c.loop-byte-test.true c.if-byte-due.true c.loop-byte.invariant)

pub loop-byte-preserved : goal.loop-byte-preserved
loop-byte-preserved c = rises-turn _ _ _ _ _ c.loop-byte-test.true c.if-byte-due.false c.loop-byte.invariant _ refl

pub returns : goal.returns
returns c = length-agrees c.args.bytes.now c.args.value _ c.if-bytes-value.false (rises-end _ _ _ _ _ c.loop-byte-test.false c.loop-byte.invariant)
