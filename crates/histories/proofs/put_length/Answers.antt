use Prim.Native.Nat.{◌^◌}
use mathlib.Core.Path.{◌≡◌}
use native.Mathlib.Omega.{arith}
use Rattle.text.specs.Put.{put-length, put_same}
use Rattle.histories.specs.Numbered.{lines_none, lines-all, length-turn}
use Rattle.histories.proofs.put_length.Goals as goal

pub loop-number-init : goal.loop-number-init
loop-number-init c = (lines_none c.args.out.now c.args.at c.args.letters, omega arith)

pub put_legal-end-requires : goal.put_legal-end-requires
put_legal-end-requires c =
    let o = c.loop-number in
    omega (arith, put-length o.invariant.0, c.words-number-end.ensures)

pub loop-number-preserved : goal.loop-number-preserved
loop-number-preserved c =
    let o = c.loop-number in
    let a = c.args in (
      length-turn a.out.now o.out c.put_legal-end.new.out a.at o.end c.put_legal-end.result a.letters o.number o.invariant.0 c.put_legal-end.ensures.0,
      omega (arith, c.put_legal-end.ensures.1),
    )

pub returns : goal.returns
returns c =
    let o = c.loop-number in
    let all : o.number ≡ 5 ^ c.args.letters = omega (arith, c.words-number-end.ensures) in
    (put_same (lines-all c.args.letters o.number all) o.invariant.0, omega arith)
