use Prim.Native.Nat.{◌+◌}
use mathlib.Core.Path.{◌≡◌}
use native.Mathlib.Omega.{arith}
use Rattle.text.specs.Put.{put-length, put_same}
use Rattle.histories.specs.Numbered.{shorter-none, shorter-all, shorter-turn, five-most, five-more}
use Rattle.histories.proofs.put_histories.Goals as goal

pub loop-letters-init : goal.loop-letters-init
loop-letters-init c = (shorter-none c.args.out.now c.args.at, omega arith)

pub put_length-end-requires : goal.put_length-end-requires
put_length-end-requires c = let o = c.loop-letters in (omega arith, omega (arith, put-length o.invariant.0, five-most o.letters (omega arith)))

pub loop-letters-preserved : goal.loop-letters-preserved
loop-letters-preserved c =
    let o = c.loop-letters in
    let a = c.args in (
      shorter-turn a.out.now o.out c.put_length-end.new.out a.at o.end c.put_length-end.result o.letters o.invariant.0 c.put_length-end.ensures.0,
      omega (arith, c.put_length-end.ensures.1, five-more o.letters),
    )

-- after the longest
pub returns-2 : goal.returns-2
returns-2 c =
    let o = c.loop-letters in
    let a = c.args in
    let all : o.letters + 1 ≡ a.longest + 1 = omega arith in (
      put_same (shorter-all a.longest (o.letters + 1) all)
          (shorter-turn a.out.now o.out c.put_length-end.new.out a.at o.end c.put_length-end.result o.letters o.invariant.0 c.put_length-end.ensures.0),
      omega (arith, o.invariant.1, c.put_length-end.ensures.1, five-most o.letters (omega arith)),
    )
