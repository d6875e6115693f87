use native.Mathlib.Omega.{arith}
use Rattle.histories.specs.Numbered.{length-word, none_left, one_less, codes-turn, line-put}
use Rattle.histories.proofs.WordNumber.put.Goals as goal

pub bounds-out-end : goal.bounds-out-end
bounds-out-end c =
    let o = c.loop-letter in
    omega (arith, c.requires, c.args.self.short, o.invariant.0, o.auto.out, one_less _ _ _ _ _ c.in-Some.ensures.steps)

pub loop-letter-preserved : goal.loop-letter-preserved
loop-letter-preserved c =
    let o = c.loop-letter in
    let taken = c.in-Some.ensures.steps in (
      omega (arith, o.invariant.0, one_less _ _ _ _ _ taken),
      codes-turn _ o.out o.end _ _ _ _ taken c.code.ensures o.invariant.1,
    )

pub returns : goal.returns
returns c =
    let o = c.loop-letter in
    let none = c.in-None.ensures.steps.0 in
    let empty = none_left _ _ none in
    let long = length-word c.args.self.letters c.args.self.number in
    (line-put _ o.out _ o.end _ _ none (omega (arith, o.invariant.0, empty, long)) o.invariant.1, omega (arith, o.invariant.0, empty, c.args.self.short))
