-- `histories::WordNumber::next` takes the first letter off the word.
use mathlib.Core.Path.{subst⁻¹}
use native.Mathlib.Omega.{arith}
use Rattle.std.specs.Prelude.{Option}
use Rattle.std.specs.Iterator.{YieldsFirst}
use Rattle.histories.specs.declared.Letter.{Letter}
use Rattle.histories.specs.declared.WordNumber.{WordNumber}
use Rattle.histories.specs.Numbered.{word, word_none, unit-positive, taken}
use Rattle.histories.proofs.WordNumberIterator.next.Goals as goal

pub returns-in_err-left-clause-steps : goal.returns-in_err-left-clause-steps
returns-in_err-left-clause-steps c =
    let none = word_none c.args.self.now.letters c.args.self.now.number (omega (arith, c.in_err-left.ensures)) in
    subst⁻¹ (λ (r : Option Letter). YieldsFirst (λ (w : WordNumber). word w.letters w.number) c.args.self.now r c.args.self.now) c.from_residual.ensures (none, none)

pub nonzero_div-self : goal.nonzero_div-self
nonzero_div-self c = unit-positive _ _ c.words-unit.ensures

pub nonzero_rem-self : goal.nonzero_rem-self
nonzero_rem-self c = unit-positive _ _ c.words-unit.ensures

pub returns-clause-steps : goal.returns-clause-steps
returns-clause-steps c = taken _ _ _ _ _ (omega (arith, c.in_ok-left.ensures)) c.words-unit.ensures c.from-letter.ensures
