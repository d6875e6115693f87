-- the letter of a number is `letter_of`'s.
use borrow.Author.Tests.{ne_eqb}
use Rattle.segment.specs.Choice.{pick}
use Rattle.histories.specs.Letters.{letter_of}
use Rattle.histories.proofs.LetterFromU32.from.Goals as goal

pub returns-in-0 : goal.returns-in-0
unfolding letter_of pick
returns-in-0 c = rw c.in-0.is

pub returns-in-1 : goal.returns-in-1
unfolding letter_of pick
returns-in-1 c = rw c.in-1.is

pub returns-in-2 : goal.returns-in-2
unfolding letter_of pick
returns-in-2 c = rw c.in-2.is

pub returns-in-3 : goal.returns-in-3
unfolding letter_of pick
returns-in-3 c = rw c.in-3.is

pub returns-in_default : goal.returns-in_default
unfolding letter_of pick
returns-in_default c = let none_of = c.in_default.in_default-own.rest in simp (ne_eqb _ 0 none_of.0.0.0.1, ne_eqb _ 1 none_of.0.0.1, ne_eqb _ 2 none_of.0.1, ne_eqb _ 3 none_of.1)
