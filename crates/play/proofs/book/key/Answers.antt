-- `key` meets its contract: each arm is a row of the table.
use Rattle.std.proofs.Common.{◌≢◌, arith, ne_eqb}
use Rattle.segment.specs.Choice.{pick}
use Rattle.play.specs.Book.{key_of}
use Rattle.play.proofs.book.key.Goals as goal

pub returns-in-0 : goal.returns-in-0
unfolding key_of pick
returns-in-0 c = rw c.in-0.is

pub returns-in-1 : goal.returns-in-1
unfolding key_of pick
returns-in-1 c = rw c.in-1.is

pub returns-in-2 : goal.returns-in-2
unfolding key_of pick
returns-in-2 c = rw c.in-2.is

pub returns-in_default : goal.returns-in_default
unfolding key_of pick
returns-in_default c =
    let not_0 : c.args.number ≢ 0 = omega arith in
    let not_1 : c.args.number ≢ 1 = omega arith in
    let not_2 : c.args.number ≢ 2 = omega arith in
    simp (ne_eqb _ 0 not_0, ne_eqb _ 1 not_1, ne_eqb _ 2 not_2)
