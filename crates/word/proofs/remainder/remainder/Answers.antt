-- `word::remainder::remainder` meets its contract.
use borrow.Author.Rules.{rules}
use Rattle.word.specs.Mask.{mask-remainder}
use Rattle.word.proofs.remainder.remainder.Goals as goal

pub returns-then-m-eq0 : goal.returns-then-m-eq0
returns-then-m-eq0 c = mask-remainder c.args.m c.args.x (search rules) c.if-m-eq0.true
