-- `stepping::finish::rebuild` meets its contract.
use native.Mathlib.Numerals.{unary_clauses}
use Rattle.stepping.proofs.finish.rebuild.Goals as goal

pub returns : goal.returns
returns c = simp unary_clauses at c.build.ensures
