-- `stepping::finish::stands_in` meets its contract.
use mathlib.Core.Path.{◌∙◌, ap}
use Prim.Native.Nat.{ℕ}
use mathlib.Core.List.{List}
use Rattle.segment.specs.Entry.{entry_at, answer}
use Rattle.stepping.proofs.finish.stands_in.Goals as goal

pub returns : goal.returns
returns c =
    let a = c.args in
    c.read.ensures ∙ ap (λ (s : List ℕ). answer a.edition (entry_at a.edition s a.offset)) c.cut.ensures
