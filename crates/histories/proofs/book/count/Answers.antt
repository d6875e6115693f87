-- `histories::book::count` meets its contract.
use mathlib.Core.Path.{◌∙◌, ap₂}
use Prim.Native.Nat.{ℕ, ◌+◌}
use Rattle.histories.specs.Book.{one-tested}
use Rattle.histories.proofs.book.count.Goals as goal

pub returns : goal.returns
returns c =
    ap₂ (λ (a b : ℕ). a + b) (c.from.ensures ∙ one-tested c.args.book.first.version) (c.from-2.ensures ∙ one-tested c.args.book.second.version)
