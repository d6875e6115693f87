-- `stepping::finish::head_commit` meets its contract.
use mathlib.Core.Path.{ap}
use Rattle.segment.specs.Layout.{Layout}
use Rattle.model.specs.Operations.{head_commit}
use Rattle.stepping.proofs.finish.head_commit.Goals as goal

pub returns : goal.returns
returns c =
    let a = c.args in
    ap (λ (W : Layout). head_commit W a.rec a.slot a.count a.map a.next) c.new_edition-edition.ensures
