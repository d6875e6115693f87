-- `stepping::finish::finish_rebuilt` meets its contract.
use Rattle.stepping.specs.Finish.{up_from}
use Rattle.stepping.proofs.FinishLaws.{rebuilt-goes}
use Rattle.stepping.proofs.finish.finish_rebuilt.Goals as goal

pub returns : goal.returns
unfolding up_from
returns c =
    let a = c.args in
    rebuilt-goes a.rec a.area.now a.index.now a.slot a.victims a.done a.version.0
    c.rebuild-keys.ensures c.renewed_counts-counts.ensures c.answered.ensures
