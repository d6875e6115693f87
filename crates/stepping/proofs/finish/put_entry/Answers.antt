-- `stepping::finish::put_entry` meets its contract.
use Rattle.stepping.proofs.FinishLaws.{entry-put}
use Rattle.stepping.proofs.finish.put_entry.Goals as goal

pub returns : goal.returns
returns c = entry-put _ _ _ _ _ _ _ _ c.insert-answer.ensures c.keys_after-keys.ensures c.entry_counts-counts.ensures c.answered.ensures
