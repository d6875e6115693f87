-- `stepping::finish::lost_by` meets its contract.
use Rattle.stepping.proofs.FinishLaws.{lost-new, lost-newer, lost-older, lost-full}
use Rattle.stepping.proofs.finish.lost_by.Goals as goal

pub returns-in-New : goal.returns-in-New
returns-in-New c = lost-new _ _ _ c.in-New.is

pub returns-in-Newer : goal.returns-in-Newer
returns-in-Newer c = lost-newer _ _ _ c.in-Newer.is c.lost_at.ensures

pub returns-in-Older : goal.returns-in-Older
returns-in-Older c = lost-older _ _ _ c.in-Older.is

pub returns-in-Full : goal.returns-in-Full
returns-in-Full c = lost-full _ _ _ c.in-Full.is
