-- `stepping::finish::keys_after` meets its contract.
use Rattle.stepping.proofs.FinishLaws.{keys-new, keys-newer, keys-older, keys-full}
use Rattle.stepping.proofs.finish.keys_after.Goals as goal

pub returns-in-New : goal.returns-in-New
returns-in-New c = keys-new _ c.in-New.is

pub returns-in-Newer : goal.returns-in-Newer
returns-in-Newer c = keys-newer _ c.in-Newer.is

pub returns-in-Older : goal.returns-in-Older
returns-in-Older c = keys-older _ c.in-Older.is

pub returns-in-Full : goal.returns-in-Full
returns-in-Full c = keys-full _ c.in-Full.is
