-- `starting::checks::check_idle` meets its contract.
use Rattle.starting.specs.CheckLaws.{idle-short, idle-busy, idle-passed}
use Rattle.starting.proofs.checks.check_idle.Goals as goal

pub returns-then-work-rec : goal.returns-then-work-rec
returns-then-work-rec c = idle-short _ _ c.if-work-rec.true

pub returns-then-is_pending : goal.returns-then-is_pending
returns-then-is_pending c = idle-busy _ _ c.if-work-rec.false _ c.is_pending.ensures c.if-is_pending.true

pub returns : goal.returns
returns c = idle-passed _ _ c.if-work-rec.false _ c.is_pending.ensures c.if-is_pending.false
