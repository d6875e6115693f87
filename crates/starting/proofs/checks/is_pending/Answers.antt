-- `starting::checks::is_pending` meets its contract.
use mathlib.Core.Path.{◌≡◌, ap}
use Rattle.starting.specs.CheckLaws.{idle-not, other-pending}
use Rattle.starting.proofs.checks.is_pending.Goals as goal

pub returns-in-Idle : goal.returns-in-Idle
returns-in-Idle c = idle-not _ c.in-Idle.is

pub returns : goal.returns
returns c = other-pending _ c.in_default.not-Idle
