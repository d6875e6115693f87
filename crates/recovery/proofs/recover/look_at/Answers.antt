-- `recovery::recover::look_at` meets its contract.
use mathlib.Core.Path.{◌≡◌, sym, ◌∙◌}
use mathlib.Core.Option.{some}
use Rattle.model.specs.Log.{views_of, head_of}
use Rattle.laws.specs.HeadLaws.{head-is}
use Rattle.recovery.proofs.CheckLaws.{head-none, head-some}
use Rattle.drive_log.specs.Heads.{told-nothing, told_at}
use Rattle.recovery.proofs.recover.look_at.Goals as goal
use Rattle.recovery.proofs.recover.look_at.Goals.{In-Some}

found : (c : In-Some)
    → let a = c.args in
    head_of (views_of a.area.now a.s) a.n ≡ some (record { slot = c.in-Some.head.slot; digest = c.in-Some.head.digest })
found c = told_at _ _ (sym c.find_head.ensures ∙ c.in-Some.is)

pub look_under-requires : goal.look_under-requires
look_under-requires c = (c.requires, (head-is _ _ _ (found (goal.at.look_under-requires c).In-Some)).below)

pub returns-in-None : goal.returns-in-None
returns-in-None c = head-none c.args.single _ _ (told-nothing _ (sym c.find_head.ensures ∙ c.in-None.is))

pub returns-in-Some : goal.returns-in-Some
returns-in-Some c = c.look_under.ensures ∙ head-some c.args.single _ _ _ (found (goal.at.returns-in-Some c).In-Some)
