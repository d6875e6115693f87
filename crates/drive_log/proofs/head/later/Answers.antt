-- `drive_log::head::later` meets its contract: a law for each return.
use mathlib.Core.Path.{sym, ◌∙◌}
use Rattle.drive_log.specs.Heads.{lt-tested, later-none, later_first, later-higher, later-lower}
use Rattle.drive_log.proofs.head.later.Goals as goal

pub returns-in_default : goal.returns-in_default
returns-in_default c = later-none _ _ c.digest_in.ensures _ _ c.in_default.is

pub returns-then-lt : goal.returns-then-lt
returns-then-lt c =
    later-higher _ _ c.digest_in.ensures _ _ _ c.in-Some.is _ c.in-Some-best.is (sym (lt-tested _ _) ∙ sym c.lt.ensures ∙ c.if-lt.true)

pub returns-in-None : goal.returns-in-None
returns-in-None c = later_first _ _ c.digest_in.ensures _ _ _ c.in-Some.is c.in-None.is

pub returns-else-lt : goal.returns-else-lt
returns-else-lt c =
    later-lower _ _ c.digest_in.ensures _ _ _ c.in-Some.is _ c.in-Some-best.is (sym (lt-tested _ _) ∙ sym c.lt.ensures ∙ c.if-lt.false)
