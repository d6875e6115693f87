-- `drive_log::head::names_later_edition` meets its contract.
use Rattle.slot_map.specs.Bit.{named}
use Rattle.model.specs.Log.{views_of}
use Rattle.drive_log.specs.Heads.{after_first, after-second}
use Rattle.drive_log.proofs.head.names_later_edition.Goals as goal

pub returns-in-First : goal.returns-in-First
returns-in-First c =
    let a = c.args in
    after_first (views_of a.area.now a.s) (named a.map) a.edition a.n c.in-First.is c.names_other_edition.ensures

pub returns-in-Second : goal.returns-in-Second
returns-in-Second c =
    let a = c.args in
    after-second (views_of a.area.now a.s) (named a.map) a.edition a.n c.in-Second.is
