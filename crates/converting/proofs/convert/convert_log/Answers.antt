-- `converting::convert::convert_log` meets its contract: a law for each return.
use Rattle.slot_map.specs.Bit.{named}
use Rattle.model.specs.Log.{views_of}
use Rattle.converting.specs.ConvertLaws.{log-long, log-wide, log-put}
use Rattle.converting.proofs.convert.convert_log.Goals as goal

pub returns-then-too_long : goal.returns-then-too_long
returns-then-too_long c =
    let a = c.args in
    log-long a.from (views_of a.source.now a.s) (named a.map) a.s a.n a.target.now _ c.other-to.ensures _ c.too_long.ensures c.if-too_long.true

pub returns-then-too_wide : goal.returns-then-too_wide
returns-then-too_wide c =
    let a = c.args in
    log-wide a.from (views_of a.source.now a.s) (named a.map) a.s a.n a.target.now _ c.other-to.ensures _ c.too_long.ensures
    c.if-too_long.false _ c.too_wide.ensures c.if-too_wide.true

pub returns : goal.returns
returns c =
    let a = c.args in
    log-put a.from (views_of a.source.now a.s) (named a.map) a.s a.n a.target.now _ c.other-to.ensures _ c.too_long.ensures
    c.if-too_long.false _ c.too_wide.ensures c.if-too_wide.false _ c.put_log.ensures
