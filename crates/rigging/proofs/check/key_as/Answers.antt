-- `rigging::check::key_as` meets its contract.
use mathlib.Core.Path.{refl, subst}
use Rattle.record.specs.declared.Tables.{Tables}
use Rattle.record.specs.Reach.{all_tables}
use Rattle.model.specs.Promises.{ReadPromise, ValueReference}
use Rattle.rig_model.proofs.CheckLaws.{version-differs, absent-as, value_as}
use Rattle.rigging.proofs.check.key_as.Goals as goal
use Rattle.rigging.proofs.check.key_as.Goals.{After-read-reading}

-- all tables are read
reads-all : (c : After-read-reading) → ReadPromise c.args.rec.edition c.args.rec c.args.area.now c.args.index.now all_tables c.args.key c.read-reading.result
reads-all c = subst (λ (t : Tables). ReadPromise c.args.rec.edition c.args.rec c.args.area.now c.args.index.now t c.args.key c.read-reading.result) c.all_tables-tables.ensures c.read-reading.ensures

pub returns-then-present-held : goal.returns-then-present-held
returns-then-present-held c = version-differs c.args.area.now c.args.rec c.args.index.now c.requires.0 c.args.key c.requires.1 c.read-reading.result (reads-all (goal.at.returns-then-present-held c).After-read-reading) c.args.held _ _ c.in-Ok.is c.if-present-held.true

pub returns-in-Err : goal.returns-in-Err
returns-in-Err c = absent-as c.args.area.now c.args.rec c.args.index.now c.requires.0 c.args.key c.requires.1 c.read-reading.result (reads-all (goal.at.returns-in-Err c).After-read-reading) c.args.held _ c.in-Err.is

pub returns-else-present-held : goal.returns-else-present-held
returns-else-present-held c =
    value_as c.args.area.now c.args.rec c.args.index.now c.requires.0 c.args.key c.requires.1 c.read-reading.result (reads-all (goal.at.returns-else-present-held c).After-read-reading) c.args.held _ _ c.in-Ok.is c.if-present-held.false _ _ refl
    (subst (λ (t : Tables). ValueReference c.args.rec.edition c.args.rec c.args.area c.args.index.now t c.args.key c.read_value.result) c.all_tables-tables.ensures c.read_value.ensures) _ c.all_are.ensures
