-- `rigging::run::start` meets its contract.
use Rattle.rig_model.proofs.PlayLaws.{start-write-a, start-write-b, start-delete-a, start-delete-b, start-clean}
use Rattle.rigging.proofs.run.start.Goals as goal

pub returns-in-WriteA : goal.returns-in-WriteA
returns-in-WriteA c = start-write-a c.args.l c.args.place c.args.rec c.args.area.now c.args.index.now c.args.work.now _ c.write.result c.all_tables-tables.result c.all_tables-tables.ensures c.first_key.result c.in-WriteA.is c.first_key.ensures c.write.ensures

pub returns-in-WriteB : goal.returns-in-WriteB
returns-in-WriteB c = start-write-b c.args.l c.args.place c.args.rec c.args.area.now c.args.index.now c.args.work.now _ c.write-in-WriteB.result c.all_tables-tables.result c.all_tables-tables.ensures c.second_key.result c.in-WriteB.is c.second_key.ensures c.write-in-WriteB.ensures

pub returns-in-DeleteA : goal.returns-in-DeleteA
returns-in-DeleteA c = start-delete-a c.args.l c.args.place c.args.rec c.args.area.now c.args.index.now c.args.work.now _ c.delete.result c.all_tables-tables.result c.all_tables-tables.ensures c.first_key-in-DeleteA.result c.in-DeleteA.is c.first_key-in-DeleteA.ensures c.delete.ensures

pub returns-in-DeleteB : goal.returns-in-DeleteB
returns-in-DeleteB c = start-delete-b c.args.l c.args.place c.args.rec c.args.area.now c.args.index.now c.args.work.now _ c.delete-in-DeleteB.result c.all_tables-tables.result c.all_tables-tables.ensures c.second_key-in-DeleteB.result c.in-DeleteB.is c.second_key-in-DeleteB.ensures c.delete-in-DeleteB.ensures

pub returns-in-CleanAll : goal.returns-in-CleanAll
returns-in-CleanAll c = start-clean c.args.l c.args.place c.args.rec c.args.area.now c.args.index.now c.args.work.now _ c.clean.result c.in-CleanAll.is c.clean.ensures
