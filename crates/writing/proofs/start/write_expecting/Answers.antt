-- `writing::start::write_expecting` meets its contract.
use mathlib.Core.Path.{sym, ◌∙◌}
use Rattle.laws.specs.OperationsKept.{edition-roomy}
use Rattle.writing.specs.StartLaws.{write-refused, write-ready, write-number, write_known, write-laid, laid-started}
use Rattle.writing.proofs.start.write_expecting.Goals as goal

pub lay_entry-laying-requires : goal.lay_entry-laying-requires
lay_entry-laying-requires c =
    let a = c.args in let passed = sym c.in-Ok.is ∙ c.check_write.ensures in
    record {
      entry_ready = write-ready _ (record { tables = a.tables; expected = a.expected }) a.rec a.area.now a.index.now a.work.now a.key a.value.now passed (edition-roomy _);
      number_left = write-number _ (record { tables = a.tables; expected = a.expected }) a.rec a.area.now a.index.now a.work.now a.key a.value.now passed;
      kind_value = write_known _ (record { tables = a.tables; expected = a.expected }) a.rec a.area.now a.index.now a.work.now a.key a.value.now passed _ c.object_kind.ensures;
    }

pub returns-in-Err : goal.returns-in-Err
returns-in-Err c =
    write-refused _ _ _ _ _ _ _ _ _ (sym c.in-Err.is ∙ c.check_write.ensures) _
    c.refused.ensures

pub returns-in-Ok : goal.returns-in-Ok
returns-in-Ok c =
    write-laid _ _ _ _ _ _ _ _ (sym c.in-Ok.is ∙ c.check_write.ensures) _ _ _
    c.object_kind.ensures (laid-started c.args.rec c.started.ensures c.lay_entry-laying.ensures)
