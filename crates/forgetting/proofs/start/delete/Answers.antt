-- `forgetting::start::delete` meets its contract.
use Rattle.std.specs.Prelude.{Ok}
use mathlib.Core.Path.{◌≡◌, refl, sym, ◌∙◌}
use native.Mathlib.Omega.{arith}
use Rattle.word.specs.Number.{Bytes}
use Rattle.segment.specs.Layout.{entry_size}
use Rattle.segment.proofs.LayoutLaws.{tombstone-length, width-high}
use Rattle.laws.specs.OperationsKept.{edition-roomy}
use Rattle.model.specs.Operations.{no_room}
use Rattle.writing.specs.StartLaws.{presents, delete-refused, delete-spent, delete-ready, delete-number, delete-laid, laid-started}
use Rattle.forgetting.proofs.DeleteLaws.{delete-lent, forget-ready, forget-promise}
use Rattle.forgetting.proofs.start.delete.Goals as goal
use Rattle.forgetting.proofs.start.delete.Goals.{After-no_room, In-Ok}

-- the tests before the room are passed
passed : (t : In-Ok) →
    let a = t.args in
    Ok tt ≡ presents a.rec.edition a.tables a.rec a.area.now a.index.now a.work.now a.key
passed t = sym t.in-Ok.is ∙ t.check_delete.ensures

pub no_room-requires : goal.no_room-requires
no_room-requires c =
    let a = c.args in (
      omega (arith, c.head_size-length.ensures, width-high a.rec.edition),
      (delete-lent _ a.tables a.rec a.area.now a.index.now a.work.now a.key (passed (goal.at.no_room-requires c).In-Ok)).map_below,
    )

-- what the test for room found
full-test : (c : After-no_room) →
    let a = c.args in
    c.no_room.result ≡ no_room a.rec.edition a.rec (entry_size a.rec.edition 0)
full-test c = rw c.head_size-length.ensures at c.no_room.ensures

pub forget-requires : goal.forget-requires
forget-requires c =
    let a = c.args in
    forget-ready _ a.tables a.rec a.area.now a.index.now a.work.now a.key (passed (goal.at.forget-requires c).In-Ok) refl

pub returns-then-no_room : goal.returns-then-no_room
returns-then-no_room c =
    let bytes : Bytes c.args.area.now = λ i. omega (arith, c.type_inv.area i) in
    let a = c.args in
    forget-promise _ a.tables a.rec a.area.now a.index.now a.work.now a.key (passed (goal.at.returns-then-no_room c).In-Ok)
    (sym (full-test (goal.at.returns-then-no_room c).After-no_room) ∙ c.if-no_room.true) (bytes) _ _ c.forget.ensures

pub check_number-requires : goal.check_number-requires
check_number-requires c =
    let a = c.args in
    omega (arith, c.head_size-length.ensures, width-high a.rec.edition)

pub lay_entry-laying-requires : goal.lay_entry-laying-requires
lay_entry-laying-requires c =
    let a = c.args in
    record {
      entry_ready = delete-ready _ a.tables a.rec a.area.now a.index.now a.work.now a.key (passed (goal.at.lay_entry-laying-requires c).In-Ok) (edition-roomy _);
      number_left = delete-number _ a.tables a.rec a.area.now a.index.now a.work.now a.key (passed (goal.at.lay_entry-laying-requires c).In-Ok)
          (sym (full-test (goal.at.lay_entry-laying-requires c).After-no_room) ∙ c.if-no_room.false) _ c.head_size-length.ensures (sym c.in-Ok-check_number.is ∙ c.check_number.ensures);
      kind_value = rw c.tombstone_kind.ensures (tombstone-length _);
    }

pub returns-in-Err : goal.returns-in-Err
returns-in-Err c =
    delete-refused _ _ _ _ _ _ _ _ (sym c.in-Err.is ∙ c.check_delete.ensures) _
    c.refused.ensures

pub returns-in-Err-check_number : goal.returns-in-Err-check_number
returns-in-Err-check_number c =
    let a = c.args in
    delete-spent _ a.tables a.rec a.area.now a.index.now a.work.now a.key (passed (goal.at.returns-in-Err-check_number c).In-Ok)
    (sym (full-test (goal.at.returns-in-Err-check_number c).After-no_room) ∙ c.if-no_room.false) _ c.head_size-length.ensures _
    (sym c.in-Err-check_number.is ∙ c.check_number.ensures) _ c.refused-in-Err-check_number.ensures

pub returns-in-Ok-check_number : goal.returns-in-Ok-check_number
returns-in-Ok-check_number c =
    let a = c.args in
    delete-laid _ a.tables a.rec a.area.now a.index.now a.work.now a.key (passed (goal.at.returns-in-Ok-check_number c).In-Ok)
    (sym (full-test (goal.at.returns-in-Ok-check_number c).After-no_room) ∙ c.if-no_room.false) _ c.head_size-length.ensures (sym c.in-Ok-check_number.is ∙ c.check_number.ensures) _ _
    (laid-started a.rec c.started.ensures (rw c.tombstone_kind.ensures at c.lay_entry-laying.ensures))
