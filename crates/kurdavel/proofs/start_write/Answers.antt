-- `kurdavel::start_write` meets its contract.
use Rattle.std.specs.Prelude.{Ok}
use borrow.Author.Rules.{rules}
use mathlib.Core.Path.{ap}
use mathlib.Core.Bool.{not}
use Prim.Native.Nat.{◌<◌}
use mathlib.Core.Path.{◌≡◌, sym, ◌∙◌}
use native.Mathlib.Omega.{arith}
use Rattle.laws.specs.OperationsKept.{edition-roomy}
use Rattle.record.specs.Answered.{Check}
use Rattle.writing.specs.StartLaws.{write-ready, write-number, write_known}
use Rattle.words.specs.Words.{word}
use Rattle.kurdavel.specs.CrossingLaws.{fits-words}
use Rattle.kurdavel.specs.StartOn.{tests, write-bad, front-fit, write-turned, write-begun}
use Rattle.kurdavel.proofs.start_write.Goals as goal
use Rattle.kurdavel.proofs.start_write.Goals.{In-Ok}

pub returns-then-not-fits : goal.returns-then-not-fits
returns-then-not-fits c =
    let half : word c.args.words.now 7 < 4294967296 = search rules in
    let a = c.args in
    write-bad (record { tables = a.tables; expected = a.expected }) a.words.now a.area.now a.index.now a.work.now a.key a.value.now (half) _ c.fits.ensures (ap not c.if-not-fits.true)

pub front_in-front-requires : goal.front_in-front-requires
front_in-front-requires c = fits-words _ _ _ (sym c.fits.ensures ∙ c.if-not-fits.false)

pub check_fitting-requires : goal.check_fitting-requires
check_fitting-requires c =
    let half : word c.args.words.now 7 < 4294967296 = search rules in
    let a = c.args in
    front-fit (record { tables = a.tables; expected = a.expected }) a.words.now a.area.now a.index.now a.work.now a.key a.value.now (half) 0 c.fits.ensures (ap not c.if-not-fits.false) c.front_in-front.ensures

-- the tests are passed
passed : (e : In-Ok)
    → let a = e.args in
    (Ok tt) ≡ tests (record { tables = a.tables; expected = a.expected }) a.words.now a.area.now a.index.now a.work.now a.key a.value.now e.front_in-front.result
passed e = sym e.in-Ok.is ∙ e.check_fitting.ensures

pub lay_entry-laying-requires : goal.lay_entry-laying-requires
lay_entry-laying-requires c =
    let a = c.args in
    record {
      entry_ready = write-ready _ (record { tables = a.tables; expected = a.expected }) c.front_in-front.result a.area.now a.index.now a.work.now a.key a.value.now (passed (goal.at.lay_entry-laying-requires c).In-Ok) (edition-roomy _);
      number_left = write-number _ (record { tables = a.tables; expected = a.expected }) c.front_in-front.result a.area.now a.index.now a.work.now a.key a.value.now (passed (goal.at.lay_entry-laying-requires c).In-Ok);
      kind_value = write_known _ (record { tables = a.tables; expected = a.expected }) c.front_in-front.result a.area.now a.index.now a.work.now a.key a.value.now (passed (goal.at.lay_entry-laying-requires c).In-Ok) _ c.object_kind.ensures;
    }

pub encode_pending-requires : goal.encode_pending-requires
encode_pending-requires c =
    fits-words _ _ _ (sym c.fits.ensures ∙ c.if-not-fits.false)

pub returns-in-Err : goal.returns-in-Err
returns-in-Err c =
    let half : word c.args.words.now 7 < 4294967296 = search rules in
    let a = c.args in
    write-turned (record { tables = a.tables; expected = a.expected }) a.words.now a.area.now a.index.now a.work.now a.key a.value.now (half) _ c.fits.ensures (ap not c.if-not-fits.false) c.front_in-front.ensures _ (sym c.in-Err.is ∙ c.check_fitting.ensures) c.number.ensures

pub returns-in-Ok : goal.returns-in-Ok
returns-in-Ok c =
    let half : word c.args.words.now 7 < 4294967296 = search rules in
    let a = c.args in
    write-begun (record { tables = a.tables; expected = a.expected }) a.words.now a.area.now a.index.now a.work.now a.key a.value.now (half) _ c.fits.ensures (ap not c.if-not-fits.false) c.front_in-front.ensures (passed (goal.at.returns-in-Ok c).In-Ok) _ c.object_kind.ensures c.lay_entry-laying.ensures c.encode_pending.ensures
