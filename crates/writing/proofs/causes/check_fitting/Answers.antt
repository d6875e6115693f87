-- `writing::causes::check_fitting` meets its contract: a law for each return.
use Rattle.std.specs.Prelude.{Ok, Err}
use Prim.Native.Nat.{◌+◌, ◌≤◌}
use mathlib.Core.Path.{◌≡◌, sym, ◌∙◌}
use borrow.Author.Rules.{rules}
use lib.ListN.{length}
use native.Mathlib.Omega.{arith}
use Rattle.segment.specs.Layout.{digest_size, entry_size}
use Rattle.record.specs.RangeLaws.{Lent}
use Rattle.model.specs.Causes.{first_cause}
use Rattle.laws.specs.OperationsKept.{edition-roomy}
use Rattle.starting.specs.Checks.{checked}
use Rattle.writing.specs.Tests.{first_tests}
use Rattle.writing.specs.TestLaws.{kind-room, first-lent, write-first, write-value, write-expected, write-entry}
use Rattle.writing.proofs.causes.check_fitting.Goals as goal
use Rattle.writing.proofs.causes.check_fitting.Goals.{After-head_size, Else-object_kind-eq0, In_ok-check_first}

-- what is known once 4, 22, 3 and 5 are passed
first : (c : In_ok-check_first) →
    let a = c.args in
    Ok tt ≡ checked (first_cause (first_tests a.rec.edition a.rec (record { area = length a.area.now; index = length a.index.now; work = a.work }) a.tables a.key))
first c = sym c.in_ok-check_first.was ∙ c.check_first.ensures

lent : (c : In_ok-check_first) →
    let a = c.args in Lent a.rec.edition a.rec (length a.area.now) (length a.index.now)
lent c = first-lent _ _ _ _ _ (first c)

-- and 7
room : (c : Else-object_kind-eq0) →
    let a = c.args in digest_size a.rec.edition + entry_size a.rec.edition a.value ≤ 256
room c = kind-room _ _ _ (edition-roomy _) c.object_kind.ensures c.if-object_kind-eq0.false

-- the length of the entry
sized : (c : After-head_size) →
    let a = c.args in c.head_size.result + a.value ≡ entry_size a.rec.edition a.value
sized c = omega (arith, c.head_size.ensures)

pub check_first-requires : goal.check_first-requires
check_first-requires c = c.requires

pub returns-then-object_kind-eq0 : goal.returns-then-object_kind-eq0
returns-then-object_kind-eq0 c = write-value _ _ _ _ _ _ _ (first (goal.at.returns-then-object_kind-eq0 c).In_ok-check_first) _ c.object_kind.ensures c.if-object_kind-eq0.true

pub overflow_add-head_size : goal.overflow_add-head_size
overflow_add-head_size c = omega (arith, room (goal.at.overflow_add-head_size c).Else-object_kind-eq0, c.head_size.ensures)

pub check_entry-requires : goal.check_entry-requires
check_entry-requires c =
    let l = lent (goal.at.check_entry-requires c).In_ok-check_first in
    (omega (arith, room (goal.at.check_entry-requires c).Else-object_kind-eq0, c.head_size.ensures), l.map_below, omega (arith, l.cells_low))

pub returns-in_err-check_first : goal.returns-in_err-check_first
returns-in_err-check_first c =
    let e : c.from_residual.result ≡ Err c.in_err-check_first.field-0.0 = search rules in
    e ∙ write-first _ _ _ _ _ _ _ _ (sym c.in_err-check_first.was ∙ c.check_first.ensures)

pub returns-in_err-check_expected : goal.returns-in_err-check_expected
returns-in_err-check_expected c =
    let e : c.from_residual-in_err-check_expected.result ≡ Err c.in_err-check_expected.field-0.0 = search rules in
    e ∙ write-expected _ _ _ _ _ _ c.args.value (first (goal.at.returns-in_err-check_expected c).In_ok-check_first) _ c.object_kind.ensures c.if-object_kind-eq0.false _
    (rw c.find-presence.ensures at (sym c.in_err-check_expected.was ∙ c.check_expected.ensures))

pub returns : goal.returns
returns c =
    write-entry _ _ _ _ _ _ _ (first (goal.at.returns c).In_ok-check_first) _ c.object_kind.ensures c.if-object_kind-eq0.false _ (sized (goal.at.returns c).After-head_size)
    (rw c.find-presence.ensures at (sym c.in_ok-check_expected.was ∙ c.check_expected.ensures))
    (rw c.find-presence.ensures at c.check_entry.ensures)
