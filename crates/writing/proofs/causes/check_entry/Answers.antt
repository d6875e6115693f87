-- `writing::causes::check_entry` meets its contract.
use Rattle.std.specs.Prelude.{Err}
use mathlib.Core.Path.{◌≡◌, sym, ◌∙◌}
use borrow.Author.Rules.{rules}
use Rattle.writing.specs.TestLaws.{entry-spent, entry_key, entry-room}
use Rattle.writing.proofs.causes.check_entry.Goals as goal

pub returns-then-versions_spent : goal.returns-then-versions_spent
returns-then-versions_spent c = entry-spent _ _ _ _ (sym c.versions_spent.ensures ∙ c.if-versions_spent.true)

pub returns-in_err-check_key : goal.returns-in_err-check_key
returns-in_err-check_key c =
    let e : c.from_residual.result ≡ Err c.in_err-check_key.field-0.0 = search rules in
    e ∙ entry_key _ _ _ _ (sym c.versions_spent.ensures ∙ c.if-versions_spent.false) _ (sym c.in_err-check_key.was ∙ c.check_key.ensures)

pub returns : goal.returns
returns c =
    entry-room _ _ _ _ (sym c.versions_spent.ensures ∙ c.if-versions_spent.false) (sym c.in_ok-check_key.was ∙ c.check_key.ensures)
    c.check_room.ensures
