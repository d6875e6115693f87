-- `recovery::recover::look_under` meets its contract: the digest's causes come before those of its log.
use Rattle.std.specs.Prelude.{Err}
use mathlib.Core.Path.{◌≡◌, sym, ◌∙◌}
use borrow.Author.Rules.{rules}
use Rattle.recovery.proofs.CheckLaws.{check-refused, check-passed, head-digest}
use Rattle.recovery.proofs.recover.look_under.Goals as goal

pub look_through-requires : goal.look_through-requires
look_through-requires c = (
  c.requires.0,
  check-passed _ (sym c.check_digest.ensures ∙ c.in_ok-check_digest.was),
)

pub returns-in_err-check_digest : goal.returns-in_err-check_digest
returns-in_err-check_digest c =
    let e : c.from_residual.result ≡ Err c.in_err-check_digest.field-0.0 = search rules in
    e ∙ head-digest c.args.single _ _ _ _ (check-refused _ _ (sym c.check_digest.ensures ∙ c.in_err-check_digest.was))
