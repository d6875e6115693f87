-- `drive_log::head::digest_in` meets its contract.
use mathlib.Core.Path.{refl, ◌∙◌, ap}
use native.Mathlib.Omega.{arith}
use Rattle.std.specs.Prelude.{Some}
use Rattle.segment.specs.Digest.{digest_of}
use Rattle.segment.specs.Layout.{Layout, edition2}
use Rattle.segment.proofs.LayoutLaws.{width-high, second-width}
use Rattle.drive_log.specs.Heads.{as_option, none_in, some_in}
use Rattle.drive_log.proofs.head.digest_in.Goals as goal

pub returns-then-not-is_digest : goal.returns-then-not-is_digest
unfolding as_option
returns-then-not-is_digest c = rw (none_in _ _ c.is_digest.ensures c.if-not-is_digest.true)

pub digest-requires : goal.digest-requires
digest-requires c = omega (arith, width-high c.edition_of.result, second-width edition2 refl, c.requires)

pub returns : goal.returns
unfolding as_option
returns c = rw (some_in _ _ c.is_digest.ensures c.if-not-is_digest.false) (ap Some (c.digest.ensures ∙ ap (λ (L : Layout). digest_of L c.args.part.now) c.edition_of.ensures))
