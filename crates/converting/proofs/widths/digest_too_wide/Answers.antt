-- `converting::widths::digest_too_wide` meets its contract.
use mathlib.Core.Path.{sym}
use Rattle.converting.specs.PartLaws.{digest-room}
use Rattle.converting.specs.WidthLaws.{next-is}
use Rattle.converting.proofs.widths.digest_too_wide.Goals as goal

pub digest-found-requires : goal.digest-found-requires
digest-found-requires c = digest-room _ c.requires

pub returns : goal.returns
returns c = rw (c.version_limit.ensures, c.digest-found.ensures) (sym (next-is _ _))
