-- `writing::causes::check_expected` meets its contract.
use mathlib.Core.Path.{refl}
use Rattle.writing.specs.declared.Presence.TheVariants.{Tombstone, Nothing}
use Rattle.writing.specs.Tests.{facts_of}
use Rattle.writing.specs.TestLaws.{expected-at, expected-forbidden}
use Rattle.writing.proofs.causes.check_expected.Goals as goal

pub returns-in-Object : goal.returns-in-Object
unfolding facts_of
returns-in-Object c = expected-at _ _ _ c.in-Object.is refl c.check_version.ensures

pub returns-in-Tombstone : goal.returns-in-Tombstone
unfolding facts_of
returns-in-Tombstone c = expected-at _ _ Tombstone c.in-Tombstone.is refl c.check_version-in-Tombstone.ensures

pub returns-in-Nothing : goal.returns-in-Nothing
unfolding facts_of
returns-in-Nothing c = expected-at _ _ Nothing c.in-Nothing.is refl c.check_version-in-Nothing.ensures

pub returns-in-Forbidden : goal.returns-in-Forbidden
returns-in-Forbidden c = expected-forbidden _ _ c.in-Forbidden.is
