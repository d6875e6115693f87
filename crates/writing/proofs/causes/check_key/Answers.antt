-- `writing::causes::check_key` meets its contract.
use mathlib.Core.Path.{refl}
use Rattle.writing.specs.declared.Presence.TheVariants.{Nothing, Forbidden}
use Rattle.writing.specs.Tests.{facts_of}
use Rattle.writing.specs.TestLaws.{key-known, key-new}
use Rattle.writing.proofs.causes.check_key.Goals as goal

pub returns-in-Object : goal.returns-in-Object
unfolding facts_of
returns-in-Object c = key-known _ _ _ c.in-Object.is refl

pub returns-in-Tombstone : goal.returns-in-Tombstone
unfolding facts_of
returns-in-Tombstone c = key-known _ _ _ c.in-Tombstone.is refl

pub returns-in-Nothing : goal.returns-in-Nothing
unfolding facts_of
returns-in-Nothing c = key-new _ _ Nothing c.in-Nothing.is refl c.check_keys.ensures

pub returns-in-Forbidden : goal.returns-in-Forbidden
unfolding facts_of
returns-in-Forbidden c = key-new _ _ Forbidden c.in-Forbidden.is refl c.check_keys-in-Forbidden.ensures
