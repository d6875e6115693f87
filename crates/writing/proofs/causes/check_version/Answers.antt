-- `writing::causes::check_version` meets its contract.
use Rattle.writing.specs.TestLaws.{version-any, version-same, version-other}
use Rattle.writing.proofs.causes.check_version.Goals as goal

pub returns-then-only-version : goal.returns-then-only-version
returns-then-only-version c = version-same _ _ _ c.in-Only.is c.if-only-version.true

pub returns-in-Any : goal.returns-in-Any
returns-in-Any c = version-any _ _ c.in-Any.is

pub returns-else-only-version : goal.returns-else-only-version
returns-else-only-version c = version-other _ _ _ c.in-Only.is c.if-only-version.false
