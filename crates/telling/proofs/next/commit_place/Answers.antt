-- `telling::next::commit_place` meets its contract.
use borrow.Author.Rules.{rules}
use mathlib.Core.Path.{refl}
use native.Mathlib.Omega.{arith}
use Rattle.starting.specs.Stores.{stores-most}
use Rattle.telling.proofs.PlaceLaws.{place-last, place_byte, place_end}
use Rattle.telling.proofs.next.commit_place.Goals as goal

pub overflow_add-from : goal.overflow_add-from
overflow_add-from c = let a = c.args in omega (arith, stores-most a.size a.offset a.count refl)

pub returns-then-from-commit_stores : goal.returns-then-from-commit_stores
returns-then-from-commit_stores c = search (place-last, rules)

pub returns-then-from-count : goal.returns-then-from-count
returns-then-from-count c = search (place_byte, rules)

pub returns : goal.returns
returns c = search (place_end, rules)
