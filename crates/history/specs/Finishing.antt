-- What corollaries of demand 3 speak of: when an event finishes a write of a key, and what a finished operation was told.
use Rattle.std.specs.Prelude.{◌-◌, ◌≡◌, Bool, true, false, not, List, [], ◌∷◌, eqb}
use Rattle.std.proofs.Math.Option.{Option, none, some}
use Rattle.segment.specs.Choice.{both}
use Rattle.segment.specs.declared.Key.{Key}
use Rattle.model.specs.Log.{same_keys}
use Rattle.model.specs.Operations.{Operation, write, delete, clean}
use Rattle.history.specs.Book.{starts, steps, switches, asks, recovers, Answer, Event, called, cut, accepted, Awaited, Book, feed}

-- a write of that key
unfoldable pub is_write_of : Key → Operation → Bool
is_write_of k (write j value) = same_keys k j
is_write_of k (delete j) = false
is_write_of k (clean victims) = false

-- one store is left of a pending write of that key
unfoldable pub last_of_write : Key → Option Awaited → Bool
last_of_write k none = false
last_of_write k (some p) = both (eqb (p.left - 1) 0) (is_write_of k p.operation)

-- an event at that book is the accepted last step of a write of that key
unfoldable pub finishes_write : Book → Event → Key → Bool
finishes_write b (called (starts t o) lent a) k = false
finishes_write b (called steps lent a) k = both (accepted a) (last_of_write k b.pending)
finishes_write b (called switches lent a) k = false
finishes_write b (called (asks q) lent a) k = false
finishes_write b (called (recovers n s order) lent a) k = false
finishes_write b cut k = false

-- no event of the list, from that book on, finishes a write of that key
unfoldable pub no_write : Book → Key → List Event → Bool
no_write b k [] = true
no_write b k (e ∷ es) = both (not (finishes_write b e k)) (no_write (feed b e) k es)

-- a step, answered so, that was accepted as the last of a pending operation
pub record Finishes (b : Book) (a : Answer) : Type 0 where
  pub awaited : Awaited
  pub pending : b.pending ≡ some awaited
  pub one_left : awaited.left ≡ 1
  pub is-accepted : accepted a ≡ true

-- What is pending goes on over an event: no cut, no other operation accepted, no recovery accepted.
unfoldable pub goes_on : Event → Bool
goes_on (called (starts t o) lent a) = not (accepted a)
goes_on (called steps lent a) = true
goes_on (called switches lent a) = true
goes_on (called (asks q) lent a) = true
goes_on (called (recovers n s order) lent a) = not (accepted a)
goes_on cut = false

unfoldable pub all_go_on : List Event → Bool
all_go_on [] = true
all_go_on (e ∷ es) = both (goes_on e) (all_go_on es)
