-- 01, "The book of a list", for the two keys of the rig: what a history leaves once its letters have counted.
use Rattle.std.specs.Prelude.{ℕ, ◌+◌, ◌≤◌, min, ◌≡◌, refl, Bool, true, false, not, eqb}
use Rattle.std.proofs.Common.{arith, ne_eqb}
use mir.Val.{bool_byte}
use Rattle.segment.specs.Choice.{pick}
use Rattle.segment.specs.declared.Key.{Key}
use Rattle.histories.specs.declared.Letter.{Letter}
use Rattle.histories.specs.declared.Letter.TheVariants.{WriteA, WriteB, DeleteA, DeleteB, CleanAll}
use Rattle.histories.specs.declared.book.Book.{Book}
use Rattle.histories.specs.declared.book.Held.{Held}

-- table 1, keys 1 and 2
abbrev pub first_key : Key
first_key = record { table = 1; key = 1 }

abbrev pub second_key : Key
second_key = record { table = 1; key = 2 }

-- version 0 stands for a key that is not present
abbrev pub absent : Held
absent = record { version = 0; byte = 0 }

abbrev pub fresh_book : Book
fresh_book = record { next = 1; first = absent; second = absent }

-- the next version after one, up to 01's limit
abbrev pub following : ℕ → ℕ
following n = min (n + 1) 4294967295

-- A write sets its key's value, eight bytes of the letter's place, and a delete drops its key, either at the next version, which goes up
-- by 1; a cleaning changes nothing.
abbrev pub finished : Book → Letter → ℕ → Book
finished b WriteA place = record { next = following b.next; first = record { version = b.next; byte = place }; second = b.second }
finished b WriteB place = record { next = following b.next; first = b.first; second = record { version = b.next; byte = place } }
finished b DeleteA place = record { next = following b.next; first = absent; second = b.second }
finished b DeleteB place = record { next = following b.next; first = b.first; second = absent }
finished b CleanAll place = b

unfoldable pub one_if : ℕ → ℕ
one_if version = pick (eqb version 0) 0 1

-- how many keys are present
abbrev pub count_of : Book → ℕ
count_of b = one_if b.first.version + one_if b.second.version

-- the code's test, as a number
pub one-tested : (v : ℕ) → bool_byte (not (eqb v 0)) ≡ one_if v
unfolding one_if pick
one-tested v = go (eqb v 0)
  where
    go : (t : Bool) → bool_byte (not t) ≡ pick t 0 1
    go true = refl
    go false = refl

pub one_none : (v : ℕ) → v ≡ 0 → 0 ≡ one_if v
unfolding one_if pick
one_none v e = rw e

pub one-some : (v : ℕ) → (v ≡ 0 → ⊥) → 1 ≡ one_if v
unfolding one_if pick
one-some v h = rw (ne_eqb v 0 h)

pub one-most : (v : ℕ) → one_if v ≤ 1
unfolding one_if pick
one-most v = go (eqb v 0)
  where
    go : (t : Bool) → pick t 0 1 ≤ 1
    go true = omega arith
    go false = omega arith
