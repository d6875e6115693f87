-- What a list of events does to a book: a property that does not go by what is pending, and that every finished operation keeps, is kept
-- by every list.
use Prim.Native.Nat.{ℕ, zero, suc, ◌-◌}
use mathlib.Core.Bool.{Bool, true, false}
use mathlib.Core.List.{List, [], ◌∷◌}
use mathlib.Core.Option.{Option, none, some}
use Rattle.segment.specs.Choice.{pick}
use Rattle.model.specs.Operations.{Operation}
use Rattle.history.specs.Book.{Call, starts, steps, switches, asks, recovers, Event, called, cut, accepted, Awaited, Book, finish, one_off, take_one, feed_call, feed, book_after}

module _ (P : Book → Type 0) (any-pending : (b : Book) (p : Option Awaited) → P b → P (record { keys = b.keys; next = b.next; pending = p }))
    (finish-keeps : (b : Book) (o : Operation) → P b → P (finish b o))
  where
    one-keeps : (b : Book) (o : Operation) (m : ℕ) → P b → P (one_off b o m)
    unfolding one_off
    one-keeps b o zero h = finish-keeps b o h
    one-keeps b o (suc m) h = any-pending b (some (record { operation = o; left = suc m })) h

    step_keeps : (b : Book) (p : Option Awaited) → P b → P (take_one b p)
    unfolding take_one
    step_keeps b none h = h
    step_keeps b (some p) h = one-keeps b p.operation (p.left - 1) h

    pub event-keeps : (b : Book) (e : Event) → P b → P (feed b e)
    unfolding feed feed_call pick
    event-keeps b (called c l a) h = go (accepted a) c
      where
        go : (t : Bool) (c : Call) → P (pick t (feed_call b c a.said.stores) b)
        go true (starts q o) = any-pending b (some (record { operation = o; left = a.said.stores })) h
        go true steps = step_keeps b b.pending h
        go true switches = h
        go true (asks q) = h
        go true (recovers n s order) = any-pending b none h
        go false c = h
    event-keeps b cut h = any-pending b none h

    pub list-keeps : (b : Book) (es : List Event) → P b → P (book_after b es)
    unfolding book_after
    list-keeps b [] h = h
    list-keeps b (e ∷ es) h = list-keeps (feed b e) es (event-keeps b e h)
