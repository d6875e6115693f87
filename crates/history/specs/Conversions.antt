-- 02, R-12: what becomes of demand 3 where the area of a store is converted: the second buffer is a store of the other edition, with the book
-- of the list of calls and cuts on the first.
use Rattle.std.specs.Prelude.{ℕ, ◌<◌, max, ◌≡◌, false, List, length, Ok}
use Rattle.std.proofs.Math.Option.{none}
use Rattle.word.specs.Number.{Bytes}
use Rattle.segment.specs.Layout.{Layout, number_of_layout, other_layout}
use Rattle.record.specs.Answered.{ConvertAnswer, FormatAnswer, Recovery}
use Rattle.model.specs.Conversion.{ConvertPromise}
use Rattle.model.specs.Promises.{FormatPromise, RecoverPromise}
use Rattle.model.specs.Recovery.{order_bad, image_layout}
use Rattle.history.specs.Book.{Event, Book, book_after, book_of, highest_told}
use Rattle.history.specs.Demand3.{LargeEnough, GivesBook, EventsAgree}
use Rattle.history.specs.Editions.{Editions, Among, formatted_in, editions_behind}
use Rattle.history.specs.Runs.{World, fresh_world, Run}

-- Recovery by the rules of use, of a world's area, gives that book.
abbrev pub RecoversTo : Editions → ℕ → ℕ → World → Book → Type 0
RecoversTo E n s w b =
    (order cells cells' : List ℕ) (r : Recovery) → order_bad n order ≡ false → LargeEnough w.cells (length cells) →
    RecoverPromise (image_layout n s w.area) n s order w.area cells cells' r → GivesBook E w.area cells' r b

-- A world is that of a store with that book, and told is the highest version told so far: recovery gives the book, and whatever is done
-- there from now on agrees with the book as it goes on.
pub record StoreWith (E : Editions) (n s : ℕ) (w : World) (b : Book) (told : ℕ) : Type 0 where
  pub recovery : RecoversTo E n s w b
  pub later : (es : List Event) (x : World) → Run n s w es x → RecoversTo (editions_behind E es) n s x (book_after b es)
  pub above-told : (es : List Event) (x : World) → Run n s w es x → max told (highest_told es) < (book_after b es).next
  pub agrees : (es : List Event) (x : World) → Run n s w es x → EventsAgree E b es

-- For every run from an accepted format on, and an accepted conversion of the area that it leaves: nothing is held of the second buffer, and
-- an index as large as at the last accepted recovery of the first will do. The edition of the second is the one that the first's head did
-- not have: the format's other one, where no switch was accepted.
abbrev pub ConversionKeepsBook : Layout → Type 0
ConversionKeepsBook L =
    (n s : ℕ) (area₀ area : List ℕ) → Bytes area₀ → FormatPromise (number_of_layout L) n s area₀ area (Ok tt) → (es : List Event) (w : World) →
    Run n s (fresh_world area) es w → (target target' : List ℕ) → ConvertPromise n s w.area target target' (Ok tt) →
    Among (editions_behind (formatted_in L) es) (image_layout n s w.area)
    × StoreWith (formatted_in (other_layout (image_layout n s w.area))) n s (record { area = target'; held = none; cells = w.cells }) (book_of es) (highest_told es)
