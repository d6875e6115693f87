-- 02, R-5, over whole lists of events: from every accepted recovery or finished operation to the next, the numbers of the record that
-- is held are what a scan of the log counts. While an operation is pending the log is still the one that it was started on.
use Rattle.std.specs.Prelude.{Ok}
use Prim.Native.Nat.{ℕ}
use mathlib.Core.Path.{◌≡◌, sym, ap, ◌∙◌, subst}
use mathlib.Core.List.{List}
use mathlib.Core.Option.{some}
use Rattle.word.specs.Number.{Bytes}
use Rattle.segment.specs.Layout.{Layout, number_of_layout}
use Rattle.record.specs.Switch.{as_recovered}
use Rattle.record.specs.Answered.{FormatAnswer}
use Rattle.record.specs.declared.Record.{Record}
use Rattle.model.specs.Counts.{counts_of}
use Rattle.model.specs.Operations.{log_now}
use Rattle.model.specs.Promises.{Genuine, FormatPromise}
use Rattle.history.specs.Book.{Event, fresh_book, book_of}
use Rattle.history.specs.Editions.{formatted_in, editions_behind}
use Rattle.history.specs.Runs.{Held, World, fresh_world, Run}
use Rattle.history.proofs.Invariant.{HeldGood, Holding, recovered-is}
use Rattle.history.proofs.Theorem.{fresh, run-keeps}

-- a genuine record's numbers, whether or not an operation is pending
pub genuine-counts : (L : Layout) (area : List ℕ) (r : Record) (cells : List ℕ) → Genuine L area r cells → r.counts ≡ counts_of (log_now area r)
genuine-counts L area r cells g =
    let is = recovered-is L r.slots r.size r.cells area (as_recovered r) g.recovers in
    ap (λ (x : Record). x.counts) is ∙ sym (ap (λ (x : Record). counts_of (log_now area x)) is)

-- After any list of events since the format, a record that is held counts the present bytes of the area as it is.
pub counts-kept :
    (L : Layout) (n s : ℕ) (area₀ area : List ℕ) → Bytes area₀ → FormatPromise (number_of_layout L) n s area₀ area (Ok tt) →
    (es : List Event) (w : World) → Run n s (fresh_world area) es w → (h : Held) → w.held ≡ some h → h.rec.counts ≡ counts_of (log_now w.area h.rec)
unfolding HeldGood
counts-kept L n s area₀ area ab p es w r h e =
    let (K, kept, agrees) = run-keeps n s (formatted_in L) L fresh_book 0 r (fresh n s L area₀ area ab p) in
    let good : Holding (editions_behind (formatted_in L) es) K n s w.area w.cells (book_of es) h =
    subst (HeldGood (editions_behind (formatted_in L) es) K n s w.area w.cells (book_of es)) e kept.held in
    genuine-counts K w.area h.rec h.cells good.genuine
