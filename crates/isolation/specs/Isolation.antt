-- 02, R-2: what media writes does not show to servo, as one claim about two whole lists of calls and cuts.
use Rattle.std.specs.Prelude.{ℕ, List, Ok}
use Rattle.word.specs.Number.{Bytes}
use Rattle.segment.specs.Layout.{Layout, number_of_layout}
use Rattle.record.specs.Answered.{FormatAnswer}
use Rattle.model.specs.Promises.{FormatPromise}
use Rattle.history.specs.Book.{Event}
use Rattle.history.specs.Runs.{World, fresh_world, Run}
use Rattle.isolation.specs.Owners.{Owner, SameInputs, SameAnswers, NoTableShared}

-- Take two runs on one formatted area in which everything that goes in is the same, call by call and cut by cut, but for the bytes of the
-- values that media writes, and let no table be in the ranges of both owners. Then everything that comes out to servo is the same, and so
-- are all numbers that come out to media. Any area of bytes may have been formatted; the runs are those of demand 3, with
-- switches to the second edition among the calls (R-13).
abbrev pub IsolationFor : Layout → Type 0
IsolationFor L =
    (n s : ℕ) (area₀ area : List ℕ) → Bytes area₀ → FormatPromise (number_of_layout L) n s area₀ area (Ok tt) →
    (owners : List Owner) (es es' : List Event) (w w' : World) → Run n s (fresh_world area) es w → Run n s (fresh_world area) es' w' →
    SameInputs owners es es' → NoTableShared owners es → SameAnswers owners es es'

-- For a store of either edition (02, R-11).
abbrev pub Isolation : Type 0
Isolation = (L : Layout) → IsolationFor L
