-- 02, R-2, for the exported calls: what media writes does not show to servo.
use Rattle.std.specs.Prelude.{ℕ, List}
use Rattle.word.specs.Number.{Bytes}
use Rattle.segment.specs.Layout.{Layout, number_of_layout}
use Rattle.history.specs.Book.{Event}
use Rattle.isolation.specs.Owners.{Owner, SameInputs, SameAnswers, NoTableShared}
use Rattle.kurdavel.specs.Crossing.{FormatCrossed}
use Rattle.exported.specs.Runs.{Memory, fresh_memory, ExportedRun}

-- From one accepted kurdavel_format on, of either edition, for two lists of exported calls and cuts with the same input but for the value bytes of media's
-- writes. The events of an exported call are those of the calls behind it, each of them its owner's.
abbrev pub IsolationExported : Type 0
IsolationExported =
    (L : Layout) (n s : ℕ) (area₀ area : List ℕ) → Bytes area₀ → FormatCrossed (number_of_layout L) n s area₀ area 0 → (owners : List Owner) (es es' : List Event) (m m' : Memory) →
    ExportedRun n s (fresh_memory area) es m → ExportedRun n s (fresh_memory area) es' m' → SameInputs owners es es' → NoTableShared owners es →
    SameAnswers owners es es'
