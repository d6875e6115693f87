-- A medium that is no memory: the area is a copy in RAM, and the device gets each byte by a write of its own. The store that the next
-- step makes is told, and its byte is put on the device before the step that comes after it, so that the device holds the area, or is one
-- store ahead of it or behind it. When the power fails the copy is lost and the device decides.
use Rattle.std.specs.Prelude.{ℕ, ◌≡◌, true, List, [], ◌∷◌, ◌++◌, get_or, set, Ok}
use Rattle.word.specs.Number.{Bytes}
use Rattle.segment.specs.Layout.{Layout, number_of_layout}
use Rattle.record.specs.Answered.{FormatAnswer}
use Rattle.model.specs.Refused.{Lengths}
use Rattle.model.specs.Promises.{FormatPromise}
use Rattle.history.specs.Book.{tells, steps, Answer, accepted, Event, called}
use Rattle.history.specs.Runs.{World, fresh_world, Asked, Moves, Run}
use Rattle.history.specs.Demand3.{Demand3Of}

-- the device with the byte that was told put at the place that was told
abbrev pub on_device : List ℕ → Answer → List ℕ
on_device device told = set device told.place (get_or told.value 0 0)

-- One step from w to x behind a list of events, with the store that was told of it. The device held the area of w.
pub record DeviceHolds (L : Layout) (n s : ℕ) (w x : World) (es : List Event) (step : Event) (told : Answer) : Type 0 where
  -- with the byte it holds what the step leaves in the area: nothing that no run of the store leaves is ever on the device
  pub same : on_device w.area told ≡ x.area
  -- cut before it has the byte, whether or not the step was made: all that demand 3 says of the list without the step
  pub before : Demand3Of L n s w es
  -- cut with the byte on it, whether or not the step was made: all that demand 3 says of the list with the step
  pub after : Demand3Of L n s (record { area = on_device w.area told; held = x.held; cells = x.cells }) (es ++ step ∷ [])

-- From an accepted format on, behind every list of calls and cuts, for every store that is told and the step that follows.
abbrev pub DeviceFor : Layout → Type 0
DeviceFor L =
    (n s : ℕ) (area₀ area : List ℕ) → Bytes area₀ → FormatPromise (number_of_layout L) n s area₀ area (Ok tt) → (es : List Event) (w x : World) →
    Run n s (fresh_world area) es w → (l k : Lengths) (told a : Answer) → Asked w tells l told → accepted told ≡ true →
    Moves n s w (called steps k a) x → DeviceHolds L n s w x es (called steps k a) told

-- For a store of either edition (02, R-11).
abbrev pub DeviceClaim : Type 0
DeviceClaim = (L : Layout) → DeviceFor L
