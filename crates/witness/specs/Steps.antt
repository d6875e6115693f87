-- Every step can be made: what the code does for any record, area, index and work buffer, as a total function, keeps the promise.
use Rattle.std.specs.Prelude.{ℕ, ◌+◌, ◌*◌, ◌-◌, ◌≡◌, Bool, ltb, length, get_or, set, replicate, None, Some}
use Rattle.std.proofs.Math.Path.{refl}
use Rattle.std.proofs.Common.{◌∙◌, length-set}
use Rattle.std.proofs.Math.Bool.{true, false}
use mathlib.Core.List.{List, [], ◌∷◌}
use Rattle.std.proofs.Math.Option.{Option, none, some}
use Rattle.std.proofs.Math.ListN.{length-replicate}
use Rattle.segment.specs.Layout.{Layout}
use Rattle.record.specs.declared.Refusal.{Refusal}
use Rattle.record.specs.declared.Record.{Record}
use Rattle.model.specs.Causes.{first_cause}
use Rattle.model.specs.Refused.{step_causes}
use Rattle.model.specs.Promises.{lent_lengths}
use Rattle.index.specs.Insert.{Tally, counted, over}
use Rattle.telling.specs.Agree.{tested_store}
use Rattle.stepping.specs.Finish.{After, refused_step, unfit, advanced}
use Rattle.telling.specs.Next.{NextStore}

-- What a step leaves: the area, and what it leaves besides.
pub record Moved : Type 0 where
  pub area : List ℕ
  pub after : After

unfoldable pub stored_by : Layout → Record → List ℕ → List ℕ → NextStore → Moved
stored_by L r area cells (Some s) = record { area = set area s.place s.byte; after = advanced L r (set area s.place s.byte) cells }
stored_by L r area cells None = record { area = area; after = unfit r cells }

unfoldable pub stepped_unless : Layout → Record → List ℕ → List ℕ → List ℕ → Option Refusal → Moved
stepped_unless L r area cells work none = stored_by L r area cells (tested_store L (length area) work r)
stepped_unless L r area cells work (some c) = record { area = area; after = record { stepped = refused_step r c; cells = cells } }

abbrev pub stepped_by : Layout → Record → List ℕ → List ℕ → List ℕ → Moved
stepped_by L r area cells work = stepped_unless L r area cells work (first_cause (step_causes L r (lent_lengths area cells work)))

-- as many cells in a tally that is not over
abbrev pub Cells : ℕ → Tally → Type 0
Cells m (counted cells n) = length cells ≡ m
Cells m over = Unit {0}
