-- 02, R-5: which slot of the log has the fewest present bytes, by the record's own numbers, whatever they are.
use Rattle.std.specs.Prelude.{ℕ, zero, suc, ◌≡◌, Bool, true, not, List, [], ◌∷◌, leb, get_or, Ok, Err}
use Rattle.std.proofs.Math.Option.{Option, none, some}
use Rattle.segment.specs.Choice.{pick, both, either}
use Rattle.segment.specs.Layout.{Layout}
use Rattle.slot_map.specs.Bit.{named}
use Rattle.record.specs.Answers.{taken, said_by, told_by, fewest_said, fewest_told}
use Rattle.record.specs.Range.{in_range}
use Rattle.record.specs.declared.Refusal.{Refusal}
use Rattle.record.specs.declared.Refusal.TheVariants.{BadRecord}
use Rattle.record.specs.declared.Record.{Record}
use Rattle.record.specs.Answered.{Fewest, FewestAnswer}
use Rattle.model.specs.Causes.{Cause, when, first_cause}
use Rattle.model.specs.Refused.{Lengths}

-- every slot below n that the map names has at least b bytes
unfoldable pub none_below : ℕ → List ℕ → ℕ → ℕ → Bool
none_below map counts b zero = true
none_below map counts b (suc n) = both (either (not (named map n)) (leb b (get_or counts n 0))) (none_below map counts b n)

-- slot i is one of the map, and no slot of the map has fewer bytes
abbrev pub has_fewest : ℕ → ℕ → List ℕ → ℕ → Bool
has_fewest n map counts i = both (named map i) (none_below map counts (get_or counts i 0) n)

-- the lowest of the k numbers from i on that passes a test, the number behind them where none does
unfoldable pub lowest_from : (ℕ → Bool) → ℕ → ℕ → ℕ
lowest_from test i zero = i
lowest_from test i (suc k) = pick (test i) i (lowest_from test (suc i) k)

-- Of the slots with the fewest bytes the lowest.
abbrev pub fewest_slot : Record → ℕ
fewest_slot r = lowest_from (has_fewest r.slots r.map r.counts) 0 r.slots

-- 4, by the record's range alone: nothing is lent.
abbrev pub no_lengths : Lengths
no_lengths = record { area = 0; index = 0; work = 0 }

abbrev pub fewest_causes : Layout → Record → List Cause
fewest_causes L r = when (not (in_range L r)) BadRecord ∷ []

unfoldable pub fewest_answer : Option Refusal → ℕ → FewestAnswer
fewest_answer none i = Ok i
fewest_answer (some c) i = Err c

-- The slot, or 4, of every record; the record is handed back. Allowed while an operation is pending.
pub record FewestPromise (L : Layout) (r : Record) (a : Fewest) : Type 0 where
  pub hands-back : a.rec ≡ r
  pub answers : a.answer ≡ fewest_answer (first_cause (fewest_causes L r)) (fewest_slot r)
  pub says : fewest_said a.answer ≡ said_by (first_cause (fewest_causes L r)) taken
  pub tells : fewest_told a.answer ≡ told_by (first_cause (fewest_causes L r)) (fewest_slot r ∷ [])
