-- What a start of a cleaning answers and leaves, by the bytes that it keeps; and that this is the promise of a start.
use Prim.Native.Nat.{ℕ, ◌+◌, ◌≤◌}
use Rattle.std.specs.Prelude.{◌≡◌, ltb}
use Rattle.std.proofs.Math.Bool.{true}
use Rattle.std.proofs.Math.Option.{Option, none, some}
use mathlib.Core.List.{List, [], ◌∷◌, ◌++◌}
use Rattle.std.proofs.Math.ListN.{length}
use Rattle.std.proofs.Math.Seq.{sets}
use Rattle.segment.specs.Layout.{Layout, digest_size}
use Rattle.segment.specs.Digest.{encoded_digest}
use Rattle.slot_map.specs.Bit.{within}
use Rattle.record.specs.RangeLaws.{Lent}
use Rattle.record.specs.Switch.{new_layout}
use Rattle.record.specs.declared.Pending.TheVariants.{Clean}
use Rattle.record.specs.declared.Refusal.{Refusal}
use Rattle.record.specs.declared.Refusal.TheVariants.{BadRecord, BadVictims, KeptTooLong, NumbersSpent}
use Rattle.record.specs.Answered.{Start}
use Rattle.record.specs.declared.Record.{Record}
use Rattle.model.specs.Causes.{Cause, when, first_cause}
use Rattle.model.specs.Operations.{new_slot, new_digest}
use Rattle.model.specs.Refused.{Lengths, record_bad, victims_bad, numbers_spent, clean_causes}
use Rattle.model.specs.Promises.{Begun}
use Rattle.starting.specs.Stores.{head_stores}
use Rattle.starting.specs.Checks.{idle_causes}
use Rattle.starting.specs.NewHead.{NumberLeft}
use Rattle.starting.specs.Answer.{started_with, refused_start}
use Rattle.cleaning.specs.Entries.{SplitFits}
use Rattle.cleaning.specs.Chosen.{ChosenFits, chosen_bytes}
use Rattle.cleaning.specs.declared.Split.{Split}

-- ---- what the parts of a start ask

-- A record in range whose log has the victims, and a digest number left.
pub record CleanReady (L : Layout) (r : Record) (victims : ℕ) : Type 0 where
  pub area_length : ℕ
  pub index_length : ℕ
  pub lent : Lent L r area_length index_length
  pub all_named : within victims r.map ≡ true
  pub number-left : NumberLeft r

-- The same before the digest number is tested, with the slots parted, 128 words of marks and a work buffer of S bytes at least.
pub record CleanFits (L : Layout) (r : Record) (victims : ℕ) (split : Split) (area marks work : List ℕ) : Type 0 where
  pub area_length : ℕ
  pub index_length : ℕ
  pub lent : Lent L r area_length index_length
  pub all_named : within victims r.map ≡ true
  pub shape : SplitFits split area marks
  pub long : r.size ≤ length work

-- The new head's bytes fit a segment, and the work buffer. Here and below W is the edition of the new head.
pub record Room (W : Layout) (r : Record) (split : Split) (area chosen work : List ℕ) : Type 0 where
  pub shape : ChosenFits split area chosen
  pub fits : digest_size W + length (chosen_bytes W area chosen split) ≤ r.size
  pub long : r.size ≤ length work

-- ---- the answer

-- the cleaning pending, with a new head of n bytes
abbrev pub cleaning_with : Record → ℕ → ℕ → ℕ → Start
cleaning_with r victims slot n = started_with r (Clean slot victims n (head_stores r.size n)) (head_stores r.size n)

-- a cleaning that keeps these bytes
unfoldable pub begun_with : Layout → Record → ℕ → List ℕ → List ℕ → Option Refusal → Begun
begun_with W r victims work bytes none =
    record {
      start = cleaning_with r victims (new_slot r) (digest_size W + length bytes);
      work = sets work 0 (encoded_digest W (new_digest r victims) ++ bytes);
    }
begun_with W r victims work bytes (some c) = record { start = refused_start r c; work = work }

-- the causes that are tested before anything is measured, and those after it, for n bytes kept
unfoldable pub front_causes : Layout → Record → Lengths → ℕ → List Cause
front_causes L r l victims = when (record_bad L r l) BadRecord ∷ idle_causes r l.work ++ (when (victims_bad r victims) BadVictims ∷ [])

unfoldable pub kept_causes : Layout → Record → ℕ → List Cause
kept_causes W r n = when (ltb r.size (digest_size W + n)) KeptTooLong ∷ when (numbers_spent r) NumbersSpent ∷ []

unfoldable pub marked_with : Layout → Record → ℕ → List ℕ → List ℕ → Begun
marked_with W r victims work bytes = begun_with W r victims work bytes (first_cause (kept_causes W r (length bytes)))

-- the causes of a cleaning that keeps these bytes: 01's, which are those two parts in the edition of the record's next new head
unfoldable pub causes_with : Layout → Record → Lengths → List ℕ → ℕ → List Cause
causes_with L r l bytes victims = clean_causes L r l (length bytes) victims

abbrev pub cleaned_with : Layout → Record → ℕ → Lengths → List ℕ → List ℕ → Begun
cleaned_with L r victims l work bytes = begun_with (new_layout r) r victims work bytes (first_cause (causes_with L r l bytes victims))
