-- What a delete that finds no room answers and leaves, as the code computes it: total functions of any area, cells and record.
use Rattle.std.specs.Prelude.{ℕ, ◌+◌, ◌-◌, ◌/◌, ◌^◌, ◌≤◌, ◌<◌, ◌≡◌, Bool, true, not, List, ◌++◌, ltb, length, get_or, replicate}
use Rattle.std.proofs.Math.Option.{Option, none, some}
use Rattle.std.proofs.lemmas.List.Edits.{sets}
use Rattle.segment.specs.Choice.{pick, both}
use Rattle.segment.specs.Layout.{Layout, digest_size, version_limit}
use Rattle.segment.specs.Digest.{encoded_digest}
use Rattle.segment.specs.declared.Key.{Key}
use Rattle.slot_map.specs.Bit.{named}
use Rattle.record.specs.RangeLaws.{Lent}
use Rattle.record.specs.Switch.{new_layout}
use Rattle.record.specs.declared.Pending.TheVariants.{Forget}
use Rattle.record.specs.declared.Refusal.{Refusal}
use Rattle.record.specs.declared.Refusal.TheVariants.{BadRecord}
use Rattle.record.specs.Answered.{Start}
use Rattle.record.specs.declared.Record.{Record}
use Rattle.model.specs.Causes.{first_cause}
use Rattle.model.specs.Operations.{new_slot, digest_with, next_after}
use Rattle.model.specs.Promises.{Begun}
use Rattle.index.specs.Search.{search_for}
use Rattle.index.specs.declared.Found.{Found}
use Rattle.starting.specs.Stores.{head_stores}
use Rattle.starting.specs.Answer.{started_with, refused_start}
use Rattle.cleaning.specs.Marks.{is_marked, mark_outside}
use Rattle.cleaning.specs.KeptModel.{split_of}
use Rattle.cleaning.specs.declared.Split.{Split}
use Rattle.writing.specs.Tests.{full_tests}
use Rattle.forgetting.specs.Forgot.{forgot_own, fits_segment}
use Rattle.forgetting.specs.declared.Live.{Live}

-- ---- what the code may rely on

-- A record in range with a version of the new head's edition left, and a work buffer of S bytes at least.
pub record ForgetReady (L : Layout) (r : Record) (area cells work : List ℕ) : Type 0 where
  pub lent : Lent L r (length area) (length cells)
  pub version-left : r.next.0 < version_limit (new_layout r)
  pub long : r.size ≤ length work

-- a slot of the log is one of the map's
unfoldable pub in_log : Record → ℕ → Bool
in_log r i = both (ltb i r.slots) (named r.map i)

-- The same with the log's slots parted by the victim.
pub record VictimReady (L : Layout) (r : Record) (area marks work : List ℕ) (split : Split) (slot : ℕ) : Type 0 where
  pub index_length : ℕ
  pub lent : Lent L r (length area) index_length
  pub version-left : r.next.0 < version_limit (new_layout r)
  pub long : r.size ≤ length work
  pub marks-long : length marks ≡ 128
  pub parted : split ≡ split_of r (2 ^ slot)
  pub in-log : in_log r slot ≡ true

-- ---- the answer

-- the delete pending, with a new head of n bytes
abbrev pub forgetting_with : Record → ℕ → ℕ → ℕ → Start
forgetting_with r victims slot n = started_with r (Forget slot victims n (head_stores r.size n)) (head_stores r.size n)

-- with these bytes behind its digest
unfoldable pub forgot_begun : Layout → Record → ℕ → List ℕ → List ℕ → Begun
forgot_begun W r victims work bytes =
    record {
      start = forgetting_with r victims (new_slot r) (digest_size W + length bytes);
      work = sets work 0 (encoded_digest W (digest_with r victims (next_after r)) ++ bytes);
    }

-- unless a cause holds
unfoldable pub forgot_by : Layout → Record → ℕ → List ℕ → List ℕ → Option Refusal → Begun
forgot_by W r victims work bytes none = forgot_begun W r victims work bytes
forgot_by W r victims work bytes (some c) = record { start = refused_start r c; work = work }

-- 02, R-13: where they do not fit a segment there is no room for the delete, and a digest number is asked for behind that
unfoldable pub forgot_fitting : Layout → Record → ℕ → List ℕ → List ℕ → Begun
forgot_fitting W r victims work bytes =
    forgot_by W r victims work bytes (first_cause (full_tests r (not (fits_segment W r.size bytes))))

-- a store that is none of ours
abbrev pub unfit : Record → List ℕ → Begun
unfit r work = record { start = refused_start r BadRecord; work = work }

-- the marks of the cells of keys with an object outside the victim
abbrev pub outside_marks : Record → List ℕ → List ℕ → ℕ → List ℕ
outside_marks r area cells slot = mark_outside area cells (split_of r (2 ^ slot)) (replicate 128 0)

-- the live object that a cell tells of
abbrev pub live_at : Record → List ℕ → List ℕ → Key → ℕ → ℕ → ℕ → Live
live_at r area cells k cell place slot =
    record { place = place; needed = is_marked (outside_marks r area cells slot) cell; key = k; version = r.next }

-- the object stands at a place, in this slot
unfoldable pub forgot_in : Layout → Record → List ℕ → List ℕ → Key → List ℕ → ℕ → ℕ → ℕ → Begun
forgot_in W r area cells k work cell place slot =
    pick (in_log r slot)
    (forgot_fitting W r (2 ^ slot) work
    (forgot_own W area cells (outside_marks r area cells slot) (live_at r area cells k cell place slot) r.size slot))
    (unfit r work)

abbrev pub forgot_at : Layout → Record → List ℕ → List ℕ → Key → List ℕ → ℕ → Begun
forgot_at W r area cells k work cell =
    forgot_in W r area cells k work cell (get_or cells cell 0 - 1) ((get_or cells cell 0 - 1) / r.size)

unfoldable pub forgot_found : Layout → Record → List ℕ → List ℕ → Key → List ℕ → Found → Begun
forgot_found W r area cells k work (Found.At i) = forgot_at W r area cells k work i
forgot_found W r area cells k work (Found.Free i) = unfit r work
forgot_found W r area cells k work Found.Full = unfit r work

abbrev pub forgot_for : Layout → Record → List ℕ → List ℕ → Key → List ℕ → Begun
forgot_for W r area cells k work = forgot_found W r area cells k work (search_for area cells k)
