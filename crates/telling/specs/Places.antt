-- The next store without a look at the buffers: its place, and whence its byte comes. Area and work buffer count by their lengths.
use Rattle.std.specs.Prelude.{ℕ, Option, Result, ◌+◌, ◌*◌, ◌-◌, ◌<◌, ◌≡◌, Bool, true, false, List, eqb, ltb, length, get_or, Ok, Err, None, Some}
use Rattle.segment.specs.Choice.{pick, both}
use Rattle.segment.specs.Layout.{Layout}
use Rattle.record.specs.declared.Record.{Record}
use Rattle.record.specs.declared.Refusal.{Refusal}
use Rattle.record.specs.Answered.{TellAnswer}
use Rattle.starting.specs.Stores.{commit_stores}
use Rattle.telling.specs.Next.{fits_slot, fits_left, NextStore}
use Rattle.telling.specs.Told.{told_by}
use Rattle.telling.specs.declared.NextPlace.{NextPlace}

-- the place of the next store, if it has one, and the same as an answer
abbrev pub Place : Type 0
Place = Option (NextPlace ℕ)

abbrev pub PlaceAnswer : Type 0
PlaceAnswer = Result (NextPlace ℕ) Refusal

-- the byte that stands at an offset of the work buffer where it is copied, else 0
abbrev pub byte_from : List ℕ → ℕ → Bool → ℕ
byte_from work from copied = pick copied (get_or work from 0) 0

-- the store, once the work buffer is there
unfoldable pub filled : List ℕ → Place → NextStore
filled work (Some s) = Some (record { place = s.place; byte = byte_from work s.from s.copied })
filled work None = None

-- The store after j others of a commit of n bytes at an offset of the slot that begins at `base`.
unfoldable pub commit_place : ℕ → ℕ → ℕ → ℕ → ℕ → Place
commit_place base S offset n j =
    pick (eqb (j + 1) (commit_stores S offset n)) (Some (record { place = (base + offset); from = 0; copied = true }))
    (pick (ltb (j + 1) n) (Some (record { place = (base + offset + (j + 1)); from = (j + 1); copied = true })) (Some (record { place = (base + offset + n); from = 0; copied = false })))

-- The store of an operation with k stores left, which makes `first` stores of 0 at the slot's byte 0 before it commits.
unfoldable pub turn_place : ℕ → ℕ → ℕ → ℕ → ℕ → ℕ → Place
turn_place base S offset n first j = pick (ltb j first) (Some (record { place = base; from = 0; copied = false })) (commit_place base S offset n (j - first))

unfoldable pub slot_place : ℕ → ℕ → ℕ → ℕ → ℕ → ℕ → ℕ → ℕ → Place
slot_place area_length work_length S slot offset n first k =
    pick (both (fits_slot area_length work_length S slot offset n) (fits_left k (commit_stores S offset n + first)))
    (turn_place (slot * S) S offset n first (commit_stores S offset n + first - k)) None

-- what is told, once the work buffer is there
unfoldable pub answered : List ℕ → PlaceAnswer → TellAnswer
answered work (Ok s) = Ok (record { place = s.place; byte = byte_from work s.from s.copied })
answered work (Err c) = Err c

-- What it means that an answer tells the next store for every work buffer of that length, and that a byte which is copied stands in it.
pub record PlaceTold (L : Layout) (r : Record) (area : List ℕ) (work_length : ℕ) (a : PlaceAnswer) : Type 0 where
  pub told : (work : List ℕ) → length work ≡ work_length → answered work a ≡ (told_by L r area work).answer
  pub inside : (place from : ℕ) (copied : Bool) → a ≡ Ok (record { place = place; from = from; copied = copied }) → copied ≡ true → from < work_length
