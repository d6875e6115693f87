-- The tests before a step's store at each test of the code, what they say, and that a started operation passes them.
use Rattle.std.specs.Prelude.{ℕ, ◌+◌, ◌-◌, ◌≤◌, ◌<◌, Bool, List, ltb, leb}
use Rattle.std.proofs.Math.Path.{◌≡◌, refl, sym}
use Rattle.std.proofs.Common.{◌∙◌, ap}
use Rattle.std.proofs.Math.Bool.{true, false, not}
use native.Mathlib.Omega.{arith}
use Rattle.std.proofs.Math.ListN.{length}
use borrow.Author.Tests.{lt-ltb, le-ltb, le-leb, lt-leb, ltb-true, leb-true, not-false, not-true}
use Rattle.segment.proofs.Choice.{both_left, both_right}
use Rattle.segment.specs.Layout.{Layout, entry_size, version_limit, number_limit}
use Rattle.record.specs.Switch.{new_layout}
use Rattle.record.specs.declared.Pending.{Pending}
use Rattle.record.specs.declared.Pending.TheVariants.{Idle, Append, NewHead, Clean, Forget}
use Rattle.record.specs.declared.Record.{Record}
use Rattle.telling.specs.Agree.{entry_agrees, slot_agrees}

-- ---- what the tests say

pub record EntryIn (L : Layout) (r : Record) (before n : ℕ) : Type 0 where
  pub version : r.next.0 < version_limit L
  pub long : before + entry_size L 0 ≤ n

pub record SlotIn (r : Record) (i : ℕ) : Type 0 where
  pub below : i < r.slots
  pub number : r.digest.0 < number_limit

pub entry_in : (L : Layout) (r : Record) (before n : ℕ) → entry_agrees L r before n ≡ true → EntryIn L r before n
unfolding entry_agrees
entry_in L r before n e =
    record { version = ltb-true r.next.0 (version_limit L) (both_left _ _ e); long = leb-true (before + entry_size L 0) n (both_right _ _ e) }

pub slot-in : (r : Record) (i : ℕ) → slot_agrees r i ≡ true → SlotIn r i
unfolding slot_agrees
slot-in r i e =
    record { below = ltb-true i r.slots (both_left _ _ e); number = ltb-true r.digest.0 number_limit (both_left _ _ (both_right _ _ e)) }

-- ---- so a spent counter is found out before the store

-- a write or delete takes a version, a new head a digest number
unfoldable pub takes_version : Pending → Bool
takes_version Idle = false
takes_version (Append n k) = true
takes_version (NewHead i n k) = true
takes_version (Clean i v n k) = false
takes_version (Forget i v n k) = true

-- in the edition of its entries, which for an append is the head's
unfoldable pub entry_layout : Layout → Record → Pending → Layout
entry_layout L r Idle = L
entry_layout L r (Append n k) = L
entry_layout L r (NewHead i n k) = new_layout r
entry_layout L r (Clean i v n k) = new_layout r
entry_layout L r (Forget i v n k) = new_layout r

unfoldable pub takes_number : Pending → Bool
takes_number Idle = false
takes_number (Append n k) = false
takes_number (NewHead i n k) = true
takes_number (Clean i v n k) = true
takes_number (Forget i v n k) = true
