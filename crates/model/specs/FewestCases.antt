-- Cases for the slot with the fewest present bytes (02, R-5). What each row computes: the refusal's number, and the slot that is told.
use Rattle.std.specs.Prelude.{ℕ, ◌≡◌, refl, false, List, [], ◌∷◌, ◌++◌, map, replicate}
use Rattle.segment.specs.Layout.{edition1}
use Rattle.record.specs.Answers.{told_by}
use Rattle.record.specs.declared.Pending.{Pending}
use Rattle.record.specs.declared.Pending.TheVariants.{Idle, Append}
use Rattle.record.specs.declared.Record.{Record}
use Rattle.model.specs.Causes.{first_cause}
use Rattle.model.specs.Play.{first}
use Rattle.model.specs.Fewest.{fewest_slot, fewest_causes}
use Rattle.model.specs.Table.{Row, row}

-- a record of 4 slots of 256 bytes with slot 1 for its head, and the present bytes of its first slots
abbrev counted : ℕ → List ℕ → Pending → Record
counted map few p =
    record {
      slots = 4;
      size = 256;
      cells = 16;
      edition = edition1;
      switched = false;
      head = 1;
      end = 13;
      digest = record { 0 = 1 };
      map = map;
      next = record { 0 = 1 };
      keys = 0;
      counts = few ++ replicate 28 0;
      pending = p;
    }

abbrev tells : Record → List ℕ
tells r = first (fewest_causes edition1 r) ∷ told_by (first_cause (fewest_causes edition1 r)) (fewest_slot r ∷ [])

abbrev pub fewest_rows : List Row
fewest_rows =
    -- slots 0 to 2 are the log's: one of them has the fewest, or two and the lower is told, or all
    row 501 (tells (counted 7 (40 ∷ 30 ∷ 19 ∷ 0 ∷ []) Idle)) (0 ∷ 2 ∷ [])
    ∷ row 502 (tells (counted 7 (40 ∷ 19 ∷ 19 ∷ 0 ∷ []) Idle)) (0 ∷ 1 ∷ [])
    ∷ row 502 (tells (counted 7 (0 ∷ 0 ∷ 0 ∷ 0 ∷ []) Idle)) (0 ∷ 0 ∷ [])
    -- a slot that is not the log's has 0, or any other number, and is never told
    ∷ row 503 (tells (counted 6 (0 ∷ 243 ∷ 19 ∷ 0 ∷ []) Idle)) (0 ∷ 2 ∷ [])
    ∷ row 503 (tells (counted 10 (7 ∷ 243 ∷ 8 ∷ 243 ∷ []) Idle)) (0 ∷ 1 ∷ [])
    -- during an operation too
    ∷ row 504 (tells (counted 7 (40 ∷ 30 ∷ 19 ∷ 0 ∷ []) (Append 11 12))) (0 ∷ 2 ∷ [])
    -- 4: a number above S - 13, in the log or not; a map that lacks the head
    ∷ row 505 (tells (counted 7 (244 ∷ 30 ∷ 19 ∷ 0 ∷ []) Idle)) (4 ∷ [])
    ∷ row 505 (tells (counted 7 (40 ∷ 30 ∷ 19 ∷ 244 ∷ []) Idle)) (4 ∷ [])
    ∷ row 505 (tells (counted 5 (40 ∷ 30 ∷ 19 ∷ 0 ∷ []) Idle)) (4 ∷ [])
    ∷ []
