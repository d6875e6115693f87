-- Cases of 02, R-14, numbered as in the tables of the model: a store after AaC, where no entry has the highest version told, and cuts on
-- the way.
use Rattle.std.specs.Prelude.{ℕ, ◌≡◌, refl, Bool, true, false, List, [], ◌∷◌, take, replicate}
use Rattle.segment.specs.Choice.{pick}
use Rattle.segment.specs.Layout.{edition1}
use Rattle.model.specs.Operations.{log_now, plan_for, stored, formatted}
use Rattle.model.specs.Table.{Row, row}
use Rattle.histories.specs.declared.Letter.{Letter}
use Rattle.histories.specs.declared.Letter.TheVariants.{WriteA, DeleteA, CleanAll}
use Rattle.histories.specs.declared.book.Book.{Book}
use Rattle.histories.specs.Book.{fresh_book, finished}
use Rattle.rig_model.specs.Verdict.{wrong_at, operation_at, record_at}

-- an area after so many stores of a letter's operation
abbrev cut_at : ℕ → Letter → ℕ → List ℕ → List ℕ
cut_at k l place area =
    stored area (take k (plan_for (record_at area).edition (record_at area) (log_now area (record_at area)) (operation_at l place (record_at area))))

abbrev area0 : List ℕ
area0 = formatted edition1 4 256 (replicate 1024 0)

abbrev area1 : List ℕ
area1 = cut_at 20 WriteA 1 area0

abbrev area2 : List ℕ
area2 = cut_at 12 DeleteA 2 area1

abbrev area3 : List ℕ
area3 = cut_at 15 CleanAll 3 area2

abbrev book1 : Book
book1 = finished fresh_book WriteA 1

abbrev book2 : Book
book2 = finished book1 DeleteA 2

-- whether the store recovers wrongly: by the rule, and by log entries alone
abbrev both_ways : List ℕ → Book → List ℕ
both_ways area b = pick (wrong_at false area b) 1 0 ∷ pick (wrong_at true area b) 1 0 ∷ []

abbrev pub rows : List Row
rows =
    -- fresh, and with a write that is cut before its last store
    row 1401 (both_ways area0 fresh_book) (0 ∷ 0 ∷ [])
    ∷ row 1401 (both_ways (cut_at 19 WriteA 1 area0) fresh_book) (0 ∷ 0 ∷ [])
    -- after each letter, and before the last store of the cleaning
    ∷ row 1402 (both_ways area1 book1) (0 ∷ 0 ∷ [])
    ∷ row 1402 (both_ways area2 book2) (0 ∷ 0 ∷ [])
    ∷ row 1402 (both_ways (cut_at 14 CleanAll 3 area2) book2) (0 ∷ 0 ∷ [])
    -- the cleaning drops the tombstone, and log entries alone give next version 1
    ∷ row 1403 (both_ways area3 book2) (0 ∷ 1 ∷ [])
    -- the book of another history, a value of another byte, and a key too many
    ∷ row 1404 (both_ways area1 fresh_book) (1 ∷ 1 ∷ [])
    ∷ row 1404 (both_ways area1 (finished fresh_book WriteA 2)) (1 ∷ 1 ∷ [])
    ∷ row 1404 (both_ways area1 (record { next = 2; first = fresh_book.first; second = fresh_book.second })) (1 ∷ 1 ∷ [])
    ∷ []
