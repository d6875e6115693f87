-- Cases of 02, R-7: which two slots are named to be joined, and that the cleaning of the pair keeps what was counted; in a switched store
-- and under a head of the second edition as it is rewritten (R-13).
use Rattle.std.specs.Prelude.{ℕ, ◌*◌, ◌≡◌, refl, true, List, [], ◌∷◌, ◌++◌}
use Rattle.segment.specs.Entry.{Entry}
use Rattle.segment.specs.Layout.{edition1, edition2}
use Rattle.segment.specs.declared.Key.{Key}
use Rattle.record.specs.Pairs.{PairSaid}
use Rattle.record.specs.Switch.{with_switch}
use Rattle.record.specs.declared.Pending.TheVariants.{Append}
use Rattle.record.specs.declared.Record.{Record}
use Rattle.model.specs.Causes.{first_cause}
use Rattle.model.specs.Recovery.{record_from}
use Rattle.model.specs.Operations.{clean, log_now}
use Rattle.model.specs.Joining.{join_fits, or_else, first_of, pair_with, join_pair, join_causes, pair_said, pair_said_by}
use Rattle.model.specs.Play.{opened, keyed, tombstone, slot_with, segment_in, cause_number, record_now, start_cause, start_number}
use Rattle.model.specs.Areas.{small, large, seg, vacant, idle, busy}
use Rattle.model.specs.Table.{Row, row, failing, Hold}
use Rattle.model.proofs.Table.{rows-hold}

abbrev told : PairSaid → List ℕ
told p = p.refused ∷ p.first ∷ p.second ∷ []

-- what the call says with a record of n slots of 256 bytes and 16 cells
abbrev joins_with : ℕ → Record → List ℕ → List ℕ
joins_with n r area =
    let p = join_pair r (log_now area r) in
    told (pair_said_by (first_cause (join_causes r.edition r (record { area = n * 256; index = 16; work = 0 }) p)) p)

abbrev joins_of : ℕ → List ℕ → List ℕ
joins_of n area = joins_with n (record_from edition1 n 256 16 area) area

abbrev a : ℕ → Key
a n = keyed 1 n

-- of key b n an older object and a tombstone stand in the log
abbrev b : ℕ → Key
b n = keyed 2 n

-- Four log slots, of which slot 3 is the head: slots 0 and 3 fit one new head, and so do 1 and 2; 0 does not fit with 1 or 2.
abbrev crossed : List ℕ
crossed =
    seg 1 1 1 (large (a 1) 1 ∷ large (a 2) 2 ∷ small (a 3) 3 ∷ [])
    ++ seg 2 3 1 (large (a 4) 4 ∷ small (a 5) 5 ∷ small (a 6) 6 ∷ [])
    ++ seg 3 7 1 (large (a 7) 7 ∷ small (a 8) 8 ∷ small (a 9) 9 ∷ [])
    ++ seg 4 15 1 (large (a 10) 10 ∷ small (a 11) 11 ∷ [])
    ++ vacant

abbrev gone : List Entry
gone = tombstone (b 1) 21 ∷ tombstone (b 2) 22 ∷ tombstone (b 3) 23 ∷ []

abbrev were : List Entry
were = small (b 1) 1 ∷ small (b 2) 2 ∷ small (b 3) 3 ∷ []

abbrev fours : List Entry
fours = small (a 3) 13 ∷ small (a 4) 14 ∷ small (a 5) 15 ∷ small (a 6) 16 ∷ []

abbrev full : List Entry
full = large (a 7) 17 ∷ large (a 8) 18 ∷ small (a 9) 19 ∷ []

-- Slots 0 and 1 keep 243 bytes, which with a digest are 256: three tombstones have their objects in the head.
abbrev exact : List ℕ
exact = seg 1 1 1 (large (a 1) 11 ∷ large (a 2) 12 ∷ gone) ++ seg 2 3 1 fours ++ seg 3 7 1 (were ++ full) ++ vacant

-- Here the objects stand in slot 1, and slot 1 keeps 31 bytes more: what each keeps alone is too much, and the two are joined.
abbrev hidden : List ℕ
hidden = seg 1 1 1 (large (a 1) 11 ∷ large (a 2) 12 ∷ gone) ++ seg 2 3 1 (were ++ small (a 10) 20 ∷ fours) ++ seg 3 7 1 full ++ vacant

-- and here in the head, so that no two fit
abbrev apart : List ℕ
apart = seg 1 1 1 (large (a 1) 11 ∷ large (a 2) 12 ∷ gone) ++ seg 2 3 1 (small (a 10) 20 ∷ fours) ++ seg 3 7 1 (were ++ full) ++ vacant

-- Slots 0 and 1 keep 203 bytes, which rewritten in the second edition are 239 and with a digest 256; two tombstones have their objects in the
-- head.
abbrev kept-slots : List ℕ
kept-slots =
    seg 1 1 1 (large (a 1) 11 ∷ small (a 2) 12 ∷ tombstone (b 1) 21 ∷ tombstone (b 2) 22 ∷ [])
    ++ seg 2 3 1 (small (a 7) 17 ∷ fours)

abbrev rewritten : List ℕ
rewritten = kept-slots ++ seg 3 7 1 (small (b 1) 1 ∷ small (b 2) 2 ∷ []) ++ vacant

-- under a head of the second edition
abbrev second : List Entry → List ℕ
second es = slot_with 255 (segment_in edition2 3 7 1 es)

abbrev rewritten-under : List ℕ
rewritten-under = kept-slots ++ second (small (b 1) 1 ∷ small (b 2) 2 ∷ []) ++ vacant

abbrev exact-under : List ℕ
exact-under = seg 1 1 1 (large (a 1) 11 ∷ large (a 2) 12 ∷ gone) ++ seg 2 3 1 fours ++ second (were ++ full) ++ vacant

-- with the recovered record switched
abbrev switched : List ℕ → Record
switched area = with_switch (record_now area) true

abbrev switched_clean : List ℕ → ℕ → ℕ
switched_clean area victims = cause_number (start_cause (switched area) area (clean victims))

abbrev rows : List Row
rows =
    -- the lower slot of the pair decides first, and the head may be one of the two
    row 701 (joins_of 5 crossed) (0 ∷ 0 ∷ 3 ∷ [])
    -- a pair that fits exactly is named, and its cleaning is accepted
    ∷ row 702 (joins_of 4 exact) (0 ∷ 0 ∷ 1 ∷ [])
    ∷ row 702 (start_number exact (clean 3) ∷ []) (0 ∷ [])
    -- a tombstone goes with an object in the other slot
    ∷ row 703 (joins_of 4 hidden) (0 ∷ 0 ∷ 1 ∷ [])
    ∷ row 703 (start_number hidden (clean 3) ∷ []) (0 ∷ [])
    -- where no two fit, 23, and each of the three cleanings meets 14
    ∷ row 704 (joins_of 4 apart) (23 ∷ 0 ∷ 0 ∷ [])
    ∷ row 704 (start_number apart (clean 3) ∷ start_number apart (clean 5) ∷ start_number apart (clean 6) ∷ []) (14 ∷ 14 ∷ 14 ∷ [])
    -- fewer than two log slots
    ∷ row 705 (joins_of 4 (seg 1 1 1 [] ++ vacant ++ vacant ++ vacant)) (23 ∷ 0 ∷ 0 ∷ [])
    -- 4, then 5, then 23
    ∷ row 706 (joins_with 4 (busy (Append 19 0)) [] ++ joins_with 4 (busy (Append 19 20)) [] ++ joins_with 4 idle []) (4 ∷ 0 ∷ 0 ∷ 5 ∷ 0 ∷ 0 ∷ 23 ∷ 0 ∷ 0 ∷ [])
    -- switched: a pair that fits exactly as rewritten, and one that fits no more
    ∷ row 707 (joins_with 4 (switched rewritten) rewritten ++ switched_clean rewritten 3 ∷ []) (0 ∷ 0 ∷ 1 ∷ 0 ∷ [])
    ∷ row 707 (joins_with 4 (switched exact) exact ++ switched_clean exact 3 ∷ []) (23 ∷ 0 ∷ 0 ∷ 14 ∷ [])
    -- the same with the head of the second edition
    ∷ row 708 (joins_with 4 (record_now rewritten-under) rewritten-under ++ start_number rewritten-under (clean 3) ∷ []) (0 ∷ 0 ∷ 1 ∷ 0 ∷ [])
    ∷ row 708 (joins_with 4 (record_now exact-under) exact-under ++ start_number exact-under (clean 3) ∷ []) (23 ∷ 0 ∷ 0 ∷ 14 ∷ [])
    ∷ []

computed : failing rows ≡ []
unfolding opened join_fits or_else first_of pair_with pair_said pair_said_by
computed = refl

pub join-cases-hold : Hold rows
join-cases-hold = rows-hold rows computed
