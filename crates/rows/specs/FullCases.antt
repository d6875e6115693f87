-- Cases of 02, R-4: deletes on a store with one slot free and a head that no tombstone fits. Rows are numbered as in
-- model/specs/RequestCases.antt; row 401 and one more of 402 are in model/specs/Pinned.antt.
use Rattle.std.specs.Prelude.{ℕ, ◌≡◌, refl, List, [], ◌∷◌, ◌++◌, drop, replicate}
use Rattle.segment.specs.declared.Key.{Key}
use Rattle.model.specs.Operations.{delete}
use Rattle.model.specs.Play.{opened, tombstone, recovers, starts, ends, cut_after, played, reads}
use Rattle.model.specs.Expected.{holds, gives, refused_by, to_come, done, shows}
use Rattle.model.specs.Areas.{a, b, c, d, e, h, small, large, seg, full}
use Rattle.model.specs.Table.{Row, row, failing, Hold}
use Rattle.model.proofs.Table.{rows-hold}

-- slot 3 after a delete
abbrev new_head : Key → List ℕ
new_head k = drop 768 (played full (delete k))

-- what recovery gives after the first stores of a delete, for some numbers of them
abbrev cuts : List ℕ → Key → List ℕ
cuts [] k = []
cuts (n ∷ ns) k = recovers (cut_after n full (delete k)) ++ cuts ns k

abbrev rows : List Row
rows =
    -- the tombstone stands in the place of the live object: its stores, the record behind them, and what is read then
    row 402 (starts full (delete a)) (to_come 142 ++ holds (record { head = 2; end = 252; digest = 3; map = 7; next = 15; keys = 10; left = 142 }))
    ∷ row 402 (ends full (delete a)) (done 15 ++ holds (record { head = 3; end = 140; digest = 4; map = 13; next = 16; keys = 10; left = 0 }))
    ∷ row 402 (recovers (played full (delete a))) (gives (record { head = 3; end = 140; digest = 4; map = 13; next = 16; keys = 10; left = 0 }))
    ∷ row 402 (reads (played full (delete a)) a) (refused_by 8)
    ∷ row 402 (reads (played full (delete a)) d) (shows 8 3 (replicate 56 8))
    -- with no object outside nothing stands there, and the next version is above one that no entry has
    ∷ row 403 (new_head b) (seg 4 13 16 (tombstone c 6 ∷ small a 7 ∷ large d 8 ∷ small e 9 ∷ []))
    ∷ row 403 (ends full (delete b)) (done 15 ++ holds (record { head = 3; end = 129; digest = 4; map = 13; next = 16; keys = 9; left = 0 }))
    ∷ row 403 (recovers (played full (delete b))) (gives (record { head = 3; end = 129; digest = 4; map = 13; next = 16; keys = 9; left = 0 }))
    -- an older tombstone outside stays, and its key counts
    ∷ row 404 (new_head e) (seg 4 13 16 (small b 4 ∷ tombstone c 6 ∷ small a 7 ∷ large d 8 ∷ []))
    ∷ row 404 (recovers (played full (delete e))) (gives (record { head = 3; end = 129; digest = 4; map = 13; next = 16; keys = 10; left = 0 }))
    -- the victim may be the head
    ∷ row 405 (new_head (h 4)) (seg 4 11 16 (large (h 1) 10 ∷ large (h 2) 11 ∷ large (h 3) 12 ∷ small (h 5) 14 ∷ []))
    ∷ row 405 (recovers (played full (delete (h 4)))) (gives (record { head = 3; end = 233; digest = 4; map = 11; next = 16; keys = 9; left = 0 }))
    -- cut before its last store it has done nothing
    ∷ row 406 (cuts (1 ∷ 2 ∷ 13 ∷ 140 ∷ 141 ∷ []) a) (old ++ old ++ old ++ old ++ old)
    ∷ []
  where
    old : List ℕ
    old = gives (record { head = 2; end = 252; digest = 3; map = 7; next = 15; keys = 10; left = 0 })

computed : failing rows ≡ []
unfolding opened
computed = refl

pub full-cases-hold : Hold rows
full-cases-hold = rows-hold rows computed
