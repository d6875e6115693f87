-- Laws of: 01, "Values to hold it to": cases 1 to 8, with N 4 and S 256. A row's number is its case's.
use Rattle.std.specs.Prelude.{ℕ, ◌≡◌, refl, List, [], ◌∷◌, ◌++◌, take, drop, replicate}
use Rattle.model.specs.Play.{opened}
use Rattle.model.specs.Table.{failing, Hold}
use Rattle.model.proofs.Table.{joined, rows-hold}
use Rattle.model.specs.Cases.{case1, case2, case3, case4, case5, case6, case7, case8, cases}

-- ---- each case computed, and the table

computed1 : failing case1 ≡ []
unfolding opened
computed1 = refl

computed2 : failing case2 ≡ []
unfolding opened
computed2 = refl

computed3 : failing case3 ≡ []
unfolding opened
computed3 = refl

computed4 : failing case4 ≡ []
unfolding opened
computed4 = refl

computed5 : failing case5 ≡ []
unfolding opened
computed5 = refl

computed6 : failing case6 ≡ []
unfolding opened
computed6 = refl

computed7 : failing case7 ≡ []
unfolding opened
computed7 = refl

computed8 : failing case8 ≡ []
unfolding opened
computed8 = refl

computed : failing cases ≡ []
computed =
    joined case1 _ computed1 (joined case2 _ computed2 (joined case3 _ computed3 (joined case4 _ computed4 (joined case5 _ computed5
    (joined case6 _ computed6 (joined case7 case8 computed7 computed8))))))

pub cases-hold : Hold cases
cases-hold = rows-hold cases computed
