-- 01's table of kinds with R-3's kind 7, and that of R-11, as the numbers that the definitions give: what is no kind of an entry has
-- length 0, and a value of another length has kind 0.
use Rattle.std.specs.Prelude.{◌≡◌, refl, [], ◌∷◌, map}
use Rattle.segment.specs.Choice.{pick, or_zero}
use Rattle.segment.specs.Layout.{Layout, edition1, edition2, digest_size, entry_size, version_limit, lookup, look_back, value_length, object_kind, table}
use Rattle.segment.specs.Kinds.{size_or_zero, kind_size}

-- the kinds from 0 to 9, and 255: the end, 5, 6 and those above 7 are no entries
pub sizes :
    map (kind_size edition1) (0 ∷ 1 ∷ 2 ∷ 3 ∷ 4 ∷ 5 ∷ 6 ∷ 7 ∷ 8 ∷ 9 ∷ 255 ∷ []) ≡
    0 ∷ 19 ∷ 35 ∷ 67 ∷ 11 ∷ 0 ∷ 0 ∷ 131 ∷ 0 ∷ 0 ∷ 0 ∷ []
unfolding table lookup value_length size_or_zero pick
sizes = refl

-- edition 2: its own kinds from 9 to 13, and none of edition 1's
pub sizes-2 :
    map (kind_size edition2) (0 ∷ 1 ∷ 2 ∷ 3 ∷ 4 ∷ 5 ∷ 6 ∷ 7 ∷ 8 ∷ 9 ∷ 10 ∷ 11 ∷ 12 ∷ 13 ∷ 14 ∷ 255 ∷ []) ≡
    0 ∷ 0 ∷ 0 ∷ 0 ∷ 0 ∷ 0 ∷ 0 ∷ 0 ∷ 0 ∷ 23 ∷ 39 ∷ 71 ∷ 135 ∷ 15 ∷ 0 ∷ 0 ∷ []
unfolding table lookup value_length size_or_zero pick
sizes-2 = refl

-- the four lengths of a value, and those beside them
pub kinds :
    map (λ n. or_zero (object_kind edition1 n)) (8 ∷ 24 ∷ 56 ∷ 120 ∷ []) ≡
    1 ∷ 2 ∷ 3 ∷ 7 ∷ []
unfolding table look_back or_zero pick
kinds = refl

pub no-kinds :
    map (λ n. or_zero (object_kind edition1 n)) (0 ∷ 7 ∷ 9 ∷ 23 ∷ 25 ∷ 55 ∷ 57 ∷ 119 ∷ 121 ∷ 131 ∷ []) ≡
    0 ∷ 0 ∷ 0 ∷ 0 ∷ 0 ∷ 0 ∷ 0 ∷ 0 ∷ 0 ∷ 0 ∷ []
unfolding table look_back or_zero pick
no-kinds = refl

pub kinds-2 :
    map (λ n. or_zero (object_kind edition2 n)) (0 ∷ 7 ∷ 8 ∷ 9 ∷ 24 ∷ 56 ∷ 120 ∷ 121 ∷ []) ≡
    0 ∷ 0 ∷ 9 ∷ 0 ∷ 10 ∷ 11 ∷ 12 ∷ 0 ∷ []
unfolding table look_back or_zero pick
kinds-2 = refl

-- digest, entry without a value, and the highest next version, of either edition
pub lengths :
    map (λ (L : Layout). digest_size L ∷ entry_size L 0 ∷ version_limit L ∷ []) (edition1 ∷ edition2 ∷ []) ≡
    (13 ∷ 11 ∷ 4294967295 ∷ []) ∷ (17 ∷ 15 ∷ 18446744073709551615 ∷ []) ∷ []
unfolding table
lengths = refl
