-- Cases of 02, R-10. Rows are numbered as in the tables of the model.
use Rattle.std.specs.Prelude.{ℕ, ◌≡◌, refl, List, [], ◌∷◌, ◌++◌}
use Rattle.segment.specs.Choice.{pick, both}
use Rattle.word.specs.Number.{bytes_of, number_of}
use Rattle.model.specs.Table.{Row, row, same, failing, Hold}
use Rattle.model.proofs.Table.{rows-hold}
use Rattle.position.specs.declared.Conversion.{Conversion}
use Rattle.position.specs.Float.{is_count, count_in, is_held, float_of}
use Rattle.position.specs.Convert.{position_in, conversion, from_float, to_float, answer_said}

-- what a conversion says, and its eight bytes
abbrev told : Conversion → List ℕ
told r = answer_said r.answer ∷ r.value

-- a value with this position and the free bytes 9, 8, 7, 6
abbrev at : ℕ → List ℕ
at n = bytes_of 4 n ++ 9 ∷ 8 ∷ 7 ∷ 6 ∷ []

-- of each position in turn what the conversion says, and the position that it gives
abbrev each : (List ℕ → Conversion) → List ℕ → List ℕ
each f [] = []
each f (n ∷ ns) = answer_said (f (at n)).answer ∷ position_in (f (at n)).value ∷ each f ns

abbrev rows : List Row
rows =
    -- 0, 1, 100, 16,777,216, 16,777,218, 67,108,860 and 67,108,864, from float and to float
    row 1001 (each from_float (0 ∷ 0x3f800000 ∷ 0x42c80000 ∷ 0x4b800000 ∷ 0x4b800001 ∷ 0x4c7fffff ∷ 0x4c800000 ∷ []))
    (0 ∷ 0 ∷ 0 ∷ 1 ∷ 0 ∷ 100 ∷ 0 ∷ 16777216 ∷ 0 ∷ 16777218 ∷ 0 ∷ 67108860 ∷ 0 ∷ 67108864 ∷ [])
    ∷ row 1002 (each to_float (0 ∷ 1 ∷ 100 ∷ 16777216 ∷ 16777218 ∷ 67108860 ∷ 67108864 ∷ []))
    (0 ∷ 0 ∷ 0 ∷ 0x3f800000 ∷ 0 ∷ 0x42c80000 ∷ 0 ∷ 0x4b800000 ∷ 0 ∷ 0x4b800001 ∷ 0 ∷ 0x4c7fffff ∷ 0 ∷ 0x4c800000 ∷ [])
    -- negative zero, -1, the least float above 0, 0.5 and 1.5
    ∷ row 1003 (each from_float (0x80000000 ∷ 0xbf800000 ∷ 1 ∷ 0x3f000000 ∷ 0x3fc00000 ∷ [])) (26 ∷ 0 ∷ 26 ∷ 0 ∷ 26 ∷ 0 ∷ 26 ∷ 0 ∷ 26 ∷ 0 ∷ [])
    -- 67,108,872, the next float after the highest count, infinity, and two that are no number
    ∷ row 1004 (each from_float (0x4c800001 ∷ 0x7f800000 ∷ 0x7fc00000 ∷ 0xffffffff ∷ [])) (26 ∷ 0 ∷ 26 ∷ 0 ∷ 26 ∷ 0 ∷ 26 ∷ 0 ∷ [])
    -- counts between two floats, and counts above the highest, of which a float holds the third
    ∷ row 1005 (each to_float (16777217 ∷ 33554434 ∷ 67108862 ∷ 67108865 ∷ 67108866 ∷ 67108872 ∷ 0xffffffff ∷ []))
    (27 ∷ 0 ∷ 27 ∷ 0 ∷ 27 ∷ 0 ∷ 27 ∷ 0 ∷ 27 ∷ 0 ∷ 27 ∷ 0 ∷ 27 ∷ 0 ∷ [])
    -- the whole value, its free bytes kept
    ∷ row 1006 (told (from_float (0 ∷ 0 ∷ 200 ∷ 66 ∷ 9 ∷ 8 ∷ 7 ∷ 6 ∷ []))) (0 ∷ 100 ∷ 0 ∷ 0 ∷ 0 ∷ 9 ∷ 8 ∷ 7 ∷ 6 ∷ [])
    ∷ row 1006 (told (to_float (100 ∷ 0 ∷ 0 ∷ 0 ∷ 9 ∷ 8 ∷ 7 ∷ 6 ∷ []))) (0 ∷ 0 ∷ 0 ∷ 200 ∷ 66 ∷ 9 ∷ 8 ∷ 7 ∷ 6 ∷ [])
    -- the length comes first, and beside a refusal stand zeros
    ∷ row 1007 (told (from_float (0 ∷ 0 ∷ 0 ∷ 128 ∷ 1 ∷ 1 ∷ 1 ∷ []))) (7 ∷ 0 ∷ 0 ∷ 0 ∷ 0 ∷ 0 ∷ 0 ∷ 0 ∷ 0 ∷ [])
    ∷ row 1007 (told (to_float (at 16777217 ++ at 1 ++ at 1))) (7 ∷ 0 ∷ 0 ∷ 0 ∷ 0 ∷ 0 ∷ 0 ∷ 0 ∷ 0 ∷ [])
    ∷ row 1007 (told (from_float (at 0x80000000))) (26 ∷ 0 ∷ 0 ∷ 0 ∷ 0 ∷ 0 ∷ 0 ∷ 0 ∷ 0 ∷ [])
    ∷ row 1007 (told (to_float (at 16777217))) (27 ∷ 0 ∷ 0 ∷ 0 ∷ 0 ∷ 0 ∷ 0 ∷ 0 ∷ 0 ∷ [])
    ∷ []

computed : failing rows ≡ []
unfolding failing same pick both conversion answer_said bytes_of number_of is_count count_in is_held float_of
computed = refl

pub position-cases-hold : Hold rows
position-cases-hold = rows-hold rows computed
