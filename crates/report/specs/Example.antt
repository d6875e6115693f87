-- Texts computed: 01's two lines after case 2, keys in order, refusals, and the editions.
use Rattle.std.specs.Prelude.{ℕ, ◌≡◌, refl, List, [], ◌∷◌, ◌++◌, replicate}
use Rattle.segment.specs.Layout.{edition2}
use Rattle.segment.specs.Entry.{Entry}
use Rattle.segment.specs.Digest.{encoded_digest}
use Rattle.model.specs.Operations.{Operation, all_encoded}
use Rattle.model.specs.Play.{fresh_over, slot_with, played_all}
use Rattle.model.specs.Areas.{seg, vacant}
use Rattle.report.specs.Report.{dump_text}

-- N 4, S 256, and an area
abbrev pub input : List ℕ → List ℕ
input area = 4 ∷ 0 ∷ 1 ∷ area

-- the text after these operations on a fresh area
abbrev pub after : List Operation → List ℕ
after os = dump_text (input (played_all (fresh_over 255) os))

-- a head in slot 0 with this number, map and next version, and no other digest
abbrev pub head : (number map next : ℕ) → List ℕ
head number map next = seg number map next [] ++ vacant ++ vacant ++ vacant

-- ---- the editions (02, R-11 and R-13)

-- a slot of edition 2 with a digest and entries
abbrev pub second : (number map next : ℕ) → List Entry → List ℕ
second number map next es =
    slot_with 255
    (encoded_digest edition2 (record { number = record { 0 = number }; map = map; next = record { 0 = next } }) ++ all_encoded edition2 es)
