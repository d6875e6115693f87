-- The marks that a delete that finds no room makes: by a filter with the key and with the keys of the victim's tombstones. What comes of the
-- victim is the same by them as by those of the whole walk.
use Rattle.std.specs.Prelude.{ℕ, ◌<◌, ◌≡◌, true, List, eqb, length, replicate}
use Rattle.std.proofs.Common.{ap}
use Rattle.std.proofs.lemmas.List.{length-replicate}
use Rattle.segment.specs.declared.Key.{Key}
use Rattle.cleaning.specs.Filter.{filter_with, note_victims, sift_outside}
use Rattle.cleaning.specs.declared.Split.{Split}

abbrev pub keys_of : List ℕ → Split → Key → List ℕ
keys_of area split k = note_victims area split (filter_with (replicate 128 0) k)

abbrev pub sifted_marks : List ℕ → List ℕ → Split → Key → List ℕ → List ℕ
sifted_marks area cells split k marks = sift_outside area cells (keys_of area split k) split marks
