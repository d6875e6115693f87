-- One run of a store of edition 2 (02, R-11), computed: N 4, S 256, M 16; a write, a second write of the same key that is cut in its middle,
-- a write of another key, a delete, a cleaning, recoveries, reads, reads by scan and a conversion. Entries and digests are four bytes longer than in
-- edition 1, so every operation has that many more stores. Demand 3 speaks about it as it does about the run of edition 1.
use Rattle.std.specs.Prelude.{ℕ, ◌≡◌, refl, false, List, [], ◌∷◌, ◌++◌, length, get_or, replicate}
use Rattle.std.proofs.Common.{◌∙◌, ap, subst, arith}
use Rattle.std.proofs.Math.Path.{subst⁻¹}
use Rattle.std.proofs.Math.Option.{Option, none, some}
use Rattle.segment.specs.Layout.{edition2}
use Rattle.record.specs.Answers.{refusal, taken}
use Rattle.model.specs.Operations.{write, delete, clean, formatted}
use Rattle.history.specs.Book.{Event, cut}
use Rattle.witness.specs.Example.{nine, ten, ones, twos, threes, told, started, recovered, reads_as, scans_as, convert_event, leaving, finished, before}

-- The first write is version 1, of kind 9, and its entry has 23 bytes.
abbrev pub begins : List Event
begins = scans_as nine (refusal 8) [] ++ recovered ∷ []

abbrev pub writes : List Event
writes = finished (write nine ones) 23 1 ++ reads_as nine (told 0 1 9) ones

-- The second one is cut after 7 of its 24 stores, where the area is converted down; what is left is the first.
abbrev pub fails : List Event
fails =
    started (write nine twos) 24
    ∷ leaving 7 17 ++ convert_event 1024 taken ∷ cut ∷ scans_as nine (told 0 1 9) ones ++ recovered ∷ reads_as nine (told 0 1 9) ones

-- An entry of 39 bytes, a tombstone of 15, and a new head with a digest of 17 and the entry that is kept.
abbrev pub others : List Event
others = finished (write ten threes) 39 2 ++ (finished (delete nine) 15 3 ++ finished (clean 1) 57 0)

abbrev pub ends : List Event
ends = cut ∷ recovered ∷ reads_as nine (refusal 8) [] ++ reads_as ten (told 0 2 10) threes

abbrev pub events : List Event
events = begins ++ (writes ++ (fails ++ (others ++ ends)))

-- ---- the run

abbrev pub area₂ : List ℕ
area₂ = formatted edition2 4 256 before
