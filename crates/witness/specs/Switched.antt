-- One run of a store that is carried over to edition 2 (02, R-13), computed: N 4, S 256, M 16, formatted in edition 1; a write, the switch, a
-- second write, which goes to the old head, a cut, which forgets the switch, a recovery, the switch again, one that is refused while a cleaning
-- is pending, and the cleaning of the old head, whose new head is of edition 2. Demand 3 speaks about it.
use Rattle.std.specs.Prelude.{ℕ, ◌≡◌, refl, true, List, [], ◌∷◌, ◌++◌, get_or, replicate}
use Rattle.std.proofs.Common.{subst, arith}
use Rattle.record.specs.Answers.{Said, refusal, taken}
use Rattle.model.specs.Fewest.{no_lengths}
use Rattle.model.specs.Operations.{write, clean}
use Rattle.history.specs.Book.{switches, saying, Event, called, cut}
use Rattle.witness.specs.Example.{nine, ten, ones, twos, told, started, recovered, reads_as, leaving, stepped, finished}

abbrev switch_event : Said → Event
switch_event a = called switches no_lengths (saying a)

-- The second write is an entry of 19 bytes of the old head; the new head has a digest of 17 bytes and two entries of 23.
abbrev pub events : List Event
events =
    recovered
    ∷ finished (write nine ones) 19 1 ++ switch_event taken
    ∷ finished (write ten twos) 19 2 ++ cut
    ∷ recovered
    ∷ switch_event taken
    ∷ started (clean 1) 65
    ∷ switch_event (refusal 5)
    ∷ leaving 64 1 ++ stepped (told 0 0 0)
    ∷ reads_as nine (told 0 1 9) ones ++ cut ∷ recovered ∷ reads_as ten (told 0 2 9) twos
