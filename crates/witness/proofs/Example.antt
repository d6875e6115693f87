-- One run, computed: N 4, S 256, M 16; a write, a second write of the same key that is cut in its middle, a write of another key, a
-- delete, a cleaning, recoveries, reads before, during and after them, and reads by scan and conversions where no record is held and while
-- one is.
-- What is proved of the definitions in `specs/Example.antt`.
use Rattle.std.specs.Prelude.{ℕ, zero, suc, ◌+◌, ◌<◌, ◌≡◌, refl, List, [], ◌∷◌, ◌++◌, replicate}
use Rattle.std.proofs.Common.{subst, arith}
use Rattle.std.proofs.Math.Option.{Option, none, some}
use Rattle.word.specs.Number.{Bytes}
use Rattle.model.specs.Operations.{write, delete, clean, TypedKey}
use Rattle.model.specs.Table.{failing}
use Rattle.history.specs.Book.{tells, Event, book_of}
use Rattle.history.specs.Runs.{fresh_world, Run}
use Rattle.index.specs.Build as Build
use Rattle.witness.specs.Compared.{compared}
use Rattle.witness.proofs.Compared.{events-equal}
use Rattle.witness.specs.Commands.{Command, advance, question, power_cut, Played, play_all}
use Rattle.witness.proofs.Commands.{commands-run}
use Rattle.witness.specs.Example.{Page, area₀, begins, booking, computing, converting, deletes, events, expecting, fails, glancing, half, idles, looking, meanwhile, nine, one, ones, others, recovering, starting, starting_on, ten, threes, two, twos, writes}

-- ---- the commands

pub bytes_of : (n b : ℕ) → b < 256 → Bytes (replicate n b)
bytes_of zero b h i = omega arith
bytes_of (suc n) b h zero = h
bytes_of (suc n) b h (suc i) = bytes_of n b h i

pub nine-typed : TypedKey nine
nine-typed = (omega arith, omega arith)

pub ten-typed : TypedKey ten
ten-typed = (omega arith, omega arith)

abbrev pub commands : List Command
commands =
    glancing nine nine-typed
    (converting 1023
    ∷ converting 1024
    ∷ recovering
    ∷ looking nine nine-typed
    (starting (write nine ones) (nine-typed, bytes_of 8 0x11 (omega arith))
    ∷ replicate 20 advance ++ advance
    ∷ looking nine nine-typed
    (question tells tt
    ∷ starting_on (expecting 0) (write nine twos) (nine-typed, bytes_of 8 0x22 (omega arith))
    ∷ starting_on (expecting 1) (write nine twos) (nine-typed, bytes_of 8 0x22 (omega arith))
    ∷ question tells tt
    ∷ replicate 7 advance ++ looking nine nine-typed
    (glancing nine nine-typed
    (converting 1024
    ∷ power_cut
    ∷ glancing nine nine-typed
    (recovering
    ∷ looking nine nine-typed
    (starting_on (expecting 0) (write ten threes) (ten-typed, bytes_of 24 0x33 (omega arith))
    ∷ replicate 36 advance ++ starting (delete nine) nine-typed
    ∷ replicate 12 advance ++ starting (clean 1) (omega arith)
    ∷ replicate 50 advance ++ power_cut
    ∷ recovering
    ∷ looking nine nine-typed (looking ten ten-typed []))))))))

abbrev pub all : Played
all = play_all 4 256 (fresh_world area₀) commands

computed : failing (compared all.events events) ≡ []
unfolding computing
computed = refl

pub run : Run 4 256 (fresh_world area₀) events all.world
run =
    subst (λ (es : List Event). Run 4 256 (fresh_world area₀) es all.world) (events-equal all.events events computed)
    (commands-run 4 256 (fresh_world area₀) commands)

pub at_first : Page (book_of begins) none none 1 none
unfolding booking
at_first = record { first_key = refl; second_key = refl; next-version = refl; awaits = refl }

pub written : Page (book_of (begins ++ writes)) one none 2 none
unfolding booking
written = record { first_key = refl; second_key = refl; next-version = refl; awaits = refl }

pub half-written :
    Page (book_of (begins ++ (writes ++ (idles ++ half)))) one none 2 (some (record { operation = write nine twos; left = 13 }))
unfolding booking
half-written = record { first_key = refl; second_key = refl; next-version = refl; awaits = refl }

pub failed : Page (book_of (begins ++ (writes ++ (idles ++ (half ++ (meanwhile ++ fails)))))) one none 2 none
unfolding booking
failed = record { first_key = refl; second_key = refl; next-version = refl; awaits = refl }

pub deleted : Page (book_of (begins ++ (writes ++ (idles ++ (half ++ (meanwhile ++ (fails ++ (others ++ deletes)))))))) none two 4 none
unfolding booking
deleted = record { first_key = refl; second_key = refl; next-version = refl; awaits = refl }

pub cleaned : Page (book_of events) none two 4 none
unfolding booking
cleaned = record { first_key = refl; second_key = refl; next-version = refl; awaits = refl }
