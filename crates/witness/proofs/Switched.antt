-- One run of a store that is carried over to edition 2 (02, R-13), computed: N 4, S 256, M 16, formatted in edition 1; a write, the switch, a
-- second write, which goes to the old head, a cut, which forgets the switch, a recovery, the switch again, one that is refused while a cleaning
-- is pending, and the cleaning of the old head, whose new head is of edition 2. Demand 3 speaks about it.
-- What is proved of the definitions in `specs/Switched.antt`.
use Rattle.std.specs.Prelude.{ℕ, ◌≡◌, refl, true, List, [], ◌∷◌, ◌++◌, get_or, replicate}
use Rattle.std.proofs.Common.{subst, arith}
use Rattle.segment.specs.Choice.{pick}
use Rattle.segment.specs.Layout.{edition1}
use Rattle.model.specs.Operations.{write, clean}
use Rattle.model.specs.Switching.{switching}
use Rattle.model.specs.Table.{failing}
use Rattle.history.specs.Book.{Event}
use Rattle.history.specs.Demand3.{Demand3Of}
use Rattle.history.specs.Editions.{formatted_in, editions_after, editions_behind}
use Rattle.history.specs.Runs.{fresh_world, Run}
use Rattle.history.proofs.Theorem.{demand-3}
use Rattle.witness.specs.Commands.{Command, advance, switch_over, power_cut, Played, play_all}
use Rattle.witness.proofs.Commands.{commands-run}
use Rattle.witness.specs.Compared.{compared}
use Rattle.witness.proofs.Compared.{events-equal}
use Rattle.witness.specs.Example.{computing, nine, ten, ones, twos, starting, recovering, looking, before, area₀}
use Rattle.witness.proofs.Example.{bytes_of, nine-typed, ten-typed}
use Rattle.witness.proofs.Applied.{formats}
use Rattle.witness.specs.Switched.{events}

-- ---- the commands and the events

abbrev pub commands : List Command
commands =
    recovering
    ∷ starting (write nine ones) (nine-typed, bytes_of 8 0x11 (omega arith))
    ∷ replicate 20 advance ++ switch_over
    ∷ starting (write ten twos) (ten-typed, bytes_of 8 0x22 (omega arith))
    ∷ replicate 20 advance ++ power_cut
    ∷ recovering
    ∷ switch_over
    ∷ starting (clean 1) (omega arith)
    ∷ switch_over
    ∷ replicate 65 advance ++ looking nine nine-typed (power_cut ∷ recovering ∷ looking ten ten-typed [])

-- ---- the run

abbrev pub all : Played
all = play_all 4 256 (fresh_world area₀) commands

computed : failing (compared all.events events) ≡ []
unfolding computing switching
computed = refl

pub run : Run 4 256 (fresh_world area₀) events all.world
run =
    subst (λ (es : List Event). Run 4 256 (fresh_world area₀) es all.world) (events-equal all.events events computed)
    (commands-run 4 256 (fresh_world area₀) commands)

-- the head, which the cleaning has put in slot 1, begins with edition 2's digest
pub head-kind : get_or all.world.area 256 0 ≡ 8
unfolding computing switching
head-kind = refl

-- ---- demand 3

pub demanded : Demand3Of edition1 4 256 all.world events
demanded = demand-3 edition1 4 256 before area₀ (bytes_of 1024 0xaa (omega arith)) formats events all.world run

-- slots may be of edition 1 and, since a switch was accepted, of edition 2
pub may-have : editions_behind (formatted_in edition1) events ≡ record { format = edition1; switched = true }
unfolding editions_behind editions_after pick
may-have = refl
