-- Two runs, computed, that differ in media's value bytes alone. Servo uses tables up to 7, media tables from 8 on; a write of media's
-- outside its range is turned away, and so is servo where it asks for media's key; a write of media's is cut in its middle, and a
-- cleaning follows. What isolation asks holds of them, and they are not the same: media reads what it wrote, and the images differ.
-- What is proved of the definitions in `specs/Owners.antt`.
use Rattle.std.specs.Prelude.{ℕ, ◌<◌, ◌≡◌, refl, List, [], ◌∷◌, ◌++◌, get_or, replicate}
use Rattle.std.proofs.Common.{ap, subst, arith}
use Rattle.segment.specs.Layout.{edition1}
use Rattle.model.specs.Operations.{write, clean, TypedKey}
use Rattle.model.specs.Table.{failing}
use Rattle.history.specs.Book.{tells, Event}
use Rattle.history.specs.Runs.{fresh_world, Run}
use Rattle.isolation.specs.Owners.{servo, media, blanked_operation, blanked, SameCall, SameInput, SameInputs, SameAnswers, same_owner, start_range, range_of, NoTableShared}
use Rattle.isolation.proofs.Lists.{same-own, same-append, lies_within, all_within, ranges_apart}
use Rattle.isolation.proofs.Theorem.{isolation}
use Rattle.witness.specs.Compared.{compared}
use Rattle.witness.proofs.Compared.{events-equal}
use Rattle.witness.specs.Commands.{Command, advance, question, power_cut, Played, play_all}
use Rattle.witness.proofs.Commands.{commands-run}
use Rattle.witness.specs.Example.{computing, nine, ones, starting_on, starting, recovering, told, stepped, leaving, before, area₀}
use Rattle.witness.proofs.Example.{bytes_of, nine-typed}
use Rattle.witness.proofs.Applied.{formats}
use Rattle.witness.specs.Owners.{asking, defects, driving, events, first, high, last, low, media_reads, media_turned_away, owners, second, servo_reads, servo_turned_away, seven, third, within}

pub defects-typed : TypedKey defects
defects-typed = (omega arith, omega arith)

abbrev pub commands : (b : ℕ) → b < 256 → List Command
commands b h =
    recovering
    ∷ starting_on (within low) (write nine ones) (nine-typed, bytes_of 8 0x11 (omega arith))
    ∷ replicate 20 advance ++ starting_on (within high) (write defects (replicate 8 b)) (defects-typed, bytes_of 8 b h)
    ∷ replicate 20 advance ++ starting_on (within high) (write nine (replicate 8 b)) (nine-typed, bytes_of 8 b h)
    ∷ asking seven nine nine-typed
    (asking low defects defects-typed
    (asking high defects defects-typed
    (starting_on (within high) (write defects (replicate 24 b)) (defects-typed, bytes_of 24 b h)
    ∷ replicate 12 advance ++ question tells tt
    ∷ power_cut
    ∷ recovering
    ∷ starting (clean 1) (omega arith)
    ∷ replicate 53 advance ++ asking seven nine nine-typed (asking high defects defects-typed []))))

-- ---- the runs

abbrev pub all : (b : ℕ) → b < 256 → Played
all b h = play_all 4 256 (fresh_world area₀) (commands b h)

computed-ones : failing (compared (all 1 (omega arith)).events (events 1)) ≡ []
unfolding computing
computed-ones = refl

computed-twos : failing (compared (all 2 (omega arith)).events (events 2)) ≡ []
unfolding computing
computed-twos = refl

made :
    (b : ℕ) (h : b < 256) → failing (compared (all b h).events (events b)) ≡ [] → Run 4 256 (fresh_world area₀) (events b) (all b h).world
made b h e =
    subst (λ (es : List Event). Run 4 256 (fresh_world area₀) es (all b h).world) (events-equal (all b h).events (events b) e)
    (commands-run 4 256 (fresh_world area₀) (commands b h))

-- The images that they leave are not the same.
pub images-differ : (all 1 (omega arith)).world.area ≡ (all 2 (omega arith)).world.area → ⊥
unfolding computing
images-differ e = let byte : ◌≡◌ {A = ℕ} 1 2 = ap (λ (l : List ℕ). get_or l 300 0) e in absurd (omega (arith, byte))

-- ---- what isolation asks of them

-- media's calls are the same but for the bytes
second-same : SameInputs (replicate 21 media) (second 1) (second 2)
unfolding SameInputs SameInput SameCall blanked blanked_operation
second-same = ((refl, refl), same-own (replicate 20 media) (leaving 19 1 ++ stepped (told 0 2 0) ∷ []) refl)

turned_same : SameInputs (replicate 1 media) (media_turned_away 1) (media_turned_away 2)
unfolding SameInputs SameInput SameCall blanked blanked_operation
turned_same = ((refl, refl), tt)

third-same : SameInputs (replicate 13 media) (third 1) (third 2)
unfolding SameInputs SameInput SameCall blanked blanked_operation
third-same = ((refl, refl), same-own (replicate 12 media) (leaving 12 24) refl)

driving-same : SameInputs (replicate 1 servo) (driving 1) (driving 2)
unfolding SameInputs SameInput SameCall
driving-same = ((refl, refl), tt)

reads_same : SameInputs (replicate 2 media) (media_reads 1) (media_reads 2)
unfolding SameInputs SameInput SameCall blanked
reads_same = ((refl, refl), ((refl, refl), tt))

same : SameInputs owners (events 1) (events 2)
same =
    same-append (replicate 22 servo) _ first first _ _ (same-own (replicate 22 servo) first refl)
    (same-append (replicate 21 media) _ (second 1) (second 2) _ _ second-same
    (same-append (replicate 1 media) _ (media_turned_away 1) (media_turned_away 2) _ _ turned_same
    (same-append (replicate 4 servo) _ (servo_reads ++ servo_turned_away) (servo_reads ++ servo_turned_away) _ _ (same-own (replicate 4 servo) (servo_reads ++ servo_turned_away) refl)
    (same-append (replicate 2 media) _ (media_reads 1) (media_reads 2) _ _ reads_same
    (same-append (replicate 13 media) _ (third 1) (third 2) _ _ third-same
    (same-append (replicate 1 servo) _ (driving 1) (driving 2) _ _ driving-same
    (same-append (replicate 58 servo) _ last last _ _ (same-own (replicate 58 servo) last refl) reads_same)))))))

-- servo's ranges end with table 7, and media's begin with table 8
apart : NoTableShared owners (events 1)
unfolding computing same_owner start_range range_of lies_within all_within
apart = ranges_apart 0 7 8 65535 owners (events 1) (omega arith) refl refl

-- Isolation for these two runs.
pub isolated : SameAnswers owners (events 1) (events 2)
isolated =
    isolation edition1 4 256 before area₀ (bytes_of 1024 0xaa (omega arith)) formats owners (events 1) (events 2) (all 1 (omega arith)).world
    (all 2 (omega arith)).world (made 1 (omega arith) computed-ones) (made 2 (omega arith) computed-twos) same apart
