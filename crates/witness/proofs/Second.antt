-- One run of a store of edition 2 (02, R-11), computed: N 4, S 256, M 16; a write, a second write of the same key that is cut in its middle,
-- a write of another key, a delete, a cleaning, recoveries, reads, reads by scan and a conversion. Entries and digests are four bytes longer than in
-- edition 1, so every operation has that many more stores. Demand 3 speaks about it as it does about the run of edition 1.
-- What is proved of the definitions in `specs/Second.antt`.
use Rattle.std.specs.Prelude.{ℕ, ◌≡◌, refl, false, List, [], ◌∷◌, ◌++◌, length, get_or, replicate, Ok, Err}
use Rattle.std.proofs.Common.{◌∙◌, ap, subst, arith}
use Rattle.std.proofs.Math.Path.{subst⁻¹}
use Rattle.std.proofs.Math.Option.{Option, none, some}
use Rattle.segment.specs.Choice.{both}
use Rattle.segment.specs.Layout.{Layout, edition2, number_of_layout}
use Rattle.record.specs.Answers.{said_by}
use Rattle.record.specs.Reach.{holds_table, all_tables}
use Rattle.record.specs.Answered.{FormatAnswer, Reading, ReadAnswer, Recovery, RecoverAnswer}
use Rattle.record.specs.declared.Refusal.{Refusal}
use Rattle.model.specs.Operations.{write, delete, clean, formatted_as}
use Rattle.model.specs.Play.{opened}
use Rattle.model.specs.Promises.{format_answer, area_unless, FormatPromise, RecoverPromise, ReadPromise, Part, part_of, ValuePromise}
use Rattle.model.specs.Recovery.{order_bad, recovery, image_layout}
use Rattle.model.specs.Table.{failing}
use Rattle.history.specs.Book.{Event, book_of}
use Rattle.history.specs.Demand3.{LargeEnough, book_answer, book_value, GivesBook, Demand3Of}
use Rattle.history.specs.Editions.{Editions, formatted_in, editions_after, editions_behind, only-format}
use Rattle.history.specs.Runs.{fresh_world, Run}
use Rattle.history.proofs.Theorem.{demand-3}
use Rattle.witness.specs.Answers.{recovered_cells}
use Rattle.witness.proofs.AnswersLaws.{recover-made}
use Rattle.witness.specs.Commands.{Command, advance, power_cut, Played, play_all}
use Rattle.witness.proofs.Commands.{commands-run}
use Rattle.witness.specs.Compared.{compared}
use Rattle.witness.proofs.Compared.{events-equal}
use Rattle.witness.specs.Example.{computing, booking, nine, ten, ones, twos, threes, starting, recovering, looking, glancing, converting, before, Page, two}
use Rattle.witness.proofs.Example.{bytes_of, nine-typed, ten-typed}
use Rattle.witness.specs.Second.{area₂, events}

-- ---- the commands and the events

abbrev pub commands : List Command
commands =
    glancing nine nine-typed
    (recovering
    ∷ starting (write nine ones) (nine-typed, bytes_of 8 0x11 (omega arith))
    ∷ replicate 24 advance ++ looking nine nine-typed
    (starting (write nine twos) (nine-typed, bytes_of 8 0x22 (omega arith))
    ∷ replicate 7 advance ++ converting 1024
    ∷ power_cut
    ∷ glancing nine nine-typed
    (recovering
    ∷ looking nine nine-typed
    (starting (write ten threes) (ten-typed, bytes_of 24 0x33 (omega arith))
    ∷ replicate 40 advance ++ starting (delete nine) nine-typed
    ∷ replicate 16 advance ++ starting (clean 1) (omega arith)
    ∷ replicate 58 advance ++ power_cut
    ∷ recovering
    ∷ looking nine nine-typed (looking ten ten-typed [])))))

abbrev pub all : Played
all = play_all 4 256 (fresh_world area₂) commands

computed : failing (compared all.events events) ≡ []
unfolding computing
computed = refl

pub run : Run 4 256 (fresh_world area₂) events all.world
run =
    subst (λ (es : List Event). Run 4 256 (fresh_world area₂) es all.world) (events-equal all.events events computed)
    (commands-run 4 256 (fresh_world area₂) commands)

-- the head, which the cleaning has put in slot 1, begins with the digest's kind
pub head-kind : get_or all.world.area 256 0 ≡ 8
unfolding computing
head-kind = refl

pub book : Page (book_of events) none two 4 none
unfolding booking
book = record { first_key = refl; second_key = refl; next-version = refl; awaits = refl }

-- ---- demand 3

pub formats : FormatPromise (number_of_layout edition2) 4 256 before area₂ (Ok tt)
unfolding opened number_of_layout formatted_as format_answer area_unless said_by
formats = record { answers = refl; says = refl; leaves = refl }

pub demanded : Demand3Of edition2 4 256 all.world events
demanded = demand-3 edition2 4 256 before area₂ (bytes_of 1024 0xaa (omega arith)) formats events all.world run

-- What that gives a reader: recovery is accepted, the record is of edition 2, and the reads answer with its kinds.
pub record Left (cells' : List ℕ) (r : Recovery) : Type 0 where
  pub is-accepted : r.answer ≡ (Ok tt)
  pub second-edition : r.rec.edition ≡ edition2
  pub next-version : r.rec.next.0 ≡ 4
  pub absent :
      (a : Reading) → ReadPromise r.rec.edition r.rec all.world.area cells' all_tables nine a → a.answer ≡ Err Refusal.Absent
  pub present :
      (a : Reading) → ReadPromise r.rec.edition r.rec all.world.area cells' all_tables ten a →
      a.answer ≡ Ok (record { version = (record { 0 = 2 }); kind = 10 })
  pub value :
      (p : Part) → ValuePromise r.rec.edition r.rec all.world.area cells' all_tables ten p → part_of all.world.area p ≡ threes

sixteen : all.world.cells ≡ some 16
unfolding computing
sixteen = refl

-- no switch is among the events
unswitched : editions_behind (formatted_in edition2) events ≡ formatted_in edition2
unfolding editions_behind editions_after
unswitched = refl

ten-answer : book_answer edition2 two ≡ Ok (record { version = (record { 0 = 2 }); kind = 10 })
unfolding opened book_answer
ten-answer = refl

pub left :
    (order cells cells' : List ℕ) (r : Recovery) → order_bad 4 order ≡ false → LargeEnough (some 16) (length cells) →
    RecoverPromise (image_layout 4 256 all.world.area) 4 256 order all.world.area cells cells' r → Left cells' r
unfolding book_answer book_value holds_table both
left order cells cells' r good large p =
    record {
      is-accepted = given.is-accepted;
      second-edition = only-format (editions_behind (formatted_in edition2) events) r.rec.edition (ap (λ (E : Editions). E.switched) unswitched) given.own-edition ∙ ap (λ (E : Editions). E.format) unswitched;
      next-version = given.next-version ∙ book.next-version;
      absent = λ a q. let (K, its, answer) = given.answers all_tables nine nine-typed refl a q in answer ∙ ap (book_answer K) book.first_key;
      present =
          λ a q.
          let (K, its, answer) = given.answers all_tables ten ten-typed refl a q in
          answer ∙ ap (book_answer K) book.second_key
          ∙ ap (λ (L : Layout). book_answer L two)
          (only-format (editions_behind (formatted_in edition2) events) K (ap (λ (E : Editions). E.switched) unswitched) its ∙ ap (λ (E : Editions). E.format) unswitched)
          ∙ ten-answer;
      value = λ v q. given.values all_tables ten ten-typed refl v q ∙ ap book_value book.second_key;
    }
  where
    given : GivesBook (editions_behind (formatted_in edition2) events) all.world.area cells' r (book_of events)
    given =
        demanded.recovery order cells cells' r good (subst⁻¹ (λ (m : Option ℕ). LargeEnough m (length cells)) sixteen large) p

-- and there is such a recovery, for every order and every index that is large enough
pub left_by :
    (order cells : List ℕ) → order_bad 4 order ≡ false → LargeEnough (some 16) (length cells) →
    let L = image_layout 4 256 all.world.area in
    let r = recovery L 4 256 (length cells) order all.world.area in
    Left (recovered_cells L 256 order all.world.area cells r) r
left_by order cells good large = left order cells _ _ good large (recover-made (image_layout 4 256 all.world.area) 4 256 order all.world.area cells refl)
