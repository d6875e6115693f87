-- Demand 3 speaks about the computed run: what recovery gives at its end, whichever order the slots are read in, and what its steps and
-- reads answered.
use Rattle.std.specs.Prelude.{ℕ, ◌-◌, ◌<◌, ◌≡◌, refl, true, false, List, [], ◌∷◌, ◌++◌, length, replicate, Ok}
use Rattle.std.proofs.Common.{sym, ◌∙◌, ap, subst, arith}
use Rattle.std.proofs.Math.Path.{subst⁻¹}
use Rattle.std.proofs.Math.Option.{Option, none, some}
use Rattle.segment.specs.Choice.{both, pick}
use Rattle.segment.proofs.Choice.{pick_true}
use Rattle.segment.specs.Layout.{Layout, edition1, number_of_layout}
use Rattle.segment.specs.declared.Key.{Key}
use Rattle.record.specs.Answers.{Said, read_said, refusal, said_by, taken}
use Rattle.record.specs.Answered.{FormatAnswer, Reading, ReadAnswer, Recovery, RecoverAnswer, TellAnswer}
use Rattle.record.specs.declared.Refusal.{Refusal}
use Rattle.model.specs.Counts.{counts_of}
use Rattle.model.specs.Operations.{log_now, write, formatted_as}
use Rattle.model.specs.Play.{opened}
use Rattle.record.specs.Reach.{holds_table, all_tables}
use Rattle.model.specs.Recovery.{order_bad, recovery, image_layout}
use Rattle.model.specs.Promises.{format_answer, area_unless, FormatPromise, RecoverPromise, ReadPromise, Part, part_of, ValuePromise}
use Rattle.history.specs.Book.{reads, starts, asks, Answer, saying, telling, Event, called, cut, accepted, book_version, Book, fresh_book, version_for, feed, book_of, highest_told, version_told, scans_value, giving}
use Rattle.history.specs.Editions.{Editions, formatted_in, editions_after, editions_behind, only-format}
use Rattle.history.specs.Runs.{Held}
use Rattle.history.specs.Demand3.{LargeEnough, book_answer, book_value, GivesBook, StepAgrees, QuestionAgrees, EventAgrees, EventsAgree, Demand3Of}
use Rattle.history.proofs.Readings.{feed-asks}
use Rattle.history.proofs.Theorem.{demand-3}
use Rattle.history.proofs.Counting.{counts-kept}
use Rattle.history.specs.Finishing.{goes_on, all_go_on}
use Rattle.history.proofs.Corollaries.{agree_at, agree-behind, told-below-next}
use Rattle.history.proofs.Expecting.{expected-found, replaces-expected}
use Rattle.witness.specs.Answers.{recovered_cells}
use Rattle.witness.proofs.AnswersLaws.{recover-made}
use Rattle.witness.specs.Example.{computing, booking, nine, ten, ones, twos, threes, expecting, told, lent, started_on, started, stepped, recovered, read_event, value_event, reads_as, leaving, begins, writes, idles, half, meanwhile, fails, others, deletes, cleans, ends, before, area₀, events, two, foretold, scan_event, scans_as, convert_event, unheld}
use Rattle.witness.proofs.Example.{bytes_of, nine-typed, ten-typed, all, run, cleaned}
use Rattle.witness.proofs.AtEnd.{Left}
use Rattle.witness.specs.Applied.{at_last, held_counts, left-counts, rest}

pub formats : FormatPromise (number_of_layout edition1) 4 256 before area₀ (Ok tt)
unfolding opened number_of_layout formatted_as format_answer area_unless said_by
formats = record { answers = refl; says = refl; leaves = refl }

-- Demand 3 for these events.
pub demanded : Demand3Of edition1 4 256 all.world events
demanded = demand-3 edition1 4 256 before area₀ (bytes_of 1024 0xaa (omega arith)) formats events all.world run

-- ---- what recovery gives

-- the last accepted recovery had 16 cells
sixteen : all.world.cells ≡ some 16
unfolding computing
sixteen = refl

-- what the book says of the other key
ten-answer : book_answer edition1 two ≡ Ok (record { version = (record { 0 = 2 }); kind = 2 })
unfolding opened book_answer
ten-answer = refl

-- no switch is among the events, so every slot is of the format's edition
unswitched : editions_behind (formatted_in edition1) events ≡ formatted_in edition1
unfolding editions_behind editions_after
unswitched = refl

highest : highest_told events ≡ 3
unfolding version_told highest_told
highest = refl

pub left :
    (order cells cells' : List ℕ) (r : Recovery) → order_bad 4 order ≡ false → LargeEnough (some 16) (length cells) →
    RecoverPromise (image_layout 4 256 all.world.area) 4 256 order all.world.area cells cells' r → Left cells' r
unfolding book_answer book_value holds_table both
left order cells cells' r good large p =
    record {
      is-accepted = given.is-accepted;
      next-version = given.next-version ∙ cleaned.next-version;
      above-steps = omega (arith, highest, demanded.above-told, given.next-version);
      above-reads =
          told-below-next edition1 4 256 before area₀ (bytes_of 1024 0xaa (omega arith)) formats
          (begins ++ (writes ++ (idles ++ (half ++ (meanwhile ++ (fails ++ (others ++ (deletes ++ (cleans ++ (cut ∷ recovered ∷ reads_as nine (refusal 8) []))))))))))
          (value_event ten threes ∷ []) (asks (reads all_tables ten)) (lent 0) (saying (told 0 2 2)) all.world run order cells cells' r good enough p;
      absent = λ a q. let (K, its, answer) = given.answers all_tables nine nine-typed refl a q in answer ∙ ap (book_answer K) cleaned.first_key;
      no_value = λ v q. given.values all_tables nine nine-typed refl v q ∙ ap book_value cleaned.first_key;
      present =
          λ a q.
          let (K, its, answer) = given.answers all_tables ten ten-typed refl a q in
          answer ∙ ap (book_answer K) cleaned.second_key ∙ ap (λ (L : Layout). book_answer L two) (only-format (editions_behind (formatted_in edition1) events) K (ap (λ (E : Editions). E.switched) unswitched) its ∙ ap (λ (E : Editions). E.format) unswitched) ∙ ten-answer;
      value = λ v q. given.values all_tables ten ten-typed refl v q ∙ ap book_value cleaned.second_key;
    }
  where
    enough : LargeEnough all.world.cells (length cells)
    enough = subst⁻¹ (λ (m : Option ℕ). LargeEnough m (length cells)) sixteen large

    given : GivesBook (editions_behind (formatted_in edition1) events) all.world.area cells' r (book_of events)
    given = demanded.recovery order cells cells' r good enough p

-- and there is such a recovery, for every order and every index that is large enough
pub left_by :
    (order cells : List ℕ) → order_bad 4 order ≡ false → LargeEnough (some 16) (length cells) →
    let L = image_layout 4 256 all.world.area in
    let r = recovery L 4 256 (length cells) order all.world.area in
    Left (recovered_cells L 256 order all.world.area cells r) r
left_by order cells good large = left order cells _ _ good large (recover-made (image_layout 4 256 all.world.area) 4 256 order all.world.area cells refl)

-- that step leaves none, and tells the book's version
pub last_step : ((told 0 1 0).stores ≡ 1 - 1) × ((told 0 1 0).version ≡ version_for at_last (write nine ones))
unfolding EventAgrees StepAgrees booking
last_step =
    let h = agree_at (formatted_in edition1) fresh_book (begins ++ started (write nine ones) 20 ∷ leaving 19 1) (stepped (told 0 1 0)) rest demanded.agrees refl in
    (h.0, h.1 refl)

-- the one after it cannot have been accepted, since nothing is pending
pub no_step : accepted (saying (refusal 6)) ≡ true → ⊥
unfolding EventAgrees StepAgrees booking
no_step =
    agree_at (formatted_in edition1) fresh_book (begins ++ writes) (stepped (refusal 6))
    (reads_as nine (told 0 1 1) ones ++ (foretold (saying (refusal 6)) ∷ half ++ (meanwhile ++ (fails ++ (others ++ (deletes ++ (cleans ++ ends)))))))
    demanded.agrees

-- ---- what reads answered

-- a read that was answered so and the value that was given are the book's of the list before them
pub record ReadAgreed (b : Book) (k : Key) (a : Said) (value : List ℕ) : Type 0 where
  pub said : a ≡ read_said (book_answer edition1 (b.keys k))
  pub gave : value ≡ book_value (b.keys k)

read-agreed :
    (prior : List Event) (k : Key) (a : Said) (value : List ℕ) (after : List Event) → holds_table all_tables k.table ≡ true →
    editions_behind (formatted_in edition1) prior ≡ formatted_in edition1 → EventsAgree (formatted_in edition1) fresh_book (prior ++ (reads_as k a value ++ after)) → ReadAgreed (book_of prior) k a value
unfolding EventAgrees QuestionAgrees EventsAgree editions_after
read-agreed prior k a value after inside one h =
    record {
      said =
          let (K, its, answer) = agree_at (formatted_in edition1) fresh_book prior (read_event k a) (value_event k value ∷ after) h in
          ap (λ (x : Answer). x.said) answer ∙
          pick_true (holds_table all_tables k.table) (read_said (book_answer K ((book_of prior).keys k))) (refusal 22) inside ∙
          ap (λ (L : Layout). read_said (book_answer L ((book_of prior).keys k)))
          (only-format (editions_behind (formatted_in edition1) prior) K (ap (λ (E : Editions). E.switched) one) its ∙ ap (λ (E : Editions). E.format) one);
      gave =
          ap (λ (x : Answer). x.value)
          (subst (λ (b : Book). EventAgrees (editions_behind (formatted_in edition1) prior) b (value_event k value)) (feed-asks (book_of prior) (reads all_tables k) (lent 0) (saying a))
          (agree-behind (formatted_in edition1) fresh_book prior (read_event k a) (value_event k value ∷ after) h).0) ∙
          pick_true (holds_table all_tables k.table) (book_value ((book_of prior).keys k)) [] inside;
    }

-- on the fresh store, while the second write is pending, and after the recovery in the end
pub read-fresh : ReadAgreed (book_of (unheld ++ recovered ∷ [])) nine (refusal 8) []
unfolding holds_table both editions_behind editions_after
read-fresh = read-agreed (unheld ++ recovered ∷ []) nine (refusal 8) [] (writes ++ rest) refl refl demanded.agrees

pub read-meanwhile : ReadAgreed (book_of (begins ++ (writes ++ (idles ++ half)))) nine (told 0 1 1) ones
unfolding holds_table both editions_behind editions_after
read-meanwhile =
    read-agreed (begins ++ (writes ++ (idles ++ half))) nine (told 0 1 1) ones (fails ++ (others ++ (deletes ++ (cleans ++ ends)))) refl refl
    demanded.agrees

-- after the cut, with no record held, a read by scan answered what the book has
pub scan-unheld :
    told 0 1 1 ≡
    read_said (book_answer edition1 ((book_of (begins ++ (writes ++ (idles ++ (half ++ (meanwhile ++ (scans_as nine (told 0 1 1) ones ++ convert_event 1024 taken ∷ cut ∷ []))))))).keys nine))
unfolding EventAgrees QuestionAgrees pick holds_table both editions_behind editions_after
scan-unheld =
    let (K, its, answer) =
    agree_at (formatted_in edition1) fresh_book (begins ++ (writes ++ (idles ++ (half ++ (meanwhile ++ (scans_as nine (told 0 1 1) ones ++ convert_event 1024 taken ∷ cut ∷ []))))))
    (scan_event nine (told 0 1 1))
    (called (asks (scans_value 4 256 all_tables nine)) (record { area = 1024; index = 0; work = 0 }) (giving ones)
    ∷ recovered
    ∷ reads_as nine (told 0 1 1) ones ++ (others ++ (deletes ++ (cleans ++ ends))))
    demanded.agrees in
    ap (λ (x : Answer). x.said) answer ∙
    ap
    (λ (L : Layout).
    read_said (book_answer L ((book_of (begins ++ (writes ++ (idles ++ (half ++ (meanwhile ++ (scans_as nine (told 0 1 1) ones ++ convert_event 1024 taken ∷ cut ∷ []))))))).keys nine)))
    (only-format (formatted_in edition1) K refl its)

-- ---- what a write expected

-- the second write found version 1, and the write of the other key no version
pub found_first : 1 ≡ book_version ((book_of (begins ++ (writes ++ (idles ++ called (starts (expecting 0) (write nine twos)) (lent 256) (saying (refusal 21)) ∷ [])))).keys nine)
found_first =
    expected-found edition1 4 256 before area₀ (bytes_of 1024 0xaa (omega arith)) formats
    (begins ++ (writes ++ (idles ++ called (starts (expecting 0) (write nine twos)) (lent 256) (saying (refusal 21)) ∷ [])))
    (foretold (telling (Ok (record { place = 33; byte = 7 }))) ∷ leaving 7 13 ++ (meanwhile ++ (fails ++ (others ++ (deletes ++ (cleans ++ ends)))))) (expecting 1) (record { 0 = 1 }) nine twos (lent 256)
    (saying (told 20 0 0)) all.world run refl refl

-- so the last step of the latter replaced nothing, and it has the key's value now at the version told
pub replaced-none :
    let b = book_of (begins ++ (writes ++ (idles ++ (half ++ (meanwhile ++ (fails ++ started_on (expecting 0) (write ten threes) 36 ∷ leaving 35 1)))))) in
    (book_version (b.keys ten) ≡ 0) × ((feed b (stepped (told 0 2 0))).keys ten ≡ two)
unfolding all_go_on goes_on booking book_version
replaced-none =
    replaces-expected edition1 4 256 before area₀ (bytes_of 1024 0xaa (omega arith)) formats (begins ++ (writes ++ (idles ++ (half ++ (meanwhile ++ fails)))))
    (leaving 35 1) (deletes ++ (cleans ++ ends)) (expecting 0) (record { 0 = 0 }) ten threes (lent 256) (lent 256) (saying (told 36 0 0))
    (saying (told 0 2 0)) all.world run refl refl refl
    (record { awaited = record { operation = write ten threes; left = 1 }; pending = refl; one_left = refl; is-accepted = refl })

computed-counts : held_counts all.world.held ≡ left-counts
unfolding computing
computed-counts = refl

-- That is what a scan of the log counts.
pub scanned-counts : (h : Held) → all.world.held ≡ some h → counts_of (log_now all.world.area h.rec) ≡ left-counts
scanned-counts h e =
    sym (counts-kept edition1 4 256 before area₀ (bytes_of 1024 0xaa (omega arith)) formats events all.world run h e) ∙ ap held_counts (sym e) ∙ computed-counts
