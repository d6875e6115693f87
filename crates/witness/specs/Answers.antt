-- Every read, conversion, start and recovery can be made: for every input there is an answer that keeps the promise, as a total function.
use Rattle.std.specs.Prelude.{ℕ, ◌≡◌, Bool, List, [], ◌∷◌, eqb, replicate, Ok, Err}
use Rattle.std.proofs.Math.Path.{refl, ap}
use Rattle.std.proofs.Common.{sym, arith}
use Rattle.std.proofs.Math.Bool.{true, false}
use Rattle.std.proofs.Math.Option.{Option, none, some}
use Rattle.std.proofs.Math.ListN.{length, length-replicate}
use Rattle.segment.specs.Choice.{pick}
use Rattle.segment.specs.Layout.{Layout}
use Rattle.segment.specs.declared.Key.{Key}
use Rattle.record.specs.Answers.{taken, said_by, told_by, fewest_said, fewest_told}
use Rattle.record.specs.Refusals.{number_of_refusal}
use Rattle.record.specs.Answered.{ConvertAnswer, Fewest, Joined, Reading, ReadAnswer, Recovery, RecoverAnswer, Switching}
use Rattle.record.specs.declared.Refusal.{Refusal}
use Rattle.record.specs.declared.Record.{Record}
use Rattle.model.specs.Switching.{switch_causes, switching}
use Rattle.record.specs.declared.Tables.{Tables}
use Rattle.model.specs.Log.{present}
use Rattle.model.specs.Causes.{first_cause}
use Rattle.model.specs.Fewest.{fewest_slot, fewest_causes, fewest_answer, FewestPromise}
use Rattle.model.specs.Operations.{Operation, log_now}
use Rattle.model.specs.Refused.{Terms, read_causes, start_causes}
use Rattle.model.specs.Conversion.{convert_causes, converted_image, convert_answer}
use Rattle.model.specs.Promises.{area_unless, read_answer, read_lengths, Part, value_answer, Begun, begun, lent_lengths}
use Rattle.model.specs.Scanned.{image_log, scan_causes}
use Rattle.model.specs.Joining.{join_pair, join_causes, join_answer}
use Rattle.index.specs.Build.{built}

-- ---- read

abbrev pub read_by : Layout → Record → List ℕ → List ℕ → Tables → Key → Reading
read_by L r area cells t k =
    record {
      answer = read_answer (first_cause (read_causes L r (log_now area r) (read_lengths area cells) t k)) (present (log_now area r) k);
      rec = r;
    }

abbrev pub part_by : Layout → Record → List ℕ → List ℕ → Tables → Key → Part
part_by L r area cells t k =
    value_answer r.size (first_cause (read_causes L r (log_now area r) (read_lengths area cells) t k)) (present (log_now area r) k)

-- ---- the slot with the fewest present bytes

-- the switch to the second edition
abbrev pub switched_by : Layout → Record → Switching
switched_by L r = switching (first_cause (switch_causes L r)) r

abbrev pub fewest_by : Layout → Record → Fewest
fewest_by L r = record { answer = fewest_answer (first_cause (fewest_causes L r)) (fewest_slot r); rec = r }

pub fewest-made : (L : Layout) (r : Record) → FewestPromise L r (fewest_by L r)
unfolding fewest_answer said_by told_by
fewest-made L r =
    record { hands-back = refl; answers = refl; says = said (first_cause (fewest_causes L r)); tells = told (first_cause (fewest_causes L r)) }
  where
    said : (c : Option Refusal) → fewest_said (fewest_answer c (fewest_slot r)) ≡ said_by c taken
    said none = refl
    said (some c) = refl

    told : (c : Option Refusal) → fewest_told (fewest_answer c (fewest_slot r)) ≡ told_by c (fewest_slot r ∷ [])
    told none = refl
    told (some c) = refl

-- ---- read by scan

abbrev pub scan_by : Layout → ℕ → ℕ → List ℕ → Tables → Key → ReadAnswer
scan_by L n s area t k = read_answer (first_cause (scan_causes L n s area t k)) (present (image_log n s area) k)

-- ---- a conversion, and what the second buffer then holds

abbrev pub converted_by : ℕ → ℕ → List ℕ → List ℕ → ConvertAnswer
converted_by n s area target = convert_answer (first_cause (convert_causes n s area (length target)))

abbrev pub filled_by : ℕ → ℕ → List ℕ → List ℕ → List ℕ
filled_by n s area target = area_unless (first_cause (convert_causes n s area (length target))) (converted_image n s area) target

-- ---- which two slots to join

abbrev pub joined_by : Layout → Record → List ℕ → List ℕ → Joined
joined_by L r area cells =
    record {
      answer =
          join_answer (first_cause (join_causes L r (read_lengths area cells) (join_pair r (log_now area r)))) (join_pair r (log_now area r));
      rec = r;
    }

-- ---- write, delete and clean

abbrev pub started_by : Layout → Terms → Operation → Record → List ℕ → List ℕ → List ℕ → Begun
started_by L t o r area cells work =
    begun L r (log_now area r) o work (first_cause (start_causes L r (log_now area r) (lent_lengths area cells work) t o))

-- ---- recovery

unfoldable pub cells_by : Layout → ℕ → List ℕ → List ℕ → List ℕ → Record → RecoverAnswer → List ℕ
cells_by L s order area cells r (Ok u) = (built area s r.map order (length cells)).cells
cells_by L s order area cells r (Err c) = pick (eqb (number_of_refusal c) 20) (replicate (length cells) 0) cells

abbrev pub recovered_cells : Layout → ℕ → List ℕ → List ℕ → List ℕ → Recovery → List ℕ
recovered_cells L s order area cells r = cells_by L s order area cells r.rec r.answer
