-- For every list of commands there is a run: a command is a call with its arguments, or a cut, and the answers are those of the
-- total functions.
use Rattle.std.specs.Prelude.{ℕ, refl, length}
use mathlib.Core.List.{List, [], ◌∷◌, ◌++◌}
use Rattle.std.proofs.Math.Option.{Option, none, some}
use Rattle.record.specs.Answers.{recover_said, read_said, start_said, step_said, convert_said}
use Rattle.segment.specs.declared.Key.{Key}
use Rattle.record.specs.Pairs.{join_said}
use Rattle.record.specs.Answered.{Recovery, Switching}
use Rattle.record.specs.Switch.{switch_said}
use Rattle.record.specs.declared.Tables.{Tables}
use Rattle.model.specs.Operations.{Operation, Typed, TypedKey}
use Rattle.model.specs.Refused.{Lengths, Terms}
use Rattle.model.specs.Recovery.{recovery, image_layout}
use Rattle.model.specs.Promises.{read_lengths, part_of, Begun, lent_lengths, tell_lengths}
use Rattle.model.specs.Fewest.{no_lengths}
use Rattle.model.specs.Scanned.{scanned_part}
use Rattle.telling.specs.Told.{told_by}
use Rattle.history.specs.Book.{Question, reads, reads_value, tells, fewest, scans, scans_value, converts, starts, steps, switches, asks, recovers, Answer, saying, giving, telling, naming, Event, called, cut, joins, pairing}
use Rattle.history.specs.Runs.{Held, World, held_after, recovered_world}
use Rattle.witness.specs.Answers.{read_by, part_by, fewest_by, scan_by, converted_by, started_by, recovered_cells, joined_by, switched_by}
use Rattle.witness.specs.Steps.{Moved, stepped_by}

-- A question's key, where it has one, is of its types. Those by scan and a conversion need no record, and are commands of their own.
abbrev pub TypedQuestion : Question → Type 0
TypedQuestion (reads t k) = TypedKey k
TypedQuestion (reads_value t k) = TypedKey k
TypedQuestion tells = Unit
TypedQuestion fewest = Unit
TypedQuestion (scans n s t k) = ⊥
TypedQuestion (scans_value n s t k) = ⊥
TypedQuestion (converts n s) = ⊥
TypedQuestion joins = Unit

-- Arguments are of their types. A start gets any terms and any work buffer, a recovery any order list and any index, a conversion any second
-- buffer.
pub data Command : Type 0 where
  operate : Terms → (o : Operation) → Typed o → List ℕ → Command
  advance : Command
  switch_over : Command
  question : (q : Question) → TypedQuestion q → Command
  glance : Tables → (k : Key) → TypedKey k → Command
  glance_value : Tables → (k : Key) → TypedKey k → Command
  convert_into : List ℕ → Command
  restart : List ℕ → List ℕ → Command
  power_cut : Command

-- The events that have happened, and the world after them.
pub record Played : Type 0 where
  pub events : List Event
  pub world : World

-- ---- one command

abbrev pub started_world : World → Held → Terms → Operation → List ℕ → Begun → Played
started_world w h q o work b =
    record {
      events = called (starts q o) (lent_lengths w.area h.cells work) (saying (start_said b.start.answer)) ∷ [];
      world = record { area = w.area; held = some (held_after h b.work b.start); cells = w.cells };
    }

abbrev pub stepped_world : World → Held → Moved → Played
stepped_world w h x =
    record {
      events = called steps (lent_lengths w.area h.cells h.work) (saying (step_said x.after.stepped.answer)) ∷ [];
      world =
          record {
            area = x.area;
            held = some (record { rec = x.after.stepped.rec; cells = x.after.cells; work = h.work });
            cells = w.cells;
          };
    }

-- the switch to the second edition (02, R-13)
abbrev pub switched_world : World → Held → Switching → Played
switched_world w h x =
    record {
      events = called switches no_lengths (saying (switch_said x.answer)) ∷ [];
      world = record { area = w.area; held = some (record { rec = x.rec; cells = h.cells; work = h.work }); cells = w.cells };
    }

-- what a question answers, by the edition of the record, or of the area's head where there is no record
unfoldable pub answer_by : Held → List ℕ → Question → Answer
answer_by h area (reads t k) = saying (read_said (read_by h.rec.edition h.rec area h.cells t k).answer)
answer_by h area (reads_value t k) = giving (part_of area (part_by h.rec.edition h.rec area h.cells t k))
answer_by h area tells = telling (told_by h.rec.edition h.rec area h.work).answer
answer_by h area fewest = naming (fewest_by h.rec.edition h.rec).answer
answer_by h area joins = pairing (join_said (joined_by h.rec.edition h.rec area h.cells).answer)
answer_by h area (scans n s t k) = saying (read_said (scan_by (image_layout n s area) n s area t k))
answer_by h area (scans_value n s t k) = giving (part_of area (scanned_part (image_layout n s area) n s area t k))
answer_by h area (converts n s) = saying (convert_said (converted_by n s area []))

-- the lengths of what is lent with it: a read gets the index, and what the next step will store is asked with the step's work buffer
unfoldable pub lent_by : Held → List ℕ → Question → Lengths
lent_by h area (reads t k) = read_lengths area h.cells
lent_by h area (reads_value t k) = read_lengths area h.cells
lent_by h area tells = tell_lengths area h.work
lent_by h area fewest = no_lengths
lent_by h area joins = read_lengths area h.cells
lent_by h area (scans n s t k) = read_lengths area []
lent_by h area (scans_value n s t k) = read_lengths area []
lent_by h area (converts n s) = read_lengths area []

abbrev pub asked_world : World → Held → Question → Played
asked_world w h q =
    record { events = called (asks q) (lent_by h w.area q) (answer_by h w.area q) ∷ []; world = w }

-- a read by scan, and one of the value
abbrev pub glanced : ℕ → ℕ → World → Tables → Key → Played
glanced n s w t k =
    record {
      events = called (asks (scans n s t k)) (read_lengths w.area []) (saying (read_said (scan_by (image_layout n s w.area) n s w.area t k))) ∷ [];
      world = w;
    }

abbrev pub glanced_value : ℕ → ℕ → World → Tables → Key → Played
glanced_value n s w t k =
    record {
      events = called (asks (scans_value n s t k)) (read_lengths w.area []) (giving (part_of w.area (scanned_part (image_layout n s w.area) n s w.area t k))) ∷ [];
      world = w;
    }

-- a conversion of the area
abbrev pub converted_into : ℕ → ℕ → World → List ℕ → Played
converted_into n s w target =
    record {
      events =
          called (asks (converts n s)) (record { area = length w.area; index = 0; work = length target })
          (saying (convert_said (converted_by n s w.area target)))
          ∷ [];
      world = w;
    }

abbrev pub restarted : ℕ → ℕ → World → List ℕ → List ℕ → Recovery → Played
restarted n s w order cells r =
    record {
      events = called (recovers n s order) (read_lengths w.area cells) (saying (recover_said r.answer)) ∷ [];
      world = recovered_world w (recovered_cells (image_layout n s w.area) s order w.area cells r) r;
    }

-- Without a record only a recovery, a read by scan, a conversion and a cut can happen: any other command does nothing. A step gets the work
-- buffer of the start.
unfoldable pub played : ℕ → ℕ → World → Option Held → Command → Played
played n s w (some h) (operate q o t work) = started_world w h q o work (started_by h.rec.edition q o h.rec w.area h.cells work)
played n s w (some h) advance = stepped_world w h (stepped_by h.rec.edition h.rec w.area h.cells h.work)
played n s w (some h) switch_over = switched_world w h (switched_by h.rec.edition h.rec)
played n s w (some h) (question q t) = asked_world w h q
played n s w none (operate q o t work) = record { events = []; world = w }
played n s w none advance = record { events = []; world = w }
played n s w none switch_over = record { events = []; world = w }
played n s w none (question q t) = record { events = []; world = w }
played n s w held (glance t k ty) = glanced n s w t k
played n s w held (glance_value t k ty) = glanced_value n s w t k
played n s w held (convert_into target) = converted_into n s w target
played n s w held (restart order cells) = restarted n s w order cells (recovery (image_layout n s w.area) n s (length cells) order w.area)
played n s w held power_cut = record { events = cut ∷ []; world = record { area = w.area; held = none; cells = w.cells } }

-- ---- a list of them

abbrev pub then : Played → Played → Played
then p q = record { events = p.events ++ q.events; world = q.world }

unfoldable pub play_on : ℕ → ℕ → Played → List Command → Played
play_on n s p [] = p
play_on n s p (c ∷ cs) = play_on n s (then p (played n s p.world p.world.held c)) cs

abbrev pub play_all : ℕ → ℕ → World → List Command → Played
play_all n s w cs = play_on n s (record { events = []; world = w }) cs
