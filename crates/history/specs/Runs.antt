-- 01, "Rules of use, for the promise about cuts": the lists of calls and cuts that can happen on one store. Every transition is the
-- promise of the call, so whatever is proved of runs is proved of what the contracts say. No call but the format is told the edition
-- (02, R-11): a call with a record goes by the record's; recovery, the reads by scan and a conversion by that of the area's head.
use Rattle.std.specs.Prelude.{ℕ, ◌≡◌, true, List, [], ◌∷◌, eqb, length}
use Rattle.std.proofs.Math.Option.{Option, none, some}
use Rattle.segment.specs.Choice.{pick}
use Rattle.segment.specs.declared.Key.{Key}
use Rattle.record.specs.Answers.{recover_said, read_said, start_said, step_said, convert_said}
use Rattle.record.specs.Answered.{ConvertAnswer, Foretold, Recovery, Joined, Reading, ReadAnswer, Start, Stepped, Switching, Fewest}
use Rattle.record.specs.Pairs.{join_said}
use Rattle.record.specs.declared.Record.{Record}
use Rattle.record.specs.Switch.{switch_said}
use Rattle.record.specs.declared.Tables.{Tables}
use Rattle.model.specs.Fewest.{FewestPromise, no_lengths}
use Rattle.model.specs.Operations.{Operation, Typed, TypedKey}
use Rattle.model.specs.Recovery.{image_layout}
use Rattle.model.specs.Refused.{Lengths, Terms, is_pending}
use Rattle.model.specs.Promises.{RecoverPromise, read_lengths, ReadPromise, Part, part_of, ValuePromise, lent_lengths, StartPromise, StepPromise, tell_lengths, TellPromise}
use Rattle.history.specs.Book.{Question, reads, reads_value, tells, fewest, starts, steps, switches, asks, recovers, Answer, saying, giving, telling, naming, Event, called, cut, accepted, scans, scans_value, converts, joins, pairing}
use Rattle.model.specs.Scanned.{ScanPromise, ScanValue}
use Rattle.model.specs.Joining.{JoinPromise}
use Rattle.model.specs.Conversion.{ConvertPromise}
use Rattle.model.specs.Switching.{SwitchPromise}

-- What the firmware holds from an accepted recovery to the next cut: the newest record, the index of that recovery, and the work
-- buffer that the last accepted start filled.
pub record Held : Type 0 where
  pub rec : Record
  pub cells : List ℕ
  pub work : List ℕ

-- The area, what is held if anything is, and the number of cells at the last accepted recovery if there was one.
pub record World : Type 0 where
  pub area : List ℕ
  pub held : Option Held
  pub cells : Option ℕ

-- After the format no record is held.
abbrev pub fresh_world : List ℕ → World
fresh_world area = record { area = area; held = none; cells = none }

-- A start hands back the record; where it is accepted, its work buffer is the one that the steps get.
abbrev pub held_after : Held → List ℕ → Start → Held
held_after h work' a = record { rec = a.rec; cells = h.cells; work = pick (accepted (saying (start_said a.answer))) work' h.work }

-- An accepted recovery gives the record and the index. One that is refused with 20 leaves no index, so no call with a record
-- comes before the next accepted recovery; any other refusal leaves all as it was.
abbrev pub recovered_world : World → List ℕ → Recovery → World
recovered_world w cells' r =
    pick (accepted (saying (recover_said r.answer)))
    (record { area = w.area; held = some (record { rec = r.rec; cells = cells'; work = [] }); cells = some (length cells') })
    (pick (eqb (recover_said r.answer).refused 20) (record { area = w.area; held = none; cells = w.cells }) w)

-- What a question answers in a world, by its promise. Questions need a record, and are allowed while an operation is pending; what the
-- next step will store is asked with the work buffer that the step will get.
pub data Asked : World → Question → Lengths → Answer → Type 0 where
  read :
      {area : List ℕ} {h : Held} {m : Option ℕ} {v : Tables} {k : Key} {a : Reading} → TypedKey k → ReadPromise h.rec.edition h.rec area h.cells v k a →
      Asked (record { area = area; held = some h; cells = m }) (reads v k) (read_lengths area h.cells) (saying (read_said a.answer))
  read_value :
      {area : List ℕ} {h : Held} {m : Option ℕ} {v : Tables} {k : Key} {p : Part} → TypedKey k → ValuePromise h.rec.edition h.rec area h.cells v k p →
      Asked (record { area = area; held = some h; cells = m }) (reads_value v k) (read_lengths area h.cells) (giving (part_of area p))
  tell :
      {area work : List ℕ} {h : Held} {m : Option ℕ} {a : Foretold} → (is_pending h.rec.pending ≡ true → work ≡ h.work) →
      TellPromise h.rec.edition h.rec area work a →
      Asked (record { area = area; held = some h; cells = m }) tells (tell_lengths area work) (telling a.answer)
  least :
      {area : List ℕ} {h : Held} {m : Option ℕ} {a : Fewest} → FewestPromise h.rec.edition h.rec a →
      Asked (record { area = area; held = some h; cells = m }) fewest no_lengths (naming a.answer)
  join :
      {area : List ℕ} {h : Held} {m : Option ℕ} {a : Joined} → JoinPromise h.rec.edition h.rec area h.cells a →
      Asked (record { area = area; held = some h; cells = m }) joins (read_lengths area h.cells) (pairing (join_said a.answer))

-- What a read by scan or a conversion answers, by its promise. Of the store it gets N, S and the area alone, so nothing has to be held. The
-- second buffer of a conversion is other memory: into the store's own area or work buffer it is outside the promise, as a format is. What
-- that buffer holds and then holds is no part of the event, as with a start's work buffer; the promise fixes it.
pub data Scanned (n s : ℕ) (area : List ℕ) : Question → Lengths → Answer → Type 0 where
  scan :
      {v : Tables} {k : Key} {a : ReadAnswer} → TypedKey k → ScanPromise (image_layout n s area) n s area v k a →
      Scanned n s area (scans n s v k) (read_lengths area []) (saying (read_said a))
  scan_value :
      {v : Tables} {k : Key} {p : Part} → TypedKey k → ScanValue (image_layout n s area) n s area v k p →
      Scanned n s area (scans_value n s v k) (read_lengths area []) (giving (part_of area p))
  convert :
      {target target' : List ℕ} {a : ConvertAnswer} → ConvertPromise n s area target target' a →
      Scanned n s area (converts n s) (record { area = length area; index = 0; work = length target }) (saying (convert_said a))

-- One event. A cut takes what is held and leaves the area with the stores made so far. The stores of an operation are made one by
-- one, each by a step, and no other call stores anything; so a cut during a call is one before it, or one after it once its store
-- is done, and a list with a cut at every place between events covers every single store before or after which the power fails.
pub data Moves (n s : ℕ) : World → Event → World → Type 0 where
  -- a write, delete or clean, on any terms, with the newest record and its index, and any work buffer
  start :
      {area work work' : List ℕ} {h : Held} {m : Option ℕ} {q : Terms} {o : Operation} {a : Start} → Typed o →
      StartPromise h.rec.edition q o h.rec area h.cells work work' a →
      Moves n s (record { area = area; held = some h; cells = m })
      (called (starts q o) (lent_lengths area h.cells work) (saying (start_said a.answer)))
      (record { area = area; held = some (held_after h work' a); cells = m })
  -- a step; while an operation is pending it gets the work buffer that the start filled
  step :
      {area area' cells' work : List ℕ} {h : Held} {m : Option ℕ} {a : Stepped} →
      (is_pending h.rec.pending ≡ true → work ≡ h.work) →
      StepPromise h.rec.edition h.rec area area' h.cells cells' work a →
      Moves n s (record { area = area; held = some h; cells = m })
      (called steps (lent_lengths area h.cells work) (saying (step_said a.answer)))
      (record { area = area'; held = some (record { rec = a.rec; cells = cells'; work = h.work }); cells = m })
  -- the switch to the second edition, which changes the record alone
  switch :
      {area : List ℕ} {h : Held} {m : Option ℕ} {a : Switching} → SwitchPromise h.rec.edition h.rec a →
      Moves n s (record { area = area; held = some h; cells = m }) (called switches no_lengths (saying (switch_said a.answer)))
      (record { area = area; held = some (record { rec = a.rec; cells = h.cells; work = h.work }); cells = m })
  -- a question, which leaves all as it was
  ask : {w : World} {q : Question} {lent : Lengths} {a : Answer} → Asked w q lent a → Moves n s w (called (asks q) lent a) w
  -- a read by scan or a conversion with the N and S of the format, which also leaves all as it was: before the first recovery, during an
  -- operation, after a cut
  look : {w : World} {q : Question} {lent : Lengths} {a : Answer} → Scanned n s w.area q lent a → Moves n s w (called (asks q) lent a) w
  -- a recovery with the N and S of the format, any order list and any index, with or without a cut before it
  recover :
      {w : World} {order cells cells' : List ℕ} {r : Recovery} →
      RecoverPromise (image_layout n s w.area) n s order w.area cells cells' r →
      Moves n s w (called (recovers n s order) (read_lengths w.area cells) (saying (recover_said r.answer))) (recovered_world w cells' r)
  -- the power fails
  cuts : {w : World} → Moves n s w cut (record { area = w.area; held = none; cells = w.cells })

-- A list of events, one after the other.
pub data Run (n s : ℕ) : World → List Event → World → Type 0 where
  stop : {w : World} → Run n s w [] w
  go : {w x y : World} {e : Event} {es : List Event} → Moves n s w e x → Run n s x es y → Run n s w (e ∷ es) y
