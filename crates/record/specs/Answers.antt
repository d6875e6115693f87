-- What each answer says in 01's terms: the refusal's number, or the values that the call gives. 0 is no refusal's number.
use Rattle.std.specs.Prelude.{ℕ, Bool, false, List, [], ◌∷◌, replicate, Ok, Err}
use Rattle.std.proofs.Math.Option.{Option, none, some}
use Rattle.segment.specs.Layout.{edition1}
use Rattle.record.specs.Refusals.{number_of_refusal}
use Rattle.record.specs.declared.Refusal.{Refusal}
use Rattle.record.specs.declared.Pending.{Pending}
use Rattle.record.specs.declared.Pending.TheVariants.{Idle, Append, NewHead, Clean, Forget}
use Rattle.record.specs.Answered.{FormatAnswer, RecoverAnswer, ReadAnswer, StartAnswer, StepAnswer, FewestAnswer, TellAnswer, ConvertAnswer}
use Rattle.record.specs.declared.Progress.{Progress}
use Rattle.record.specs.declared.Record.{Record}

-- What an answer says: the number of the refusal, or 0 with the call's values.
pub record Said : Type 0 where
  pub refused : ℕ
  pub stores : ℕ
  pub version : ℕ
  pub kind : ℕ

abbrev pub refusal : ℕ → Said
refusal n = record { refused = n; stores = 0; version = 0; kind = 0 }

-- accepted, where a call has no values to give
abbrev pub taken : Said
taken = record { refused = 0; stores = 0; version = 0; kind = 0 }

-- accepted, with a number of stores that are to come or left
abbrev pub taken_with : ℕ → Said
taken_with k = record { refused = 0; stores = k; version = 0; kind = 0 }

-- What a call says by the first of its causes that holds: that cause's number, and where none holds its values.
unfoldable pub said_by : Option Refusal → Said → Said
said_by none s = s
said_by (some c) s = refusal (number_of_refusal c)

-- What a question tells besides, as a list of numbers: none where it is refused.
unfoldable pub told_by : Option Refusal → List ℕ → List ℕ
told_by none t = t
told_by (some c) t = []

-- accepted or its number
abbrev pub format_said : FormatAnswer → Said
format_said (Ok u) = taken
format_said (Err r) = refusal (number_of_refusal r)

abbrev pub recover_said : RecoverAnswer → Said
recover_said (Ok u) = taken
recover_said (Err r) = refusal (number_of_refusal r)

-- version and kind of the object
abbrev pub read_said : ReadAnswer → Said
read_said (Ok s) = record { refused = 0; stores = 0; version = s.version.0; kind = s.kind }
read_said (Err r) = refusal (number_of_refusal r)

-- the number of stores to come
abbrev pub start_said : StartAnswer → Said
start_said (Ok k) = taken_with k
start_said (Err r) = refusal (number_of_refusal r)

-- the number of stores left; at the last step 0, and the version
abbrev pub step_said : StepAnswer → Said
step_said (Ok (Progress.Left k)) = taken_with k
step_said (Ok (Progress.Done v)) = record { refused = 0; stores = 0; version = v.0; kind = 0 }
step_said (Err r) = refusal (number_of_refusal r)

-- the slot is told
abbrev pub fewest_said : FewestAnswer → Said
fewest_said (Ok i) = taken
fewest_said (Err r) = refusal (number_of_refusal r)

abbrev pub fewest_told : FewestAnswer → List ℕ
fewest_told (Ok i) = i ∷ []
fewest_told (Err r) = []

-- accepted or its number; the store that is told stands beside
abbrev pub tell_said : TellAnswer → Said
tell_said (Ok s) = taken
tell_said (Err r) = refusal (number_of_refusal r)

-- accepted or its number; what it writes stands in the second buffer
abbrev pub convert_said : ConvertAnswer → Said
convert_said (Ok u) = taken
convert_said (Err r) = refusal (number_of_refusal r)

-- how many stores a pending operation has left; 0 where none is pending
abbrev pub stores_left : Pending → ℕ
stores_left Idle = 0
stores_left (Append n k) = k
stores_left (NewHead s n k) = k
stores_left (Clean s v n k) = k
stores_left (Forget s v n k) = k

-- the record with another pending operation
abbrev pub with_pending : Record → Pending → Record
with_pending r p =
    record {
      slots = r.slots;
      size = r.size;
      cells = r.cells;
      edition = r.edition;
      switched = r.switched;
      head = r.head;
      end = r.end;
      digest = r.digest;
      map = r.map;
      next = r.next;
      keys = r.keys;
      counts = r.counts;
      pending = p;
    }

-- the record with no present bytes, for what does not look at them
abbrev pub bare : Record → Record
bare r =
    record {
      slots = r.slots;
      size = r.size;
      cells = r.cells;
      edition = r.edition;
      switched = r.switched;
      head = r.head;
      end = r.end;
      digest = r.digest;
      map = r.map;
      next = r.next;
      keys = r.keys;
      counts = replicate 32 0;
      pending = r.pending;
    }

-- The record that stands beside a refusal of recovery: N is 0, so every call refuses it with 4.
abbrev pub blank : Record
blank =
    record {
      slots = 0;
      size = 0;
      cells = 0;
      edition = edition1;
      switched = false;
      head = 0;
      end = 0;
      digest = record { 0 = 0 };
      map = 0;
      next = record { 0 = 0 };
      keys = 0;
      counts = replicate 32 0;
      pending = Idle;
    }
