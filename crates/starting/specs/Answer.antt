-- What a start answers.
use Rattle.std.specs.Prelude.{ℕ, Ok, Err}
use Rattle.record.specs.Answers.{with_pending}
use Rattle.record.specs.declared.Pending.{Pending}
use Rattle.record.specs.declared.Refusal.{Refusal}
use Rattle.record.specs.Answered.{Start, StartAnswer}
use Rattle.record.specs.declared.Record.{Record}

-- an operation is pending, and its stores are told
abbrev pub started_with : Record → Pending → ℕ → Start
started_with r p left = record { answer = Ok left; rec = with_pending r p }

-- nothing has changed, and the cause is told
abbrev pub refused_start : Record → Refusal → Start
refused_start r c = record { answer = Err c; rec = r }
