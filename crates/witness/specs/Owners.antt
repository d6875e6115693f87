-- Two runs, computed, that differ in media's value bytes alone. Servo uses tables up to 7, media tables from 8 on; a write of media's
-- outside its range is turned away, and so is servo where it asks for media's key; a write of media's is cut in its middle, and a
-- cleaning follows. What isolation asks holds of them, and they are not the same: media reads what it wrote, and the images differ.
use Rattle.std.specs.Prelude.{ℕ, ◌<◌, ◌≡◌, refl, List, [], ◌∷◌, ◌++◌, get_or, replicate, Ok}
use Rattle.std.proofs.Common.{ap, subst, arith}
use Rattle.segment.specs.declared.Key.{Key}
use Rattle.record.specs.Answers.{refusal}
use Rattle.record.specs.declared.Expected.TheVariants.{Any}
use Rattle.record.specs.declared.Tables.{Tables}
use Rattle.model.specs.Operations.{write, clean, TypedKey}
use Rattle.model.specs.Play.{keyed}
use Rattle.model.specs.Refused.{Terms}
use Rattle.record.specs.Answered.{TellAnswer}
use Rattle.history.specs.Book.{reads, reads_value, starts, asks, saying, giving, telling, Event, called, cut}
use Rattle.isolation.specs.Owners.{Owner, servo, media}
use Rattle.witness.specs.Commands.{Command, question}
use Rattle.witness.specs.Example.{nine, ones, told, lent, started_on, recovered, leaving, finished_on, finished, foretold}

-- ---- the commands, by the byte of which media's values are made

abbrev pub defects : Key
defects = keyed 9 1

-- ranges: an owner may give another one with each call
abbrev pub low : Tables
low = record { first = 0; last = 7 }

abbrev pub seven : Tables
seven = record { first = 7; last = 7 }

abbrev pub high : Tables
high = record { first = 8; last = 65535 }

abbrev pub within : Tables → Terms
within t = record { expected = Any; tables = t }

-- a read of a key and of its value, with a range
abbrev pub asking : Tables → (k : Key) → TypedKey k → List Command → List Command
asking t k ty rest = question (reads t k) ty ∷ question (reads_value t k) ty ∷ rest

-- ---- the events

abbrev pub servo_reads : List Event
servo_reads =
    called (asks (reads seven nine)) (lent 0) (saying (told 0 1 1)) ∷ called (asks (reads_value seven nine)) (lent 0) (giving ones) ∷ []

abbrev pub servo_turned_away : List Event
servo_turned_away =
    called (asks (reads low defects)) (lent 0) (saying (refusal 22)) ∷ called (asks (reads_value low defects)) (lent 0) (giving []) ∷ []

abbrev pub media_reads : ℕ → List Event
media_reads b =
    called (asks (reads high defects)) (lent 0) (saying (told 0 2 1))
    ∷ called (asks (reads_value high defects)) (lent 0) (giving (replicate 8 b))
    ∷ []

-- what servo writes, and what media writes and is turned away with; the reads; the write that is cut; the cleaning and the last reads
abbrev pub first : List Event
first = recovered ∷ finished_on (within low) (write nine ones) 19 1

abbrev pub second : ℕ → List Event
second b = finished_on (within high) (write defects (replicate 8 b)) 19 2

abbrev pub media_turned_away : ℕ → List Event
media_turned_away b = called (starts (within high) (write nine (replicate 8 b))) (lent 256) (saying (refusal 22)) ∷ []

abbrev pub third : ℕ → List Event
third b = started_on (within high) (write defects (replicate 24 b)) 36 ∷ leaving 12 24

-- who drives the device is told the next store of it, one of media's bytes; say that servo drives it
abbrev pub driving : ℕ → List Event
driving b = foretold (telling (Ok (record { place = 64; byte = b }))) ∷ []

abbrev pub last : List Event
last = cut ∷ recovered ∷ finished (clean 1) 52 0 ++ servo_reads

abbrev pub events : ℕ → List Event
events b =
    first ++ (second b ++ (media_turned_away b ++ ((servo_reads ++ servo_turned_away) ++ (media_reads b ++ (third b ++ (driving b ++ (last ++ media_reads b)))))))

-- whose they are
abbrev pub owners : List Owner
owners =
    replicate 22 servo ++ (replicate 21 media ++ (replicate 1 media ++ (replicate 4 servo ++ (replicate 2 media ++ (replicate 13 media ++ (replicate 1 servo ++ (replicate 58 servo ++
    replicate 2 media)))))))
