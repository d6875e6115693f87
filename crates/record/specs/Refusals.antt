-- 01, "Refused calls": the number of each cause, and of those that 02 adds.
use Rattle.std.specs.Prelude.{ℕ}
use Rattle.record.specs.declared.Refusal.{Refusal}
use Rattle.record.specs.declared.Refusal.TheVariants.{Geometry, Cells, WorkShort, BadRecord, Busy, NonePending, ValueLength, Absent, VersionsSpent, NumbersSpent, KeysFull, NoRoom, BadVictims, KeptTooLong, BadOrder, NoDigest, BadDigest, DamagedLog, SharedVersion, TooManyKeys, OtherVersion, OutsideTables, NoPair, BadMap, MapNoDigest, NotWhole, CountLost, MixedEditions, SlotTooLong, VersionTooWide}

abbrev pub number_of_refusal : Refusal → ℕ
number_of_refusal Geometry = 1
number_of_refusal Cells = 2
number_of_refusal WorkShort = 3
number_of_refusal BadRecord = 4
number_of_refusal Busy = 5
number_of_refusal NonePending = 6
number_of_refusal ValueLength = 7
number_of_refusal Absent = 8
number_of_refusal VersionsSpent = 9
number_of_refusal NumbersSpent = 10
number_of_refusal KeysFull = 11
number_of_refusal NoRoom = 12
number_of_refusal BadVictims = 13
number_of_refusal KeptTooLong = 14
number_of_refusal BadOrder = 15
number_of_refusal NoDigest = 16
number_of_refusal BadDigest = 17
number_of_refusal DamagedLog = 18
number_of_refusal SharedVersion = 19
number_of_refusal TooManyKeys = 20
number_of_refusal OtherVersion = 21
number_of_refusal OutsideTables = 22
number_of_refusal NoPair = 23
number_of_refusal BadMap = 24
number_of_refusal MapNoDigest = 25
number_of_refusal NotWhole = 26
number_of_refusal CountLost = 27
number_of_refusal MixedEditions = 28
number_of_refusal SlotTooLong = 29
number_of_refusal VersionTooWide = 30
