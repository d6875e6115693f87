-- What the starts of a write and of a delete find out about a key from area and index in place of the log, and the parts of
-- the lists of causes that functions of their own test.
use Rattle.std.specs.Prelude.{ℕ, ◌-◌, Bool, true, false, List, [], ◌∷◌, ◌++◌, get_or}
use Rattle.segment.specs.Layout.{Layout}
use Rattle.segment.specs.Area.{stands_at}
use Rattle.segment.specs.declared.Key.{Key}
use Rattle.segment.specs.declared.Read.{Read}
use Rattle.record.specs.declared.Expected.{Expected}
use Rattle.record.specs.declared.Refusal.TheVariants.{BadRecord, Absent, VersionsSpent, NumbersSpent, KeysFull, NoRoom, OtherVersion}
use Rattle.record.specs.declared.Record.{Record}
use Rattle.record.specs.declared.Tables.{Tables}
use Rattle.model.specs.Causes.{Cause, when}
use Rattle.model.specs.Refused.{Lengths, reach_causes, KeyFacts, expects_other, versions_spent, numbers_spent, keys_full, no_room, no_number}
use Rattle.starting.specs.Checks.{idle_causes}
use Rattle.index.specs.Search.{search_for}
use Rattle.index.specs.declared.Found.{Found}
use Rattle.index.specs.declared.Found.TheVariants.{At, Free, Full}
use Rattle.writing.specs.declared.Presence.{Presence}
use Rattle.writing.specs.declared.Presence.TheVariants.{Object, Tombstone, Nothing, Forbidden}

-- ---- a key, by the index

-- the facts that the causes go by
unfoldable pub facts_of : Presence → KeyFacts
facts_of (Object v) = record { forbidden = false; in-log = true; absent = false; version = v.0 }
facts_of Tombstone = record { forbidden = false; in-log = true; absent = true; version = 0 }
facts_of Nothing = record { forbidden = false; in-log = false; absent = true; version = 0 }
facts_of Forbidden = record { forbidden = true; in-log = false; absent = true; version = 0 }

-- what stands at the place of a key's entry
unfoldable pub presence_of : Read → Presence
presence_of (Read.Object k v kind n) = Object v
presence_of (Read.Tombstone k v n) = Tombstone
presence_of Read.End = Forbidden
presence_of Read.Damage = Forbidden

-- what the search found: the cell of the key's entry, no cell, or no end to the search
unfoldable pub presence_at : List ℕ → List ℕ → Found → Presence
presence_at area cells (At i) = presence_of (stands_at area (get_or cells i 0 - 1))
presence_at area cells (Free i) = Nothing
presence_at area cells Full = Forbidden

abbrev pub presence_for : List ℕ → List ℕ → Key → Presence
presence_for area cells k = presence_at area cells (search_for area cells k)

abbrev pub facts_for : List ℕ → List ℕ → Key → KeyFacts
facts_for area cells k = facts_of (presence_for area cells k)

-- ---- parts of the lists of causes

-- 4, 22, 3 and 5
unfoldable pub first_tests : Layout → Record → Lengths → Tables → Key → List Cause
first_tests L r l t k = reach_causes L r l t k ++ idle_causes r l.work

-- 21, for a key of version v
unfoldable pub version_tests : Expected → ℕ → List Cause
version_tests e v = when (expects_other e v) OtherVersion ∷ []

-- 4, where a forbidden byte was met, and 21
unfoldable pub expected_tests : Expected → KeyFacts → List Cause
expected_tests e k = when k.forbidden BadRecord ∷ when (expects_other e k.version) OtherVersion ∷ []

-- 11
unfoldable pub key_tests : Record → KeyFacts → List Cause
key_tests r k = when (keys_full r k) KeysFull ∷ []

-- 10, for an entry of n bytes
unfoldable pub number_tests : Layout → Record → ℕ → List Cause
number_tests L r n = when (no_number L r n) NumbersSpent ∷ []

-- 12 and 10
unfoldable pub room_tests : Layout → Record → ℕ → List Cause
room_tests L r n = when (no_room L r n) NoRoom ∷ number_tests L r n

-- 9, 11, 12 and 10, for an entry of n bytes
unfoldable pub entry_tests : Layout → Record → KeyFacts → ℕ → List Cause
entry_tests L r k n = when (versions_spent r) VersionsSpent ∷ (key_tests r k ++ room_tests L r n)

-- 4, 22, 3, 5, 8 and 9 of a delete
unfoldable pub present_tests : Layout → Record → Lengths → Tables → Key → KeyFacts → List Cause
present_tests L r l t j k =
    first_tests L r l t j ++ when k.forbidden BadRecord ∷ when k.absent Absent ∷ when (versions_spent r) VersionsSpent ∷ []

-- 12 and 10 of a delete whose tombstone finds no room, by whether what its victim keeps is too long for the new head
unfoldable pub full_tests : Record → Bool → List Cause
full_tests r long = when long NoRoom ∷ when (numbers_spent r) NumbersSpent ∷ []
