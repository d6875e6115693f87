-- Demand 2, three theorems at the layout of 01: the map that the rule of versions reads after the last store of a write, a delete and a
-- cleaning, from the one that it read before the start. A cleaning may have any victims of the log, the head among them. For other layouts the same facts are `finish-recovers` and `finish-map` of their laws.
use Rattle.std.specs.Prelude.{ℕ, ◌+◌, ◌≡◌, List}
use Rattle.std.proofs.Math.Option.{Option, none, some}
use Rattle.segment.specs.Choice.{pick}
use Rattle.segment.specs.Layout.{Layout}
use Rattle.segment.specs.Entry.{Entry}
use Rattle.segment.specs.declared.Key.{Key}
use Rattle.record.specs.Switch.{unswitched}
use Rattle.record.specs.declared.Record.{Record}
use Rattle.model.specs.Log.{same_key}
use Rattle.model.specs.Recovery.{recovered}
use Rattle.model.specs.Operations.{Operation, write, delete, clean, log_now, written_entry, tombstone_entry, stored, finished_record}
use Rattle.laws.specs.MapLaws.{value_at}
use Rattle.laws.specs.Operated.{Accepted, plan_at, map_after}
use Rattle.laws.specs.OperationsKept.{finishes, deleted-next, edition-roomy}

-- Bytes that read as a map: recovery of them gives this record, the switch aside, whose slot map is that of the newest digest, and in the
-- segments that it names the highest version of each key decides what the map holds of it.
pub record ReadsAs (n s m : ℕ) (area : List ℕ) (r : Record) (map : Key → Option Entry) : Type 0 where
  pub recovers : recovered r.edition n s m area ≡ some (unswitched r)
  pub decides : (j : Key) → value_at (log_now area r) j ≡ map j

module _ (L : Layout) (before : List ℕ) (idle : Record) where
  -- the map before an operation
  abbrev old : Key → Option Entry
  old = value_at (log_now before idle)

  -- what is read after its last store
  abbrev pub Finished : Operation → (Key → Option Entry) → Type 0
  Finished o map =
      ReadsAs idle.slots idle.size idle.cells (stored before (plan_at L before idle o)) (finished_record L before idle o) map

  read-after : (o : Operation) → Accepted L before idle o → Finished o (map_after idle o old)
  read-after o a = let f = finishes L edition-roomy before idle o a in record { recovers = f.0; decides = f.1 }

  -- a write sets its key to that value at the next version, and no other
  pub demand-2-write :
      (k : Key) (value : List ℕ) → Accepted L before idle (write k value) →
      Finished (write k value)
      (λ j. pick (same_key j (written_entry idle k value)) (some (written_entry idle k value)) (old j))
  unfolding map_after
  demand-2-write k value a = read-after (write k value) a

  -- a delete drops its key, and no other, also where it cleans for want of room
  pub demand-2-delete :
      (k : Key) → Accepted L before idle (delete k) →
      Finished (delete k) (λ j. pick (same_key j (tombstone_entry idle k)) none (old j))
  unfolding map_after
  demand-2-delete k a = read-after (delete k) a

  -- 02, R-4: it takes the next version whether or not an entry comes to have it.
  pub delete-raises-next : (k : Key) → (finished_record L before idle (delete k)).next.0 ≡ idle.next.0 + 1
  delete-raises-next k = deleted-next L before idle k

  -- a cleaning changes no key
  pub demand-2-clean : (victims : ℕ) → Accepted L before idle (clean victims) → Finished (clean victims) old
  unfolding map_after
  demand-2-clean victims a = read-after (clean victims) a
