-- 01, "Operations, store by store": the record after the last store of an operation. Besides `with_pending` this is the one place
-- that says what of a record stays.
use Rattle.std.specs.Prelude.{ℕ, List}
use Rattle.record.specs.declared.Pending.TheVariants.{Idle}
use Rattle.record.specs.declared.Commit.{Commit}
use Rattle.record.specs.declared.Record.{Record}

abbrev pub committed : Record → Commit → ℕ → List ℕ → Record
committed r c keys counts =
    record {
      slots = r.slots;
      size = r.size;
      cells = r.cells;
      edition = c.edition;
      switched = r.switched;
      head = c.head;
      end = c.end;
      digest = c.digest;
      map = c.map;
      next = c.next;
      keys = keys;
      counts = counts;
      pending = Idle;
    }
