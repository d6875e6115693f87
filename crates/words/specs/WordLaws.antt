-- Encoding and decoding are inverse.
use Rattle.std.specs.Prelude.{ℕ, ◌+◌, Bool, true, eqb}
use mathlib.Core.List.{List}
use Rattle.segment.specs.Choice.{pick}
use Rattle.segment.specs.Layout.{Layout}
use Rattle.record.specs.Range.{between}
use Rattle.record.specs.declared.Pending.{Pending}
use Rattle.record.specs.declared.Record.{Record}
use Rattle.words.specs.declared.Decoded.{Decoded}

-- the stores left by the tag, as the code tests them
unfoldable pub left_fits : ℕ → ℕ → ℕ → Bool
left_fits S t k = pick (eqb t 0) true (between 1 (S + 1) k)

-- a record whose numbers are those of r, but for the edition, the switch, the next version and the counts
abbrev pub likewise : Record → Layout → Bool → ℕ → List ℕ → Pending → Decoded
likewise r L t n c p =
    record {
      ok = true;
      rec =
          record {
            slots = r.slots;
            size = r.size;
            cells = r.cells;
            edition = L;
            switched = t;
            head = r.head;
            end = r.end;
            digest = r.digest;
            map = r.map;
            next = record { 0 = n };
            keys = r.keys;
            counts = c;
            pending = p;
          };
    }
