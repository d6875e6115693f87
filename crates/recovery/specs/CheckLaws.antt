-- The tests of recovery at each return of the code.
use Rattle.std.specs.Prelude.{ℕ, ◌+◌, ◌*◌, ◌≤◌, ◌<◌, max, ◌≡◌, Bool, true, length}
use Rattle.std.proofs.Math.Path.{refl, ap}
use Rattle.std.proofs.Common.{sym, ◌∙◌, arith}
use Rattle.std.proofs.Math.Bool.{false, not}
use mathlib.Core.List.{List, [], ◌∷◌, ◌++◌}
use Rattle.std.proofs.Math.Option.{Option, none, some}
use Rattle.std.proofs.lemmas.Bool.{not-false}
use Rattle.segment.specs.Layout.{Layout}
use Rattle.segment.specs.declared.Digest.{Digest}
use Rattle.segment.specs.declared.Version.{Version}
use Rattle.record.specs.declared.Pending.TheVariants.{Idle}
use Rattle.model.specs.Log.{scan, end_of, segment_of}
use Rattle.recovery.specs.Recovering.{record_with}

pub record-with : (L : Layout) (n s m : ℕ) (area : List ℕ) (slot : ℕ) (d : Digest) (top : Version) (keys e : ℕ) (next : Version) (counts : List ℕ)
    → e ≡ end_of (scan L (segment_of area s slot)) → next ≡ record { 0 = max d.next.0 (top.0 + 1) }
    → record {
      slots = n;
      size = s;
      cells = m;
      edition = L;
      switched = false;
      head = slot;
      end = e;
      digest = d.number;
      map = d.map;
      next = next;
      keys = keys;
      counts = counts;
      pending = Idle;
    } ≡ record_with L n s m area slot d top keys counts
record-with L n s m area slot d top keys e next counts p q =
    λ i.
    record {
      slots = n;
      size = s;
      cells = m;
      edition = L;
      switched = false;
      head = slot;
      end = p i;
      digest = d.number;
      map = d.map;
      next = q i;
      keys = keys;
      counts = counts;
      pending = Idle;
    }
