-- Format as its code does it: byte 0 of every slot in turn, the digest, and the 0 behind it.
use Rattle.std.specs.Prelude.{ℕ, ◌+◌, ◌*◌, ◌≤◌, ◌<◌, ◌≡◌, Bool, not, eqb, length, set}
use Rattle.std.proofs.Math.Path.{refl, ap}
use Rattle.std.proofs.Common.{sym, ◌∙◌, add-one, arith, eqb-true, ne_eqb}
use Rattle.std.proofs.Math.Bool.{true, false}
use mathlib.Core.List.{List, [], ◌∷◌, ◌++◌}
use Rattle.std.proofs.Math.Option.{none, some}
use Rattle.std.proofs.lemmas.List.Edits.{sets}
use Rattle.std.proofs.lemmas.Bool.{not-false}
use Rattle.segment.specs.Choice.{both}
use Rattle.segment.proofs.Choice.{both_left, both_right}
use Rattle.record.specs.Range.{slots_good, size_good}
use Rattle.record.specs.RangeLaws.{between-low, between-high}
use Rattle.model.specs.Recovery.{geometry_bad}
use Rattle.laws.specs.Stores.{slots_apart}

-- What it says where it fails.
pub record Fits (n s area : ℕ) : Type 0 where
  pub slots-low : 4 ≤ n
  pub slots-high : n ≤ 32
  pub size_low : 256 ≤ s
  pub size-high : s ≤ 2048
  pub area-own : area ≡ n * s
  pub slot-fits : s ≤ area

pub geometry-fits : (n s area : ℕ) → geometry_bad n s area ≡ false → Fits n s area
geometry-fits n s area e =
    let good = not-false (both (both (slots_good n) (size_good s)) (eqb area (n * s))) e in
    let limits = both_left (both (slots_good n) (size_good s)) (eqb area (n * s)) good in
    let slots = both_left (slots_good n) (size_good s) limits in
    let size = both_right (slots_good n) (size_good s) limits in
    let own = eqb-true area (n * s) (both_right (both (slots_good n) (size_good s)) (eqb area (n * s)) good) in
    record {
      slots-low = between-low 4 32 n slots;
      slots-high = between-high 4 32 n slots;
      size_low = between-low 256 2048 s size;
      size-high = between-high 256 2048 s size;
      area-own = own;
      slot-fits = omega (arith, slots_apart s {k = 0} {i = n} (omega (arith, between-low 4 32 n slots)));
    }
