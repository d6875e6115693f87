-- What is looked up on a genuine store is the object that its map has.
use Rattle.std.specs.Prelude.{ℕ, ◌+◌, ◌*◌, ◌-◌, ◌≤◌, ◌<◌, ◌≡◌, Bool, true, false, not, List, [], ◌∷◌, length, drop, Ok, Err}
use Rattle.std.proofs.Math.Path.{refl, sym, ap, subst⁻¹}
use Rattle.std.proofs.Common.{◌∙◌, arith, length-take}
use Rattle.std.proofs.Math.Option.{Option, none, some}
use Rattle.std.proofs.Math.ListN.{get_or}
use Rattle.segment.specs.Layout.{Layout, entry_size}
use Rattle.record.specs.declared.Refusal.{Refusal}
use Rattle.model.specs.Log.{Placed, place_of, placed_size, placed_kind}
use Rattle.recovery.specs.Lookups.{Lookup}

-- The entry of an object that was looked up lies in the area.
pub record ObjectInside (L : Layout) (area : List ℕ) (p n : ℕ) : Type 0 where
  pub head : entry_size L 0 ≤ n
  pub whole : p + n ≤ length area

-- ---- a genuine store

-- the lookup for a key's object, or for none
unfoldable pub lookup_for : ℕ → Option Placed → Lookup
lookup_for S none = Err Refusal.Absent
lookup_for S (some x) = Ok (record { place = (place_of S x); version = (record { 0 = x.entry.version }); kind = (placed_kind x); length = (placed_size x) })

-- ---- an object that is looked up within reach, or none: 8

unfoldable pub if_absent : Option Placed → Option Refusal
if_absent none = some Refusal.Absent
if_absent (some x) = none
