-- The reader that goes by a branch for each kind, at each of its tests.
use Rattle.std.specs.Prelude.{ℕ, ◌<◌, ◌≡◌, Bool, not, List, eqb, get_or}
use Rattle.std.proofs.Math.Bool.{true}
use Rattle.std.proofs.Math.ListN.{length}
use Rattle.segment.specs.Choice.{pick, both}
use Rattle.segment.specs.Layout.{Layout, other_layout, is_tombstone_kind}
use Rattle.segment.specs.Kinds.{kind_size}

-- Whether a kind is one of this layout, and so none of the other, of entries that are n bytes long, and the tombstone's where t says so.
unfoldable pub kind_test : Layout → ℕ → ℕ → Bool → Bool
kind_test L k n t =
    both (both (eqb n (kind_size L k)) (not (eqb n 0)))
    (both (both (not (eqb k 0)) (eqb (kind_size (other_layout L) k) 0)) (pick t (is_tombstone_kind L k) (not (is_tombstone_kind L k))))

-- Such a kind stands at an offset.
pub record KindStands (L : Layout) (s : List ℕ) (at n : ℕ) (t : Bool) : Type 0 where
  pub below : at < length s
  pub tested : kind_test L (get_or s at 0) n t ≡ true
