-- 02, R-13: editions one after the other. A log's slots are of the head's edition or of an earlier one, and an entry of an earlier edition
-- can be written in a later one.
use Rattle.std.specs.Prelude.{ℕ, ◌≤◌, ◌<◌, ◌≡◌, Bool, true, false, List, length}
use Rattle.std.proofs.Math.Path.{refl, ap}
use Rattle.std.proofs.Common.{◌∙◌, arith, lit<}
use Rattle.std.proofs.Math.Bool.{not}
use Rattle.std.proofs.Math.Option.{Option, none, some}
use Rattle.segment.specs.Choice.{pick, both}
use Rattle.segment.specs.Layout.{Layout, edition1, edition2, same_layout, digest_size, version_limit, table}
use Rattle.segment.proofs.LayoutLaws.{known-either, version-good, version-positive, version_below}
use Rattle.segment.specs.Entry.{Entry, length_known, WellFormed}
use Rattle.segment.specs.declared.Edition.TheVariants.{First, Second}
use Rattle.record.specs.Switch.{new_layout}
use Rattle.record.specs.declared.Record.{Record}
use Rattle.model.specs.Recovery.{later}

-- ---- which comes later

pub later_same : (L : Layout) → later L L ≡ false
unfolding both same_layout
later_same First = refl
later_same Second = refl

pub later_trans : (K L W : Layout) → later K L ≡ false → later L W ≡ false → later K W ≡ false
unfolding both same_layout
later_trans First L W p q = refl
later_trans Second First W p q = let z : ◌≡◌ {A = ℕ} 0 1 = cc in absurd (omega arith)
later_trans Second Second W p q = q

-- nothing comes later than the edition of a new head
pub new-later : (r : Record) → later r.edition (new_layout r) ≡ false
unfolding pick both same_layout
new-later r = go r.switched r.edition
  where
    go : (t : Bool) (L : Layout) → later L (pick t edition2 L) ≡ false
    go true First = refl
    go true Second = refl
    go false First = refl
    go false Second = refl

-- versions and digests do not become shorter
pub later-limit : (K L : Layout) → later K L ≡ false → version_limit K ≤ version_limit L
unfolding both same_layout table
later-limit First First p = omega arith
later-limit First Second p = omega arith
later-limit Second First p = let z : ◌≡◌ {A = ℕ} 0 1 = cc in absurd (omega arith)
later-limit Second Second p = omega arith

pub first-shortest : (L : Layout) → digest_size edition1 ≤ digest_size L
unfolding table
first-shortest First = omega arith
first-shortest Second = omega arith

-- ---- entries

-- an entry of one layout whose version is the other's is one of the other
pub formed-other : (L K : Layout) (x : Entry) → WellFormed L x → x.version < version_limit K → WellFormed K x
formed-other L K x f h =
    record {
      length-known = known-value x.value f.length-known;
      table_fits = f.table_fits;
      key_fits = f.key_fits;
      version-good = version-good K x.version (version-positive L x.version f.version-good) h;
      value-bytes = f.value-bytes;
    }
  where
    known-value : (o : Option (List ℕ)) → length_known L o ≡ true → length_known K o ≡ true
    known-value none e = unfold length_known in refl
    known-value (some b) e = unfold length_known in ap not (known-either K L (length b)) ∙ e

pub formed-later : (L K : Layout) (x : Entry) → later L K ≡ false → WellFormed L x → WellFormed K x
formed-later L K x up f = formed-other L K x f (omega (arith, later-limit L K up, version_below L x.version f.version-good))
