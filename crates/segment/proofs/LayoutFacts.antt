-- Laws of: 01, "Bytes of a segment", and 02, R-11: kinds, lengths of values and limits of counters, as data. Definitions and laws that need
use Rattle.std.specs.Prelude.{◌<◌, ◌≡◌, refl, true, not, eqb, ltb}
use Rattle.std.proofs.lemmas.Bool.{eqb-false, not-true}
use Rattle.std.proofs.Common.{ltb-true}
use Rattle.segment.specs.Choice.{pick, both}
use Rattle.segment.proofs.Choice.{both_left, both_right}
use Rattle.segment.specs.declared.Edition.TheVariants.{First, Second}
use Rattle.segment.specs.Layout.{Layout, is_some, look_back, lookup, sound_objects, table}

-- No kind of the tables is 0 and each is a byte, and the kinds of object and their lengths are apart.
pub sound-digest : (L : Layout) → both (not (eqb (table L).digest_kind 0)) (ltb (table L).digest_kind 256) ≡ true
unfolding table both
sound-digest First = refl
sound-digest Second = refl

pub sound-tombstone : (L : Layout) → both (not (eqb (table L).tombstone_kind 0)) (ltb (table L).tombstone_kind 256) ≡ true
unfolding table both
sound-tombstone First = refl
sound-tombstone Second = refl

pub sound-objects : (L : Layout) → sound_objects (table L).tombstone_kind (table L).objects (table L).objects ≡ true
unfolding table both lookup look_back sound_objects is_some pick
sound-objects First = refl
sound-objects Second = refl

-- What the tests of a layout say.
module _ (L : Layout) where
  pub digest-not-end : (table L).digest_kind ≡ 0 → ⊥
  digest-not-end =
      eqb-false (table L).digest_kind 0 (not-true (eqb (table L).digest_kind 0) (both_left (not (eqb (table L).digest_kind 0)) (ltb (table L).digest_kind 256) (sound-digest L)))

  pub digest-byte : (table L).digest_kind < 256
  digest-byte = ltb-true (table L).digest_kind 256 (both_right (not (eqb (table L).digest_kind 0)) (ltb (table L).digest_kind 256) (sound-digest L))

  pub tombstone-not-end : (table L).tombstone_kind ≡ 0 → ⊥
  tombstone-not-end =
      eqb-false (table L).tombstone_kind 0
      (not-true (eqb (table L).tombstone_kind 0) (both_left (not (eqb (table L).tombstone_kind 0)) (ltb (table L).tombstone_kind 256) (sound-tombstone L)))

  pub tombstone-byte : (table L).tombstone_kind < 256
  tombstone-byte = ltb-true (table L).tombstone_kind 256 (both_right (not (eqb (table L).tombstone_kind 0)) (ltb (table L).tombstone_kind 256) (sound-tombstone L))
