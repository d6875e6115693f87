-- What recovery's parts give together is what it promises.
use Rattle.std.specs.Prelude.{ℕ, ◌+◌, ◌-◌, ◌<◌, max, Bool, eqb}
use Rattle.std.proofs.Math.Path.{◌≡◌, refl, sym, ap, subst}
use Rattle.std.proofs.Common.{◌∙◌, arith, ltb-false}
use Rattle.std.proofs.Math.Bool.{true, false}
use mathlib.Core.List.{List, [], ◌∷◌, ◌++◌}
use Rattle.std.proofs.Math.Option.{Option, none, some}
use Rattle.std.proofs.Math.ListN.{length, replicate, length-replicate}
use Rattle.std.proofs.lemmas.Bool.{not-false}
use Rattle.segment.specs.Layout.{Layout}
use Rattle.segment.specs.declared.Digest.{Digest}
use Rattle.segment.specs.declared.Version.{Version}
use Rattle.slot_map.specs.Bit.{named}
use Rattle.record.specs.Refusals.{number_of_refusal}
use Rattle.model.specs.Log.{View, head_of, log_of, highest}
use Rattle.model.specs.Causes.{Cause, first_cause}
use Rattle.model.specs.Recovery.{head_else}
use Rattle.recovery.specs.Recovering.{image_checks}

-- ---- the first cause

-- None of the causes is 20, at which alone the index changes.
abbrev pub KeepsIndex : List Cause → Type 0
KeepsIndex [] = Unit {0}
KeepsIndex (x ∷ a) = (eqb (number_of_refusal x.refusal) 20 ≡ false) × KeepsIndex a

-- ---- a sound image

-- The head's slot, its edition and its digest, and that none of the image's causes holds.
pub record SoundImage (single : Bool) (L : Layout) (v : ℕ → View) (n i : ℕ) (d : Digest) (top : Version) : Type 0 where
  pub clear : first_cause (image_checks single L v n (head_of v n)) ≡ none
  pub head : head_else (head_of v n) ≡ record { slot = i; digest = d }
  pub edition : (v (head_else (head_of v n)).slot).layout ≡ L
  pub top-is : top ≡ record { 0 = highest (log_of v (named d.map) n) }
