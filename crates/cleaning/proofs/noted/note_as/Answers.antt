use Prim.Native.Nat.{ℕ}
use mathlib.Core.Bool.{not}
use mathlib.Core.Path.{◌≡◌, refl, ◌∙◌, ap}
use native.Mathlib.Omega.{arith}
use lib.ListN.{length}
use Rattle.std.specs.Prelude.{eqb}
use Rattle.std.proofs.lemmas.Bool.{ne_eqb}
use Rattle.segment.specs.Choice.{pick}
use Rattle.segment.specs.Layout.{Layout, edition1, edition2, digest_size}
use Rattle.index.specs.Build.{entries_at}
use Rattle.cleaning.specs.Walks.{walk_items}
use Rattle.cleaning.proofs.Walks.{walk-stop, walk-entry}
use Rattle.cleaning.specs.Filter.{edition_as, note_entry}
use Rattle.cleaning.proofs.FilterLaws.{length-note}
use Rattle.cleaning.specs.EntriesLaws.{Meets}
use Rattle.cleaning.proofs.EntriesLaws.{meets, stops_end, stops-damage, tombstone-length}
use Rattle.cleaning.proofs.noted.note_as.Given.{Over}
use Rattle.cleaning.proofs.noted.note_as.Goals as goal
use Rattle.cleaning.proofs.noted.note_as.Goals.{In-Entry, then-this-ne0, else-this-ne0}

-- the entry that the turn meets
met : (g : Over) (c : In-Entry g) → Meets c.if-this-ne0.edition c.args.s.now c.loop-header.at c.in-Entry.header
met g c = meets _ _ _ _ c.next.ensures _ c.in-Entry.is

-- the edition by the const parameter, a number in a proof
second : (n : ℕ) → (n ≡ 0 → ⊥) → edition2 ≡ edition_as (not (eqb n 0))
unfolding pick
second n h = rw (ne_eqb n 0 h) refl

first : (n : ℕ) → n ≡ 0 → edition1 ≡ edition_as (not (eqb n 0))
unfolding pick
first n e = rw e refl

pub loop-header-init : goal.loop-header-init
loop-header-init g c =
    let a = c.args in
    let own : c.if-this-ne0.edition ≡ edition_as (not (eqb g.row.SECOND 0)) =
    elim c.if-this-ne0.branch [
      | then-this-ne0 w ↦ w.edition-is ∙ second _ w.if-this-ne0.true
      | else-this-ne0 w ↦ w.edition-is ∙ first _ w.if-this-ne0.false
    ] in
    rw c.digest_size-at.ensures (
      ap (λ (L : Layout). walk_items L note_entry a.filter.now (entries_at L a.s.now (digest_size L))) own,
      refl,
    )

pub behind-at-requires : goal.behind-at-requires
behind-at-requires g c =
    record {
      length_bound = omega (arith, met g (goal.at.behind-at-requires g c).In-Entry, c.requires.0);
      length_value = tombstone-length _ _ _ (met g (goal.at.behind-at-requires g c).In-Entry);
    }

pub loop-header-smaller : goal.loop-header-smaller
loop-header-smaller g c = omega (arith, c.behind-at.ensures, met g (goal.at.loop-header-smaller g c).In-Entry)

pub loop-header-preserved : goal.loop-header-preserved
loop-header-preserved g c =
    let made = c.note_entry.ensures in (
      walk-entry _ note_entry _ _ _ _ c.loop-header.invariant.0 (met g (goal.at.loop-header-preserved g c).In-Entry) _ made _ c.behind-at.ensures,
      ap length made ∙ length-note _ _ _ c.loop-header.invariant.1,
    )

pub returns-in-End : goal.returns-in-End
returns-in-End g c = walk-stop _ note_entry _ _ _ _ c.loop-header.invariant.0 (stops_end _ _ _ _ c.next.ensures c.in-End.is)

pub returns-in-Damage : goal.returns-in-Damage
returns-in-Damage g c =
    walk-stop _ note_entry _ _ _ _ c.loop-header.invariant.0 (stops-damage _ _ _ _ c.next.ensures c.in-Damage.is)
