use mathlib.Core.Path.{◌≡◌, ◌∙◌, ap, subst}
use native.Mathlib.Omega.{arith}
use lib.ListN.{length}
use Rattle.joining.specs.Notes.{note_below, ObjectsCounted, TombstonesCounted}
use Rattle.joining.specs.NotesLaws.{notes-none, notes-more, length-below, fits-again}
use Rattle.joining.proofs.notes.note_all.Goals as goal

pub loop-i-init : goal.loop-i-init
loop-i-init c = (notes-none _ _ _ _, c.requires.objects_counted, c.requires.tombstones_counted)

pub note_part-requires : goal.note_part-requires
note_part-requires c =
    let l = c.loop-i.invariant in
    record {
      notes_fit = fits-again _ c.requires.notes_fit (ap length l.0 ∙ length-below _ _ _ _ _);
      slot_lt_slots = c.loop-i-test.true;
      objects_counted = l.1;
      tombstones_counted = l.2;
    }

pub loop-i-preserved : goal.loop-i-preserved
loop-i-preserved c =
    let made = c.note_part.ensures in
    (notes-more _ _ _ _ _ c.loop-i.invariant.0 made.0, made.1, made.2)

pub shape_of-notes : goal.shape_of-notes
shape_of-notes c = ap length c.loop-i.invariant.0 ∙ length-below _ _ _ _ _

pub returns : goal.returns
returns c =
    let a = c.args in
    let l = c.loop-i.invariant in
    let e : c.loop-i.i ≡ a.split.slots = omega arith in (
      l.0 ∙ ap (note_below a.area.now a.cells.now a.split a.notes.now) e,
      subst (λ n. ObjectsCounted a.into a.area.now a.cells.now a.split n c.loop-i.totals) e l.1,
      subst (λ n. TombstonesCounted a.into a.area.now a.split n c.loop-i.tombstones) e l.2,
    )
