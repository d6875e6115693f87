-- `writing::lay::lay_entry` meets its contract.
use Prim.Native.Nat.{◌+◌}
use mathlib.Core.Path.{◌≡◌, sym, ◌∙◌, ap}
use native.Mathlib.Omega.{arith}
use lib.ListN.{length}
use Rattle.segment.specs.Layout.{entry_size}
use Rattle.model.specs.Operations.{fits_with}
use Rattle.laws.specs.OperationsKept.{edition-roomy}
use Rattle.writing.specs.Laying.{moved-known, fits_said, new-said}
use Rattle.writing.proofs.lay.lay_entry.Goals as goal
use Rattle.writing.proofs.lay.lay_entry.Goals.{After-fits_head, After-head_size}

-- the length of the entry, and whether it fits the head
sized : (c : After-head_size) →
    let a = c.args in c.head_size.result + length a.value.now ≡ entry_size a.rec.edition (length a.value.now)
sized c = omega (arith, c.head_size.ensures)

fit : (c : After-fits_head) →
    let a = c.args in c.fits_head.result ≡ fits_with a.rec.edition a.rec (entry_size a.rec.edition (length a.value.now))
fit c =
    let a = c.args in
    c.fits_head.ensures ∙ ap (fits_with a.rec.edition a.rec) ((omega (arith, c.head_size.ensures)))

pub overflow_add-head_size : goal.overflow_add-head_size
overflow_add-head_size c = omega (arith, sized c, c.requires.entry_ready.room)

pub fits_head-requires : goal.fits_head-requires
fits_head-requires c = omega (arith, sized c, c.requires.entry_ready.room)

pub lay_append-requires : goal.lay_append-requires
lay_append-requires c =
    record {
      entry_ready = c.requires.entry_ready;
      value_value = sym (fit (goal.at.lay_append-requires c).After-fits_head) ∙ c.if-fits_head.true;
      kind_value = c.requires.kind_value;
    }

pub returns-then-fits_head : goal.returns-then-fits_head
returns-then-fits_head c =
    fits_said _ c.args.rec c.args.kind c.args.key c.args.value.now c.requires.kind_value _ (sized (goal.at.returns-then-fits_head c).After-head_size) _ _ c.fits_head.ensures c.if-fits_head.true c.lay_append.ensures

pub lay_head-requires : goal.lay_head-requires
lay_head-requires c =
    let known = moved-known _ _ _ _ c.requires.kind_value _ c.kind_in.ensures in
    record {
      entry_ready = c.requires.entry_ready;
      number_left = c.requires.number_left (sym (fit (goal.at.lay_head-requires c).After-fits_head) ∙ c.if-fits_head.false);
      kind_value = known;
      value_bound = (edition-roomy _).room _ _ known;
    }

pub returns : goal.returns
returns c =
    new-said _ c.args.rec c.args.kind c.args.key c.args.value.now c.requires.kind_value _ (sized (goal.at.returns c).After-head_size) _ _ c.fits_head.ensures
    _ c.new_edition-into.ensures _ c.kind_in.ensures c.if-fits_head.false c.lay_head.ensures
