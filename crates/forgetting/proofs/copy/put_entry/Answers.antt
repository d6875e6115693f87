-- `forgetting::copy::put_entry` meets its contract.
use mathlib.Core.Path.{sym, ap}
use native.Mathlib.Omega.{arith}
use lib.ListN.{length}
use Rattle.segment.proofs.Copied.{copied-as}
use Rattle.forgetting.proofs.ForgotLaws.{entry-dead, entry_other}
use Rattle.forgetting.proofs.copy.put_entry.Goals as goal

pub put_tombstone-requires : goal.put_tombstone-requires
put_tombstone-requires c =
    let a = c.args in
    omega (arith, c.requires.place_in_bounds, ap length (entry-dead a.into a.area.now a.cells.now a.marks.now a.live a.edition a.header a.place c.if-place-live.true))

pub returns-then-place-live : goal.returns-then-place-live
returns-then-place-live c =
    let a = c.args in
    copied-as (sym (entry-dead a.into a.area.now a.cells.now a.marks.now a.live a.edition a.header a.place c.if-place-live.true))
    c.put_tombstone.ensures

pub copy_entry-requires : goal.copy_entry-requires
copy_entry-requires c =
    let a = c.args in
    record {
      marks_len = c.requires.marks_len;
      length_in_bounds = c.requires.length_in_bounds;
      place_bound = c.requires.place_bound;
      edition_bound = c.requires.edition_bound;
      place_in_bounds = omega (arith, c.requires.place_in_bounds, ap length (entry_other a.into a.area.now a.cells.now a.marks.now a.live a.edition a.header a.place c.if-place-live.false));
    }

pub returns : goal.returns
returns c =
    let a = c.args in
    copied-as (sym (entry_other a.into a.area.now a.cells.now a.marks.now a.live a.edition a.header a.place c.if-place-live.false))
    c.copy_entry.ensures
