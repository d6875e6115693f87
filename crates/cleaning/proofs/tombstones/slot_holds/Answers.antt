-- `cleaning::tombstones::slot_holds` meets its contract.
use mathlib.Core.Path.{sym, ◌∙◌}
use Rattle.cleaning.proofs.TombstonesLaws.{victim-none, victim-goes}
use Rattle.cleaning.proofs.tombstones.slot_holds.Goals as goal

pub returns-then-not-is_named : goal.returns-then-not-is_named
returns-then-not-is_named c = victim-none _ _ _ (sym c.is_named.ensures ∙ c.if-not-is_named.true)

pub returns : goal.returns
returns c =
    let a = c.args in
    victim-goes a.area.now a.split a.slot _ _ c.cut-s.ensures c.edition_of.ensures
    (sym c.is_named.ensures ∙ c.if-not-is_named.false) c.holds_tombstone.ensures
