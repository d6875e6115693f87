-- `cleaning::kept::measure_victim` meets its contract.
use mathlib.Core.Path.{sym, ◌∙◌, ap}
use native.Mathlib.Omega.{arith}
use lib.ListN.{length}
use Rattle.segment.specs.Digest.{layout_in}
use Rattle.cleaning.specs.Kept.{kept_test}
use Rattle.cleaning.proofs.KeptLaws.{part-victim, part-other}
use Rattle.cleaning.proofs.ChosenLaws.{choice-victim, choice-passed}
use Rattle.cleaning.proofs.kept.measure_victim.Goals as goal

pub returns-then-not-is_named : goal.returns-then-not-is_named
returns-then-not-is_named c =
    let a = c.args in
    let other = sym c.is_named.ensures ∙ c.if-not-is_named.true in (
      sym (ap length (part-other _ _ _ _ _ _ other)),
      omega arith,
      choice-passed (kept_test a.area.now a.cells.now a.marks.now) _ _ _ _ other,
    )

pub returns : goal.returns
returns c =
    let m = c.measure_slot.ensures in
    let a = c.args in
    let own = c.edition_of-edition.ensures ∙ ap layout_in c.cut.ensures in
    let victim = sym c.is_named.ensures ∙ c.if-not-is_named.false in (
      m.0 ∙ ap length (part-victim _ _ _ _ _ _ _ own victim),
      m.1,
      choice-victim (kept_test a.area.now a.cells.now a.marks.now) _ _ _ _ _ own victim m.2,
    )
