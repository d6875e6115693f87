-- `kurdavel::step::found_in` meets its contract.
use mathlib.Core.Path.{ap, subst, ◌∙◌}
use lib.ListN.{length}
use Rattle.record.specs.Range.{fits_lent}
use Rattle.record.specs.declared.Record.{Record}
use Rattle.telling.specs.Places.{PlaceTold}
use Rattle.kurdavel.proofs.step.found_in.Goals as goal

pub place_of-requires : goal.place_of-requires
place_of-requires c =
    ap (λ (r : Record). fits_lent r.edition r (length c.args.area.now) r.cells) c.front_in.ensures ∙ c.requires.front_fits

pub returns : goal.returns
returns c =
    subst (λ (r : Record). PlaceTold r.edition r c.args.area.now c.args.work c.place_of.result) c.front_in.ensures c.place_of.ensures
