-- `index::put::version_there` meets its contract.
use mathlib.Core.Path.{◌∙◌}
use Rattle.index.proofs.SearchLaws.{version-none, version-whole}
use Rattle.index.proofs.put.version_there.Goals as goal

pub returns-then-area-place : goal.returns-then-area-place
returns-then-area-place c =
    let a = c.args in
    λ i. record { 0 = version-none a.area.now a.place _ c.edition_of_kind-edition.ensures _ c.head_size.ensures c.if-area-place.true i }

pub returns : goal.returns
returns c =
    let a = c.args in
    c.version_at.ensures
    ∙ λ i.
    record { 0 = version-whole a.area.now a.place _ c.edition_of_kind-edition.ensures _ c.head_size.ensures c.requires c.if-area-place.false i }
