-- `cleaning::kept::is_kept` meets its contract.
use Rattle.cleaning.proofs.KeptLaws.{search-kept, found_inside}
use Rattle.cleaning.proofs.kept.is_kept.Goals as goal

pub found_kept-requires-clause-found_inside : goal.found_kept-requires-clause-found_inside
found_kept-requires-clause-found_inside c =
    let a = c.args in
    found_inside a.area.now _ a.marks.now a.header.key _ c.search-found.ensures

pub returns : goal.returns
returns c = search-kept _ _ _ _ _ c.search-found.ensures _ _ c.found_kept.ensures
