-- `word::number::write64` meets its contract.
use mathlib.Core.Path.{◌∙◌}
use Rattle.word.specs.Laws.{low-first, number-stored}
use Rattle.word.proofs.number.write64.Goals as goal

pub returns : goal.returns
returns c =
    let a = c.args in
    number-stored 8 a.at a.x a.s.now _ (c.copy_from_slice.ensures.after ∙ c.to_le_bytes.ensures ∙ low-first 8 a.x) c.requires
