-- `segment::writer::write_version` meets its contract: the bytes that are left out do not count.
use Prim.Native.Nat.{ℕ}
use mathlib.Core.Path.{sym, ◌∙◌, ap}
use native.Mathlib.Omega.{arith}
use lib.Seq.{sets}
use Rattle.word.specs.Number.{bytes_of}
use Rattle.word.specs.Laws.{bytes_of-low}
use Rattle.segment.proofs.LayoutLaws.{first_width, second-width}
use Rattle.segment.proofs.writer.write_version.Goals as goal

pub write32-requires : goal.write32-requires
write32-requires c = omega (arith, first_width _ c.in-First.is, c.requires)

pub write64-requires : goal.write64-requires
write64-requires c = omega (arith, second-width _ c.in-Second.is, c.requires)

pub returns-in-First : goal.returns-in-First
returns-in-First c =
    let a = c.args in
    c.write32.ensures
    ∙ ap (sets a.s.now a.at)
    (bytes_of-low 4 a.version.0 ∙ ap (λ (n : ℕ). bytes_of n a.version.0) (sym (first_width _ c.in-First.is)))

pub returns-in-Second : goal.returns-in-Second
returns-in-Second c =
    let a = c.args in
    c.write64.ensures
    ∙ ap (λ (n : ℕ). sets a.s.now a.at (bytes_of n a.version.0)) (sym (second-width _ c.in-Second.is))
