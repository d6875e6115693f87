-- `segment::writer::write_digest` meets its contract.
use Prim.Native.Nat.{ℕ, ◌+◌}
use mathlib.Core.Path.{◌∙◌, ap}
use lib.ListN.{set}
use lib.Seq.{sets}
use Rattle.word.specs.Number.{bytes_of}
use Rattle.segment.specs.Layout.{table}
use Rattle.segment.proofs.Written.{sets-packed}
use Rattle.segment.proofs.writer.write_digest.Goals as goal

pub returns : goal.returns
returns c =
    let a = c.args in
    sets-packed (table a.edition).digest_kind 4 4 (table a.edition).width a.d.number.0 a.d.map a.d.next.0 a.at a.s.now _ _ _
    (c.write32.ensures ∙ ap (λ (k : ℕ). sets (set a.s.now a.at k) (a.at + 1) (bytes_of 4 a.d.number.0)) c.digest_kind-kind.ensures)
    c.write32-2.ensures c.write_version.ensures
