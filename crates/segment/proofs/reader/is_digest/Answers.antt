-- `segment::reader::is_digest` meets its contract.
use mathlib.Core.Path.{sym, ◌∙◌}
use native.Mathlib.Omega.{arith}
use lib.ListN.{get_or, get_or-eq_default}
use borrow.Author.Tests.{ne_eqb}
use Rattle.segment.specs.Digest.{layout_in}
use Rattle.segment.specs.Layout.{table}
use Rattle.segment.proofs.LayoutFacts.{digest-not-end}
use Rattle.segment.proofs.reader.is_digest.Goals as goal

pub returns-then-s-eq0 : goal.returns-then-s-eq0
returns-then-s-eq0 c =
    let s = c.args.s.now in
    sym
    (ne_eqb (get_or s 0 0) (table (layout_in s)).digest_kind
    (λ q. digest-not-end (layout_in s) (sym q ∙ get_or-eq_default s 0 {n = 0} (omega arith))))
