-- `counting::renew` meets its contract.
use mathlib.Core.Path.{◌∙◌, ap, ap₂}
use mathlib.Core.List.{List}
use Prim.Native.Nat.{ℕ}
use lib.ListN.{set}
use Rattle.segment.specs.Layout.{Layout}
use Rattle.counting.specs.Counting.{segment_bytes, own_bytes, renewed_at}
use Rattle.counting.specs.CountingLaws.{segment-short}
use Rattle.counting.proofs.renew.Goals as goal

pub bytes_in-bytes-requires : goal.bytes_in-bytes-requires
bytes_in-bytes-requires c =
    segment-short _ _ _ _ c.cut-s.ensures c.requires.2

pub returns : goal.returns
unfolding renewed_at
returns c =
    ap₂ (λ (l : List ℕ) (n : ℕ). set l c.args.slot n) c.clear.ensures
    (c.bytes_in-bytes.ensures.0 ∙ ap (λ (K : Layout). segment_bytes K c.cut-s.result.now) c.edition_of.ensures ∙ ap own_bytes c.cut-s.ensures)
