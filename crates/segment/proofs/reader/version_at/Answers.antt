-- `segment::reader::version_at` meets its contract.
use Prim.Native.Nat.{ℕ}
use mathlib.Core.Path.{sym, ◌∙◌, ap}
use native.Mathlib.Omega.{arith}
use lib.ListN.{take, drop}
use Rattle.word.specs.Number.{number_of}
use Rattle.segment.proofs.LayoutLaws.{first_width, second-width}
use Rattle.segment.proofs.reader.version_at.Goals as goal

pub read32-requires : goal.read32-requires
read32-requires c = omega (arith, first_width _ c.in-First.is, c.requires)

pub read64-requires : goal.read64-requires
read64-requires c = omega (arith, second-width _ c.in-Second.is, c.requires)

pub returns-in-First : goal.returns-in-First
returns-in-First c = λ i. record { 0 = (c.from.ensures ∙ c.read32.ensures ∙ ap (λ (n : ℕ). number_of (take n (drop c.args.at c.args.s.now))) (sym (first_width _ c.in-First.is))) i }

pub returns-in-Second : goal.returns-in-Second
returns-in-Second c = λ i. record { 0 = (c.read64.ensures ∙ ap (λ (n : ℕ). number_of (take n (drop c.args.at c.args.s.now))) (sym (second-width _ c.in-Second.is))) i }
