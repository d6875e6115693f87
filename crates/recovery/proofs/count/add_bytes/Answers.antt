-- `recovery::count::add_bytes` meets its contract.
use mathlib.Core.Path.{sym}
use native.Mathlib.Omega.{arith}
use lib.Seq.{set_out}
use Rattle.recovery.proofs.count.add_bytes.Goals as goal

pub overflow_add-counts : goal.overflow_add-counts
overflow_add-counts c = omega (arith, c.requires.0, c.requires.1 c.args.slot)

pub returns-else-i-counts : goal.returns-else-i-counts
returns-else-i-counts c = sym (set_out _ _ _ c.if-i-counts.false)
