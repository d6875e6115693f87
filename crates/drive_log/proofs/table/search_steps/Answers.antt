-- `drive_log::table::search_steps` meets its contract: after each step fewer cells are in question.
use Prim.Native.Nat.{◌+◌}
use mathlib.Core.Path.{sym}
use native.Mathlib.Omega.{arith}
use Rattle.drive_log.specs.Tables.{Between, between-all, between_done}
use Rattle.drive_log.proofs.table.search_steps.Goals as goal
use Rattle.drive_log.proofs.table.search_steps.Goals.{After-pass_over, After-pass_over-low, After-pass_over-low-2, After-pass_over-low-3, After-pass_over-low-4, After-pass_over-low-5, After-pass_over-low-6, After-pass_over-low-7}

left-1 : (c : After-pass_over-low) → Between c.args.table.now c.args.version.0 c.pass_over-low.result (c.pass_over-low.result + 127)
left-1 c = c.pass_over-low.ensures.left 127 _ (omega arith) (omega arith) (between-all _ _ _ (sym c.requires.size))

pub pass_over-low-requires-2-clause-size_nonzero : goal.pass_over-low-requires-2-clause-size_nonzero
pass_over-low-requires-2-clause-size_nonzero c = (omega arith, omega (arith, (left-1 c).within, c.requires.size))

left-2 : (c : After-pass_over-low-2) → Between c.args.table.now c.args.version.0 c.pass_over-low-2.result (c.pass_over-low-2.result + 63)
left-2 c = c.pass_over-low-2.ensures.left 63 _ (omega arith) (omega arith) ((c.pass_over-low.ensures.left 127 _ (omega arith) (omega arith) (between-all _ _ _ (sym c.requires.size))))

pub pass_over-low-requires-3-clause-size_nonzero : goal.pass_over-low-requires-3-clause-size_nonzero
pass_over-low-requires-3-clause-size_nonzero c = (omega arith, omega (arith, (left-2 c).within, c.requires.size))

left-3 : (c : After-pass_over-low-3) → Between c.args.table.now c.args.version.0 c.pass_over-low-3.result (c.pass_over-low-3.result + 31)
left-3 c = c.pass_over-low-3.ensures.left 31 _ (omega arith) (omega arith) ((c.pass_over-low-2.ensures.left 63 _ (omega arith) (omega arith) ((c.pass_over-low.ensures.left 127 _ (omega arith) (omega arith) (between-all _ _ _ (sym c.requires.size))))))

pub pass_over-low-requires-4-clause-size_nonzero : goal.pass_over-low-requires-4-clause-size_nonzero
pass_over-low-requires-4-clause-size_nonzero c = (omega arith, omega (arith, (left-3 c).within, c.requires.size))

left-4 : (c : After-pass_over-low-4) → Between c.args.table.now c.args.version.0 c.pass_over-low-4.result (c.pass_over-low-4.result + 15)
left-4 c = c.pass_over-low-4.ensures.left 15 _ (omega arith) (omega arith) ((c.pass_over-low-3.ensures.left 31 _ (omega arith) (omega arith) ((c.pass_over-low-2.ensures.left 63 _ (omega arith) (omega arith) ((c.pass_over-low.ensures.left 127 _ (omega arith) (omega arith) (between-all _ _ _ (sym c.requires.size))))))))

pub pass_over-low-requires-5-clause-size_nonzero : goal.pass_over-low-requires-5-clause-size_nonzero
pass_over-low-requires-5-clause-size_nonzero c = (omega arith, omega (arith, (left-4 c).within, c.requires.size))

left-5 : (c : After-pass_over-low-5) → Between c.args.table.now c.args.version.0 c.pass_over-low-5.result (c.pass_over-low-5.result + 7)
left-5 c = c.pass_over-low-5.ensures.left 7 _ (omega arith) (omega arith) ((c.pass_over-low-4.ensures.left 15 _ (omega arith) (omega arith) ((c.pass_over-low-3.ensures.left 31 _ (omega arith) (omega arith) ((c.pass_over-low-2.ensures.left 63 _ (omega arith) (omega arith) ((c.pass_over-low.ensures.left 127 _ (omega arith) (omega arith) (between-all _ _ _ (sym c.requires.size))))))))))

pub pass_over-low-requires-6-clause-size_nonzero : goal.pass_over-low-requires-6-clause-size_nonzero
pass_over-low-requires-6-clause-size_nonzero c = (omega arith, omega (arith, (left-5 c).within, c.requires.size))

left-6 : (c : After-pass_over-low-6) → Between c.args.table.now c.args.version.0 c.pass_over-low-6.result (c.pass_over-low-6.result + 3)
left-6 c = c.pass_over-low-6.ensures.left 3 _ (omega arith) (omega arith) ((c.pass_over-low-5.ensures.left 7 _ (omega arith) (omega arith) ((c.pass_over-low-4.ensures.left 15 _ (omega arith) (omega arith) ((c.pass_over-low-3.ensures.left 31 _ (omega arith) (omega arith) ((c.pass_over-low-2.ensures.left 63 _ (omega arith) (omega arith) ((c.pass_over-low.ensures.left 127 _ (omega arith) (omega arith) (between-all _ _ _ (sym c.requires.size))))))))))))

pub pass_over-low-requires-7-clause-size_nonzero : goal.pass_over-low-requires-7-clause-size_nonzero
pass_over-low-requires-7-clause-size_nonzero c = (omega arith, omega (arith, (left-6 c).within, c.requires.size))

left-7 : (c : After-pass_over-low-7) → Between c.args.table.now c.args.version.0 c.pass_over-low-7.result (c.pass_over-low-7.result + 1)
left-7 c = c.pass_over-low-7.ensures.left 1 _ (omega arith) (omega arith) ((c.pass_over-low-6.ensures.left 3 _ (omega arith) (omega arith) ((c.pass_over-low-5.ensures.left 7 _ (omega arith) (omega arith) ((c.pass_over-low-4.ensures.left 15 _ (omega arith) (omega arith) ((c.pass_over-low-3.ensures.left 31 _ (omega arith) (omega arith) ((c.pass_over-low-2.ensures.left 63 _ (omega arith) (omega arith) ((c.pass_over-low.ensures.left 127 _ (omega arith) (omega arith) (between-all _ _ _ (sym c.requires.size))))))))))))))

pub pass_over-requires-clause-size_nonzero : goal.pass_over-requires-clause-size_nonzero
pass_over-requires-clause-size_nonzero c = (omega arith, omega (arith, (left-7 c).within, c.requires.size))

left-8 : (c : After-pass_over) → Between c.args.table.now c.args.version.0 c.pass_over.result (c.pass_over.result + 0)
left-8 c = c.pass_over.ensures.left 0 _ (omega arith) (omega arith) ((c.pass_over-low-7.ensures.left 1 _ (omega arith) (omega arith) ((c.pass_over-low-6.ensures.left 3 _ (omega arith) (omega arith) ((c.pass_over-low-5.ensures.left 7 _ (omega arith) (omega arith) ((c.pass_over-low-4.ensures.left 15 _ (omega arith) (omega arith) ((c.pass_over-low-3.ensures.left 31 _ (omega arith) (omega arith) ((c.pass_over-low-2.ensures.left 63 _ (omega arith) (omega arith) ((c.pass_over-low.ensures.left 127 _ (omega arith) (omega arith) (between-all _ _ _ (sym c.requires.size))))))))))))))))

pub returns : goal.returns
returns c = between_done _ _ _ (left-8 c)
