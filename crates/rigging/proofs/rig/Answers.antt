-- `rigging::rig` meets its contract.
use Prim.Native.Nat.{◌-◌}
use mathlib.Core.Path.{refl, ap}
use mathlib.Core.List.{◌++◌}
use mathlib.Core.Option.{Option}
use native.Mathlib.Omega.{arith}
use lib.ListN.{get_or}
use Rattle.text.specs.Put.{put-length, put_same, put_then}
use Rattle.histories.specs.Letters.{Word}
use Rattle.histories.specs.List.{histories, lines_of}
use Rattle.rig_model.specs.Verdict.{verdict_line}
use Rattle.rigging.specs.Text.{no_room, other_length, below-digits, above-digits, text-put}
use Rattle.rigging.proofs.rig.Goals as goal

pub returns-then-out-lt-ROOM : goal.returns-then-out-lt-ROOM
returns-then-out-lt-ROOM c = (no_room c.args.faulty c.args.input.now c.args.out.now c.if-out-lt-ROOM.true, omega arith)

pub returns-then-input-ne1 : goal.returns-then-input-ne1
returns-then-input-ne1 c = (other_length c.args.faulty c.args.input.now c.args.out.now c.if-out-lt-ROOM.false c.if-input-ne1.true, omega arith)

pub returns-then-digit-lt48 : goal.returns-then-digit-lt48
returns-then-digit-lt48 c = (below-digits c.args.faulty c.args.input.now c.args.out.now c.if-out-lt-ROOM.false c.if-input-ne1.false c.if-digit-lt48.true, omega arith)

pub returns-then-digit-gt54 : goal.returns-then-digit-gt54
returns-then-digit-gt54 c = (above-digits c.args.faulty c.args.input.now c.args.out.now c.if-out-lt-ROOM.false c.if-input-ne1.false c.if-digit-lt48.false c.if-digit-gt54.true, omega arith)

pub put_verdict-requires : goal.put_verdict-requires
put_verdict-requires c = omega (arith, c.put_histories-at.ensures.1, put-length c.put_histories-at.ensures.0, c.if-out-lt-ROOM.false)

pub returns : goal.returns
returns c = (text-put c.args.faulty c.args.input.now c.args.out.now c.if-out-lt-ROOM.false _ _ _ c.if-input-ne1.false c.if-digit-lt48.false (omega (arith, c.if-digit-gt54.false)) refl (put_same (ap (λ (v : Option Word). lines_of (histories (get_or c.args.input.now 0 0 - 48)) ++ verdict_line v) c.first_wrong.ensures) (put_then c.put_histories-at.ensures.0 c.put_verdict.ensures.0)), omega (arith, c.put_verdict.ensures.1, c.put_histories-at.ensures.1, c.if-out-lt-ROOM.false))
