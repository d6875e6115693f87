-- `slot_map::without_slots` meets its contract.
use Rattle.slot_map.proofs.Words.{and-not}
use Rattle.slot_map.proofs.without_slots.Goals as goal

pub returns : goal.returns
returns c = and-not 32 c.args.map c.args.victims c.ranges.map.fits c.ranges.victims.fits
