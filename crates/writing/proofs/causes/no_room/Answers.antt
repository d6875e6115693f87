-- `writing::causes::no_room` meets its contract.
use Rattle.writing.specs.TestLaws.{room_fits, room-free}
use Rattle.writing.proofs.causes.no_room.Goals as goal

pub returns-then-fits_head : goal.returns-then-fits_head
returns-then-fits_head c = let a = c.args in room_fits _ a.rec a.length _ c.fits_head.ensures c.if-fits_head.true

pub returns : goal.returns
returns c = let a = c.args in room-free _ a.rec a.length _ c.fits_head.ensures c.if-fits_head.false _ c.free_slots.ensures
