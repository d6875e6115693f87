-- `writing::causes::check_room` meets its contract.
use Rattle.writing.specs.TestLaws.{room-none, room-enough}
use Rattle.writing.proofs.causes.check_room.Goals as goal

pub returns-then-no_room : goal.returns-then-no_room
returns-then-no_room c = room-none _ _ _ c.no_room.ensures c.if-no_room.true

pub returns : goal.returns
returns c = room-enough _ _ _ c.no_room.ensures c.if-no_room.false c.check_number.ensures
