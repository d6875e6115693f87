-- `recovery::recover::refused` meets its contract.
use Rattle.std.specs.Prelude.{Err}
use mathlib.Core.Path.{ap}
use Rattle.record.specs.declared.Record.{Record}
use Rattle.record.specs.Answered.{RecoverAnswer}
use Rattle.recovery.proofs.recover.refused.Goals as goal

pub returns : goal.returns
returns c = ap (λ (r : Record). record { answer = Err c.args.cause; rec = r }) c.blank.ensures
