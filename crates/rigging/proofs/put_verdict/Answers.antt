-- `rigging::put_verdict` meets its contract.
use mathlib.Core.Path.{sym, ap}
use native.Mathlib.Omega.{arith}
use Rattle.std.specs.Prelude.{Option}
use Rattle.text.specs.Put.{put_same}
use Rattle.histories.specs.declared.WordNumber.{WordNumber}
use Rattle.rig_model.specs.Verdict.{verdict_line}
use Rattle.rigging.specs.Text.{named}
use Rattle.rigging.proofs.put_verdict.Goals as goal

pub returns-in-None : goal.returns-in-None
returns-in-None c = (put_same (ap (λ (v : Option WordNumber). verdict_line (named v)) (sym c.in-None.is)) c.put.ensures, omega (arith, c.put.ensures.end))

pub returns-in-Some : goal.returns-in-Some
returns-in-Some c = (put_same (ap (λ (v : Option WordNumber). verdict_line (named v)) (sym c.in-Some.is)) c.put-in-Some.ensures.0, c.put-in-Some.ensures.1)
