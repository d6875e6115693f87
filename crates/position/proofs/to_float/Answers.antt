-- `position::to_float` meets its contract.
use mathlib.Core.Path.{◌∙◌, sym, ap}
use mathlib.Core.Option.{none}
use Prim.Native.Nat.{ℕ}
use native.Mathlib.Omega.{arith}
use Rattle.record.specs.declared.Refusal.TheVariants.{CountLost}
use Rattle.position.specs.Float.{is_held, float_of}
use Rattle.position.specs.Convert.{outcome, with_position}
use Rattle.position.specs.ConvertLaws.{told-length, told-cause, told-made}
use Rattle.position.proofs.to_float.Goals as goal

pub returns-then-value-ne8 : goal.returns-then-value-ne8
returns-then-value-ne8 c = c.refused.ensures ∙ told-length is_held CountLost float_of c.args.value.now (λ e. omega (arith, c.if-value-ne8.true))

pub returns-then-not-is_held : goal.returns-then-not-is_held
returns-then-not-is_held c = c.refused-then-not-is_held.ensures ∙ told-cause is_held CountLost float_of c.args.value.now c.read32-count.result c.read32-count.ensures (omega arith) (sym c.is_held.ensures ∙ c.if-not-is_held.true)

pub float_of-requires : goal.float_of-requires
float_of-requires c = sym c.is_held.ensures ∙ c.if-not-is_held.false

pub returns : goal.returns
returns c =
    c.with_position.ensures
    ∙ ap (λ (n : ℕ). outcome none (with_position n c.args.value.now)) c.float_of.ensures
    ∙ told-made is_held CountLost float_of c.args.value.now c.read32-count.result c.read32-count.ensures (omega arith)
    (sym c.is_held.ensures ∙ c.if-not-is_held.false)
