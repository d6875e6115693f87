-- `position::from_float` meets its contract.
use mathlib.Core.Path.{◌∙◌, sym, ap}
use mathlib.Core.Option.{none}
use Prim.Native.Nat.{ℕ}
use native.Mathlib.Omega.{arith}
use Rattle.record.specs.declared.Refusal.TheVariants.{NotWhole}
use Rattle.position.specs.Float.{is_count, count_in}
use Rattle.position.specs.Convert.{outcome, with_position}
use Rattle.position.specs.ConvertLaws.{told-length, told-cause, told-made}
use Rattle.position.proofs.from_float.Goals as goal

pub returns-then-value-ne8 : goal.returns-then-value-ne8
returns-then-value-ne8 c = c.refused.ensures ∙ told-length is_count NotWhole count_in c.args.value.now (λ e. omega (arith, c.if-value-ne8.true))

pub returns-then-not-is_count : goal.returns-then-not-is_count
returns-then-not-is_count c = c.refused-then-not-is_count.ensures ∙ told-cause is_count NotWhole count_in c.args.value.now c.read32-bits.result c.read32-bits.ensures (omega arith) (sym c.is_count.ensures ∙ c.if-not-is_count.true)

pub count_in-requires : goal.count_in-requires
count_in-requires c = sym c.is_count.ensures ∙ c.if-not-is_count.false

pub returns : goal.returns
returns c =
    c.with_position.ensures
    ∙ ap (λ (n : ℕ). outcome none (with_position n c.args.value.now)) c.count_in.ensures
    ∙ told-made is_count NotWhole count_in c.args.value.now c.read32-bits.result c.read32-bits.ensures (omega arith)
    (sym c.is_count.ensures ∙ c.if-not-is_count.false)
