-- Whatever can be passed to a start is typed: a table of 16 bits, a key of 32, a value of bytes, victims of 32 bits.
use Rattle.std.specs.Prelude.{ℕ, ◌^◌, ◌<◌, List}
use Rattle.std.proofs.Common.{arith}
use Rattle.word.specs.Number.{Bytes}
use Rattle.segment.specs.declared.Key.{Key}
use Rattle.model.specs.Operations.{write, delete, clean, TypedKey, Typed}

module _ (k : Key) (table : k.table < 2 ^ 16) (key : k.key < 2 ^ 32) where
  pub typed-key : TypedKey k
  typed-key = (omega arith, omega arith)

  pub typed-write : (value : List ℕ) → Bytes value → Typed (write k value)
  typed-write value bytes = (typed-key, bytes)

  pub typed-delete : Typed (delete k)
  typed-delete = typed-key

pub typed-clean : (victims : ℕ) → victims < 2 ^ 32 → Typed (clean victims)
typed-clean victims h = omega arith
