-- Text that is put within so many bytes.
use Rattle.std.specs.Prelude.{ℕ, ◌+◌, ◌^◌, ◌≤◌, ◌<◌, ◌≡◌, List, [], ◌++◌, length}
use Rattle.std.proofs.Common.{subst, arith}
use Rattle.text.specs.Put.{Put}

pub record PutWithin (out out' : List ℕ) (at end : ℕ) (text : List ℕ) (room : ℕ) : Type 0 where
  pub put : Put out out' at end text
  pub within : end ≤ at + room
