-- The reader's enum: its case for each answer, and the answer that each case tells.
use Rattle.std.specs.Prelude.{ℕ, ◌≡◌, Bool}
use Rattle.segment.specs.Layout.{Layout}
use Rattle.segment.specs.Entry.{Entry, is_tombstone, kind_of, size_of, key_of, Found, entry}
use Rattle.segment.specs.declared.Key.{Key}
use Rattle.segment.specs.declared.Version.{Version}

-- ---- the answer that each case tells

-- What it means that an answer is an entry with these fields and this length, t whether it is a tombstone.
pub record Tells (L : Layout) (f : Found) (t : Bool) (k : Key) (v : Version) (kind length : ℕ) : Type 0 where
  pub told : Entry
  pub is : f ≡ entry told
  pub tombstone : is_tombstone told ≡ t
  pub its-key : key_of told ≡ k
  pub its-version : told.version ≡ v.0
  pub its-kind : kind_of L told ≡ kind
  pub its-size : size_of L told ≡ length
