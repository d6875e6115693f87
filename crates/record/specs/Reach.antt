-- 02, R-2: the tables that a caller may reach.
use Rattle.std.specs.Prelude.{ℕ, ◌<◌, ◌≡◌, Bool, true, leb}
use Rattle.std.proofs.Common.{arith, le-leb}
use Rattle.segment.specs.Choice.{both}
use Rattle.segment.proofs.Choice.{both_true}
use Rattle.record.specs.declared.Tables.{Tables}

-- A table lies from the first to the last of them. Where the first is above the last none does.
unfoldable pub holds_table : Tables → ℕ → Bool
holds_table t n = both (leb t.first n) (leb n t.last)

-- every table there is
abbrev pub all_tables : Tables
all_tables = record { first = 0; last = 65535 }

pub all_hold : (n : ℕ) → n < 65536 → holds_table all_tables n ≡ true
unfolding holds_table
all_hold n h = both_true (leb 0 n) (leb n 65535) (le-leb 0 n (omega arith)) (le-leb n 65535 (omega (arith, h)))

-- one table alone
abbrev pub table_alone : ℕ → Tables
table_alone n = record { first = n; last = n }

pub alone-holds : (n : ℕ) → holds_table (table_alone n) n ≡ true
unfolding holds_table
alone-holds n = both_true (leb n n) (leb n n) (le-leb n n (omega arith)) (le-leb n n (omega arith))
