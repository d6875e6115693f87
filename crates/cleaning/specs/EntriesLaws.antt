-- The entries of a segment at each test of the code. Premises are the tests as the code has them, and what its callees give.
use Rattle.std.specs.Prelude.{ℕ, ◌+◌, ◌≤◌, ◌≡◌, List, ◌∷◌, length}
use Rattle.std.proofs.Common.{◌∙◌, ap}
use Rattle.segment.specs.Layout.{Layout}
use Rattle.segment.specs.Entry.{Entry, entry, entry_at}
use Rattle.segment.specs.Entries.{header_of}
use Rattle.segment.specs.declared.Header.{Header}
use Rattle.laws.specs.Scans.{item_at}
use Rattle.index.specs.Build.{entries_at}
use Rattle.index.proofs.Entries.{entries-entry}

-- ---- what stands at an offset

-- An entry with this header stands at the offset.
pub record Meets (L : Layout) (s : List ℕ) (at : ℕ) (h : Header) : Type 0 where
  pub met : Entry
  pub is : entry_at L s at ≡ entry met
  pub its : header_of L met ≡ h
  pub fits : at + h.length ≤ length s
  pub some_byte : 1 ≤ h.length

pub entries-meets : (L : Layout) (s : List ℕ) (at : ℕ) {h : Header} (m : Meets L s at h) →
    entries_at L s at ≡ item_at at m.met ∷ entries_at L s (at + h.length)
entries-meets L s at {h} m =
    entries-entry L s at m.met m.is
    ∙ ap (λ (n : ℕ). item_at at m.met ∷ entries_at L s (at + n)) (ap (λ (g : Header). g.length) m.its)
