-- The entries of a segment at each test of the code. Premises are the tests as the code has them, and what its callees give.
-- What is proved of the definitions in `specs/EntriesLaws.antt`.
use Rattle.std.specs.Prelude.{ℕ, ◌+◌, ◌*◌, ◌≤◌, ◌<◌, ◌≡◌, true, List, [], length}
use Rattle.std.proofs.Common.{sym, ◌∙◌, ap, mul-le-mul, arith}
use Rattle.segment.specs.Layout.{Layout, entry_size}
use Rattle.segment.specs.Entry.{entry_at}
use Rattle.segment.specs.Entries.{next_of}
use Rattle.segment.proofs.EntriesLaws.{tombstone-size, next-entry, next_fits, next-end, next-damage}
use Rattle.segment.specs.declared.Header.{Header}
use Rattle.segment.specs.declared.Next.{Next}
use Rattle.segment.specs.declared.Next.TheVariants as N
use Rattle.model.specs.Log.{segment_of}
use Rattle.laws.specs.Stores.{slot-inside, length-segment}
use Rattle.index.specs.Build.{entries_at}
use Rattle.index.proofs.Entries.{entries-end, entries-damage}
use Rattle.cleaning.specs.Entries.{SlotsFit, SplitFits}
use Rattle.cleaning.specs.declared.Split.{Split}
use Rattle.cleaning.specs.EntriesLaws.{Meets}

-- ---- where slots and entries lie

module _ {split : Split} {area : List ℕ} (shape : SlotsFit split area) where
  pub area-short : length area ≤ 65536
  area-short = omega (arith, shape.whole, mul-le-mul shape.slots-high shape.size-high)

  module _ (i : ℕ) (below : i < split.slots) where
    pub slot-lies : i * split.size + split.size ≤ length area
    slot-lies = slot-inside area split.slots split.size i shape.whole below

    -- the slot's bytes
    module _ (s : List ℕ) (own : s ≡ segment_of area split.size i) where
      pub slot-long : length s ≡ split.size
      slot-long = ap length own ∙ length-segment area split.size i slot-lies

      pub entry-lies : (at n : ℕ) → at + n ≤ length s → i * split.size + at + n ≤ length area
      entry-lies at n fits = omega (arith, slot-lies, slot-long)

      pub place_short : (at n : ℕ) → at + n ≤ length s → 1 ≤ n → i * split.size + at < 65536
      place_short at n fits full = omega (arith, slot-lies, slot-long, area-short)

-- the same with other marks
pub fits-again : {split : Split} {area marks : List ℕ} (marks' : List ℕ) → SplitFits split area marks → length marks' ≡ length marks →
    SplitFits split area marks'
fits-again marks' f e = record { slots = f.slots; marks-long = e ∙ f.marks-long }

module _ (L : Layout) (s : List ℕ) (at : ℕ) (next : Next) (given : next ≡ next_of L (entry_at L s at)) where
  pub meets : (h : Header) → next ≡ N.Entry h → Meets L s at h
  meets h e =
      let (x, p, q) = next-entry L s at next given h e in
      let fits = next_fits L s at next given h e in
      record { met = x; is = p; its = q; fits = fits.1; some_byte = fits.0 }

  pub stops_end : next ≡ N.End → entries_at L s at ≡ []
  stops_end e = entries-end L s at (next-end L s at next given e)

  pub stops-damage : next ≡ N.Damage → entries_at L s at ≡ []
  stops-damage e = entries-damage L s at (next-damage L s at next given e)

-- an entry that a walk meets has a head at least
pub meets-long : (L : Layout) (s : List ℕ) (at : ℕ) {h : Header} → Meets L s at h → entry_size L 0 ≤ h.length
meets-long L s at m = omega (arith, ap (λ (g : Header). g.length) m.its)

-- a tombstone is as long as the shortest entry
pub tombstone-length : (L : Layout) (s : List ℕ) (at : ℕ) {h : Header} → Meets L s at h → h.tombstone ≡ true → h.length ≡ entry_size L 0
tombstone-length L s at m t =
    sym (ap (λ (g : Header). g.length) m.its) ∙ tombstone-size L m.met (ap (λ (g : Header). g.tombstone) m.its ∙ t)
