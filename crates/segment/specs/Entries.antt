-- What a walk over a segment needs of what stands at an offset: an entry without its value, the end, or damage.
use Rattle.std.specs.Prelude.{true, false}
use Rattle.segment.specs.Layout.{Layout}
use Rattle.segment.specs.Entry.{Entry, is_tombstone, Found, entry, end, damage, size_of, key_of}
use Rattle.segment.specs.declared.Header.{Header}
use Rattle.segment.specs.declared.Next.{Next}
use Rattle.segment.specs.declared.Next.TheVariants as N
use Rattle.segment.specs.declared.Read.{Read}

abbrev pub header_of : Layout → Entry → Header
header_of L e = record { key = key_of e; version = record { 0 = e.version }; tombstone = is_tombstone e; length = size_of L e }

unfoldable pub next_of : Layout → Found → Next
next_of L (entry e) = N.Entry (header_of L e)
next_of L end = N.End
next_of L damage = N.Damage

-- ---- from the reader's answer

unfoldable pub next_read : Read → Next
next_read (Read.Object k v kind n) = N.Entry (record { key = k; version = v; tombstone = false; length = n })
next_read (Read.Tombstone k v n) = N.Entry (record { key = k; version = v; tombstone = true; length = n })
next_read Read.End = N.End
next_read Read.Damage = N.Damage
