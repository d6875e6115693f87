-- The numbers at each test of the code, and what they are on a recovered log.
use Rattle.std.specs.Prelude.{ℕ, ◌+◌, ◌*◌, ◌≤◌, ◌<◌, ◌≡◌, Bool, true, length, get_or, set, drop}
use Rattle.std.proofs.Math.Path.{refl, ap}
use Rattle.std.proofs.Common.{sym, ◌∙◌, ap₂, zero-add, length-take, ext_get_or, get_or-set_same, get_or-set_other}
use Rattle.std.proofs.Math.Bool.{false}
use mathlib.Core.List.{List, [], ◌∷◌}
use Rattle.std.proofs.Math.Option.{Option, none, some}
use Rattle.std.proofs.Math.Decide.{ℕ_discrete}
use Rattle.std.proofs.Math.Nat.{sub-zero}
use native.Mathlib.Omega.{arith}
use Rattle.std.proofs.lemmas.List.{set-get_or}
use Rattle.segment.specs.Choice.{pick}
use Rattle.segment.specs.Area.{segment_of}
use Rattle.segment.proofs.AreaLaws.{place-slot, object-place}
use Rattle.segment.specs.Layout.{Layout, digest_size}
use Rattle.segment.specs.Digest.{layout_in}
use Rattle.segment.specs.Entry.{Entry, entry, entry_at, is_tombstone, size_of}
use Rattle.segment.specs.Entries.{next_of}
use Rattle.segment.proofs.EntriesLaws.{next-entry, next-end, next-damage}
use Rattle.segment.specs.declared.Header.{Header}
use Rattle.segment.specs.declared.Key.{Key}
use Rattle.segment.specs.declared.Next.{Next}
use Rattle.segment.specs.declared.Next.TheVariants as N
use Rattle.slot_map.specs.Bit.{named}
use Rattle.model.specs.Log.{Item, Placed, place_of, scan, scanned, latest, object_only, present, placed_size}
use Rattle.model.specs.Counts.{fewer_bytes, object_bytes, without_live, without_victims}
use Rattle.laws.specs.Scans.{item_entries, items_from}
use Rattle.laws.specs.LogLaws.{scanned-undamaged, items-scanned}
use Rattle.laws.specs.Recounted.{length_without, without_at}
use Rattle.index.proofs.Entries.{entries-entry, entries-end, entries-damage, entries-scan}
use Rattle.counting.specs.Counting.{lost_at, header_bytes, bytes_from, segment_bytes, own_bytes}

-- ---- the walk over a segment

pub bytes-start : (L : Layout) (s : List ℕ) (at : ℕ) → at ≡ digest_size L → 0 + bytes_from L s at ≡ segment_bytes L s
bytes-start L s at e = zero-add (bytes_from L s at) ∙ ap (bytes_from L s) e

module _ (L : Layout) (s : List ℕ) (at : ℕ) (next : Next) (given : next ≡ next_of L (entry_at L s at)) where
  pub bytes-more : (h : Header) → next ≡ N.Entry h → bytes_from L s at ≡ header_bytes h + bytes_from L s (at + h.length)
  unfolding object_bytes
  bytes-more h form =
      let (e, p, q) = next-entry L s at next given h form in
      ap (λ (is : List Item). object_bytes L (item_entries is)) (entries-entry L s at e p)
      ∙ ap (λ (g : Header). header_bytes g + bytes_from L s (at + g.length)) q

  pub bytes-at-end : next ≡ N.End → bytes_from L s at ≡ 0
  unfolding object_bytes
  bytes-at-end form = ap (λ (is : List Item). object_bytes L (item_entries is)) (entries-end L s at (next-end L s at next given form))

  pub bytes-at-damage : next ≡ N.Damage → bytes_from L s at ≡ 0
  unfolding object_bytes
  bytes-at-damage form = ap (λ (is : List Item). object_bytes L (item_entries is)) (entries-damage L s at (next-damage L s at next given form))

pub header-most : (h : Header) → header_bytes h ≤ h.length
header-most h = go h.tombstone
  where
    go : (t : Bool) → pick t 0 h.length ≤ h.length
    go true = unfold pick in omega arith
    go false = unfold pick in omega arith

-- ---- the numbers of the victims

-- Below i those of the victims are 0, and from i on all are as they were.
pub record Cleared (victims i : ℕ) (old c : List ℕ) : Type 0 where
  pub below : (j : ℕ) → j < i → get_or c j 0 ≡ pick (named victims j) 0 (get_or old j 0)
  pub rest : (j : ℕ) → i ≤ j → get_or c j 0 ≡ get_or old j 0

pub clear-start : (victims : ℕ) (old : List ℕ) → Cleared victims 0 old old
clear-start victims old = record { below = λ j l. absurd (omega arith); rest = λ j l. refl }

pub clear-turn : (victims i : ℕ) (old c : List ℕ) → length c ≡ length old → Cleared victims i old c → i < length c → (v : ℕ)
    → v ≡ pick (named victims i) 0 (get_or c i 0) → Cleared victims (i + 1) old (set c i v)
clear-turn victims i old c long h l v e =
    record { below = λ j b. go j b (ℕ_discrete j i); rest = λ j b. get_or-set_other c i j v 0 (λ d. omega arith) ∙ h.rest j (omega arith) }
  where
    go : (j : ℕ) → j < i + 1 → Dec (j ≡ i) → get_or (set c i v) j 0 ≡ pick (named victims j) 0 (get_or old j 0)
    go j b (yes d) =
        ap (λ (k : ℕ). get_or (set c i v) k 0) d ∙ get_or-set_same c i v 0 l ∙ e
        ∙ ap₂ (λ (k n : ℕ). pick (named victims k) 0 n) (sym d) (h.rest i (omega arith) ∙ ap (λ (k : ℕ). get_or old k 0) (sym d))
    go j b (no d) = get_or-set_other c i j v 0 d ∙ h.below j (omega arith)

pub clear-done : (victims i : ℕ) (old c : List ℕ) → length c ≡ length old → Cleared victims i old c → length c ≤ i → c ≡ without_victims victims 0 old
clear-done victims i old c long h l =
    ext_get_or 0 c (without_victims victims 0 old) (long ∙ sym (length_without victims 0 old))
    (λ j b.
    h.below j (omega arith)
    ∙ sym (without_at victims 0 j old (omega arith) ∙ ap (λ (k : ℕ). pick (named victims k) 0 (get_or old j 0)) (zero-add j)))

-- ---- a new head

-- a segment is no longer than S
pub segment-short : (area : List ℕ) (S i : ℕ) (s : List ℕ) → s ≡ segment_of area S i → S ≤ 2048 → length s ≤ 2048
segment-short area S i s e h = omega (arith, ap length e ∙ length-take S (drop (i * S) area))

items-entries : (L : Layout) (at : ℕ) (es : List Entry) → item_entries (items_from L at es) ≡ es
unfolding items_from
items-entries L at [] = refl
items-entries L at (e ∷ es) = ap (λ (l : List Entry). e ∷ l) (items-entries L (at + size_of L e) es)

-- a segment that holds these entries has the bytes of the objects among them
pub segment-new : (L : Layout) (s : List ℕ) (es : List Entry) (k : ℕ) → layout_in s ≡ L → scan L s ≡ scanned (items_from L (digest_size L) es) k → own_bytes s ≡ object_bytes L es
segment-new L s es k of e =
    ap (λ (K : Layout). segment_bytes K s) of
    ∙ ap (λ (is : List Item). object_bytes L (item_entries is)) (entries-scan L s (scanned-undamaged (scan L s) e) ∙ items-scanned (scan L s) e)
    ∙ ap (object_bytes L) (items-entries L (digest_size L) es)

-- ---- the object that an entry of the log is

-- a number less nothing
fewer-none : (i : ℕ) (c : List ℕ) → fewer_bytes i 0 c ≡ c
fewer-none i c = ap (set c i) (sub-zero (get_or c i 0)) ∙ set-get_or c i 0

-- At the place of a key's latest entry stands what the key loses.
pub lost-latest : (S : ℕ) (area : List ℕ) (log : List Placed) (k : Key) (z : Placed) (c : List ℕ) → latest log k ≡ some z → z.offset < S
    → entry_at z.layout (segment_of area S z.slot) z.offset ≡ entry z.entry
    → lost_at S area (place_of S z) c ≡ without_live (present log k) c
unfolding lost_at present object_only
lost-latest S area log k z c is inside stands =
    ap₂ (λ (j n : ℕ). fewer_bytes j n c) (place-slot S z.slot z.offset inside) (object-place S area z.slot z.offset z.layout z.entry stands)
    ∙ go (is_tombstone z.entry)
    ∙ ap (λ (o : Option Placed). without_live (object_only o) c) (sym is)
  where
    go : (t : Bool) → fewer_bytes z.slot (pick t 0 (placed_size z)) c ≡ without_live (pick t none (some z)) c
    go true = unfold pick without_live in fewer-none z.slot c
    go false = unfold pick without_live in refl
