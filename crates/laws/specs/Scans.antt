-- A scan as a relation: on which bytes it depends, what an appended entry adds, and the scan of entries laid one behind the other.
use Prim.Native.Nat.{ℕ, zero, suc, ◌+◌, ◌^◌, ◌≤◌, ◌<◌}
use Rattle.std.proofs.Math.Path.{◌≡◌, refl, ap, subst}
use Rattle.std.proofs.Common.{sym, ◌∙◌, take-append-drop, get_or-take, take-take, drop-drop, eq-eqb, ne_eqb}
use mathlib.Core.List.{List, [], ◌∷◌, ◌++◌, append-nil, map, Memᴰ}
use Rattle.std.proofs.Math.Option.{none, some}
use Rattle.std.proofs.Math.Nat.{add-zero}
use native.Mathlib.Omega.{arith}
use Rattle.std.specs.Prelude.{eqb, get_or}
use Rattle.std.proofs.Math.ListN.{length, take, drop, length-append}
use Rattle.std.proofs.Math.Seq.{take-length, take-append_seam, drop-append_seam}
use Rattle.word.specs.Number.{Bytes}
use Rattle.word.specs.Laws.{bytes-append}
use Rattle.segment.specs.Choice.{pick}
use Rattle.segment.proofs.Choice.{pick_true, pick-false}
use Rattle.segment.specs.Layout.{Layout, digest_size, table}
use Rattle.segment.proofs.LayoutFacts.{digest-not-end}
use Rattle.segment.proofs.Packed.{take-drop-take}
use Rattle.segment.specs.Entry.{Entry, Found, entry, end, damage, entry_at, encoded, size_of, WellFormed, Stands}
use Rattle.segment.proofs.EntryLaws.{length-encoded, bytes-encoded, found-fits, found-end, found-stands, stands-found, zero-end, own-bytes, own-end}
use Rattle.segment.specs.Digest.{digest_of, encoded_digest, layout_in}
use Rattle.segment.proofs.LayoutLaws.{layout-in, layout-byte}
use Rattle.segment.proofs.DigestLaws.{digest-own-bytes, digest-decoded}
use Rattle.segment.specs.declared.Digest.{Digest}
use Rattle.model.specs.Log.{Item, Scan, damaged, scanned, item_first, scan_from, scan, placed_in, digest_in, view_of}
use Rattle.model.specs.Operations.{all_encoded, placed_from}

abbrev pub item_at : ℕ → Entry → Item
item_at at x = record { offset = at; entry = x }

abbrev pub item_entries : List Item → List Entry
item_entries is = map (λ (x : Item). x.entry) is

-- ---- the relation, and that it is the scan

-- From an offset on stand these items, one behind the other, and the end stands at e.
pub data Scans (L : Layout) (s : List ℕ) : ℕ → List Item → ℕ → Type 0 where
  done : {at : ℕ} → entry_at L s at ≡ end → Scans L s at [] at
  more : {at e : ℕ} {is : List Item} (x : Entry) → entry_at L s at ≡ entry x → Scans L s (at + size_of L x) is e → Scans L s at (item_at at x ∷ is) e

module _ (L : Layout) (s : List ℕ) (f at : ℕ) where
  pub scan-entry : (x : Entry) → entry_at L s at ≡ entry x → scan_from L s (suc f) at ≡ item_first (item_at at x) (scan_from L s f (at + size_of L x))
  unfolding scan_from
  scan-entry x p = rw (p, scan_from)

  pub scan-end : entry_at L s at ≡ end → scan_from L s (suc f) at ≡ scanned [] at
  unfolding scan_from
  scan-end p = rw (p, scan_from)

  pub scan-damage : entry_at L s at ≡ damage → scan_from L s (suc f) at ≡ damaged
  unfolding scan_from
  scan-damage p = rw (p, scan_from)

-- a scan that begins with an item goes on behind it
pub item-first : {i : Item} {is : List Item} {e : ℕ} (r : Scan) → item_first i r ≡ scanned is e → (js : List Item) × (r ≡ scanned js e) × (i ∷ js ≡ is)
unfolding item_first
item-first damaged p = let z : ◌≡◌ {A = ℕ} 0 1 = cc in absurd (omega arith)
item-first (scanned js k) p = (js, cc, cc)

module _ (L : Layout) (s : List ℕ) where
  pub scanned-scans : (f at : ℕ) {is : List Item} {e : ℕ} → scan_from L s f at ≡ scanned is e → Scans L s at is e
  unfolding scan_from
  scanned-scans zero at p = let z : ◌≡◌ {A = ℕ} 0 1 = cc in absurd (omega arith)
  scanned-scans (suc f) at {is} {e} p = go (entry_at L s at) refl (λ b js q. scanned-scans f b q)
    where
      go : (r : Found) → entry_at L s at ≡ r → ((b : ℕ) (js : List Item) → scan_from L s f b ≡ scanned js e → Scans L s b js e) → Scans L s at is e
      go (entry x) q below =
          let (js, rest, all) = item-first (scan_from L s f (at + size_of L x)) (sym (scan-entry L s f at x q) ∙ p) in
          subst (λ (l : List Item). Scans L s at l e) all (more x q (below (at + size_of L x) js rest))
      go end q below =
          let nothing : [] ≡ is = cc (scan-end L s f at q) in
          let here : at ≡ e = cc (scan-end L s f at q) in
          subst (λ (l : List Item). Scans L s at l e) nothing (subst (λ (k : ℕ). Scans L s at [] k) here (done q))
      go damage q below = let z : ◌≡◌ {A = ℕ} 0 1 = cc (scan-damage L s f at q) in absurd (omega arith)

  -- each entry is at least a byte long, so that fuel for each byte from the offset on suffices
  pub scans-scanned : {at e : ℕ} {is : List Item} → Scans L s at is e → (f : ℕ) → length s < at + f → scan_from L s f at ≡ scanned is e
  unfolding item_first
  scans-scanned (done {at} p) zero h = absurd (omega (arith, (found-end L s at p).0))
  scans-scanned (done {at} p) (suc f) h = scan-end L s f at p
  scans-scanned (more {at} x p r) zero h = absurd (omega (arith, found-fits L s at x p))
  scans-scanned (more {at} x p r) (suc f) h =
      scan-entry L s f at x p ∙ ap (item_first (item_at at x)) (scans-scanned r f (omega arith))

  pub scan-scans : {is : List Item} {e : ℕ} → scan L s ≡ scanned is e → Scans L s (digest_size L) is e
  scan-scans p = scanned-scans (suc (length s)) (digest_size L) p

  pub scans-scan : {is : List Item} {e : ℕ} → Scans L s (digest_size L) is e → scan L s ≡ scanned is e
  scans-scan r = scans-scanned r (suc (length s)) (omega arith)

-- ---- parts of lists

-- a list begins with a and then b
module _ (a b l : List ℕ) where
  pub part-first : take (length (a ++ b)) l ≡ a ++ b → take (length a) l ≡ a
  part-first e =
      sym (take-take (length a) (length (a ++ b)) l (omega (arith, length-append a b))) ∙ ap (take (length a)) e ∙ take-append_seam a b

  pub part-second : take (length (a ++ b)) l ≡ a ++ b → take (length b) (drop (length a) l) ≡ b
  part-second e =
      sym (take-drop-take (length b) (length a) (length (a ++ b)) l (omega (arith, length-append a b)))
      ∙ ap (λ (m : List ℕ). take (length b) (drop (length a) m)) e
      ∙ ap (take (length b)) (drop-append_seam a b)
      ∙ take-length b

-- lists with one front have its bytes and its parts
module _ (m : ℕ) (s t : List ℕ) (same : take m t ≡ take m s) where
  pub byte-alike : (k : ℕ) → k < m → get_or t k 0 ≡ get_or s k 0
  byte-alike k h = sym (get_or-take m t k 0 h) ∙ ap (λ (l : List ℕ). get_or l k 0) same ∙ get_or-take m s k 0 h

  pub part-alike : (k w : ℕ) → k + w ≤ m → take w (drop k t) ≡ take w (drop k s)
  part-alike k w h = sym (take-drop-take w k m t h) ∙ ap (λ (l : List ℕ). take w (drop k l)) same ∙ take-drop-take w k m s h

-- ---- what is known of the items

module _ {L : Layout} {s : List ℕ} where
  pub scans-low : {at e : ℕ} {is : List Item} → Scans L s at is e → at ≤ e
  scans-low (done p) = omega arith
  scans-low (more x p r) = omega (arith, scans-low r)

  pub scans-high : {at e : ℕ} {is : List Item} → Scans L s at is e → e ≤ length s
  scans-high (done {at} p) = (found-end L s at p).0
  scans-high (more x p r) = scans-high r

  pub scans-found : {at e : ℕ} {is : List Item} {i : Item} → Scans L s at is e → Memᴰ i is → entry_at L s i.offset ≡ entry i.entry
  scans-found {i = i} (done {at = at} _) m = elim m [ ]
  scans-found (more x p r) (Memᴰ.head q) = subst (λ (j : Item). entry_at L s j.offset ≡ entry j.entry) (sym q) p
  scans-found (more x p r) (Memᴰ.tail m) = scans-found r m

  -- of a segment of bytes, the items are entries of the layout, and their bytes are those that stand there
  pub scans-stands : {at e : ℕ} {is : List Item} {i : Item} → Bytes s → Scans L s at is e → Memᴰ i is → Stands L s i.offset i.entry
  scans-stands {i = i} h r m = found-stands L s i.offset i.entry (scans-found r m) h

  -- from the offset on the items fill the segment up to their end
  pub scans-total : {at e : ℕ} {is : List Item} → Scans L s at is e → at + length (all_encoded L (item_entries is)) ≡ e
  unfolding all_encoded
  scans-total (done p) = add-zero _
  scans-total (more {is = is} x p r) =
      omega (arith, scans-total r, length-append (encoded L x) (all_encoded L (item_entries is)), length-encoded L x)

-- ---- one step of a walk

module _ {L : Layout} {s : List ℕ} where
  -- an entry that stands at the offset is the first of the items
  pub scans-more : {at e : ℕ} {is : List Item} (x : Entry) → Scans L s at is e → entry_at L s at ≡ entry x
      → (js : List Item) × (is ≡ item_at at x ∷ js) × Scans L s (at + size_of L x) js e
  scans-more x (done p) q = let z : ◌≡◌ {A = ℕ} 0 1 = cc in absurd (omega arith)
  scans-more x (more {at} {e} {is = js} y p r) q =
      let same : y ≡ x = cc in
      (js, ap (λ (z : Entry). item_at at z ∷ js) same, subst (λ (z : Entry). Scans L s (at + size_of L z) js e) same r)

  pub scans-stop : {at e : ℕ} {is : List Item} → Scans L s at is e → entry_at L s at ≡ end → is ≡ []
  scans-stop (done p) q = refl
  scans-stop (more x p r) q = let z : ◌≡◌ {A = ℕ} 0 1 = cc in absurd (omega arith)

  pub scans-sound : {at e : ℕ} {is : List Item} → Scans L s at is e → entry_at L s at ≡ damage → ⊥
  scans-sound (done p) q = let z : ◌≡◌ {A = ℕ} 0 1 = cc in omega arith
  scans-sound (more x p r) q = let z : ◌≡◌ {A = ℕ} 0 1 = cc in omega arith

-- ---- on which bytes a scan depends

module _ {L : Layout} {s : List ℕ} (t : List ℕ) (size : length t ≡ length s) where
  -- on those up to and with the kind byte at its end: where it ends with the segment, that is on all
  pub scans-agree : {at e : ℕ} {is : List Item} → Scans L s at is e → take (e + 1) t ≡ take (e + 1) s → Scans L t at is e
  scans-agree (done {at} p) q =
      done (own-end L s t at p (omega (arith, (found-end L s at p).0)) (byte-alike (at + 1) s t q at (omega arith)))
  scans-agree (more {at} {e} x p r) q =
      more x
      (own-bytes L s t at at x p (omega (arith, scans-low r, scans-high r))
      (part-alike (e + 1) s t q at (size_of L x) (omega (arith, scans-low r)))) (scans-agree r q)

  -- an entry that comes to stand at the end, with the end behind it, is one item more
  pub scans-append : {at e : ℕ} {is : List Item} (x : Entry) → Scans L s at is e → take e t ≡ take e s → Stands L t e x
      → get_or t (e + size_of L x) 0 ≡ 0 → Scans L t at (is ++ (item_at e x ∷ [])) (e + size_of L x)
  scans-append x (done {at} p) q h z =
      more x (stands-found L t at x h) (done (zero-end L t (at + size_of L x) h.fits z))
  scans-append x (more {at} {e} y p r) q h z =
      more y
      (own-bytes L s t at at y p (omega (arith, scans-low r, scans-high r))
      (part-alike e s t q at (size_of L y) (scans-low r))) (scans-append x r q h z)

-- ---- entries laid one behind the other

unfoldable pub items_from : Layout → ℕ → List Entry → List Item
items_from L at [] = []
items_from L at (x ∷ xs) = item_at at x ∷ items_from L (at + size_of L x) xs

module _ (L : Layout) where
  pub placed-items : (i at : ℕ) (xs : List Entry) → placed_in L i (items_from L at xs) ≡ placed_from L i at xs
  unfolding placed_in placed_from items_from
  placed-items i at [] = refl
  placed-items i at (x ∷ xs) = rw (placed-items i (at + size_of L x) xs)

  -- where items stand follows from the entries before them
  pub scans-items : {s : List ℕ} {at e : ℕ} {is : List Item} → Scans L s at is e → is ≡ items_from L at (item_entries is)
  unfolding items_from
  scans-items (done p) = refl
  scans-items (more {at} x p r) = ap (λ (js : List Item). item_at at x ∷ js) (scans-items r)

  pub encoded-one : (x : Entry) → all_encoded L (x ∷ []) ≡ encoded L x
  unfolding all_encoded
  encoded-one x = append-nil (encoded L x)

  pub length-all_encoded : (x : Entry) (xs : List Entry) → length (all_encoded L (x ∷ xs)) ≡ size_of L x + length (all_encoded L xs)
  unfolding all_encoded
  length-all_encoded x xs = length-append (encoded L x) (all_encoded L xs) ∙ ap (λ (n : ℕ). n + length (all_encoded L xs)) (length-encoded L x)

  pub bytes-all_encoded : (xs : List Entry) → ((x : Entry) → Memᴰ x xs → WellFormed L x) → Bytes (all_encoded L xs)
  unfolding all_encoded
  bytes-all_encoded [] h = λ i. omega arith
  bytes-all_encoded (x ∷ xs) h =
      bytes-append (encoded L x) (all_encoded L xs) (bytes-encoded L x (h x (Memᴰ.head refl))) (bytes-all_encoded xs (λ y m. h y (Memᴰ.tail m)))

  -- what begins with their bytes, with the end behind them, scans to them
  pub scans-encoded : (t : List ℕ) (at e : ℕ) (xs : List Entry) → ((x : Entry) → Memᴰ x xs → WellFormed L x)
      → e ≡ at + length (all_encoded L xs) → e ≤ length t
      → take (length (all_encoded L xs)) (drop at t) ≡ all_encoded L xs → get_or t e 0 ≡ 0 → Scans L t at (items_from L at xs) e
  unfolding items_from all_encoded
  scans-encoded t at e [] h q fits own z = subst (λ (k : ℕ). Scans L t at [] k) here (done (zero-end L t at (omega arith) (rw here z)))
    where
      here : at ≡ e
      here = omega arith
  scans-encoded t at e (x ∷ xs) h q fits own z =
      more x
      (stands-found L t at x
      (record {
        formed = h x (Memᴰ.head refl);
        fits = omega (arith, length-all_encoded x xs);
        same = ap (λ (n : ℕ). take n (drop at t)) (sym (length-encoded L x)) ∙ part-first (encoded L x) (all_encoded L xs) (drop at t) own;
      }))
      (scans-encoded t (at + size_of L x) e xs (λ y m. h y (Memᴰ.tail m)) (omega (arith, length-all_encoded x xs)) fits
      (ap (λ (l : List ℕ). take (length (all_encoded L xs)) l)
      (sym (drop-drop (length (encoded L x)) at t ∙ ap (λ (n : ℕ). drop (at + n) t) (length-encoded L x)))
      ∙ part-second (encoded L x) (all_encoded L xs) (drop at t) own) z)

-- ---- the view of a segment

-- the digest depends on its own bytes
pub layout-alike : (m : ℕ) (s t : List ℕ) → 0 < m → take m t ≡ take m s → layout_in t ≡ layout_in s
layout-alike m s t h same = layout-byte t s (byte-alike m s t same 0 h)

pub digest-alike : (L : Layout) (m : ℕ) (s t : List ℕ) → layout_in s ≡ L → digest_size L ≤ m → take m t ≡ take m s → digest_in t ≡ digest_in s
unfolding digest_in
digest-alike L m s t own h same =
    ap (λ (K : Layout). pick (eqb (get_or t 0 0) (table K).digest_kind) (some (digest_of K t)) none) (layout-alike m s t (omega arith) same ∙ own)
    ∙ ap (λ (b : ℕ). pick (eqb b (table L).digest_kind) (some (digest_of L t)) none) (byte-alike m s t same 0 (omega arith))
    ∙ ap (λ (d : Digest). pick (eqb (get_or s 0 0) (table L).digest_kind) (some d) none)
    (digest-own-bytes L t s (part-alike m s t same 0 (digest_size L) (omega arith)))
    ∙ ap (λ (K : Layout). pick (eqb (get_or s 0 0) (table K).digest_kind) (some (digest_of K s)) none) (sym own)

-- a segment whose byte 0 is 0 has none
pub no-digest : (s : List ℕ) → get_or s 0 0 ≡ 0 → digest_in s ≡ none
unfolding digest_in
no-digest s z =
    pick-false (eqb (get_or s 0 0) (table (layout_in s)).digest_kind) (some (digest_of (layout_in s) s)) none
    (ne_eqb (get_or s 0 0) (table (layout_in s)).digest_kind (λ e. digest-not-end (layout_in s) (sym e ∙ z)))

-- a segment that begins with a digest's bytes is of the digest's edition and has that digest
pub layout-begins : (L : Layout) (s : List ℕ) (d : Digest) → take (digest_size L) s ≡ encoded_digest L d → layout_in s ≡ L
layout-begins L s d own = layout-in L s (sym (get_or-take (digest_size L) s 0 0 (omega arith)) ∙ ap (λ (l : List ℕ). get_or l 0 0) own)

pub digest-begins : (L : Layout) (s : List ℕ) (d : Digest) → take (digest_size L) s ≡ encoded_digest L d
    → d.number.0 < 256 ^ 4 → d.map < 256 ^ 4 → d.next.0 < 256 ^ (table L).width → digest_in s ≡ some d
unfolding digest_in
digest-begins L s d own number map next =
    ap (λ (K : Layout). pick (eqb (get_or s 0 0) (table K).digest_kind) (some (digest_of K s)) none) (layout-begins L s d own)
    ∙ pick_true (eqb (get_or s 0 0) (table L).digest_kind) (some (digest_of L s)) none (eq-eqb (get_or s 0 0) (table L).digest_kind first)
    ∙ ap some (ap (digest_of L) (sym both) ∙ digest-decoded L d (drop (digest_size L) s) number map next)
  where
    first : get_or s 0 0 ≡ (table L).digest_kind
    first = sym (get_or-take (digest_size L) s 0 0 (omega arith)) ∙ ap (λ (l : List ℕ). get_or l 0 0) own

    both : encoded_digest L d ++ drop (digest_size L) s ≡ s
    both = ap (λ (l : List ℕ). l ++ drop (digest_size L) s) (sym own) ∙ take-append-drop (digest_size L) s

-- segments that have the same bytes up to and with the kind byte at the end are viewed alike
pub view-agree : (L : Layout) (s t : List ℕ) {is : List Item} {e : ℕ} → layout_in s ≡ L → length t ≡ length s → scan L s ≡ scanned is e
    → take (e + 1) t ≡ take (e + 1) s → view_of t ≡ view_of s
view-agree L s t {is} {e} own size p same =
    let r : Scans L s (digest_size L) is e = scan-scans L s p in
    let d : digest_in t ≡ digest_in s = digest-alike L (e + 1) s t own (omega (arith, scans-low r)) same in
    let c : scan L t ≡ scan L s = scans-scan L t (scans-agree t size r same) ∙ sym p in
    let k : layout_in t ≡ layout_in s = layout-alike (e + 1) s t (omega arith) same in
    let w : scan (layout_in t) t ≡ scan (layout_in s) s =
    ap (λ (K : Layout). scan K t) (k ∙ own) ∙ c ∙ ap (λ (K : Layout). scan K s) (sym own) in
    λ i. record { layout = k i; digest = d i; scan = w i }
