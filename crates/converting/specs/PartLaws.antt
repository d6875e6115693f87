-- A walk over the entries of an undamaged slot, and the slots of a log one after the other.
use Rattle.std.specs.Prelude.{ℕ, suc, ◌+◌, ◌≤◌, ◌<◌, ◌≡◌, Bool, true, false, length, get_or}
use Rattle.std.proofs.Math.Path.{refl, sym, ap}
use Rattle.std.proofs.Common.{◌∙◌, subst, add-one, arith}
use mathlib.Core.List.{List, [], ◌∷◌}
use Rattle.std.proofs.Math.Option.{none, some}
use Rattle.segment.specs.Choice.{both, either}
use Rattle.segment.proofs.Choice.{pick_true, pick-false, both_true, both-false-left, both-false-right, either-false, either-true-left, either-true-right}
use Rattle.segment.specs.Layout.{Layout, edition2, digest_size, entry_size, table}
use Rattle.segment.specs.declared.Edition.TheVariants.{First, Second}
use Rattle.segment.specs.Entry.{Entry, entry, end, entry_at, size_of}
use Rattle.segment.specs.EntryLaws.{Reading, is-entry, is-end, is-damage}
use Rattle.segment.proofs.EntryLaws.{found-fits, at-end, reading}
use Rattle.segment.proofs.LayoutLaws.{entry-not-end}
use Rattle.segment.specs.Kinds.{size_or_zero, kind_size}
use Rattle.segment.proofs.KindsLaws.{has-size}
use Rattle.segment.specs.Entries.{header_of, next_of}
use Rattle.segment.proofs.EntriesLaws.{next-entry, next-end, next-damage}
use Rattle.segment.specs.Digest.{layout_in, is_digest, digest_of}
use Rattle.segment.specs.declared.Digest.{Digest}
use Rattle.segment.specs.declared.Header.{Header}
use Rattle.segment.specs.declared.Next.{Next}
use Rattle.segment.specs.declared.Next.TheVariants as N
use Rattle.model.specs.Log.{View, Item, Scan, damaged, scanned, scan, items_of, is_damaged, digest_in, segment_of, views_of}
use Rattle.model.specs.Conversion.{entries_in, slot_bytes, rewritten}
use Rattle.laws.specs.Members.{clash}
use Rattle.laws.specs.Scans.{item_entries, Scans, scan-scans, scans-low, scans-high, scans-more, scans-stop, scans-sound}
use Rattle.drive_log.specs.Heads.{stays}
use Rattle.converting.specs.Parts.{entries_of, part_bytes, LogOf}

-- ---- a walk over a segment

-- From an offset on stand these entries, one behind the other, and then the end.
pub record Left (L : Layout) (s : List ℕ) (at : ℕ) (es : List Entry) : Type 0 where
  pub items : List Item
  pub stop : ℕ
  pub scans : Scans L s at items stop
  pub same : item_entries items ≡ es

-- An entry with this header stands there, and these are left behind it.
pub record More (L : Layout) (s : List ℕ) (at : ℕ) (es : List Entry) (h : Header) : Type 0 where
  pub first : Entry
  pub rest : List Entry
  pub is : entry_at L s at ≡ entry first
  pub its : header_of L first ≡ h
  pub size : size_of L first ≡ h.length
  pub all : es ≡ first ∷ rest
  pub left : Left L s (at + h.length) rest
  pub fits : at + h.length ≤ length s
  pub long : entry_size L 0 ≤ h.length

pub left-start : (L : Layout) (s : List ℕ) → is_damaged (scan L s) ≡ false → Left L s (digest_size L) (entries_of L s)
unfolding items_of is_damaged
left-start L s sound = go (scan L s) refl sound
  where
    go : (r : Scan) → scan L s ≡ r → is_damaged r ≡ false → Left L s (digest_size L) (item_entries (items_of r))
    go damaged e q = absurd (clash true refl q)
    go (scanned is e) p q = record { items = is; stop = e; scans = scan-scans L s p; same = refl }

module _ {L : Layout} {s : List ℕ} {at : ℕ} {es : List Entry} (l : Left L s at es) where
  pub left-inside : at ≤ length s
  left-inside = omega (arith, scans-low l.scans, scans-high l.scans)

  -- what the reader says, of each form
  module _ (next : Next) (given : next ≡ next_of L (entry_at L s at)) where
    pub left-more : (h : Header) → next ≡ N.Entry h → More L s at es h
    left-more h form =
        let (x, p, q) = next-entry L s at next given h form in
        let (js, e, r) = scans-more x l.scans p in
        let size : size_of L x ≡ h.length = ap (λ (w : Header). w.length) q in
        record {
          first = x;
          rest = item_entries js;
          is = p;
          its = q;
          size = size;
          all = sym l.same ∙ ap item_entries e;
          left = record { items = js; stop = l.stop; scans = subst (λ (k : ℕ). Scans L s (at + k) js l.stop) size r; same = refl };
          fits = omega (arith, found-fits L s at x p);
          long = omega arith;
        }

    pub left-none : next ≡ N.End → es ≡ []
    left-none form = sym l.same ∙ ap item_entries (scans-stop l.scans (next-end L s at next given form))

    pub left-sound : next ≡ N.Damage → ⊥
    left-sound form = scans-sound l.scans (next-damage L s at next given form)

-- ---- the same walk, by the kinds alone

-- An entry stands there that is so long, and these are left behind it.
pub record Sized (L : Layout) (s : List ℕ) (at : ℕ) (es : List Entry) (len : ℕ) : Type 0 where
  pub header : Header
  pub more : More L s at es header
  pub its-length : header.length ≡ len

module _ {L : Layout} {s : List ℕ} {at : ℕ} {es : List Entry} (l : Left L s at es) where
  none_left : entry_at L s at ≡ end → es ≡ []
  none_left e = sym l.same ∙ ap item_entries (scans-stop l.scans e)

  pub left-past : length s ≤ at → es ≡ []
  left-past h = none_left (at-end L s at (omega (arith, left-inside l)))

  module _ (len : ℕ) (its : len ≡ kind_size L (get_or s at 0)) where
    pub left-sized : (len ≡ 0 → ⊥) → Sized L s at es len
    unfolding size_or_zero next_of
    left-sized long = go (reading L s at)
      where
        go : Reading L s at (entry_at L s at) → Sized L s at es len
        go (is-entry x q a) =
            record {
              header = header_of L x;
              more = left-more l (next_of L (entry_at L s at)) refl (header_of L x) (ap (next_of L) q);
              its-length = sym (its ∙ ap (size_or_zero L) a.known);
            }
        go (is-end q h z) =
            let w = has-size L (get_or s at 0) (λ n. long (its ∙ n)) in
            absurd (entry-not-end L (get_or s at 0) w.0 w.1.known z)
        go (is-damage q) = absurd (scans-sound l.scans q)

    pub left-unsized : len ≡ 0 → es ≡ []
    unfolding size_or_zero
    left-unsized e = go (reading L s at)
      where
        go : Reading L s at (entry_at L s at) → es ≡ []
        go (is-entry x q a) = let size : size_of L x ≡ 0 = sym (sym e ∙ its ∙ ap (size_or_zero L) a.known) in absurd (omega arith)
        go (is-end q h z) = none_left q
        go (is-damage q) = absurd (scans-sound l.scans q)

-- ---- the bytes of a slot of the log

-- What is known of them, and that they say what the slot's view says.
pub record PartOf (L : Layout) (w : View) (part : List ℕ) : Type 0 where
  pub sound : is_damaged (scan L part) ≡ false
  pub digest : w.digest ≡ some (digest_of L part)
  pub entries : entries_in w ≡ entries_of L part

digest-there : (s : List ℕ) (d : Digest) → digest_in s ≡ some d → digest_in s ≡ some (digest_of (layout_in s) s)
unfolding digest_in
digest-there s d e = go (is_digest s) refl
  where
    go : (t : Bool) → is_digest s ≡ t → digest_in s ≡ some (digest_of (layout_in s) s)
    go true p = pick_true (is_digest s) (some (digest_of (layout_in s) s)) none p
    go false p =
        let q : digest_in s ≡ none = pick-false (is_digest s) (some (digest_of (layout_in s) s)) none p in
        let z : ◌≡◌ {A = ℕ} 0 1 = cc in
        absurd (omega arith)

module _ (area : List ℕ) (S : ℕ) {L : Layout} {p : ℕ → Bool} {n : ℕ} (log : LogOf L (views_of area S) p n) (i : ℕ) (below : i < n)
    (picked : p i ≡ true) (part : List ℕ) (its : part ≡ segment_of area S i) where
  own : layout_in (segment_of area S i) ≡ L
  own = log.editions i below picked

  same-scan : (views_of area S i).scan ≡ scan L part
  same-scan = ap (λ (K : Layout). scan K (segment_of area S i)) own ∙ ap (scan L) (sym its)

  pub part_of : PartOf L (views_of area S i) part
  part_of =
      let (d, e) = log.digests i below picked in
      record {
        sound = ap is_damaged (sym same-scan) ∙ log.scans i below picked;
        digest =
            digest-there (segment_of area S i) d e ∙ ap (λ (K : Layout). some (digest_of K (segment_of area S i))) own ∙
            ap (λ (l : List ℕ). some (digest_of L l)) (sym its);
        entries = ap (λ (r : Scan). item_entries (items_of r)) same-scan;
      }

pub part-rewritten : {L : Layout} {w : View} {part : List ℕ} (K : Layout) → PartOf L w part → rewritten K w ≡ part_bytes L K part
part-rewritten K o = (λ i. slot_bytes K (o.digest i) (o.entries i))

-- where the longer digest has room, so has either
pub digest-room : (L : Layout) {n : ℕ} → digest_size edition2 ≤ n → digest_size L ≤ n
unfolding table
digest-room First h = omega arith
digest-room Second h = h

-- ---- a test of some slot of the log: f is g of any slot below that p picks

module _ (f p g : ℕ → Bool) (step : (m : ℕ) → f (suc m) ≡ either (f m) (both (p m) (g m))) (i : ℕ) where
  pub any-skip : p i ≡ false → f i ≡ false → f (i + 1) ≡ false
  any-skip q e = ap f (add-one i) ∙ step i ∙ either-false (f i) (both (p i) (g i)) e (both-false-left (p i) (g i) q)

  pub any-turn : g i ≡ false → f i ≡ false → f (i + 1) ≡ false
  any-turn q e = ap f (add-one i) ∙ step i ∙ either-false (f i) (both (p i) (g i)) e (both-false-right (p i) (g i) q)

  pub any_found : p i ≡ true → g i ≡ true → (n : ℕ) → i < n → true ≡ f n
  any_found q t n h =
      sym
      (stays f (λ m e. step m ∙ either-true-left (f m) (both (p m) (g m)) e) (suc i) n h
      (step i ∙ either-true-right (f i) (both (p i) (g i)) (both_true (p i) (g i) q t)))

  -- where it is false, it is false of each
  pub any_none : (n : ℕ) → f n ≡ false → i < n → p i ≡ true → g i ≡ false
  any_none n e h q = go (g i) refl
    where
      go : (t : Bool) → g i ≡ t → g i ≡ false
      go true r = absurd (clash (f n) (sym (any_found q r n h)) e)
      go false r = r
