-- Laws of: What a walk over a segment needs of what stands at an offset: an entry without its value, the end, or damage.
use Rattle.std.specs.Prelude.{ℕ, ◌+◌, ◌≤◌, ◌<◌, Bool, true, false, List, length}
use Rattle.std.proofs.Math.Path.{◌≡◌, refl}
use Rattle.std.proofs.Common.{sym, ◌∙◌, ap, arith}
use Rattle.std.proofs.Math.Option.{Option, none, some}
use Rattle.segment.specs.Choice.{is_none}
use Rattle.segment.specs.Layout.{Layout, entry_size}
use Rattle.segment.specs.Entry.{Entry, is_tombstone, Found, entry, end, damage, entry_at, bytes_in, size_of, key_of, answer}
use Rattle.segment.proofs.EntryLaws.{found-fits}
use Rattle.segment.proofs.AnswerLaws.{answer-end, answer-damage, answer-tombstone, answer-object}
use Rattle.segment.specs.declared.Header.{Header}
use Rattle.segment.specs.declared.Next.{Next}
use Rattle.segment.specs.declared.Next.TheVariants as N
use Rattle.segment.specs.declared.Read.{Read}
use Rattle.segment.specs.Entries.{header_of, next_of, next_read}

-- a tombstone has no value, so that it is as long as the shortest entry
pub tombstone-size : (L : Layout) (e : Entry) → is_tombstone e ≡ true → size_of L e ≡ entry_size L 0
unfolding is_none bytes_in
tombstone-size L e = go e.value
  where
    go : (v : Option (List ℕ)) → is_none v ≡ true → entry_size L (length (bytes_in v)) ≡ entry_size L 0
    go none t = refl
    go (some b) t = let z : ◌≡◌ {A = ℕ} 0 1 = cc in absurd (omega arith)

next-answer : (L : Layout) (f : Found) → next_read (answer L f) ≡ next_of L f
unfolding next_read next_of
next-answer L (entry e) = go (is_tombstone e) refl
  where
    go : (t : Bool) → is_tombstone e ≡ t → next_read (answer L (entry e)) ≡ N.Entry (header_of L e)
    go true p =
        ap next_read (answer-tombstone L e p)
        ∙ λ i. N.Entry (record { key = key_of e; version = record { 0 = e.version }; tombstone = sym p i; length = size_of L e })
    go false p =
        ap next_read (answer-object L e p)
        ∙ λ i. N.Entry (record { key = key_of e; version = record { 0 = e.version }; tombstone = sym p i; length = size_of L e })
next-answer L end = ap next_read (answer-end L)
next-answer L damage = ap next_read (answer-damage L)

-- r is what the reader says, of the form a
pub next-read : (L : Layout) (f : Found) (r a : Read) → r ≡ answer L f → r ≡ a → next_read a ≡ next_of L f
next-read L f r a given form = ap next_read (sym form ∙ given) ∙ next-answer L f

-- ---- what the answer says of what stands there

module _ (L : Layout) (s : List ℕ) (at : ℕ) (next : Next) (given : next ≡ next_of L (entry_at L s at)) where
  pub next-entry : (h : Header) → next ≡ N.Entry h → (e : Entry) × (entry_at L s at ≡ entry e) × (header_of L e ≡ h)
  unfolding next_of
  next-entry h form = go (entry_at L s at) refl (sym given ∙ form)
    where
      go : (f : Found) → entry_at L s at ≡ f → next_of L f ≡ N.Entry h → (e : Entry) × (entry_at L s at ≡ entry e) × (header_of L e ≡ h)
      go (entry e) p q = (e, p, cc)
      go end p q = let z : ◌≡◌ {A = ℕ} 0 1 = cc in absurd (omega arith)
      go damage p q = let z : ◌≡◌ {A = ℕ} 0 1 = cc in absurd (omega arith)

  -- a walk goes on, and stays within the segment
  pub next_fits : (h : Header) → next ≡ N.Entry h → (0 < h.length) × (at + h.length ≤ length s)
  next_fits h form =
      let (e, p, q) = next-entry h form in
      let size : size_of L e ≡ h.length = ap (λ (x : Header). x.length) q in
      let fits = found-fits L s at e p in
      (omega arith, omega arith)

  -- the way to the next entry, where the header is a tombstone's
  pub next-tombstone : (h : Header) → next ≡ N.Entry h → h.tombstone ≡ true → h.length ≡ entry_size L 0
  next-tombstone h form t =
      let (e, p, q) = next-entry h form in
      sym (ap (λ (x : Header). x.length) q) ∙ tombstone-size L e (ap (λ (x : Header). x.tombstone) q ∙ t)

  pub next-end : next ≡ N.End → entry_at L s at ≡ end
  unfolding next_of
  next-end form = go (entry_at L s at) refl (sym given ∙ form)
    where
      go : (f : Found) → entry_at L s at ≡ f → next_of L f ≡ N.End → entry_at L s at ≡ end
      go (entry e) p q = let z : ◌≡◌ {A = ℕ} 0 1 = cc in absurd (omega arith)
      go end p q = p
      go damage p q = let z : ◌≡◌ {A = ℕ} 0 1 = cc in absurd (omega arith)

  pub next-damage : next ≡ N.Damage → entry_at L s at ≡ damage
  unfolding next_of
  next-damage form = go (entry_at L s at) refl (sym given ∙ form)
    where
      go : (f : Found) → entry_at L s at ≡ f → next_of L f ≡ N.Damage → entry_at L s at ≡ damage
      go (entry e) p q = let z : ◌≡◌ {A = ℕ} 0 1 = cc in absurd (omega arith)
      go end p q = let z : ◌≡◌ {A = ℕ} 0 1 = cc in absurd (omega arith)
      go damage p q = p
