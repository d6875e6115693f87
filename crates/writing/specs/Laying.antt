-- 01, "Operations, store by store": what a start of a write or a delete lays down, as the code computes it.
use Rattle.std.specs.Prelude.{ℕ, ◌+◌, ◌*◌, ◌≤◌, ◌≡◌, refl, Bool, true, false, not, List, length}
use Rattle.std.proofs.Math.Path.{sym, ap}
use Rattle.std.proofs.Common.{◌∙◌, ap₂, zero-add, arith, length-append, eq-eqb, ne_eqb}
use Rattle.std.proofs.Math.Option.{Option, none, some}
use Rattle.std.proofs.Math.Seq.{sets}
use Rattle.segment.specs.Choice.{or_zero}
use Rattle.segment.proofs.Choice.{pick_true, pick-false}
use Rattle.segment.specs.Layout.{Layout, value_length, object_kind, entry_size, digest_size, table}
use Rattle.segment.proofs.LayoutLaws.{entry-not-end, known-either}
use Rattle.segment.specs.Entry.{Entry, kind_for, value_for, length_known, encoded, size_of}
use Rattle.segment.proofs.EntryLaws.{length-encoded}
use Rattle.segment.specs.Digest.{encoded_digest}
use Rattle.segment.proofs.DigestLaws.{length-encoded_digest}
use Rattle.segment.proofs.ValueLaws.{value-known, value-back, length-of-kind, value-tombstone, value-object, kind-back, bytes_back}
use Rattle.segment.specs.Written.{encoded_as, entry_of}
use Rattle.segment.proofs.Written.{size-said, encoded-said, sets_then}
use Rattle.segment.specs.declared.Digest.{Digest}
use Rattle.segment.specs.declared.Key.{Key}
use Rattle.slot_map.proofs.BitLaws.{bit-of-zero, within-of-le}
use Rattle.record.specs.RangeLaws.{Lent}
use Rattle.record.specs.Switch.{new_layout}
use Rattle.record.specs.declared.Pending.TheVariants.{Append, NewHead}
use Rattle.record.specs.Answered.{Start}
use Rattle.record.specs.declared.Record.{Record}
use Rattle.model.specs.Operations.{Laid, fits_with, fits_head, new_slot, new_digest, laid_append, laid_head, laid_entry, plan_of}
use Rattle.model.specs.Promises.{Begun}
use Rattle.starting.specs.Stores.{commit_stores, head_stores, commit-stores, head-stores}
use Rattle.starting.specs.NewHead.{NumberLeft, HeadReady, head-ready}
use Rattle.starting.specs.Answer.{started_with}

-- What is laid down, told and put into the work buffer.
unfoldable pub laid_begun : Record → Laid → List ℕ → Begun
laid_begun r laid work =
    let left = length (plan_of r (laid.pending 0) laid.bytes) in
    record { start = started_with r (laid.pending left) left; work = sets work 0 laid.bytes }

-- ---- an entry of one layout in another

-- all layouts know values of the same lengths
known-value : (K L : Layout) (o : Option (List ℕ)) → length_known L o ≡ true → length_known K o ≡ true
unfolding length_known
known-value K L none e = refl
known-value K L (some v) e = ap not (known-either K L (length v)) ∙ e

-- k' is the kind in K of the entry that has kind k in L
module _ (K L : Layout) (k : ℕ) (v : List ℕ) (known : value_length L k ≡ some (length v)) (k' : ℕ) (is : k' ≡ kind_for K (value_for L k v)) where
  known-there : length_known K (value_for L k v) ≡ true
  known-there =
      known-value K L (value_for L k v) (length-of-kind L (value_for L k v) (λ z. entry-not-end L k (length v) known (sym (kind-back L k v known) ∙ z)))

  pub moved-known : value_length K k' ≡ some (length v)
  moved-known = ap (value_length K) is ∙ value-known K (value_for L k v) known-there ∙ ap (λ (b : List ℕ). some (length b)) (bytes_back L k v known)

  moved_value : value_for K k' v ≡ value_for L k v
  moved_value =
      ap₂ (value_for K) is (sym (bytes_back L k v known)) ∙ value-back K (value_for L k v) known-there

-- what the code finds for the kind: a tombstone has the tombstone's, an object that of its length
module _ (K L : Layout) (k : ℕ) (v : List ℕ) where
  pub kind-dead : k ≡ (table L).tombstone_kind → (table K).tombstone_kind ≡ kind_for K (value_for L k v)
  unfolding kind_for
  kind-dead e = sym (ap (kind_for K) (value-tombstone L k v (eq-eqb k (table L).tombstone_kind e)))

  pub kind-live : (k ≡ (table L).tombstone_kind → ⊥) → or_zero (object_kind K (length v)) ≡ kind_for K (value_for L k v)
  unfolding kind_for
  kind-live e = sym (ap (kind_for K) (value-object L k v (ne_eqb k (table L).tombstone_kind e)))

-- ---- what the code may rely on

-- A record in range, and room for the entry of a value of n bytes in a work buffer of w.
pub record EntryReady (L : Layout) (r : Record) (n w : ℕ) : Type 0 where
  pub area_length : ℕ
  pub index_length : ℕ
  pub lent : Lent L r area_length index_length
  pub long : r.size ≤ w
  pub room : digest_size L + entry_size L n ≤ 256

-- ---- a new head

pub ready-head : (L : Layout) (r : Record) (n w : ℕ) → EntryReady L r n w → NumberLeft r → (slot : ℕ) → slot ≡ new_slot r → HeadReady r 0 slot
ready-head L r n w h left slot e =
    head-ready L r h.area_length h.index_length h.lent 0 (within-of-le 0 r.map (λ j. omega (arith, bit-of-zero j))) left slot e

-- ---- what the code tells and leaves in the work buffer

module _ (L : Layout) (r : Record) (e : Entry) (work work' : List ℕ) where
  append-stores : length (plan_of r ((laid_append L e).pending 0) (laid_append L e).bytes) ≡ commit_stores r.size r.end (size_of L e)
  unfolding plan_of
  append-stores = commit-stores r.size r.head r.end (size_of L e) (encoded L e) (length-encoded L e) (omega arith)

  append-laid :
      (start : Start) (left : ℕ) → start ≡ started_with r (Append (size_of L e) left) left → left ≡ commit_stores r.size r.end (size_of L e) →
      work' ≡ sets work 0 (encoded L e) → record { start = start; work = work' } ≡ laid_begun r (laid_append L e) work
  unfolding laid_begun
  append-laid start left s p q =
      let told = s ∙ ap (λ (k : ℕ). started_with r (Append (size_of L e) k) k) (p ∙ sym append-stores) in
      λ i. record { start = told i; work = q i }

  head_bytes : length (laid_head L r e).bytes ≡ digest_size L + size_of L e
  head_bytes =
      length-append (encoded_digest L (new_digest r 0)) (encoded L e)
      ∙ ap (λ (k : ℕ). k + length (encoded L e)) (length-encoded_digest L (new_digest r 0))
      ∙ ap (λ (k : ℕ). digest_size L + k) (length-encoded L e)

  head-laid :
      (start : Start) (slot left : ℕ) (d : Digest) (work₁ : List ℕ) →
      start ≡ started_with r (NewHead slot (digest_size L + size_of L e) left) left → slot ≡ new_slot r → d ≡ new_digest r 0 →
      work₁ ≡ sets work 0 (encoded_digest L d) → work' ≡ sets work₁ (digest_size L) (encoded L e) →
      left ≡ head_stores r.size (digest_size L + size_of L e) →
      record { start = start; work = work' } ≡ laid_begun r (laid_head L r e) work
  unfolding laid_begun plan_of
  head-laid start slot left d work₁ s at dd p q n =
      let stores = head-stores r.size (new_slot r) (digest_size L + size_of L e) (new_slot r * r.size, 0) (laid_head L r e).bytes head_bytes (omega arith) in
      let told =
      s ∙ ap (λ (i : ℕ). started_with r (NewHead i (digest_size L + size_of L e) left) left) at
      ∙ ap (λ (k : ℕ). started_with r (NewHead (new_slot r) (digest_size L + size_of L e) k) k) (n ∙ sym stores) in
      let bytes : work' ≡ sets work 0 (laid_head L r e).bytes =
      sets_then 0 (digest_size L) (encoded_digest L (new_digest r 0)) (encoded L e) work work₁ work'
      (length-encoded_digest L (new_digest r 0)) (p ∙ ap (λ (x : Digest). sets work 0 (encoded_digest L x)) dd)
      (q ∙ ap (λ (k : ℕ). sets work₁ k (encoded L e)) (sym (zero-add (digest_size L)))) in
      λ i. record { start = told i; work = bytes i }

-- an entry that fits the head, and one that does not: t is what the code finds for the fit
module _ (L : Layout) (r : Record) (e : Entry) (work : List ℕ) (t : Bool) (f : t ≡ fits_head L r e) where
  fits-laid : {b : Begun} → t ≡ true → b ≡ laid_begun r (laid_append L e) work → b ≡ laid_begun r (laid_entry L r e) work
  fits-laid h g = g ∙ ap (λ (x : Laid). laid_begun r x work) (sym (pick_true (fits_head L r e) (laid_append L e) (laid_head (new_layout r) r e) (sym f ∙ h)))

  new-laid : {b : Begun} → t ≡ false → b ≡ laid_begun r (laid_head (new_layout r) r e) work → b ≡ laid_begun r (laid_entry L r e) work
  new-laid h g = g ∙ ap (λ (x : Laid). laid_begun r x work) (sym (pick-false (fits_head L r e) (laid_append L e) (laid_head (new_layout r) r e) (sym f ∙ h)))

-- ---- the entry that the code's arguments say, and its length m as the code has it

module _ (L : Layout) (r : Record) (kind : ℕ) (key : Key) (value : List ℕ) (known : value_length L kind ≡ some (length value)) (m : ℕ)
    (long : m ≡ entry_size L (length value)) where
  abbrev said_entry : Entry
  said_entry = entry_of L kind key r.next value

  size : m ≡ size_of L said_entry
  size = long ∙ sym (size-said L kind key r.next value known)

  module _ (work work' : List ℕ) where
    pub append-said :
        (start : Start) (left : ℕ) → start ≡ started_with r (Append m left) left →
        left ≡ commit_stores r.size r.end m → work' ≡ sets work 0 (encoded_as L kind key r.next value) →
        record { start = start; work = work' } ≡ laid_begun r (laid_append L said_entry) work
    append-said start left s p q =
        append-laid L r said_entry work work' start left (s ∙ ap (λ (n : ℕ). started_with r (Append n left) left) size)
        (p ∙ ap (commit_stores r.size r.end) size) (q ∙ ap (sets work 0) (encoded-said L kind key r.next value known))

    pub head-said :
        (b : ℕ) → b ≡ digest_size L → (start : Start) (slot left : ℕ) (d : Digest) (work₁ : List ℕ) →
        start ≡ started_with r (NewHead slot (b + m) left) left → slot ≡ new_slot r → d ≡ new_digest r 0 →
        work₁ ≡ sets work 0 (encoded_digest L d) → work' ≡ sets work₁ b (encoded_as L kind key r.next value) →
        left ≡ head_stores r.size (b + m) →
        record { start = start; work = work' } ≡ laid_begun r (laid_head L r said_entry) work
    head-said b behind start slot left d work₁ s at dd p q n =
        let whole : b + m ≡ digest_size L + size_of L said_entry = ap₂ (λ (x y : ℕ). x + y) behind size in
        head-laid L r said_entry work work' start slot left d work₁
        (s ∙ ap (λ (x : ℕ). started_with r (NewHead slot x left) left) whole) at dd p
        (q ∙ ap₂ (λ (x : ℕ) (l : List ℕ). sets work₁ x l) behind (encoded-said L kind key r.next value known))
        (n ∙ ap (head_stores r.size) whole)

  -- t is what the code finds for the fit of that length
  module _ (work : List ℕ) (t : Bool) (f : t ≡ fits_with L r m) where
    fit : t ≡ fits_head L r said_entry
    fit = f ∙ ap (fits_with L r) size

    pub fits_said : {b : Begun} → t ≡ true → b ≡ laid_begun r (laid_append L said_entry) work → b ≡ laid_begun r (laid_entry L r said_entry) work
    fits_said h g = fits-laid L r said_entry work t fit h g

    -- in a new head the entry has the kind that the head's edition gives it
    pub new-said :
        {b : Begun} (into : Layout) → into ≡ new_layout r → (kind' : ℕ) → kind' ≡ kind_for into (value_for L kind value) → t ≡ false →
        b ≡ laid_begun r (laid_head into r (entry_of into kind' key r.next value)) work → b ≡ laid_begun r (laid_entry L r said_entry) work
    new-said into new kind' is h g =
        new-laid L r said_entry work t fit h
        (g
        ∙ ap (λ (v : Option (List ℕ)). laid_begun r (laid_head into r (record { table = key.table; key = key.key; version = r.next.0; value = v })) work)
        (moved_value into L kind value known kind' is)
        ∙ ap (λ (K : Layout). laid_begun r (laid_head K r said_entry) work) new)
