-- Laws of: An entry rewritten in another layout (02, R-12 and R-13): its bytes there, and what the writer leaves.
use Rattle.std.specs.Prelude.{ℕ, ◌+◌, ◌-◌, ◌≤◌, ◌≡◌, refl, Bool, true, false, List, length, take, drop}
use Rattle.std.proofs.Math.Path.{sym}
use Rattle.std.proofs.Common.{◌∙◌, ap, append_assoc, arith, length-append, length-drop, take_all}
use Rattle.std.proofs.Math.Option.{Option, none, some}
use Rattle.std.proofs.lemmas.List.Edits.{sets}
use Rattle.segment.specs.Choice.{pick, is_none, or_zero}
use Rattle.segment.proofs.Choice.{pick_true, pick-false}
use Rattle.segment.specs.Copied.{Copied}
use Rattle.segment.specs.Layout.{Layout, entry_size, object_kind, table}
use Rattle.segment.specs.Entry.{Entry, bytes_in, kind_for, kind_of, encoded, size_of, key_of, entry, entry_at}
use Rattle.segment.proofs.EntryLaws.{found-fits, found-bytes}
use Rattle.segment.specs.Entries.{header_of}
use Rattle.segment.proofs.Packed.{field_at, length_part}
use Rattle.segment.specs.Written.{encoded_head, encoded_as}
use Rattle.segment.proofs.Written.{length-encoded_head}
use Rattle.segment.specs.declared.Header.{Header}
use Rattle.segment.specs.Rewritten.{entry_bytes, kind_as, value_at}

-- ---- the kind

module _ (K : Layout) (n : ℕ) where
  pub kind-tombstone : (t : Bool) → t ≡ true → (table K).tombstone_kind ≡ kind_as K t n
  unfolding kind_as
  kind-tombstone t e = sym (pick_true t (table K).tombstone_kind (or_zero (object_kind K n)) e)

  pub kind-object : (t : Bool) → t ≡ false → or_zero (object_kind K n) ≡ kind_as K t n
  unfolding kind_as
  kind-object t e = sym (pick-false t (table K).tombstone_kind (or_zero (object_kind K n)) e)

-- the kind is told by whether there is a value, and by its length
kind-said : (K : Layout) (o : Option (List ℕ)) → kind_as K (is_none o) (length (bytes_in o)) ≡ kind_for K o
unfolding kind_as pick is_none bytes_in kind_for
kind-said K none = refl
kind-said K (some v) = refl

-- ---- the bytes

module _ (L K : Layout) (s : List ℕ) (at : ℕ) where
  -- the value as the code cuts it
  pub cut-value : (h : Header) → entry_size L 0 ≤ h.length → take (at + h.length - (at + entry_size L 0)) (drop (at + entry_size L 0) s) ≡ value_at L s at h
  cut-value h low =
      let same : at + h.length - (at + entry_size L 0) ≡ h.length - entry_size L 0 = omega arith in
      ap (λ (k : ℕ). take k (drop (at + entry_size L 0) s)) same

  length-as : (kind : ℕ) (h : Header) (value : List ℕ) → length (encoded_as K kind h.key h.version value) ≡ entry_size K (length value)
  length-as kind h value =
      omega (arith, length-append (encoded_head K kind h.key h.version) value, length-encoded_head K kind h.key h.version)

  pub length-bytes : (h : Header) → entry_size L 0 ≤ h.length → at + h.length ≤ length s →
      length (entry_bytes L K s at h) ≡ entry_size K (h.length - entry_size L 0)
  length-bytes h low fits =
      omega (
        arith,
        length-as (kind_as K h.tombstone (length (value_at L s at h))) h (value_at L s at h),
        length_part (h.length - entry_size L 0) (at + entry_size L 0) s (omega arith),
      )

  -- an entry as the code writes it
  module _ (h : Header) (value target target' : List ℕ) (place kind : ℕ) (is : value ≡ value_at L s at h) where
    pub entry-put : kind ≡ kind_as K h.tombstone (length value) → target' ≡ sets target place (encoded_as K kind h.key h.version value)
        → Copied (entry_bytes L K s at h) target place target' (place + entry_size K 0 + length value)
    entry-put k e =
        record {
          stored = e ∙ ap (sets target place) whole;
          behind = omega (arith, length-as kind h value, ap length whole);
        }
      where
        whole : encoded_as K kind h.key h.version value ≡ entry_bytes L K s at h
        whole =
            ap (λ (j : ℕ). encoded_as K j h.key h.version value) k ∙
            ap (λ (l : List ℕ). encoded_as K (kind_as K h.tombstone (length l)) h.key h.version l) is

  -- what is written is the entry that stands there
  module _ (e : Entry) (is : entry_at L s at ≡ entry e) {h : Header} (its : header_of L e ≡ h) where
    value-own : value_at L s at h ≡ bytes_in e.value
    value-own =
        let size : size_of L e ≡ h.length = ap (λ (w : Header). w.length) its in
        let head : entry_size L 0 ≡ 7 + (table L).width = omega arith in
        ap (λ (k : ℕ). take (k - entry_size L 0) (drop (at + entry_size L 0) s)) (sym size) ∙
        sym (field_at (size_of L e - entry_size L 0) (entry_size L 0) (size_of L e) at s (omega arith)) ∙
        take_all (size_of L e - entry_size L 0) (drop (entry_size L 0) (take (size_of L e) (drop at s)))
        (simp length-drop (omega (arith, length_part (size_of L e) at s (found-fits L s at e is)))) ∙
        ap (λ (k : ℕ). drop k (take (size_of L e) (drop at s))) head ∙ found-bytes L s at e is

    pub entry-own : entry_bytes L K s at h ≡ encoded K e
    entry-own =
        ap (λ (l : List ℕ). encoded_as K (kind_as K h.tombstone (length l)) h.key h.version l) value-own ∙
        ap (λ (w : Header). encoded_as K (kind_as K w.tombstone (length (bytes_in e.value))) w.key w.version (bytes_in e.value)) (sym its) ∙
        ap (λ (k : ℕ). encoded_as K k (key_of e) (record { 0 = e.version }) (bytes_in e.value)) (kind-said K e.value) ∙
        joined
      where
        joined : encoded_as K (kind_of K e) (key_of e) (record { 0 = e.version }) (bytes_in e.value) ≡ encoded K e
        joined = simp append_assoc

-- they are the same whether the entry is read in its segment or in the area around it
pub bytes-around : (L K : Layout) (area : List ℕ) (start S at : ℕ) (h : Header) → entry_size L 0 ≤ h.length → at + h.length ≤ S →
    entry_bytes L K area (start + at) h ≡ entry_bytes L K (take S (drop start area)) at h
bytes-around L K area start S at h low fits =
    let place : start + at + entry_size L 0 ≡ start + (at + entry_size L 0) = omega arith in
    ap (λ (l : List ℕ). encoded_as K (kind_as K h.tombstone (length l)) h.key h.version l)
    (ap (λ (k : ℕ). take (h.length - entry_size L 0) (drop k area)) place
    ∙ sym (field_at (h.length - entry_size L 0) (at + entry_size L 0) S start area (omega arith)))
