-- Laws of: Laws of an entry's bytes, and of what stands at an offset.
use Rattle.std.specs.Prelude.{ℕ, ◌+◌, ◌^◌, ◌≤◌, ◌<◌, ◌≡◌, refl, Bool, true, false, List, eqb, ltb, leb, length, get_or, take, drop}
use Rattle.std.proofs.Common.{sym, ◌∙◌, subst, append_assoc, arith, length-drop, length-take, take_all, lt-ltb, le-ltb, le-leb, eq-eqb, ne_eqb, ltb-true, ltb-false, leb-true, leb-false, eqb-true}
use Rattle.std.proofs.Math.Path.{ap}
use Rattle.std.proofs.Math.Option.{Option, none, some}
use Rattle.std.proofs.Math.ListN.{get_or-eq_default}
use Rattle.std.proofs.lemmas.Bool.{lt-leb, eqb-false}
use Rattle.word.specs.Number.{number_of, Bytes}
use Rattle.word.specs.Laws.{bytes_take, bytes_drop, number-at-lt}
use Rattle.segment.proofs.Choice.{pick_true, pick-false}
use Rattle.segment.specs.Layout.{Layout, layout_of_kind, value_length, is_tombstone_kind, entry_size, version_limit, good_version, table}
use Rattle.segment.proofs.LayoutLaws.{kind-tells, entry-not-end, entry-kind-byte, version-positive, version_below, version-fits}
use Rattle.segment.specs.Packed.{packed}
use Rattle.segment.proofs.Packed.{length-packed, bytes_packed, packed-rest, first-number, second-number, third-number, packed-read, field_at, first-at, length_part}
use Rattle.segment.proofs.ValueLaws.{value-known, value-back, length-of-kind, no_value, kind-back, bytes_back}
use Rattle.segment.specs.Entry.{Entry, is_tombstone, bytes_in, kind_of, value_for, encoded, size_of, decoded_entry, entry, end, damage, of_version, of_length, entry_at, WellFormed, Stands}
use Rattle.segment.specs.EntryLaws.{Readable, Reading, decoded_at, is-damage, is-end, is-entry}

-- ---- an entry and its bytes

module _ (L : Layout) (e : Entry) where
  pub entry-packed : encoded L e ≡ packed (kind_of L e) 2 4 (table L).width e.table e.key e.version (bytes_in e.value)
  entry-packed = simp append_assoc

  pub length-encoded : length (encoded L e) ≡ size_of L e
  length-encoded = ap length entry-packed ∙ length-packed (kind_of L e) 2 4 (table L).width e.table e.key e.version (bytes_in e.value)

  pub encoded-first : get_or (encoded L e) 0 0 ≡ kind_of L e
  encoded-first = refl

  pub formed-known : WellFormed L e → value_length L (kind_of L e) ≡ some (length (bytes_in e.value))
  formed-known f = value-known L e.value f.length-known

  pub formed-not-end : WellFormed L e → kind_of L e ≡ 0 → ⊥
  formed-not-end f = entry-not-end L (kind_of L e) (length (bytes_in e.value)) (formed-known f)

  pub bytes-encoded : WellFormed L e → Bytes (encoded L e)
  bytes-encoded f =
      subst Bytes (sym entry-packed)
      (bytes_packed (kind_of L e) 2 4 (table L).width e.table e.key e.version (bytes_in e.value)
      (entry-kind-byte L (kind_of L e) (length (bytes_in e.value)) (formed-known f)) f.value-bytes)

  -- what is written is read back
  pub decoded-encoded : WellFormed L e → decoded_entry L (encoded L e) ≡ e
  decoded-encoded f =
      ap (decoded_entry L) entry-packed
      ∙ λ i.
      record {
        table = first-number (kind_of L e) 2 4 (table L).width e.table e.key e.version (bytes_in e.value) f.table_fits i;
        key = second-number (kind_of L e) 2 4 (table L).width e.table e.key e.version (bytes_in e.value) f.key_fits i;
        version =
            third-number (kind_of L e) 2 4 (table L).width e.table e.key e.version (bytes_in e.value)
            (version-fits L e.version f.version-good) i;
        value = value i;
      }
    where
      value : value_for L (kind_of L e) (drop (7 + (table L).width) (packed (kind_of L e) 2 4 (table L).width e.table e.key e.version (bytes_in e.value))) ≡ e.value
      value =
          ap (value_for L (kind_of L e)) (packed-rest (kind_of L e) 2 4 (table L).width e.table e.key e.version (bytes_in e.value))
          ∙ value-back L e.value f.length-known

-- bytes whose first is the kind of entries with as many bytes of value
pub encoded-decoded : (L : Layout) (b : List ℕ) → Bytes b → 7 + (table L).width ≤ length b
    → value_length L (get_or b 0 0) ≡ some (length (drop (7 + (table L).width) b)) → encoded L (decoded_entry L b) ≡ b
encoded-decoded L b h fits known =
    entry-packed L (decoded_entry L b)
    ∙ (λ i.
    packed (kind-back L (get_or b 0 0) (drop (7 + (table L).width) b) known i) 2 4 (table L).width (decoded_entry L b).table (decoded_entry L b).key (decoded_entry L b).version
    (bytes_back L (get_or b 0 0) (drop (7 + (table L).width) b) known i))
    ∙ packed-read 2 4 (table L).width b h fits

pub decoded-at : (L : Layout) (s : List ℕ) (at n : ℕ) → decoded_entry L (take (entry_size L n) (drop at s)) ≡ decoded_at L s at n
decoded-at L s at n =
    λ i.
    record {
      table = number_of (field_at 2 1 (entry_size L n) at s (omega arith) i);
      key = number_of (field_at 4 3 (entry_size L n) at s (omega arith) i);
      version = number_of (field_at (table L).width 7 (entry_size L n) at s (omega arith) i);
      value = value_for L (first-at (entry_size L n) at s (omega arith) i) (value i);
    }
  where
    value : drop (7 + (table L).width) (take (entry_size L n) (drop at s)) ≡ take n (drop (at + (7 + (table L).width)) s)
    value =
        sym (take_all n (drop (7 + (table L).width) (take (entry_size L n) (drop at s))) (simp (length-drop, length-take) (omega arith)))
        ∙ field_at n (7 + (table L).width) (entry_size L n) at s (omega arith)

-- ---- the answer of entry_at at each test

module _ (L : Layout) (s : List ℕ) (at : ℕ) where
  pub past_end : length s < at → entry_at L s at ≡ damage
  unfolding entry_at
  past_end h =
      pick-false (ltb at (length s)) _ _ (le-ltb at (length s) (omega arith))
      ∙ pick-false (eqb at (length s)) end damage (ne_eqb at (length s) (λ e. omega arith))

  pub at-end : at ≡ length s → entry_at L s at ≡ end
  unfolding entry_at
  at-end h =
      pick-false (ltb at (length s)) _ _ (le-ltb at (length s) (omega arith)) ∙ pick_true (eqb at (length s)) end damage (eq-eqb at (length s) h)

  pub kind-end : at < length s → get_or s at 0 ≡ 0 → entry_at L s at ≡ end
  unfolding entry_at
  kind-end h k = pick_true (ltb at (length s)) _ _ (lt-ltb at (length s) h) ∙ pick_true (eqb (get_or s at 0) 0) end _ (eq-eqb (get_or s at 0) 0 k)

  -- a kind that is not 0
  inside : at < length s → (get_or s at 0 ≡ 0 → ⊥) → entry_at L s at ≡ of_length L s at (value_length L (get_or s at 0))
  unfolding entry_at
  inside h k = pick_true (ltb at (length s)) _ _ (lt-ltb at (length s) h) ∙ pick-false (eqb (get_or s at 0) 0) end _ (ne_eqb (get_or s at 0) 0 k)

  pub kind-unknown : at < length s → (get_or s at 0 ≡ 0 → ⊥) → value_length L (get_or s at 0) ≡ none → entry_at L s at ≡ damage
  unfolding of_length
  kind-unknown h k e = inside h k ∙ ap (of_length L s at) e

  module _ (n : ℕ) (h : at < length s) (e : value_length L (get_or s at 0) ≡ some n) where
    known : entry_at L s at ≡ of_length L s at (some n)
    known = inside h (entry-not-end L (get_or s at 0) n e) ∙ ap (of_length L s at) e

    pub entry-long : length s < at + entry_size L n → entry_at L s at ≡ damage
    unfolding of_length
    entry-long p = known ∙ pick-false (leb (at + entry_size L n) (length s)) _ damage (lt-leb (at + entry_size L n) (length s) p)

    whole : at + entry_size L n ≤ length s → entry_at L s at ≡ of_version L (decoded_entry L (take (entry_size L n) (drop at s)))
    unfolding of_length
    whole p = known ∙ pick_true (leb (at + entry_size L n) (length s)) _ damage (le-leb (at + entry_size L n) (length s) p)

    pub version-bad : at + entry_size L n ≤ length s → good_version L (decoded_at L s at n).version ≡ false → entry_at L s at ≡ damage
    unfolding of_version
    version-bad p g =
        whole p
        ∙ ap (of_version L) (decoded-at L s at n)
        ∙ pick-false (good_version L (decoded_at L s at n).version) (entry (decoded_at L s at n)) damage g

    pub entry_whole : at + entry_size L n ≤ length s → good_version L (decoded_at L s at n).version ≡ true
        → entry_at L s at ≡ entry (decoded_at L s at n)
    unfolding of_version
    entry_whole p g =
        whole p
        ∙ ap (of_version L) (decoded-at L s at n)
        ∙ pick_true (good_version L (decoded_at L s at n).version) (entry (decoded_at L s at n)) damage g

module _ (L : Layout) (s : List ℕ) (at : ℕ) where
  reading-whole : (n : ℕ) → at < length s → value_length L (get_or s at 0) ≡ some n → at + entry_size L n ≤ length s
      → Reading L s at (entry_at L s at)
  reading-whole n h e p = go (good_version L (decoded_at L s at n).version) refl
    where
      part : length (take n (drop (at + (7 + (table L).width)) s)) ≡ n
      part = length_part n (at + (7 + (table L).width)) s (omega arith)

      sized : length (bytes_in (decoded_at L s at n).value) ≡ n
      sized = ap length (bytes_back L (get_or s at 0) (take n (drop (at + (7 + (table L).width)) s)) (e ∙ ap some (sym part))) ∙ part

      go : (t : Bool) → good_version L (decoded_at L s at n).version ≡ t → Reading L s at (entry_at L s at)
      go true g =
          is-entry (decoded_at L s at n) (entry_whole L s at n h e p g)
          (record {
            known = e ∙ ap some (sym sized);
            fits = omega (arith, sized);
            good = g;
            same = ap (λ (m : ℕ). decoded_entry L (take (entry_size L m) (drop at s))) sized ∙ decoded-at L s at n;
          })
      go false g = is-damage (version-bad L s at n h e p g)

  reading-inside : at < length s → Reading L s at (entry_at L s at)
  reading-inside h = first (eqb (get_or s at 0) 0) refl
    where
      long : (n : ℕ) → value_length L (get_or s at 0) ≡ some n → (t : Bool) → leb (at + entry_size L n) (length s) ≡ t → Reading L s at (entry_at L s at)
      long n e true p = reading-whole n h e (leb-true (at + entry_size L n) (length s) p)
      long n e false p = is-damage (entry-long L s at n h e (leb-false (at + entry_size L n) (length s) p))

      kind : (get_or s at 0 ≡ 0 → ⊥) → (o : Option ℕ) → value_length L (get_or s at 0) ≡ o → Reading L s at (entry_at L s at)
      kind k none e = is-damage (kind-unknown L s at h k e)
      kind k (some n) e = long n e (leb (at + entry_size L n) (length s)) refl

      first : (t : Bool) → eqb (get_or s at 0) 0 ≡ t → Reading L s at (entry_at L s at)
      first true k =
          let z = eqb-true (get_or s at 0) 0 k in
          is-end (kind-end L s at h z) (omega arith) z
      first false k = kind (eqb-false (get_or s at 0) 0 k) (value_length L (get_or s at 0)) refl

  pub reading : Reading L s at (entry_at L s at)
  reading = go (ltb at (length s)) refl (eqb at (length s)) refl
    where
      go : (t : Bool) → ltb at (length s) ≡ t → (u : Bool) → eqb at (length s) ≡ u → Reading L s at (entry_at L s at)
      go true p u q = reading-inside (ltb-true at (length s) p)
      go false p true q =
          let e = eqb-true at (length s) q in
          is-end (at-end L s at e) (omega arith) (get_or-eq_default s 0 (omega arith))
      go false p false q =
          let l = ltb-false at (length s) p in
          let e = eqb-false at (length s) q in
          is-damage (past_end L s at (omega arith))

  pub found-readable : (e : Entry) → entry_at L s at ≡ entry e → Readable L s at e
  found-readable e p = go reading
    where
      go : Reading L s at (entry_at L s at) → Readable L s at e
      go (is-entry e' q a) =
          let same : e' ≡ e = cc in
          subst (Readable L s at) same a
      go (is-end q _ _) = let z : ◌≡◌ {A = ℕ} 0 1 = cc in absurd (omega arith)
      go (is-damage q) = let z : ◌≡◌ {A = ℕ} 0 1 = cc in absurd (omega arith)

  pub readable-found : (e : Entry) → Readable L s at e → entry_at L s at ≡ entry e
  readable-found e a =
      let same : decoded_at L s at (length (bytes_in e.value)) ≡ e = sym (decoded-at L s at (length (bytes_in e.value))) ∙ a.same in
      let good : good_version L (decoded_at L s at (length (bytes_in e.value))).version ≡ true =
      ap (λ (x : Entry). good_version L x.version) same ∙ a.good
      in
      entry_whole L s at (length (bytes_in e.value)) (omega (arith, a.fits)) a.known a.fits good ∙ ap entry same

  -- the end: kind 0, which also counts as standing where the segment ends
  pub found-end : entry_at L s at ≡ end → (at ≤ length s) × (get_or s at 0 ≡ 0)
  found-end p = go reading
    where
      go : Reading L s at (entry_at L s at) → (at ≤ length s) × (get_or s at 0 ≡ 0)
      go (is-entry e q _) = let z : ◌≡◌ {A = ℕ} 0 1 = cc in absurd (omega arith)
      go (is-end q h k) = (h, k)
      go (is-damage q) = let z : ◌≡◌ {A = ℕ} 0 1 = cc in absurd (omega arith)

  pub zero-end : at ≤ length s → get_or s at 0 ≡ 0 → entry_at L s at ≡ end
  zero-end h k = go (ltb at (length s)) refl
    where
      go : (t : Bool) → ltb at (length s) ≡ t → entry_at L s at ≡ end
      go true p = kind-end L s at (ltb-true at (length s) p) k
      go false p = let l = ltb-false at (length s) p in at-end L s at (omega arith)

  -- ---- what is known of an entry that is found

  module _ (e : Entry) (p : entry_at L s at ≡ entry e) where
    pub found-fits : at + size_of L e ≤ length s
    found-fits = (found-readable e p).fits

    -- its own bytes, which begin with a kind of entries as long
    abbrev own : List ℕ
    own = take (size_of L e) (drop at s)

    own_first : get_or own 0 0 ≡ get_or s at 0
    own_first = first-at (size_of L e) at s (omega arith)

    own-known : value_length L (get_or own 0 0) ≡ some (length (drop (7 + (table L).width) own))
    own-known =
        ap (value_length L) own_first
        ∙ (found-readable e p).known
        ∙ ap some (simp length-drop (omega (arith, length_part (size_of L e) at s found-fits)))

    pub found-kind : kind_of L e ≡ get_or s at 0
    found-kind =
        ap (kind_of L) (sym (found-readable e p).same)
        ∙ kind-back L (get_or own 0 0) (drop (7 + (table L).width) own) own-known
        ∙ own_first

    pub found-tombstone : is_tombstone e ≡ is_tombstone_kind L (get_or s at 0)
    found-tombstone =
        ap is_tombstone (sym (found-readable e p).same)
        ∙ no_value L (get_or own 0 0) (drop (7 + (table L).width) own)
        ∙ ap (is_tombstone_kind L) own_first

    -- the bytes behind its version are those of its value
    pub found-bytes : drop (7 + (table L).width) own ≡ bytes_in e.value
    found-bytes =
        sym (bytes_back L (get_or own 0 0) (drop (7 + (table L).width) own) own-known)
        ∙ ap (λ (x : Entry). bytes_in x.value) (found-readable e p).same

    pub found-known : value_length L (kind_of L e) ≡ some (length (bytes_in e.value))
    found-known = ap (value_length L) found-kind ∙ (found-readable e p).known

    -- its kind tells the edition in which it was read
    pub found-layout : layout_of_kind (kind_of L e) ≡ L
    found-layout = kind-tells L (kind_of L e) (length (bytes_in e.value)) found-known

    pub found-not-end : kind_of L e ≡ 0 → ⊥
    found-not-end = entry-not-end L (kind_of L e) (length (bytes_in e.value)) found-known

    pub found-good : good_version L e.version ≡ true
    found-good = (found-readable e p).good

    pub found-positive : 0 < e.version
    found-positive = version-positive L e.version found-good

    pub found_below : e.version < version_limit L
    found_below = version_below L e.version found-good

    -- of a segment of bytes, the entry is one of the layout, and its bytes are those that stand there
    pub found-stands : Bytes s → Stands L s at e
    found-stands h =
        record {
          formed =
              record {
                length-known = length-of-kind L e.value found-not-end;
                table_fits = subst (λ (x : Entry). x.table < 256 ^ 2) same (number-at-lt 2 1 own part_bytes);
                key_fits = subst (λ (x : Entry). x.key < 256 ^ 4) same (number-at-lt 4 3 own part_bytes);
                version-good = found-good;
                value-bytes = subst Bytes found-bytes (bytes_drop (7 + (table L).width) own part_bytes);
              };
          fits = found-fits;
          same = sym (ap (encoded L) (sym same) ∙ encoded-decoded L own part_bytes (omega (arith, length_part (size_of L e) at s found-fits)) own-known);
        }
      where
        part_bytes : Bytes (take (size_of L e) (drop at s))
        part_bytes = bytes_take (size_of L e) (drop at s) (bytes_drop at s h)

        same : decoded_entry L (take (size_of L e) (drop at s)) ≡ e
        same = (found-readable e p).same

  pub stands-found : (e : Entry) → Stands L s at e → entry_at L s at ≡ entry e
  stands-found e h =
      readable-found e
      (record {
        known = ap (value_length L) (sym (first-at (size_of L e) at s (omega arith)) ∙ ap (λ (b : List ℕ). get_or b 0 0) h.same) ∙ formed-known L e h.formed;
        fits = h.fits;
        good = h.formed.version-good;
        same = ap (decoded_entry L) h.same ∙ decoded-encoded L e h.formed;
      })

-- ---- reading depends on the entry's own bytes alone

module _ (L : Layout) (s t : List ℕ) (at to : ℕ) where
  -- an entry found at an offset is found wherever its bytes stand
  pub own-bytes : (e : Entry) → entry_at L s at ≡ entry e → to + size_of L e ≤ length t → take (size_of L e) (drop to t) ≡ take (size_of L e) (drop at s)
      → entry_at L t to ≡ entry e
  own-bytes e p h same =
      readable-found L t to e
      (record {
        known =
            ap (value_length L)
            (sym (first-at (size_of L e) to t (omega arith))
            ∙ ap (λ (b : List ℕ). get_or b 0 0) same
            ∙ first-at (size_of L e) at s (omega arith))
            ∙ (found-readable L s at e p).known;
        fits = h;
        good = (found-readable L s at e p).good;
        same = ap (decoded_entry L) same ∙ (found-readable L s at e p).same;
      })

pub own-end : (L : Layout) (s t : List ℕ) (at : ℕ) → entry_at L s at ≡ end → at ≤ length t → get_or t at 0 ≡ get_or s at 0 → entry_at L t at ≡ end
own-end L s t at p h same = zero-end L t at h (same ∙ (found-end L s at p).1)
