-- A new head: until its last store its slot has no digest and every other slot is viewed as it was; after it the slot holds the
-- digest and the entries. Whatever stale bytes the slot held.
use Prim.Native.Nat.{ℕ, zero, suc, ◌+◌, ◌*◌, ◌^◌, ◌≤◌, ◌<◌}
use Rattle.std.specs.Prelude.{◌≡◌, refl, get_or, take, drop, set}
use Rattle.std.proofs.Common.{sym, ◌∙◌, ap, subst, add-zero, arith, length-append}
use mathlib.Core.List.Memᴰ
use mathlib.Core.List.{List, [], ◌∷◌, ◌++◌, Memᴰ}
use Rattle.std.proofs.Math.Option.{none, some}
use Rattle.std.proofs.Math.ListN.{length, length-set}
use Rattle.word.specs.Number.{Bytes}
use Rattle.word.specs.Laws.{bytes-append}
use Rattle.segment.specs.Layout.{Layout, digest_size, table}
use Rattle.segment.specs.Entry.{Entry, WellFormed}
use Rattle.segment.specs.Digest.{encoded_digest, layout_in}
use Rattle.segment.proofs.DigestLaws.{length-encoded_digest, bytes-encoded_digest}
use Rattle.segment.specs.declared.Digest.{Digest}
use Rattle.model.specs.Log.{scanned, scan, segment_of, digest_in, view_of, views_of}
use Rattle.model.specs.Operations.{all_encoded, commit, stored}
use Rattle.laws.specs.Stores.{StoresBytes, Within, one_store, Written, slot-inside, length-segment, first-own, bytes-stored, stores-bytes-take, stores-bytes-commit, within-take, within-other, within-front, prefix-within, commit-within, commit-written}
use Rattle.laws.specs.Scans.{items_from, byte-alike, part-first, part-second, bytes-all_encoded, scans-scan, scans-encoded, no-digest, digest-begins, layout-begins}

-- the bytes of a new head
abbrev pub head_bytes : Layout → Digest → List Entry → List ℕ
head_bytes L d es = encoded_digest L d ++ all_encoded L es

abbrev pub head_plan : Layout → ℕ → ℕ → Digest → List Entry → List (ℕ × ℕ)
head_plan L S i d es = (i * S, 0) ∷ commit S i 0 (head_bytes L d es)

pub length-head_bytes : (L : Layout) (d : Digest) (es : List Entry) → length (head_bytes L d es) ≡ digest_size L + length (all_encoded L es)
length-head_bytes L d es =
    length-append (encoded_digest L d) (all_encoded L es) ∙ ap (λ (n : ℕ). n + length (all_encoded L es)) (length-encoded_digest L d)

-- one entry in a new head
pub formed-one : (L : Layout) (x : Entry) → WellFormed L x → (y : Entry) → Memᴰ y (x ∷ []) → WellFormed L y
formed-one L x f y m = subst (WellFormed L) (sym (Memᴰ.eq_of_singleton m)) f

-- ---- until the last store

-- the slot is i, and digest and entries fit it
module _ (L : Layout) (S i : ℕ) (area : List ℕ) (d : Digest) (es : List Entry) (fits : digest_size L + length (all_encoded L es) ≤ S) where
  pub new-head-within : Within S i 0 (head_plan L S i d es)
  new-head-within =
      subst (λ (p : ℕ). Within S i 0 ((p, 0) ∷ commit S i 0 (head_bytes L d es))) (add-zero (i * S))
      (one_store 0 0 (omega arith) (omega arith)
      (commit-within S i 0 (head_bytes L d es) (omega (arith, length-head_bytes L d es)) (omega (arith, length-head_bytes L d es))))

  -- after every proper prefix of the stores but the empty one, which leaves the area as it was, the slot has no digest
  pub new-head-prefix : (k : ℕ) → 0 < k → k < length (head_plan L S i d es)
      → (views_of (stored area (take k (head_plan L S i d es))) S i).digest ≡ none
  unfolding stored
  new-head-prefix zero p h = absurd (omega arith)
  new-head-prefix (suc k) p h =
      no-digest t
      (byte-alike 1 (segment_of (set area (i * S) 0) S i) t (within-front (set area (i * S) 0) within) 0 (omega arith)
      ∙ first-own area S i (omega arith))
    where
      t : List ℕ
      t = segment_of (stored (set area (i * S) 0) (take k (commit S i 0 (head_bytes L d es)))) S i

      within : Within S i 1 (take k (commit S i 0 (head_bytes L d es)))
      within =
          prefix-within S i 0 (head_bytes L d es) (omega (arith, length-head_bytes L d es)) (omega (arith, length-head_bytes L d es)) k
          (omega arith)

  -- after any of them, and after all, the other slots are viewed as before
  pub new-head-other-prefix : (k j : ℕ) → (j ≡ i → ⊥) → views_of (stored area (take k (head_plan L S i d es))) S j ≡ views_of area S j
  new-head-other-prefix k j apart = ap view_of (within-other area (within-take k new-head-within) j apart)

  pub new-head-other : (j : ℕ) → (j ≡ i → ⊥) → views_of (stored area (head_plan L S i d es)) S j ≡ views_of area S j
  new-head-other j apart = ap view_of (within-other area new-head-within j apart)

-- ---- after the last store

module _ (L : Layout) (d : Digest) (es : List Entry) (number : d.number.0 < 256 ^ 4) (map : d.map < 256 ^ 4)
    (next : d.next.0 < 256 ^ (table L).width) (formed : (x : Entry) → Memᴰ x es → WellFormed L x) where
  -- the view of a segment that begins with a digest and entries, with the end behind them
  pub head-view : (s t : List ℕ) → Written s t 0 (head_bytes L d es) → digest_size L + length (all_encoded L es) ≤ length s
      → view_of t ≡ record { layout = L; digest = some d; scan = scanned (items_from L (digest_size L) es) (digest_size L + length (all_encoded L es)) }
  head-view s t w fits = λ i. record { layout = edition i; digest = digest i; scan = (ap (λ (K : Layout). scan K t) edition ∙ entries) i }
    where
      own-digest : take (digest_size L) t ≡ encoded_digest L d
      own-digest =
          ap (λ (m : ℕ). take m t) (sym (length-encoded_digest L d)) ∙ part-first (encoded_digest L d) (all_encoded L es) t w.own

      own-entries : take (length (all_encoded L es)) (drop (digest_size L) t) ≡ all_encoded L es
      own-entries =
          ap (λ (m : ℕ). take (length (all_encoded L es)) (drop m t)) (sym (length-encoded_digest L d))
          ∙ part-second (encoded_digest L d) (all_encoded L es) t w.own

      at-end : digest_size L + length (all_encoded L es) ≡ 0 + length (head_bytes L d es)
      at-end = omega (arith, length-head_bytes L d es)

      edition : layout_in t ≡ L
      edition = layout-begins L t d own-digest

      digest : digest_in t ≡ some d
      digest = digest-begins L t d own-digest number map next

      entries : scan L t ≡ scanned (items_from L (digest_size L) es) (digest_size L + length (all_encoded L es))
      entries =
          scans-scan L t
          (scans-encoded L t (digest_size L) (digest_size L + length (all_encoded L es)) es formed refl (omega (arith, w.same_length))
          own-entries (ap (λ (m : ℕ). get_or t m 0) at-end ∙ w.ends))

  -- the slot holds the digest and the entries
  pub new-head-view : (n S i : ℕ) (area : List ℕ) → length area ≡ n * S → i < n → digest_size L + length (all_encoded L es) ≤ S
      → views_of (stored area (head_plan L S i d es)) S i
      ≡ record { layout = L; digest = some d; scan = scanned (items_from L (digest_size L) es) (digest_size L + length (all_encoded L es)) }
  unfolding stored
  new-head-view n S i area whole below fits =
      head-view (segment_of (set area (i * S) 0) S i) (segment_of (stored area (head_plan L S i d es)) S i)
      (commit-written S i 0 (head_bytes L d es) (omega (arith, length-head_bytes L d es)) (omega (arith, length-head_bytes L d es))
      (set area (i * S) 0) inside) (omega (arith, length-segment (set area (i * S) 0) S i inside))
    where
      inside : i * S + S ≤ length (set area (i * S) 0)
      inside = omega (arith, slot-inside area n S i whole below, length-set area (i * S) 0)

-- the area stays one of bytes
module _ (L : Layout) (S i : ℕ) (area : List ℕ) (d : Digest) (es : List Entry) (formed : (x : Entry) → Memᴰ x es → WellFormed L x) where
  stores : StoresBytes (head_plan L S i d es)
  stores zero = omega arith
  stores (suc k) =
      stores-bytes-commit S i 0 (head_bytes L d es)
      (bytes-append (encoded_digest L d) (all_encoded L es) (bytes-encoded_digest L d) (bytes-all_encoded L es formed)) k

  pub new-head-prefix-bytes : Bytes area → (k : ℕ) → Bytes (stored area (take k (head_plan L S i d es)))
  new-head-prefix-bytes h k = bytes-stored area (take k (head_plan L S i d es)) h (stores-bytes-take k (head_plan L S i d es) stores)
