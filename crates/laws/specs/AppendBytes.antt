-- An append: before its last store every slot is viewed as it was, and after it the head has one item more. Whatever stale bytes
-- stand behind the head's end.
use Rattle.std.specs.Prelude.{ℕ, ◌+◌, ◌*◌, ◌≤◌, ◌<◌, ◌≡◌, refl, Bool, true, false, List, [], ◌∷◌, ◌++◌, eqb, length, get_or, take, drop}
use Rattle.std.proofs.Common.{sym, ◌∙◌, ap, subst, arith, eqb-true}
use Rattle.std.proofs.lemmas.Bool.{eqb-false}
use Rattle.word.specs.Number.{Bytes}
use Rattle.segment.specs.Layout.{Layout}
use Rattle.segment.specs.Digest.{layout_in}
use Rattle.segment.specs.Entry.{Entry, encoded, size_of, WellFormed, Stands}
use Rattle.segment.proofs.EntryLaws.{length-encoded, bytes-encoded}
use Rattle.model.specs.Log.{Item, scanned, scan, segment_of, view_of, views_of}
use Rattle.model.specs.Operations.{commit, stored}
use Rattle.laws.specs.Stores.{StoresBytes, Within, Written, slot-inside, length-segment, segment-length, length-stored, bytes-stored, stores-bytes-take, stores-bytes-commit, within-other, within-front, prefix-within, commit-within, commit-written}
use Rattle.laws.specs.Scans.{item_at, scan-scans, scans-scan, scans-low, scans-append, digest-alike, view-agree, layout-alike}

-- the area stays one of bytes
module _ (L : Layout) (S i e : ℕ) (area : List ℕ) (x : Entry) (formed : WellFormed L x) where
  stores : StoresBytes (commit S i e (encoded L x))
  stores = stores-bytes-commit S i e (encoded L x) (bytes-encoded L x formed)

  pub append-prefix-bytes : Bytes area → (k : ℕ) → Bytes (stored area (take k (commit S i e (encoded L x))))
  append-prefix-bytes h k =
      bytes-stored area (take k (commit S i e (encoded L x))) h (stores-bytes-take k (commit S i e (encoded L x)) stores)

-- the head is slot i, its items end at e, and the entry fits behind them
module _ (L : Layout) (n S i : ℕ) (area : List ℕ) (is : List Item) (e : ℕ) (x : Entry) (whole : length area ≡ n * S) (below : i < n)
    (edition : layout_in (segment_of area S i) ≡ L) (scans : scan L (segment_of area S i) ≡ scanned is e) (formed : WellFormed L x) (fits : e + size_of L x ≤ S) where
  -- after every proper prefix of the stores each slot is viewed as before
  pub append-prefix : (k : ℕ) → k < length (commit S i e (encoded L x)) → (j : ℕ)
      → views_of (stored area (take k (commit S i e (encoded L x)))) S j ≡ views_of area S j
  append-prefix k h j = go (eqb j i) refl
    where
      within : Within S i (e + 1) (take k (commit S i e (encoded L x)))
      within = prefix-within S i e (encoded L x) (omega (arith, length-encoded L x)) (omega (arith, length-encoded L x)) k h

      own : views_of (stored area (take k (commit S i e (encoded L x)))) S i ≡ views_of area S i
      own =
          view-agree L (segment_of area S i) (segment_of (stored area (take k (commit S i e (encoded L x)))) S i) edition
          (segment-length (stored area (take k (commit S i e (encoded L x)))) area S i (length-stored area (take k (commit S i e (encoded L x)))))
          scans (within-front area within)

      go : (t : Bool) → eqb j i ≡ t → views_of (stored area (take k (commit S i e (encoded L x)))) S j ≡ views_of area S j
      go true p =
          subst (λ (m : ℕ). views_of (stored area (take k (commit S i e (encoded L x)))) S m ≡ views_of area S m) (sym (eqb-true j i p)) own
      go false p = ap view_of (within-other area within j (eqb-false j i p))

  -- after all of them the other slots are, and the head has the entry at its old end
  pub append-other : (j : ℕ) → (j ≡ i → ⊥) → views_of (stored area (commit S i e (encoded L x))) S j ≡ views_of area S j
  append-other j apart =
      ap view_of
      (within-other area
      (commit-within S i e (encoded L x) (omega (arith, length-encoded L x)) (omega (arith, length-encoded L x))) j apart)

  written : Written (segment_of area S i) (segment_of (stored area (commit S i e (encoded L x))) S i) e (encoded L x)
  written =
      commit-written S i e (encoded L x) (omega (arith, length-encoded L x)) (omega (arith, length-encoded L x)) area
      (slot-inside area n S i whole below)

  pub append-layout : (views_of (stored area (commit S i e (encoded L x))) S i).layout ≡ (views_of area S i).layout
  append-layout =
      layout-alike e (segment_of area S i) (segment_of (stored area (commit S i e (encoded L x))) S i)
      (omega (arith, scans-low (scan-scans L (segment_of area S i) scans))) written.front

  pub append-digest : (views_of (stored area (commit S i e (encoded L x))) S i).digest ≡ (views_of area S i).digest
  append-digest =
      digest-alike L e (segment_of area S i) (segment_of (stored area (commit S i e (encoded L x))) S i) edition
      (scans-low (scan-scans L (segment_of area S i) scans)) written.front

  pub append-scan : (views_of (stored area (commit S i e (encoded L x))) S i).scan ≡ scanned (is ++ (item_at e x ∷ [])) (e + size_of L x)
  append-scan =
      ap (λ (K : Layout). scan K t) (append-layout ∙ edition)
      ∙ scans-scan L t
      (scans-append t written.same_length x (scan-scans L (segment_of area S i) scans) written.front stands
      (ap (λ (m : ℕ). get_or t (e + m) 0) (sym (length-encoded L x)) ∙ written.ends))
    where
      t : List ℕ
      t = segment_of (stored area (commit S i e (encoded L x))) S i

      stands : Stands L t e x
      stands =
          record {
            formed = formed;
            fits = omega (arith, written.same_length, length-segment area S i (slot-inside area n S i whole below));
            same = ap (λ (m : ℕ). take m (drop e t)) (sym (length-encoded L x)) ∙ written.own;
          }
