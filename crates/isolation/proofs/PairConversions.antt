-- Conversions in two worlds that differ in hidden values alone: 28 goes by editions, 29 by lengths
-- and 30 by versions, which no value's bytes change (02, R-12, R-13).
use Prim.Native.Nat.{ℕ, zero, suc, ◌+◌, ◌<◌}
use native.Mathlib.Omega.{arith}
use mathlib.Core.Path.{◌≡◌, refl, sym, ap, ap₂, ◌∙◌}
use mathlib.Core.Bool.{Bool, true, false, not}
use mathlib.Core.List.{List, [], ◌∷◌, map}
use mathlib.Core.Option.{Option, none, some}
use lib.Dec.{ltb}
use lib.ListN.{length, length-append}
use Rattle.segment.specs.Choice.{both, either}
use Rattle.segment.specs.Layout.{Layout, other_layout, version_limit}
use Rattle.segment.specs.Entry.{Entry}
use Rattle.segment.specs.Digest.{encoded_digest}
use Rattle.segment.specs.declared.Digest.{Digest}
use Rattle.record.specs.Answers.{taken, said_by, convert_said}
use Rattle.record.specs.Answered.{ConvertAnswer}
use Rattle.record.specs.declared.Refusal.{Refusal}
use Rattle.record.specs.declared.Refusal.TheVariants.{Geometry, MixedEditions}
use Rattle.model.specs.Log.{View, Item, Scan, Head, views_of, head_of, items_of}
use Rattle.model.specs.Causes.{when, first_cause}
use Rattle.model.specs.Recovery.{head_else, log_slots, image_layout, other_edition, geometry_bad, recovered, record_from}
use Rattle.model.specs.Operations.{all_encoded}
use Rattle.model.specs.Conversion.{entries_in, slot_bytes, rewritten, slot_too_long, version_too_wide, next_too_wide, slot_too_wide, target_layout, image_slots, fit_causes, convert_causes, ConvertPromise}
use Rattle.laws.specs.RecoverLaws.{recovered-image}
use Rattle.history.proofs.Scannings.{convert-first}
use Rattle.isolation.proofs.HiddenBytes.{hidden, hidden_item, hidden_scan, scan-items, encoded-hidden}
use Rattle.isolation.proofs.Alike.{AlikeViews, Alike, head-alike, other-alike}

module _ (of : ℕ → Bool) where
  -- ---- entries

  entries-hidden : (is : List Item) → map (λ (x : Item). x.entry) (map (hidden_item of) is) ≡ map (hidden of) (map (λ (x : Item). x.entry) is)
  entries-hidden [] = refl
  entries-hidden (x ∷ is) = ap (λ (r : List Entry). hidden of x.entry ∷ r) (entries-hidden is)

  entries-same : (w w' : View) → hidden_scan of w.scan ≡ hidden_scan of w'.scan → map (hidden of) (entries_in w) ≡ map (hidden of) (entries_in w')
  entries-same w w' e = sym (one w) ∙ ap (λ (c : Scan). map (λ (x : Item). x.entry) (items_of c)) e ∙ one w'
    where
      one : (u : View) → map (λ (x : Item). x.entry) (items_of (hidden_scan of u.scan)) ≡ map (hidden of) (entries_in u)
      one u = ap (map (λ (x : Item). x.entry)) (scan-items of u.scan) ∙ entries-hidden (items_of u.scan)

  module _ (K : Layout) where
    bytes-hidden : (d : Option Digest) (es : List Entry) → length (slot_bytes K d (map (hidden of) es)) ≡ length (slot_bytes K d es)
    unfolding slot_bytes
    bytes-hidden none es = refl
    bytes-hidden (some d) es =
        length-append (encoded_digest K d) (all_encoded K (map (hidden of) es)) ∙
        ap (λ (k : ℕ). length (encoded_digest K d) + k) (encoded-hidden of K es) ∙ sym (length-append (encoded_digest K d) (all_encoded K es))

    wide-hidden : (es : List Entry) → version_too_wide K (map (hidden of) es) ≡ version_too_wide K es
    unfolding version_too_wide
    wide-hidden [] = refl
    wide-hidden (e ∷ es) = ap (either (not (ltb e.version (version_limit K)))) (wide-hidden es)

    -- ---- one slot

    module _ (w w' : View) (d : w.digest ≡ w'.digest) (e : hidden_scan of w.scan ≡ hidden_scan of w'.scan) where
      slot-long : length (rewritten K w) ≡ length (rewritten K w')
      slot-long =
          sym (bytes-hidden w.digest (entries_in w)) ∙ ap₂ (λ (x : Option Digest) (es : List Entry). length (slot_bytes K x es)) d (entries-same w w' e) ∙
          bytes-hidden w'.digest (entries_in w')

      slot-wide : either (next_too_wide K w.digest) (version_too_wide K (entries_in w)) ≡ either (next_too_wide K w'.digest) (version_too_wide K (entries_in w'))
      slot-wide =
          ap₂ (λ (x : Option Digest) (t : Bool). either (next_too_wide K x) t) d
          (sym (wide-hidden (entries_in w)) ∙ ap (version_too_wide K) (entries-same w w' e) ∙ wide-hidden (entries_in w'))

    -- ---- the slots of the log

    module _ (v v' : ℕ → View) (p : ℕ → Bool) where
      abbrev SameBelow : ℕ → Type 0
      SameBelow n = (i : ℕ) → i < n → p i ≡ true → ((v i).digest ≡ (v' i).digest) × (hidden_scan of (v i).scan ≡ hidden_scan of (v' i).scan)

      long-alike : (S n : ℕ) → SameBelow n → slot_too_long K v p S n ≡ slot_too_long K v' p S n
      unfolding slot_too_long both
      long-alike S zero f = refl
      long-alike S (suc n) f = ap₂ either (long-alike S n (λ i l. f i (omega arith))) (go (p n) refl)
        where
          go : (t : Bool) → p n ≡ t → both t (ltb S (length (rewritten K (v n)))) ≡ both t (ltb S (length (rewritten K (v' n))))
          go true e = let same = f n (omega arith) e in ap (ltb S) (slot-long (v n) (v' n) same.0 same.1)
          go false e = refl

      wide-alike : (n : ℕ) → SameBelow n → slot_too_wide K v p n ≡ slot_too_wide K v' p n
      unfolding slot_too_wide both
      wide-alike zero f = refl
      wide-alike (suc n) f = ap₂ either (wide-alike n (λ i l. f i (omega arith))) (go (p n) refl)
        where
          go :
              (t : Bool) → p n ≡ t → both t (either (next_too_wide K (v n).digest) (version_too_wide K (entries_in (v n)))) ≡
              both t (either (next_too_wide K (v' n).digest) (version_too_wide K (entries_in (v' n))))
          go true e = let same = f n (omega arith) e in slot-wide (v n) (v' n) same.0 same.1
          go false e = refl

      fit-alike : (S n : ℕ) → AlikeViews of n p v v' → fit_causes K v p S n ≡ fit_causes K v' p S n
      fit-alike S n a = rw (long-alike S n below, wide-alike n below)
        where
          below : SameBelow n
          below i l e = (a.digests i l, a.scans i l e)

-- ---- two worlds

module _ (of : ℕ → Bool) (L : Layout) (n s m m' : ℕ) (area area' : List ℕ) (base : recovered L n s m area ≡ some (record_from L n s m area))
    (base' : recovered L n s m' area' ≡ some (record_from L n s m' area')) (alike : Alike of n s (record_from L n s 16 area).map area area')
  where
    causes-same : (long : ℕ) → first_cause (convert_causes n s area long) ≡ first_cause (convert_causes n s area' long)
    causes-same long =
        convert-first L n s m area (record_from L n s m area) base long ∙
        (λ i. first_cause (when (geometry_bad n s long) Geometry ∷ (when (mixed-same i) MixedEditions ∷ fits-same i))) ∙
        sym (convert-first L n s m' area' (record_from L n s m' area') base' long)
      where
        v : ℕ → View
        v = views_of area s

        v' : ℕ → View
        v' = views_of area' s

        layouts : image_layout n s area ≡ image_layout n s area'
        layouts = recovered-image L n s m area (record_from L n s m area) base ∙ sym (recovered-image L n s m' area' (record_from L n s m' area') base')

        heads : head_of v n ≡ head_of v' n
        heads = head-alike of v v' n alike.views.digests

        mixed-same : other_edition (image_layout n s area) v (image_slots n s area) n ≡ other_edition (image_layout n s area') v' (image_slots n s area') n
        mixed-same =
            ap (λ (K : Layout). other_edition K v (image_slots n s area) n) layouts ∙
            other-alike of v v' (image_layout n s area') (image_slots n s area) n alike.views.layouts ∙
            ap (λ (h : Option Head). other_edition (image_layout n s area') v' (log_slots (head_else h)) n) heads

        fits-same : fit_causes (target_layout n s area) v (image_slots n s area) s n ≡ fit_causes (target_layout n s area') v' (image_slots n s area') s n
        fits-same =
            ap (λ (K : Layout). fit_causes (other_layout K) v (image_slots n s area) s n) layouts ∙
            fit-alike of (target_layout n s area') v v' (image_slots n s area) s n alike.views ∙
            ap (λ (h : Option Head). fit_causes (target_layout n s area') v' (log_slots (head_else h)) s n) heads

    -- Conversions into memory of one length answer the same.
    pub convert-both :
        (target target' target₁ target₁' : List ℕ) (a a' : ConvertAnswer) → length target ≡ length target' → ConvertPromise n s area target target₁ a →
        ConvertPromise n s area' target' target₁' a' → convert_said a ≡ convert_said a'
    convert-both target target' target₁ target₁' a a' long p p' =
        p.says ∙
        ap (λ (c : Option Refusal). said_by c taken)
        (causes-same (length target) ∙ ap (λ (k : ℕ). first_cause (convert_causes n s area' k)) long) ∙
        sym p'.says
