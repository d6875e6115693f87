-- A formatted area: recovery accepts it, with an empty log and next version 1.
use Rattle.std.specs.Prelude.{ℕ, ◌-◌, ◌*◌, ◌≤◌, ◌<◌, ◌≡◌, false, eqb, length}
use native.Mathlib.Omega.{arith}
use Rattle.std.proofs.Math.Decide.{ℕ_discrete}
use Rattle.std.proofs.Math.Path.{refl, ap}
use Rattle.std.proofs.Common.{sym, ◌∙◌, lit<, eqb-true}
use Rattle.std.proofs.Math.Bool.{true}
use mathlib.Core.List.{List, []}
use Rattle.std.proofs.Math.Option.{Option, none, some}
use Rattle.std.proofs.Math.Pow.{pow_mono}
use Rattle.std.proofs.lemmas.Bool.{not-false}
use Rattle.segment.specs.Choice.{both}
use Rattle.segment.proofs.Choice.{both_left, both_right}
use Rattle.segment.specs.Layout.{Layout, digest_size, table}
use Rattle.segment.proofs.LayoutLaws.{tombstone-length}
use Rattle.segment.specs.declared.Digest.{Digest}
use Rattle.slot_map.specs.Bit.{bit, named}
use Rattle.slot_map.proofs.BitLaws.{bit-above, clear-named}
use Rattle.slot_map.proofs.CountLaws.{used-free}
use Rattle.record.specs.Range.{slots_good, size_good, cells_good}
use Rattle.record.specs.RangeLaws.{between-low}
use Rattle.model.specs.Log.{View, Head, Placed, scanned, views_of, head_of, placed_in, is_damaged, keys_of, version_shared, highest, next_version}
use Rattle.model.specs.Recovery.{later, recovered, record_from, record_under, head_else, geometry_bad, log_slots, log_under}
use Rattle.model.specs.Operations.{log_now, first_digest, formatted}
use Rattle.laws.specs.Members.{clash}
use Rattle.laws.specs.Editions.{later_same}
use Rattle.laws.specs.FormatBytes.{length-formatted, formatted-other, formatted-head}
use Rattle.laws.specs.LogLaws.{no-parts, part_of, part-picked, part-passed, items-scanned, scanned-undamaged}
use Rattle.laws.specs.RecoverLaws.{Sound, in_map, sound-head, sound-recovered}
use Rattle.laws.specs.Entering.{Roomy}

-- map 1 names slot 0 alone
others-unnamed : (i : ℕ) → (i ≡ 0 → ⊥) → named 1 i ≡ false
others-unnamed i o = clear-named 1 i (bit-above 1 1 i (lit< tt) (omega arith))

-- ---- on views

module _ (L : Layout) (v : ℕ → View) (n e : ℕ) (some-slots : 4 ≤ n) (own : v 0 ≡ record { layout = L; digest = some first_digest; scan = scanned [] e })
    (others : (i : ℕ) → 0 < i → i < n → (v i).digest ≡ none)
  where
    abbrev first_head : Head
    first_head = record { slot = 0; digest = first_digest }

    own-scan : (v 0).scan ≡ scanned [] e
    own-scan = ap (λ (w : View). w.scan) own

    pub fresh-log : log_under v n first_head ≡ []
    unfolding bit placed_in
    fresh-log = no-parts v (log_slots first_head) n (λ i l. go i (ℕ_discrete i 0))
      where
        go : (i : ℕ) → Dec (i ≡ 0) → part_of v (log_slots first_head) i ≡ []
        go i (yes q) =
            ap (λ (k : ℕ). part_of v (log_slots first_head) k) q ∙ part-picked v (log_slots first_head) 0 refl ∙
            ap (placed_in (v 0).layout 0) (items-scanned (v 0).scan own-scan)
        go i (no q) = part-passed v (log_slots first_head) i (others-unnamed i q)

    pub fresh-sound : (k : ℕ) → Sound L v n k first_head
    unfolding bit version_shared keys_of
    fresh-sound k =
        record {
          top =
              record {
                below = omega arith;
                own = ap (λ (w : View). w.digest) own;
                above = λ i l o d q. absurd (never (sym (others i (omega arith) l) ∙ q));
              };
          numbered = λ z. omega arith;
          map-good = in_map n 0 1 (omega (arith, pow_mono {i = 1} some-slots')) refl (used-free n 1 1 (omega arith) refl);
          digests = λ i l q. at_zero i q (first_digest, ap (λ (w : View). w.digest) own);
          own = ap (λ (w : View). w.layout) own;
          editions = λ i l q. ap (λ (K : Layout). later K L) (first-edition i (ℕ_discrete i 0) q) ∙ later_same L;
          next-set = λ z. omega arith;
          scans = λ i l q. undamaged i (ℕ_discrete i 0) q;
          versions = ap version_shared fresh-log;
          keys = rw fresh-log (omega arith);
        }
      where
        some-slots' : 1 ≤ n
        some-slots' = omega arith

        never : {d : Digest} → ◌≡◌ {A = Option Digest} none (some d) → ⊥
        never q = let z : ◌≡◌ {A = ℕ} 0 1 = cc in absurd (omega arith)

        at_zero : (i : ℕ) → named 1 i ≡ true → (d : Digest) × ((v 0).digest ≡ some d) → (d : Digest) × ((v i).digest ≡ some d)
        at_zero i q x = go (ℕ_discrete i 0)
          where
            go : Dec (i ≡ 0) → (d : Digest) × ((v i).digest ≡ some d)
            go (yes p) = (x.0, ap (λ (j : ℕ). (v j).digest) p ∙ x.1)
            go (no p) = absurd (clash (named 1 i) q (others-unnamed i p))

        first-edition : (i : ℕ) → Dec (i ≡ 0) → named 1 i ≡ true → (v i).layout ≡ L
        first-edition i (yes p) q = ap (λ (j : ℕ). (v j).layout) p ∙ ap (λ (w : View). w.layout) own
        first-edition i (no p) q = absurd (clash (named 1 i) q (others-unnamed i p))

        undamaged : (i : ℕ) → Dec (i ≡ 0) → named 1 i ≡ true → is_damaged (v i).scan ≡ false
        undamaged i (yes p) q = ap (λ (j : ℕ). is_damaged (v j).scan) p ∙ scanned-undamaged (v 0).scan own-scan
        undamaged i (no p) q = absurd (clash (named 1 i) q (others-unnamed i p))

-- ---- on areas

module _ (L : Layout) (roomy : Roomy L) (n s : ℕ) (area : List ℕ) (geometry : geometry_bad n s (length area) ≡ false) where
  good : both (both (slots_good n) (size_good s)) (eqb (length area) (n * s)) ≡ true
  good = not-false (both (both (slots_good n) (size_good s)) (eqb (length area) (n * s))) geometry

  some-slots : 4 ≤ n
  some-slots = between-low 4 32 n (both_left _ _ (both_left _ _ good))

  big : 256 ≤ s
  big = between-low 256 2048 s (both_right _ _ (both_left _ _ good))

  whole : length area ≡ n * s
  whole = eqb-true (length area) (n * s) (both_right _ _ good)

  digest-room : digest_size L < s
  digest-room = omega (arith, roomy.room (table L).tombstone_kind 0 (tombstone-length L), big)

  abbrev views : ℕ → View
  views = views_of (formatted L n s area) s

  own : views 0 ≡ record { layout = L; digest = some first_digest; scan = scanned [] (digest_size L) }
  own = formatted-head L n s area digest-room whole (omega (arith, some-slots)) roomy.wide

  others : (i : ℕ) → 0 < i → i < n → (views i).digest ≡ none
  others i p l = formatted-other L n s area digest-room i p l

  sound : (k : ℕ) → Sound L views n k (record { slot = 0; digest = first_digest })
  sound k = fresh-sound L views n (digest_size L) some-slots own others k

  head-is : head_of views n ≡ some (record { slot = 0; digest = first_digest })
  head-is = sound-head L views n 16 (record { slot = 0; digest = first_digest }) (sound 16)

  pub format-recovers : (m : ℕ) → cells_good m ≡ true → recovered L n s m (formatted L n s area) ≡ some (record_from L n s m (formatted L n s area))
  unfolding head_else
  format-recovers m c =
      sound-recovered L n s m (formatted L n s area) (record { slot = 0; digest = first_digest })
      (record {
        slots-good = both_left _ _ (both_left _ _ good);
        size-good = both_right _ _ (both_left _ _ good);
        long = length-formatted L n s area ∙ whole;
        cells-good = c;
      }) (sound m) ∙
      ap (λ (o : Option Head). some (record_under L views n s m (head_else o))) (sym head-is)

  pub format-log :
      (m : ℕ) →
      (log_now (formatted L n s area) (record_from L n s m (formatted L n s area)) ≡ []) × ((record_from L n s m (formatted L n s area)).next.0 ≡ 1)
  unfolding head_else highest
  format-log m = (
    ap (λ (o : Option Head). log_under views n (head_else o)) head-is ∙ fresh-log L views n (digest_size L) some-slots own others,
    ap (λ (o : Option Head). next_version (head_else o).digest (log_under views n (head_else o))) head-is ∙
        ap (λ (l : List Placed). next_version first_digest l) (fresh-log L views n (digest_size L) some-slots own others),
  )

  -- the one slot of its log is of the layout
  pub format-slots : (i : ℕ) → i < n → named (record_from L n s 16 (formatted L n s area)).map i ≡ true → (views_of (formatted L n s area) s i).layout ≡ L
  unfolding head_else
  format-slots i l q = go (ℕ_discrete i 0)
    where
      first : named 1 i ≡ true
      first = ap (λ (o : Option Head). named (head_else o).digest.map i) (sym head-is) ∙ q

      go : Dec (i ≡ 0) → (views_of (formatted L n s area) s i).layout ≡ L
      go (yes o) = ap (λ (k : ℕ). (views k).layout) o ∙ ap (λ (w : View). w.layout) own
      go (no o) = absurd (clash (named 1 i) first (others-unnamed i o))
