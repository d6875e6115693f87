-- A format: slot 0 is viewed as an empty head, and no other slot has a digest.
use Rattle.std.specs.Prelude.{ℕ, zero, suc, ◌+◌, ◌*◌, ◌^◌, ◌≤◌, ◌<◌, ◌≡◌, refl, Bool, true, false, eqb, length, get_or, set}
use Rattle.std.proofs.Common.{sym, ◌∙◌, ap, subst, arith, lit<, length-set, length-append, eqb-true}
use mathlib.Core.List.Memᴰ
use mathlib.Core.List.{List, [], ◌∷◌, ◌++◌, append-nil}
use Rattle.std.proofs.Math.Option.{none, some}
use Rattle.std.proofs.Math.Nat.{pow-le-pow_right}
use Rattle.std.proofs.lemmas.List.Edits.{sets}
use Rattle.std.proofs.lemmas.Bool.{eqb-false}
use Rattle.word.specs.Number.{Bytes}
use Rattle.word.specs.Laws.{bytes-set, bytes-append, sets-append}
use Rattle.segment.specs.Layout.{Layout, digest_size, table}
use Rattle.segment.specs.Digest.{encoded_digest}
use Rattle.segment.proofs.DigestLaws.{length-encoded_digest, bytes-encoded_digest}
use Rattle.model.specs.Log.{scanned, segment_of, views_of}
use Rattle.model.specs.Operations.{all_encoded, stores_from, stored, cleared, first_digest, formatted}
use Rattle.laws.specs.Stores.{Written, slot-inside, length-segment, first-own, first-other, length-stored, bytes-stored, stores-bytes-from, run-own, run-other, written-ended}
use Rattle.laws.specs.Scans.{items_from, no-digest}
use Rattle.laws.specs.NewHeadBytes.{head-view}

-- ---- byte 0 of every slot

pub length-cleared : (S n : ℕ) (area : List ℕ) → length (cleared S n area) ≡ length area
unfolding cleared
length-cleared S zero area = refl
length-cleared S (suc n) area = length-set (cleared S n area) (n * S) 0 ∙ length-cleared S n area

pub bytes-cleared : (S n : ℕ) (area : List ℕ) → Bytes area → Bytes (cleared S n area)
unfolding cleared
bytes-cleared S zero area h = h
bytes-cleared S (suc n) area h = bytes-set (cleared S n area) (n * S) 0 (bytes-cleared S n area h) (omega arith)

pub cleared-first : (S n : ℕ) (area : List ℕ) (i : ℕ) → 0 < S → i < n → get_or (segment_of (cleared S n area) S i) 0 0 ≡ 0
unfolding cleared
cleared-first S zero area i some_byte h = absurd (omega arith)
cleared-first S (suc n) area i some_byte h = go (eqb i n) refl (λ l. cleared-first S n area i some_byte l)
  where
    go : (t : Bool) → eqb i n ≡ t → (i < n → get_or (segment_of (cleared S n area) S i) 0 0 ≡ 0)
        → get_or (segment_of (set (cleared S n area) (n * S) 0) S i) 0 0 ≡ 0
    go true p below =
        subst (λ (m : ℕ). get_or (segment_of (set (cleared S n area) (n * S) 0) S m) 0 0 ≡ 0) (sym (eqb-true i n p))
        (first-own (cleared S n area) S n some_byte)
    go false p below =
        let apart = eqb-false i n p in
        ap (λ (s : List ℕ). get_or s 0 0) (first-other (cleared S n area) S n some_byte i apart) ∙ below (omega arith)

-- ---- the area after a format

module _ (L : Layout) (n S : ℕ) (area : List ℕ) where
  pub length-formatted : length (formatted L n S area) ≡ length area
  length-formatted = length-stored (cleared S n area) (stores_from 0 (encoded_digest L first_digest ++ 0 ∷ [])) ∙ length-cleared S n area

  pub bytes-formatted : Bytes area → Bytes (formatted L n S area)
  bytes-formatted h =
      bytes-stored (cleared S n area) (stores_from 0 (encoded_digest L first_digest ++ 0 ∷ [])) (bytes-cleared S n area h)
      (stores-bytes-from 0 (encoded_digest L first_digest ++ 0 ∷ [])
      (bytes-append (encoded_digest L first_digest) (0 ∷ []) (bytes-encoded_digest L first_digest) zero-byte))
    where
      zero-byte : Bytes (0 ∷ [])
      zero-byte zero = omega arith
      zero-byte (suc i) = omega arith

  module _ (room : digest_size L < S) where
    at-start : formatted L n S area ≡ stored (cleared S n area) (stores_from (0 * S + 0) (encoded_digest L first_digest ++ 0 ∷ []))
    at-start = ap (λ (p : ℕ). stored (cleared S n area) (stores_from p (encoded_digest L first_digest ++ 0 ∷ []))) (omega arith)

    run_fits : 0 + length (encoded_digest L first_digest ++ 0 ∷ []) ≤ S
    run_fits = omega (arith, length-append (encoded_digest L first_digest) (0 ∷ []), length-encoded_digest L first_digest)

    pub formatted-other : (i : ℕ) → 0 < i → i < n → (views_of (formatted L n S area) S i).digest ≡ none
    formatted-other i p h =
        no-digest (segment_of (formatted L n S area) S i)
        (ap (λ (a : List ℕ). get_or (segment_of a S i) 0 0) at-start
        ∙ ap (λ (s : List ℕ). get_or s 0 0) (run-other (cleared S n area) S 0 0 (encoded_digest L first_digest ++ 0 ∷ []) run_fits i (λ e. omega arith))
        ∙ cleared-first S n area i (omega arith) h)

    -- a next version takes a byte at least, for the first is 1
    pub formatted-head : length area ≡ n * S → 0 < n → 0 < (table L).width
        → views_of (formatted L n S area) S 0 ≡ record { layout = L; digest = some first_digest; scan = scanned [] (digest_size L) }
    unfolding items_from all_encoded
    formatted-head whole some-slot wide =
        head-view L first_digest [] (lit< tt) (lit< tt) next (λ x m. absurd (Memᴰ.not-nil m)) (segment_of (cleared S n area) S 0)
        (segment_of (formatted L n S area) S 0) written (omega (arith, size))
        ∙ λ i. record { layout = L; digest = some first_digest; scan = scanned [] (ends i) }
      where
        next : 1 < 256 ^ (table L).width
        next = omega (arith, pow-le-pow_right {n = 256} (lit< tt) wide)

        ends : digest_size L + 0 ≡ digest_size L
        ends = omega arith

        size : length (segment_of (cleared S n area) S 0) ≡ S
        size = length-segment (cleared S n area) S 0 (omega (arith, slot-inside area n S 0 whole some-slot, length-cleared S n area))

        own : segment_of (formatted L n S area) S 0
            ≡ set (sets (segment_of (cleared S n area) S 0) 0 (encoded_digest L first_digest)) (0 + length (encoded_digest L first_digest)) 0
        own =
            ap (λ (a : List ℕ). segment_of a S 0) at-start
            ∙ run-own (cleared S n area) S 0 0 (encoded_digest L first_digest ++ 0 ∷ []) run_fits
            ∙ sets-append (segment_of (cleared S n area) S 0) 0 (encoded_digest L first_digest) (0 ∷ [])

        written : Written (segment_of (cleared S n area) S 0) (segment_of (formatted L n S area) S 0) 0 (encoded_digest L first_digest ++ [])
        written =
            subst (Written (segment_of (cleared S n area) S 0) (segment_of (formatted L n S area) S 0) 0) (sym (append-nil (encoded_digest L first_digest)))
            (rw own
            (written-ended (segment_of (cleared S n area) S 0) 0 (encoded_digest L first_digest)
            (omega (arith, size, length-encoded_digest L first_digest))))
