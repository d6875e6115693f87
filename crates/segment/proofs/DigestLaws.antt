-- Laws of the digest's bytes.
use Rattle.std.specs.Prelude.{ℕ, ◌^◌, ◌≤◌, ◌<◌, ◌≡◌, refl, List, [], ◌++◌, length, get_or, take, drop}
use Rattle.std.proofs.Common.{sym, ◌∙◌, ap, subst, append_assoc, append-nil, arith}
use Rattle.word.specs.Number.{number_of, Bytes}
use Rattle.word.specs.Laws.{number-at-lt}
use Rattle.segment.specs.Layout.{Layout, digest_size, table}
use Rattle.segment.proofs.LayoutFacts.{digest-byte}
use Rattle.segment.specs.Digest.{digest_of, encoded_digest}
use Rattle.segment.specs.Packed.{packed}
use Rattle.segment.proofs.Packed.{length-packed, bytes_packed, first-number, second-number, third-number, packed-read, take-drop-take}
use Rattle.segment.specs.declared.Digest.{Digest}

module _ (L : Layout) (d : Digest) where
  pub digest-packed : (rest : List ℕ) → encoded_digest L d ++ rest ≡ packed (table L).digest_kind 4 4 (table L).width d.number.0 d.map d.next.0 rest
  digest-packed rest = simp append_assoc

  digest-alone : encoded_digest L d ≡ packed (table L).digest_kind 4 4 (table L).width d.number.0 d.map d.next.0 []
  digest-alone = sym (append-nil (encoded_digest L d)) ∙ digest-packed []

  pub length-encoded_digest : length (encoded_digest L d) ≡ digest_size L
  length-encoded_digest =
      ap length digest-alone
      ∙ length-packed (table L).digest_kind 4 4 (table L).width d.number.0 d.map d.next.0 []
      ∙ omega arith

  pub digest-first : get_or (encoded_digest L d) 0 0 ≡ (table L).digest_kind
  digest-first = refl

  pub bytes-encoded_digest : Bytes (encoded_digest L d)
  bytes-encoded_digest =
      subst Bytes (sym digest-alone)
      (bytes_packed (table L).digest_kind 4 4 (table L).width d.number.0 d.map d.next.0 [] (digest-byte L) (λ i. omega arith))

  -- what is written is read back
  pub digest-decoded : (rest : List ℕ) → d.number.0 < 256 ^ 4 → d.map < 256 ^ 4 → d.next.0 < 256 ^ (table L).width
      → digest_of L (encoded_digest L d ++ rest) ≡ d
  digest-decoded rest hn hm hv =
      ap (digest_of L) (digest-packed rest)
      ∙ λ i.
      record {
        number = record { 0 = first-number (table L).digest_kind 4 4 (table L).width d.number.0 d.map d.next.0 rest hn i };
        map = second-number (table L).digest_kind 4 4 (table L).width d.number.0 d.map d.next.0 rest hm i;
        next = record { 0 = third-number (table L).digest_kind 4 4 (table L).width d.number.0 d.map d.next.0 rest hv i };
      }

module _ (L : Layout) where
  -- the digest's own bytes alone say it
  pub digest-front : (s : List ℕ) → digest_of L (take (digest_size L) s) ≡ digest_of L s
  digest-front s =
      λ i.
      record {
        number = record { 0 = number_of (take-drop-take 4 1 (digest_size L) s (omega arith) i) };
        map = number_of (take-drop-take 4 5 (digest_size L) s (omega arith) i);
        next = record { 0 = number_of (take-drop-take (table L).width 9 (digest_size L) s (omega arith) i) };
      }

  pub digest-own-bytes : (s t : List ℕ) → take (digest_size L) s ≡ take (digest_size L) t → digest_of L s ≡ digest_of L t
  digest-own-bytes s t e = sym (digest-front s) ∙ ap (digest_of L) e ∙ digest-front t

  -- bytes that begin with the digest's kind are those of the digest that they say
  pub encoded-digest_of : (s : List ℕ) → Bytes s → digest_size L ≤ length s → get_or s 0 0 ≡ (table L).digest_kind
      → encoded_digest L (digest_of L s) ++ drop (digest_size L) s ≡ s
  encoded-digest_of s h fits k =
      digest-packed L (digest_of L s) (drop (digest_size L) s) ∙ rw (← k) (packed-read 4 4 (table L).width s h (omega arith))

  -- the fields of a digest fit their bytes
  pub digest-number-fits : (s : List ℕ) → Bytes s → (digest_of L s).number.0 < 256 ^ 4
  digest-number-fits s h = number-at-lt 4 1 s h

  pub digest-map-fits : (s : List ℕ) → Bytes s → (digest_of L s).map < 256 ^ 4
  digest-map-fits s h = number-at-lt 4 5 s h

  pub digest-next-fits : (s : List ℕ) → Bytes s → (digest_of L s).next.0 < 256 ^ (table L).width
  digest-next-fits s h = number-at-lt (table L).width 9 s h
