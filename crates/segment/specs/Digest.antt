-- 01, "Bytes of a segment": the digest, at offset 0 alone.
use Rattle.std.specs.Prelude.{ℕ, Bool, List, ◌∷◌, ◌++◌, eqb, get_or, take, drop}
use Rattle.word.specs.Number.{number_of, bytes_of}
use Rattle.segment.specs.Choice.{pick}
use Rattle.segment.specs.Layout.{Layout, edition1, edition2, table}
use Rattle.segment.specs.declared.Digest.{Digest}

-- the fields of the digest with which a segment begins
abbrev pub digest_of : Layout → List ℕ → Digest
digest_of L s =
    record {
      number = record { 0 = number_of (take 4 (drop 1 s)) };
      map = number_of (take 4 (drop 5 s));
      next = record { 0 = number_of (take (table L).width (drop 9 s)) };
    }

-- the bytes of a digest: kind, digest number, slot map, next version
abbrev pub encoded_digest : Layout → Digest → List ℕ
encoded_digest L d = (table L).digest_kind ∷ bytes_of 4 d.number.0 ++ bytes_of 4 d.map ++ bytes_of (table L).width d.next.0

-- Which edition a segment is of is told by its byte 0 (02, R-11): the second where that is the second's digest.
unfoldable pub layout_in : List ℕ → Layout
layout_in s = pick (eqb (get_or s 0 0) (table edition2).digest_kind) edition2 edition1

-- whether a segment begins with the digest of its edition; one with no bytes does not
abbrev pub is_digest : List ℕ → Bool
is_digest s = eqb (get_or s 0 0) (table (layout_in s)).digest_kind
