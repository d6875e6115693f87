-- Laws of: A byte, three numbers and what follows them: the form that the bytes of an entry and of a digest share.
use Rattle.std.specs.Prelude.{ℕ, zero, suc, ◌+◌, ◌^◌, ◌≤◌, ◌<◌, ◌≡◌, refl, List, [], ◌∷◌, ◌++◌, length, get_or, take, drop}
use Rattle.std.proofs.Common.{sym, ◌∙◌, ap, add-zero, arith, length-append, length-take, length-drop, take-append-drop, get_or-drop, get_or-take, take-take, drop-drop, drop-cons}
use Rattle.word.specs.Number.{number_of, bytes_of, Bytes}
use Rattle.word.specs.Laws.{length-bytes_of, bytes-bytes_of, bytes-append, bytes-at, number-front, drop-front}
use Rattle.segment.specs.Packed.{packed}

-- ---- parts of lists

-- a part of a part of a list is a part of the list
pub take-drop-take : (w k m : ℕ) (l : List ℕ) → k + w ≤ m → take w (drop k (take m l)) ≡ take w (drop k l)
take-drop-take w zero m l h = take-take w m l (omega arith)
take-drop-take w (suc k) zero l h = absurd (omega arith)
take-drop-take w (suc k) (suc m) [] h = refl
take-drop-take w (suc k) (suc m) (x ∷ l) h = take-drop-take w k m l (omega arith)

-- a field of what stands at an offset, read in the whole
pub field_at : (w k m at : ℕ) (l : List ℕ) → k + w ≤ m → take w (drop k (take m (drop at l))) ≡ take w (drop (at + k) l)
field_at w k m at l h = take-drop-take w k m (drop at l) h ∙ ap (take w) (drop-drop k at l)

pub first-at : (m at : ℕ) (l : List ℕ) → 0 < m → get_or (take m (drop at l)) 0 0 ≡ get_or l at 0
first-at m at l h = get_or-take m (drop at l) 0 0 h ∙ get_or-drop at l 0 0 ∙ rw (add-zero at)

pub length_part : (m at : ℕ) (l : List ℕ) → at + m ≤ length l → length (take m (drop at l)) ≡ m
length_part m at l h = simp (length-take, length-drop) (omega arith)

-- a part and what follows it
part-rest : (w at : ℕ) (l : List ℕ) → take w (drop at l) ++ drop (at + w) l ≡ drop at l
part-rest w at l = rw (← (drop-drop w at l)) (take-append-drop w (drop at l))

pub bytes-cons : (b : ℕ) (s : List ℕ) → b < 256 → Bytes s → Bytes (b ∷ s)
bytes-cons b s hb hs zero = hb
bytes-cons b s hb hs (suc i) = hs i

module _ (b u v w x y z : ℕ) (r : List ℕ) where
  pub length-packed : length (packed b u v w x y z r) ≡ 1 + u + v + w + length r
  length-packed = simp (length-append, length-bytes_of) (omega arith)

  pub bytes_packed : b < 256 → Bytes r → Bytes (packed b u v w x y z r)
  bytes_packed hb hr =
      bytes-cons b (bytes_of u x ++ (bytes_of v y ++ (bytes_of w z ++ r))) hb
      (bytes-append (bytes_of u x) (bytes_of v y ++ (bytes_of w z ++ r)) (bytes-bytes_of u x)
      (bytes-append (bytes_of v y) (bytes_of w z ++ r) (bytes-bytes_of v y) (bytes-append (bytes_of w z) r (bytes-bytes_of w z) hr)))

  -- after the first number, the second and the third
  packed-second : drop (1 + u) (packed b u v w x y z r) ≡ bytes_of v y ++ (bytes_of w z ++ r)
  packed-second = sym (drop-drop u 1 (packed b u v w x y z r)) ∙ drop-front u x (bytes_of v y ++ (bytes_of w z ++ r))

  packed-third : drop (1 + u + v) (packed b u v w x y z r) ≡ bytes_of w z ++ r
  packed-third = sym (drop-drop v (1 + u) (packed b u v w x y z r)) ∙ ap (drop v) packed-second ∙ drop-front v y (bytes_of w z ++ r)

  pub packed-rest : drop (1 + u + v + w) (packed b u v w x y z r) ≡ r
  packed-rest = sym (drop-drop w (1 + u + v) (packed b u v w x y z r)) ∙ ap (drop w) packed-third ∙ drop-front w z r

  -- the numbers are read back
  pub first-number : x < 256 ^ u → number_of (take u (drop 1 (packed b u v w x y z r))) ≡ x
  first-number h = number-front u x (bytes_of v y ++ (bytes_of w z ++ r)) h

  pub second-number : y < 256 ^ v → number_of (take v (drop (1 + u) (packed b u v w x y z r))) ≡ y
  second-number h = ap (λ (l : List ℕ). number_of (take v l)) packed-second ∙ number-front v y (bytes_of w z ++ r) h

  pub third-number : z < 256 ^ w → number_of (take w (drop (1 + u + v) (packed b u v w x y z r))) ≡ z
  third-number h = ap (λ (l : List ℕ). number_of (take w l)) packed-third ∙ number-front w z r h

-- bytes are the byte, the numbers and the rest that are read in them
pub packed-read : (u v w : ℕ) (s : List ℕ) → Bytes s → 1 + u + v + w ≤ length s
    → packed (get_or s 0 0) u v w (number_of (take u (drop 1 s))) (number_of (take v (drop (1 + u) s))) (number_of (take w (drop (1 + u + v) s)))
    (drop (1 + u + v + w) s)
    ≡ s
packed-read u v w s h fits =
    rw (bytes-at w (1 + u + v) s h (omega arith), part-rest w (1 + u + v) s, bytes-at v (1 + u) s h (omega arith), part-rest v (1 + u) s, bytes-at u 1 s h (omega arith), part-rest u 1 s)
    (sym (drop-cons s 0 0 (omega arith)))
