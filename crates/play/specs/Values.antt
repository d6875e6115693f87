-- The bytes of a value that a history writes, and what the loops over them keep.
use Rattle.std.specs.Prelude.{◌≡◌, ℕ, zero, suc, ◌+◌, ◌-◌, ◌%◌, ◌<◌, ◌≤◌, Bool, true, false, List, [], ◌∷◌, ◌++◌, length, take, drop, ◌==◌, ◌≢◌, slice_index, slice_set}
use Rattle.std.proofs.Math.Path.{sym, ap}
use Rattle.std.proofs.Common.{◌∙◌, add-one, drop_of_length-le, drop-cons, take-suc-set, eq-eqb, ne_eqb}
use mathlib.Core.List.{append-nil}
use native.Mathlib.Omega.{arith}
use Rattle.std.proofs.Math.Seq.{take_all, append_snoc}
use Rattle.segment.specs.Choice.{both}
use Rattle.segment.proofs.Choice.{both-false-left}
use Rattle.play.specs.declared.book.Value.{Value}

-- the byte after one
abbrev pub risen : ℕ → ℕ → ℕ
risen byte rise = (byte + rise) % 256

-- so many bytes from a first one on
unfoldable pub rising : ℕ → ℕ → ℕ → List ℕ
rising zero byte rise = []
rising (suc n) byte rise = byte ∷ rising n (risen byte rise) rise

-- whether bytes rise so from a first one on
unfoldable pub rises : List ℕ → ℕ → ℕ → Bool
rises [] byte rise = true
rises (b ∷ bs) byte rise = both (b == byte) (rises bs (risen byte rise) rise)

-- Whether these are the bytes of a value.
abbrev pub bytes_are : List ℕ → Value → Bool
bytes_are bytes v = both (length bytes == v.length) (rises bytes v.first v.rise)

-- ---- the loop that fills an array

module _ (whole : List ℕ) (bytes : List ℕ) (i n byte rise : ℕ) where
  pub filled-turn : i < n → n ≤ length bytes → take i bytes ++ rising (n - i) byte rise ≡ whole → (next : ℕ) → next ≡ risen byte rise
      → take (i + 1) (slice_set bytes i byte) ++ rising (n - (i + 1)) next rise ≡ whole
  unfolding rising
  filled-turn h long e next its =
      ap (λ (b : ℕ). take (i + 1) (slice_set bytes i byte) ++ rising (n - (i + 1)) b rise) its
      ∙ ap (λ (k : ℕ). take k (slice_set bytes i byte) ++ rising (n - (i + 1)) (risen byte rise) rise) (add-one i)
      ∙ ap (λ (xs : List ℕ). xs ++ rising (n - (i + 1)) (risen byte rise) rise) (take-suc-set bytes i byte (omega arith))
      ∙ append_snoc (take i bytes) byte (rising (n - (i + 1)) (risen byte rise) rise)
      ∙ ap (λ (k : ℕ). take i bytes ++ rising k byte rise) one_more
      ∙ e
    where
      one_more : suc (n - (i + 1)) ≡ n - i
      one_more = omega arith

  pub filled-end : length bytes ≡ n → n ≤ i → take i bytes ++ rising (n - i) byte rise ≡ whole → bytes ≡ whole
  unfolding rising
  filled-end long h e =
      sym
      (ap (λ (k : ℕ). take i bytes ++ rising k byte rise) none_left
      ∙ append-nil (take i bytes)
      ∙ take_all i bytes (omega arith))
      ∙ e
    where
      none_left : n - i ≡ 0
      none_left = omega arith

-- ---- the loop that compares

module _ (whole : Bool) (bytes : List ℕ) (i byte rise : ℕ) where
  from-here : i < length bytes → rises (drop i bytes) byte rise ≡ both (slice_index bytes i == byte) (rises (drop (suc i) bytes) (risen byte rise) rise)
  unfolding rises
  from-here h = ap (λ (bs : List ℕ). rises bs byte rise) (drop-cons bytes i 0 h)

  pub rises-turn : i < length bytes → slice_index bytes i ≡ byte → whole ≡ rises (drop i bytes) byte rise → (next : ℕ) → next ≡ risen byte rise
      → whole ≡ rises (drop (i + 1) bytes) next rise
  unfolding both
  rises-turn h e w next its =
      w
      ∙ from-here h
      ∙ ap (λ (t : Bool). both t (rises (drop (suc i) bytes) (risen byte rise) rise)) (eq-eqb (slice_index bytes i) byte e)
      ∙ ap (λ (k : ℕ). rises (drop k bytes) (risen byte rise) rise) (sym (add-one i))
      ∙ ap (λ (b : ℕ). rises (drop (i + 1) bytes) b rise) (sym its)

  pub rises-not : i < length bytes → (slice_index bytes i ≢ byte) → whole ≡ rises (drop i bytes) byte rise → false ≡ whole
  rises-not h e w =
      sym (w ∙ from-here h ∙ both-false-left (slice_index bytes i == byte) (rises (drop (suc i) bytes) (risen byte rise) rise) (ne_eqb (slice_index bytes i) byte e))

  pub rises-end : length bytes ≤ i → whole ≡ rises (drop i bytes) byte rise → true ≡ whole
  unfolding rises
  rises-end h w = sym (w ∙ ap (λ (bs : List ℕ). rises bs byte rise) (drop_of_length-le bytes {i = i} h))

-- ---- the length first

module _ (bytes : List ℕ) (v : Value) where
  pub length-differs : (length bytes ≢ v.length) → false ≡ bytes_are bytes v
  length-differs e = sym (both-false-left (length bytes == v.length) (rises bytes v.first v.rise) (ne_eqb (length bytes) v.length e))

  pub length-agrees : (t : Bool) → length bytes ≡ v.length → t ≡ rises bytes v.first v.rise → t ≡ bytes_are bytes v
  unfolding both
  length-agrees t e r = r ∙ ap (λ (s : Bool). both s (rises bytes v.first v.rise)) (sym (eq-eqb (length bytes) v.length e))
