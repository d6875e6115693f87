-- Words by their numbers: the digits of a number to base 5 are the letters' numbers, the first letter's the highest.
use Rattle.std.specs.Prelude.{ℕ, zero, suc, ◌+◌, ◌-◌, ◌*◌, ◌/◌, ◌%◌, ◌^◌, ◌≤◌, ◌<◌, ◌≡◌, refl, Bool, true, false, List, [], ◌∷◌, ◌++◌, length, set}
use Rattle.std.proofs.Math.Path.{sym, ap}
use Rattle.std.proofs.Common.{ap₂, ◌∙◌, subst, append_assoc, append-nil, add-zero, add_comm, mod-eq_of_lt, add_assoc, suc-add, zero-lt-suc, zero-add, add-one, arith, length-append}
use Rattle.std.proofs.Math.Nat.{pow-succ', add-mul-mod_self_right, one-le-pow, add-mul-div_right, div-eq_of_lt, pow-le-pow_right}
use Rattle.std.proofs.lemmas.List.Edits.{sets}
use Rattle.word.specs.Laws.{sets-append}
use Rattle.segment.specs.Choice.{pick, both}
use Rattle.text.specs.Put.{Put, put-none, put_then, put_same}
use Rattle.histories.specs.declared.Letter.{Letter}
use Rattle.histories.specs.Letters.{Word, letter_of, code_of, allowed, after, legal_from, legal}
use Rattle.histories.specs.declared.Presence.{Presence}
use Rattle.histories.specs.List.{headed, words_of, legal_ones, histories_of, histories, codes_of, line_of, lines_of}

unfoldable pub word : ℕ → ℕ → Word
word zero n = []
word (suc k) n = letter_of (n / 5 ^ k) ∷ word k (n % 5 ^ k)

-- the words of so many numbers from one on
unfoldable pub numbered : ℕ → ℕ → ℕ → List Word
numbered k n zero = []
numbered k n (suc m) = word k n ∷ numbered k (n + 1) m

pub word_first : (k n : ℕ) → 0 < k → word k n ≡ letter_of (n / 5 ^ (k - 1)) ∷ word (k - 1) (n % 5 ^ (k - 1))
unfolding word
word_first zero n h = absurd (omega arith)
word_first (suc k) n h = ap (λ (x : ℕ). letter_of (n / 5 ^ x) ∷ word x (n % 5 ^ x)) (before k)
  where
    before : (k : ℕ) → k ≡ suc k - 1
    before k = omega arith

-- the lines of the legal ones
abbrev pub lines_from : ℕ → ℕ → ℕ → List ℕ
lines_from k n m = lines_of (legal_ones (numbered k n m))

-- ---- all words of a length are those of all numbers

joined : (k n a b : ℕ) → numbered k n (a + b) ≡ numbered k n a ++ numbered k (n + a) b
unfolding numbered
joined k n zero b = ap (λ (x : ℕ). numbered k n x) (zero-add b) ∙ ap (λ (x : ℕ). numbered k x b) (sym (add-zero n))
joined k n (suc a) b =
    ap (λ (x : ℕ). numbered k n x) (suc-add a b)
    ∙ ap (λ (ws : List Word). word k n ∷ ws) (joined k (n + 1) a b ∙ ap (λ (x : ℕ). numbered k (n + 1) a ++ numbered k x b) (omega arith))

-- a digit and what is below it
high : (d i p : ℕ) → i < p → (d * p + i) / p ≡ d
high d i p h = ap (λ (x : ℕ). x / p) (add_comm (d * p) i) ∙ add-mul-div_right i d (omega arith) ∙ ap (λ (x : ℕ). x + d) (div-eq_of_lt h) ∙ zero-add d

low : (d i p : ℕ) → i < p → (d * p + i) % p ≡ i
low d i p h = ap (λ (x : ℕ). x % p) (add_comm (d * p) i) ∙ add-mul-mod_self_right i d p ∙ mod-eq_of_lt h

block : (k d i m : ℕ) → i + m ≤ 5 ^ k → headed (letter_of d) (numbered k i m) ≡ numbered (suc k) (d * 5 ^ k + i) m
unfolding headed numbered word
block k d i zero h = refl
block k d i (suc m) h =
    ap₂ (λ (w : Word) (ws : List Word). w ∷ ws)
    (ap₂ (λ (a : ℕ) (b : ℕ). letter_of a ∷ word k b) (sym (high d i (5 ^ k) (omega arith))) (sym (low d i (5 ^ k) (omega arith))))
    (block k d (i + 1) m (omega arith) ∙ ap (λ (x : ℕ). numbered (suc k) x m) (sym (add_assoc (d * 5 ^ k) i 1)))

-- a block for each letter
letter-block : (k d p : ℕ) → p ≡ 5 ^ k → words_of k ≡ numbered k 0 p → headed (letter_of d) (words_of k) ≡ numbered (suc k) (d * p) p
letter-block k d p e ih =
    ap (headed (letter_of d)) ih ∙ block k d 0 p (omega arith) ∙ ap (λ (x : ℕ). numbered (suc k) x p) (add-zero (d * 5 ^ k) ∙ ap (λ (x : ℕ). d * x) (sym e))

-- so many numbers from one on, in blocks
in_blocks : (j n p m : ℕ) (ws vs : List Word) → ws ≡ numbered j n p → vs ≡ numbered j (n + p) m → ws ++ vs ≡ numbered j n (p + m)
in_blocks j n p m ws vs a b = ap₂ (λ (x y : List Word). x ++ y) a b ∙ sym (joined j n p m)

blocks : (k p : ℕ) → p ≡ 5 ^ k → words_of k ≡ numbered k 0 p → words_of (suc k) ≡ numbered (suc k) 0 (p + (p + (p + (p + p))))
unfolding words_of letter_of pick
blocks k p e ih =
    in_blocks (suc k) 0 p (p + (p + (p + p))) _ _ (at 0 0 (omega arith))
    (in_blocks (suc k) (0 + p) p (p + (p + p)) _ _ (at 1 (0 + p) (omega arith))
    (in_blocks (suc k) (0 + p + p) p (p + p) _ _ (at 2 (0 + p + p) (omega arith))
    (in_blocks (suc k) (0 + p + p + p) p p _ _ (at 3 (0 + p + p + p) (omega arith)) (at 4 (0 + p + p + p + p) (omega arith)))))
  where
    at : (d n : ℕ) → d * p ≡ n → headed (letter_of d) (words_of k) ≡ numbered (suc k) n p
    at d n s = letter-block k d p e ih ∙ ap (λ (x : ℕ). numbered (suc k) x p) s

five : (k p : ℕ) → p ≡ 5 ^ k → p + (p + (p + (p + p))) ≡ 5 ^ suc k
five k p e = omega (arith, pow-succ' 5 k)

pub words-numbered : (k : ℕ) → words_of k ≡ numbered k 0 (5 ^ k)
unfolding words_of numbered word
words-numbered zero = refl
words-numbered (suc k) = blocks k (5 ^ k) refl (words-numbered k) ∙ ap (λ (x : ℕ). numbered (suc k) 0 x) (five k (5 ^ k) refl)

-- ---- what the loops of the code keep

pub length-word : (k n : ℕ) → length (word k n) ≡ k
unfolding word
length-word zero n = refl
length-word (suc k) n = ap suc (length-word k (n % 5 ^ k))

pub word_none : (k n : ℕ) → k ≡ 0 → word k n ≡ []
unfolding word
word_none k n e = ap (λ (x : ℕ). word x n) e

pub none_left : (k n : ℕ) → word k n ≡ [] → k ≡ 0
none_left k n e = sym (length-word k n) ∙ ap length e

pub one_less : (k n k' n' : ℕ) (l : Letter) → word k n ≡ l ∷ word k' n' → k ≡ k' + 1
one_less k n k' n' l e = sym (length-word k n) ∙ ap length e ∙ ap suc (length-word k' n') ∙ sym (add-one k')

pub unit-positive : (k unit : ℕ) → unit ≡ 5 ^ k → 0 < unit
unit-positive k unit e = subst (λ (x : ℕ). 0 < x) (sym e) (one-le-pow k 5 (zero-lt-suc 4))

-- the first letter taken off a word
pub taken : (k n k' unit : ℕ) (l : Letter) → k ≡ k' + 1 → unit ≡ 5 ^ k' → l ≡ letter_of (n / unit) → word k n ≡ l ∷ word k' (n % unit)
taken k n k' unit l e u f =
    ap (λ (x : ℕ). word x n) (e ∙ add-one k')
    ∙ first
    ∙ ap (λ (x : ℕ). letter_of (n / x) ∷ word k' (n % x)) (sym u)
    ∙ ap (λ (x : Letter). x ∷ word k' (n % unit)) (sym f)
  where
    first : word (suc k') n ≡ letter_of (n / 5 ^ k') ∷ word k' (n % 5 ^ k')
    first = unfold word in refl

-- the letters that are left decide whether the whole is legal
module _ (whole : Bool) (p : Presence) (v w : Word) (l : Letter) (first : v ≡ l ∷ w) (decides : whole ≡ legal_from p v) where
  from-letter : whole ≡ both (allowed p l) (legal_from (after p l) w)
  unfolding legal_from
  from-letter = decides ∙ ap (legal_from p) first

  pub legal-turn : (a : Bool) (q : Presence) → a ≡ allowed p l → a ≡ true → q ≡ after p l → whole ≡ legal_from q w
  unfolding both
  legal-turn a q i e f =
      from-letter
      ∙ ap (λ (x : Bool). both x (legal_from (after p l) w)) (sym i ∙ e)
      ∙ ap (λ (x : Presence). legal_from x w) (sym f)

  pub legal-not : (a : Bool) → a ≡ allowed p l → a ≡ false → false ≡ whole
  unfolding both
  legal-not a i e = sym (from-letter ∙ ap (λ (x : Bool). both x (legal_from (after p l) w)) (sym i ∙ e))

pub legal-end : (whole : Bool) (p : Presence) (v : Word) → v ≡ [] → whole ≡ legal_from p v → true ≡ whole
unfolding legal_from
legal-end whole p v e w = sym (w ∙ ap (legal_from p) e)

length-codes : (w : Word) → length (codes_of w) ≡ length w
length-codes [] = refl
length-codes (l ∷ w) = ap suc (length-codes w)

-- the letters still to come, put where the text ends, give the whole text
pub codes-turn : (whole out : List ℕ) (end c : ℕ) (v w : Word) (l : Letter) → v ≡ l ∷ w → c ≡ code_of l → sets out end (codes_of v) ≡ whole
    → sets (set out end c) (end + 1) (codes_of w) ≡ whole
codes-turn whole out end c v w l t e h =
    ap₂ (λ (x k : ℕ). sets (set out end x) k (codes_of w)) e (add-one end)
    ∙ ap (λ (x : Word). sets out end (codes_of x)) (sym t)
    ∙ h

pub line-put : (out₀ out : List ℕ) (at end : ℕ) (whole v : Word) → v ≡ [] → end ≡ at + length whole → sets out end (codes_of v) ≡ sets out₀ at (codes_of whole)
    → Put out₀ (set out end 10) at (end + 1) (line_of whole)
line-put out₀ out at end whole v z e h =
    record {
      end = omega (arith, e, length-append (codes_of whole) (10 ∷ []), length-codes whole);
      stored =
          ap (λ (x : List ℕ). set x end 10) (ap (λ (x : Word). sets out end (codes_of x)) (sym z) ∙ h)
          ∙ ap (λ (x : ℕ). set (sets out₀ at (codes_of whole)) x 10) (e ∙ ap (λ (x : ℕ). at + x) (sym (length-codes whole)))
          ∙ sym (sets-append out₀ at (codes_of whole) (10 ∷ []));
    }

-- ---- lines

legal-append : (a b : List Word) → legal_ones (a ++ b) ≡ legal_ones a ++ legal_ones b
unfolding legal_ones pick
legal-append [] b = refl
legal-append (w ∷ a) b = go (legal w) (legal-append a b)
  where
    go : (t : Bool) → legal_ones (a ++ b) ≡ legal_ones a ++ legal_ones b
        → pick t (w ∷ legal_ones (a ++ b)) (legal_ones (a ++ b)) ≡ pick t (w ∷ legal_ones a) (legal_ones a) ++ legal_ones b
    go true e = ap (λ (x : List Word). w ∷ x) e
    go false e = e

lines-append : (a b : List Word) → lines_of (a ++ b) ≡ lines_of a ++ lines_of b
unfolding lines_of
lines-append [] b = refl
lines-append (w ∷ a) b = ap (λ (x : List ℕ). line_of w ++ x) (lines-append a b) ∙ sym (append_assoc (line_of w) (lines_of a) (lines_of b))

-- the line of one word, put or not
pub word-lined : (w : Word) → legal w ≡ true → line_of w ≡ lines_of (legal_ones (w ∷ []))
unfolding lines_of legal_ones pick
word-lined w e = rw e (sym (append-nil (line_of w)))

pub word-unlined : (w : Word) → legal w ≡ false → [] ≡ lines_of (legal_ones (w ∷ []))
unfolding lines_of legal_ones pick
word-unlined w e = rw e

pub lines_next : (k n : ℕ) → lines_from k 0 n ++ lines_of (legal_ones (word k n ∷ [])) ≡ lines_from k 0 (n + 1)
unfolding numbered
lines_next k n =
    sym (lines-append (legal_ones (numbered k 0 n)) (legal_ones (word k n ∷ [])))
    ∙ ap lines_of (sym (legal-append (numbered k 0 n) (word k n ∷ [])))
    ∙ ap (λ (x : ℕ). lines_of (legal_ones (numbered k 0 n ++ (word k x ∷ [])))) (sym (zero-add n))
    ∙ ap (λ (x : List Word). lines_of (legal_ones x)) (sym (joined k 0 n 1))

pub lines-all : (k n : ℕ) → n ≡ 5 ^ k → lines_from k 0 n ≡ lines_of (histories_of k)
lines-all k n e = ap (lines_from k 0) e ∙ ap (λ (x : List Word). lines_of (legal_ones x)) (sym (words-numbered k))

-- those shorter than a length
unfoldable pub shorter : ℕ → List Word
shorter zero = []
shorter (suc n) = shorter n ++ histories_of n

pub histories-shorter : (n : ℕ) → shorter (suc n) ≡ histories n
unfolding histories shorter
histories-shorter zero = refl
histories-shorter (suc n) = ap (λ (x : List Word). x ++ histories_of (suc n)) (histories-shorter n)

pub shorter-all : (n k : ℕ) → k ≡ n + 1 → lines_of (shorter k) ≡ lines_of (histories n)
shorter-all n k e = ap (λ (x : ℕ). lines_of (shorter x)) (e ∙ add-one n) ∙ ap lines_of (histories-shorter n)

shorter-next : (n : ℕ) → lines_of (shorter n) ++ lines_of (histories_of n) ≡ lines_of (shorter (n + 1))
unfolding shorter
shorter-next n = sym (lines-append (shorter n) (histories_of n)) ∙ ap (λ (x : ℕ). lines_of (shorter x)) (sym (add-one n))

pub lines_none : (out : List ℕ) (at k : ℕ) → Put out out at at (lines_from k 0 0)
unfolding numbered legal_ones lines_of
lines_none out at k = put-none out at

pub length-turn : (out₀ out out' : List ℕ) (at end end' k n : ℕ) → Put out₀ out at end (lines_from k 0 n)
    → Put out out' end end' (lines_of (legal_ones (word k n ∷ []))) → Put out₀ out' at end' (lines_from k 0 (n + 1))
length-turn out₀ out out' at end end' k n p q = put_same (lines_next k n) (put_then p q)

pub shorter-none : (out : List ℕ) (at : ℕ) → Put out out at at (lines_of (shorter 0))
unfolding shorter lines_of
shorter-none out at = put-none out at

pub shorter-turn : (out₀ out out' : List ℕ) (at end end' n : ℕ) → Put out₀ out at end (lines_of (shorter n))
    → Put out out' end end' (lines_of (histories_of n)) → Put out₀ out' at end' (lines_of (shorter (n + 1)))
shorter-turn out₀ out out' at end end' n p q = put_same (shorter-next n) (put_then p q)

pub five-more : (k : ℕ) → 5 ^ (k + 1) ≡ 5 * 5 ^ k
five-more k = ap (λ (x : ℕ). 5 ^ x) (add-one k) ∙ pow-succ' 5 k

pub five-most : (k : ℕ) → k ≤ 6 → 5 ^ k ≤ 15625
five-most k h = pow-le-pow_right (zero-lt-suc 4) h
