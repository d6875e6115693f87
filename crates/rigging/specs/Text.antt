-- The verdict as the code has it, the text that is put, and the laws of the loops over the histories.
use Rattle.std.specs.Prelude.{ℕ, zero, suc, ◌+◌, ◌-◌, ◌^◌, ◌≤◌, ◌<◌, ◌≡◌, refl, Bool, true, false, ltb, length, get_or}
use Rattle.std.proofs.Math.Path.{sym, ap}
use Rattle.std.proofs.Common.{◌∙◌, subst, add-one, arith}
use mathlib.Core.List.{List, [], ◌∷◌, ◌++◌}
use Rattle.std.proofs.Math.Option.{Option, none, some}
use Rattle.std.specs.Prelude.{Option as Verdict, None, Some}
use Rattle.std.proofs.Math.Decide.{dec_lt}
use borrow.Author.Tests.{eq-eqb, ne_eqb, lt-ltb, le-ltb}
use Rattle.segment.specs.Choice.{pick, both}
use Rattle.text.specs.Put.{Put, put-none, put_same}
use Rattle.histories.specs.declared.WordNumber.{WordNumber}
use Rattle.histories.specs.Letters.{Word, legal}
use Rattle.histories.specs.List.{legal_ones, histories_of, histories}
use Rattle.histories.specs.Numbered.{word, numbered, words-numbered, shorter, histories-shorter}
use Rattle.rig_model.specs.Verdict.{history_wrong, first_wrong, text_for, rig_text}
use Rattle.rig_model.proofs.PlayLaws.{first-append, first_found}

-- the history that a verdict names
abbrev pub named : Verdict WordNumber → Option Word
named None = none
named (Some w) = some (word w.letters w.number)

-- In a buffer that is too short nothing is put.
abbrev pub put_text : Bool → List ℕ → ℕ → List ℕ
put_text from_log input room = pick (ltb room 137000) [] (rig_text from_log input)

-- ---- the words of one length

split : (from_log : Bool) (a b : Bool) (v : Word) (vs : List Word) → history_wrong from_log v ≡ b
    → first_wrong from_log (pick a (v ∷ vs) vs) ≡ pick (both a b) (some v) (first_wrong from_log vs)
unfolding pick both first_wrong
split from_log true b v vs q = ap (λ (x : Bool). pick x (some v) (first_wrong from_log vs)) q
split from_log false b v vs q = refl

first_word : (from_log : Bool) (k n m : ℕ) → first_wrong from_log (legal_ones (numbered k n (suc m)))
    ≡ pick (both (legal (word k n)) (history_wrong from_log (word k n))) (some (word k n)) (first_wrong from_log (legal_ones (numbered k (n + 1) m)))
unfolding numbered legal_ones
first_word from_log k n m = split from_log (legal (word k n)) (history_wrong from_log (word k n)) (word k n) (legal_ones (numbered k (n + 1) m)) refl

first-left : (from_log : Bool) (k n m : ℕ) → 0 < m → first_wrong from_log (legal_ones (numbered k n m))
    ≡ pick (both (legal (word k n)) (history_wrong from_log (word k n))) (some (word k n)) (first_wrong from_log (legal_ones (numbered k (n + 1) (m - 1))))
first-left from_log k n zero h = absurd (omega arith)
first-left from_log k n (suc m) h =
    first_word from_log k n m
    ∙ ap (λ (x : ℕ). pick (both (legal (word k n)) (history_wrong from_log (word k n))) (some (word k n)) (first_wrong from_log (legal_ones (numbered k (n + 1) x)))) (before m)
  where
    before : (m : ℕ) → m ≡ suc m - 1
    before m = omega arith

module _ (from_log : Bool) (whole : Option Word) (k n left : ℕ) (h : 0 < left) (w : whole ≡ first_wrong from_log (legal_ones (numbered k n left)))
    (t : Bool) (t-is : t ≡ both (legal (word k n)) (history_wrong from_log (word k n))) where
  from-word : whole ≡ pick t (some (word k n)) (first_wrong from_log (legal_ones (numbered k (n + 1) (left - 1))))
  from-word =
      w ∙ first-left from_log k n left h
      ∙ ap (λ (x : Bool). pick x (some (word k n)) (first_wrong from_log (legal_ones (numbered k (n + 1) (left - 1))))) (sym t-is)

  pub word-found : t ≡ true → some (word k n) ≡ whole
  unfolding pick
  word-found e = sym (from-word ∙ ap (λ (x : Bool). pick x (some (word k n)) (first_wrong from_log (legal_ones (numbered k (n + 1) (left - 1))))) e)

  pub word-passed : t ≡ false → whole ≡ first_wrong from_log (legal_ones (numbered k (n + 1) (left - 1)))
  unfolding pick
  word-passed e = from-word ∙ ap (λ (x : Bool). pick x (some (word k n)) (first_wrong from_log (legal_ones (numbered k (n + 1) (left - 1))))) e

pub words-start : (from_log : Bool) (k all : ℕ) → all ≡ 5 ^ k → first_wrong from_log (histories_of k) ≡ first_wrong from_log (legal_ones (numbered k 0 (all - 0)))
words-start from_log k all e = ap (λ (x : List Word). first_wrong from_log (legal_ones x)) (words-numbered k ∙ ap (numbered k 0) (sym e ∙ whole all))
  where
    whole : (a : ℕ) → a ≡ a - 0
    whole a = omega arith

pub words-end : (from_log : Bool) (whole : Option Word) (k n left : ℕ) → left ≡ 0 → whole ≡ first_wrong from_log (legal_ones (numbered k n left)) → none ≡ whole
unfolding numbered legal_ones first_wrong
words-end from_log whole k n left e w = sym (w ∙ ap (λ (x : ℕ). first_wrong from_log (legal_ones (numbered k n x))) e)

-- ---- the lengths one after the other

pub lengths-start : (from_log : Bool) → first_wrong from_log (shorter 0) ≡ none
unfolding shorter first_wrong
lengths-start from_log = refl

pub lengths-turn : (from_log : Bool) (k : ℕ) → first_wrong from_log (shorter k) ≡ none → none ≡ first_wrong from_log (histories_of k) → first_wrong from_log (shorter (k + 1)) ≡ none
unfolding shorter
lengths-turn from_log k e f =
    ap (λ (x : ℕ). first_wrong from_log (shorter x)) (add-one k) ∙ first-append from_log (shorter k) (histories_of k) e ∙ sym f

reached : (from_log : Bool) (k : ℕ) (w : Word) → first_wrong from_log (shorter k) ≡ none → first_wrong from_log (histories_of k) ≡ some w → (m : ℕ) → k < m → first_wrong from_log (shorter m) ≡ some w
unfolding shorter
reached from_log k w e f zero h = absurd (omega arith)
reached from_log k w e f (suc m) h = go (dec_lt k m) (reached from_log k w e f m)
  where
    go : Dec (k < m) → (k < m → first_wrong from_log (shorter m) ≡ some w) → first_wrong from_log (shorter m ++ histories_of m) ≡ some w
    go (yes l) ih = first_found from_log (shorter m) (histories_of m) w (ih l)
    go (no l) ih =
        let same : m ≡ k = omega (arith, l) in
        subst (λ (x : ℕ). first_wrong from_log (shorter x ++ histories_of x) ≡ some w) (sym same) (first-append from_log (shorter k) (histories_of k) e ∙ f)

pub lengths-found : (from_log : Bool) (k n : ℕ) (w : Word) → first_wrong from_log (shorter k) ≡ none → some w ≡ first_wrong from_log (histories_of k) → k ≤ n → some w ≡ first_wrong from_log (histories n)
lengths-found from_log k n w e f h = sym (ap (first_wrong from_log) (sym (histories-shorter n)) ∙ reached from_log k w e (sym f) (suc n) (omega arith))

pub lengths-end : (from_log : Bool) (k n : ℕ) → k ≡ n + 1 → first_wrong from_log (shorter k) ≡ none → none ≡ first_wrong from_log (histories n)
lengths-end from_log k n e f = sym (ap (first_wrong from_log) (sym (histories-shorter n)) ∙ ap (λ (x : ℕ). first_wrong from_log (shorter x)) (sym (e ∙ add-one n)) ∙ f)

-- ---- the text

module _ (from_log : Bool) (input out : List ℕ) where
  pub no_room : length out < 137000 → Put out out 0 0 (put_text from_log input (length out))
  unfolding pick
  no_room h = put_same (sym (ap (λ (t : Bool). pick t [] (rig_text from_log input)) (lt-ltb (length out) 137000 h))) (put-none out 0)

  module _ (h : 137000 ≤ length out) where
    room : rig_text from_log input ≡ put_text from_log input (length out)
    unfolding pick
    room = sym (ap (λ (t : Bool). pick t [] (rig_text from_log input)) (le-ltb (length out) 137000 h))

    nothing_put : rig_text from_log input ≡ [] → Put out out 0 0 (put_text from_log input (length out))
    nothing_put e = put_same (sym e ∙ room) (put-none out 0)

    pub other_length : (length input ≡ 1 → ⊥) → Put out out 0 0 (put_text from_log input (length out))
    unfolding rig_text pick both
    other_length e = nothing_put (rw (ne_eqb (length input) 1 e))

    pub below-digits : length input ≡ 1 → get_or input 0 0 < 48 → Put out out 0 0 (put_text from_log input (length out))
    unfolding rig_text pick both
    below-digits e d = nothing_put (rw (eq-eqb (length input) 1 e, le-ltb 47 (get_or input 0 0) (omega arith)))

    pub above-digits : length input ≡ 1 → 48 ≤ get_or input 0 0 → 54 < get_or input 0 0 → Put out out 0 0 (put_text from_log input (length out))
    unfolding rig_text pick both
    above-digits e d f = nothing_put (rw (eq-eqb (length input) 1 e, lt-ltb 47 (get_or input 0 0) d, le-ltb (get_or input 0 0) 55 f))

    pub text-put : (out' : List ℕ) (end n : ℕ) → length input ≡ 1 → 48 ≤ get_or input 0 0 → get_or input 0 0 ≤ 54 → n ≡ get_or input 0 0 - 48 → Put out out' 0 end (text_for from_log n)
        → Put out out' 0 end (put_text from_log input (length out))
    unfolding rig_text pick both
    text-put out' end n e d f m p =
        put_same (ap (text_for from_log) m ∙ sym (rw (eq-eqb (length input) 1 e, lt-ltb 47 (get_or input 0 0) d, lt-ltb (get_or input 0 0) 55 (omega arith))) ∙ room) p
