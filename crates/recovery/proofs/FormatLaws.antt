-- Laws of: Format as its code does it: byte 0 of every slot in turn, the digest, and the 0 behind it.
use Rattle.std.specs.Prelude.{ℕ, ◌+◌, ◌*◌, ◌≤◌, ◌<◌, ◌≡◌, Bool, not, eqb, length, set, Ok, Err}
use Rattle.std.proofs.Math.Path.{refl, ap}
use Rattle.std.proofs.Common.{sym, ◌∙◌, add-one, arith, eqb-true, ne_eqb}
use Rattle.std.proofs.Math.Bool.{true, false}
use mathlib.Core.List.{List, [], ◌∷◌, ◌++◌}
use Rattle.std.proofs.Math.Option.{none, some}
use Rattle.std.proofs.lemmas.List.Edits.{sets}
use Rattle.std.proofs.lemmas.Bool.{not-false}
use Rattle.word.specs.Laws.{sets-append}
use Rattle.segment.specs.Choice.{pick, both, either, is_none}
use Rattle.segment.proofs.Choice.{pick-false}
use Rattle.segment.specs.Layout.{Layout, edition1, edition2, layout_numbered, number_of_layout, digest_size}
use Rattle.segment.proofs.LayoutLaws.{numbered-layout}
use Rattle.segment.specs.Digest.{encoded_digest}
use Rattle.segment.proofs.DigestLaws.{length-encoded_digest}
use Rattle.record.specs.Answers.{format_said}
use Rattle.record.specs.Range.{slots_good, size_good}
use Rattle.record.specs.Answered.{FormatAnswer}
use Rattle.record.specs.declared.Refusal.TheVariants.{Geometry}
use Rattle.model.specs.Operations.{cleared, first_digest, formatted, formatted_as}
use Rattle.model.specs.Causes.{first_cause}
use Rattle.model.specs.Recovery.{geometry_bad}
use Rattle.model.specs.Refused.{format_causes}
use Rattle.model.specs.Promises.{FormatPromise, format_answer, area_unless}
use Rattle.laws.specs.CauseLaws.{cause-first, cause-none}
use Rattle.laws.specs.SaidLaws.{format-says}
use Rattle.laws.specs.Stores.{slots_apart, stored-from}

-- ---- the test of cause 1, as the code makes it

module _ (n s area : ℕ) where
  pub geometry-slots : slots_good n ≡ false → geometry_bad n s area ≡ true
  unfolding both
  geometry-slots e = rw e

  pub geometry-size : slots_good n ≡ true → size_good s ≡ false → geometry_bad n s area ≡ true
  unfolding both
  geometry-size e d = rw (e, d)

  pub geometry-area : slots_good n ≡ true → size_good s ≡ true → geometry_bad n s area ≡ not (eqb area (n * s))
  unfolding both
  geometry-area e d = rw (e, d)

-- ---- the stores

pub cleared-none : (S : ℕ) (area : List ℕ) → area ≡ cleared S 0 area
unfolding cleared
cleared-none S area = refl

pub cleared-turn : (S i : ℕ) (area : List ℕ) → cleared S (i + 1) area ≡ set (cleared S i area) (i * S) 0
unfolding cleared
cleared-turn S i area = rw (add-one i)

-- room for a byte of slot i
pub slot-first : (n S i a : ℕ) → 0 < S → i < n → n * S ≤ a → i * S < a
slot-first n S i a some_byte h fits = omega (arith, slots_apart S h)

-- ---- the promise

-- an edition that is none of the two
pub none-numbered : (e : ℕ) → (e ≡ 1 → ⊥) → (e ≡ 2 → ⊥) → layout_numbered e ≡ none
unfolding layout_numbered
none-numbered e one two =
    pick-false (eqb e 1) (some edition1) (pick (eqb e 2) (some edition2) none) (ne_eqb e 1 one)
    ∙ pick-false (eqb e 2) (some edition2) none (ne_eqb e 2 two)

module _ (e n S : ℕ) (area : List ℕ) where
  refused-at : either (geometry_bad n S (length area)) (is_none (layout_numbered e)) ≡ true → FormatPromise e n S area area (Err Geometry)
  unfolding format_answer area_unless
  refused-at bad =
      let first = cause-first (record { holds = either (geometry_bad n S (length area)) (is_none (layout_numbered e)); refusal = Geometry }) [] bad in
      record { answers = rw first; says = ap format_said answered ∙ format-says _; leaves = rw first }
    where
      answered : Err Geometry ≡ format_answer (first_cause (format_causes e n S (length area)))
      answered = rw (cause-first (record { holds = either (geometry_bad n S (length area)) (is_none (layout_numbered e)); refusal = Geometry }) [] bad)

  pub format-refused : geometry_bad n S (length area) ≡ true → FormatPromise e n S area area (Err Geometry)
  unfolding either
  format-refused bad = refused-at (rw bad)

  pub format-unknown : (e ≡ 1 → ⊥) → (e ≡ 2 → ⊥) → FormatPromise e n S area area (Err Geometry)
  unfolding is_none either
  format-unknown one two = refused-at (rw (none-numbered e one two) (either-last (geometry_bad n S (length area))))
    where
      either-last : (b : Bool) → either b true ≡ true
      either-last true = refl
      either-last false = refl

module _ (L : Layout) (n S : ℕ) (area : List ℕ) where
  pub format-done : (a₁ a₂ a₃ : List ℕ) → geometry_bad n S (length area) ≡ false → a₁ ≡ cleared S n area → a₂ ≡ sets a₁ 0 (encoded_digest L first_digest)
      → a₃ ≡ set a₂ (digest_size L) 0 → FormatPromise (number_of_layout L) n S area a₃ (Ok tt)
  unfolding format_answer area_unless first_cause formatted_as either is_none
  format-done a₁ a₂ a₃ good e₁ e₂ e₃ =
      record { answers = rw nothing; says = ap format_said answered ∙ format-says _; leaves = rw (nothing, numbered-layout L) (whole) }
    where
      known : either (geometry_bad n S (length area)) (is_none (layout_numbered (number_of_layout L))) ≡ false
      known = rw (good, numbered-layout L)

      nothing : first_cause (format_causes (number_of_layout L) n S (length area)) ≡ none
      nothing =
          cause-none (record { holds = either (geometry_bad n S (length area)) (is_none (layout_numbered (number_of_layout L))); refusal = Geometry }) [] known refl

      answered : (Ok tt) ≡ format_answer (first_cause (format_causes (number_of_layout L) n S (length area)))
      answered = rw nothing

      behind : digest_size L ≡ 0 + length (encoded_digest L first_digest)
      behind = omega (arith, length-encoded_digest L first_digest)

      whole : a₃ ≡ formatted L n S area
      whole =
          e₃
          ∙ ap (λ (a : List ℕ). set a (digest_size L) 0) (e₂ ∙ ap (λ (a : List ℕ). sets a 0 (encoded_digest L first_digest)) e₁)
          ∙ ap (λ (k : ℕ). set (sets (cleared S n area) 0 (encoded_digest L first_digest)) k 0) behind
          ∙ sym (sets-append (cleared S n area) 0 (encoded_digest L first_digest) (0 ∷ []))
          ∙ sym (stored-from (cleared S n area) 0 (encoded_digest L first_digest ++ 0 ∷ []))
