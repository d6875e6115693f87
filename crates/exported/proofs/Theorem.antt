-- Demand 3 for the exported calls, from demand 3 for the store.
use Rattle.std.specs.Prelude.{Ok, Err}
use Prim.Native.Nat.{ℕ, ◌≤◌}
use native.Mathlib.Omega.{arith}
use mathlib.Core.Path.{◌≡◌, refl, sym, ap, ◌∙◌, subst}
use mathlib.Core.Bool.{Bool, true, false}
use mathlib.Core.List.{List}
use mathlib.Core.Option.{Option, none, some}
use lib.ListN.{length}
use borrow.Author.Tests.{eq-eqb}
use Rattle.segment.specs.Layout.{Layout, number_of_layout}
use Rattle.segment.specs.declared.Key.{Key}
use Rattle.record.specs.Answers.{format_said, recover_said, read_said}
use Rattle.record.specs.Refusals.{number_of_refusal}
use Rattle.record.specs.Reach.{holds_table}
use Rattle.record.specs.declared.Tables.{Tables}
use Rattle.record.specs.Answered.{FormatAnswer, Reading, ReadAnswer, RecoverAnswer}
use Rattle.record.specs.declared.Record.{Record}
use Rattle.model.proofs.Arguments.{typed-key}
use Rattle.model.specs.Promises.{FormatPromise, ReadPromise, ValuePromise}
use Rattle.laws.specs.CauseLaws.{refusal-number}
use Rattle.words.specs.Words.{record_words, decoded}
use Rattle.words.proofs.WordLaws.{decode-encode}
use Rattle.words.specs.declared.Decoded.{Decoded}
use Rattle.history.specs.Book.{Kept, Book, book_of}
use Rattle.history.specs.Editions.{Editions, Among, formatted_in, editions_behind}
use Rattle.history.specs.Demand3.{book_answer, GivesBook, Demand3Of}
use Rattle.history.proofs.Theorem.{demand-3}
use Rattle.kurdavel.specs.Crossing.{words_after, FormatCrossed, Recovers}
use Rattle.exported.specs.Runs.{world_of, KeyArgument}
use Rattle.exported.specs.Demand3.{WordsGiveBook, Demand3Exported}
use Rattle.exported.proofs.Moves.{read-said, exported-run}

-- what returned 0 was accepted
format-accepted : (a : FormatAnswer) → 0 ≡ (format_said a).refused → a ≡ (Ok tt)
format-accepted (Ok u) e = refl
format-accepted (Err c) e = absurd (never (sym (eq-eqb (number_of_refusal c) 0 (sym e)) ∙ refusal-number c))
  where
    never : ◌≡◌ {A = Bool} true false → ⊥
    never p = let z : ◌≡◌ {A = ℕ} 0 1 = cc in absurd (omega arith)

pub format-promised :
    (L : Layout) (n s : ℕ) (area₀ area : List ℕ) → FormatCrossed (number_of_layout L) n s area₀ area 0 → FormatPromise (number_of_layout L) n s area₀ area (Ok tt)
format-promised L n s area₀ area f =
    subst (λ (a : FormatAnswer). FormatPromise (number_of_layout L) n s area₀ area a) (format-accepted f.answer f.numbered) f.promised

-- whether a key is absent does not go by an edition
same_number : (K L : Layout) (x : Option Kept) → (read_said (book_answer K x)).refused ≡ (read_said (book_answer L x)).refused
unfolding book_answer
same_number K L none = refl
same_number K L (some x) = refl

-- what a recovery of the store gives, it gives through words
module _ (E : Editions) (n s : ℕ) (order area cells cells' words words' : List ℕ) (number : ℕ) (b : Book) (long : record_words ≤ length words)
    (x : Recovers n s order area cells cells' words words' number) (given : GivesBook E area cells' x.recovery b)
  where
    says : (decoded words').rec ≡ x.recovery.rec
    unfolding words_after
    says =
        ap (λ (l : List ℕ). (decoded l).rec) (x.says ∙ ap (λ (a : RecoverAnswer). words_after a words x.recovery.rec) given.is-accepted) ∙
        ap (λ (d : Decoded). d.rec) (decode-encode x.recovery.rec words (x.long given.is-accepted) long)

    answered :
        (t : Tables) (k : Key) → KeyArgument k → holds_table t k.table ≡ true → (a : Reading) →
        ReadPromise (decoded words').rec.edition (decoded words').rec area cells' t k a →
        (K : Layout) × Among E K × (a.answer ≡ book_answer K (b.keys k))
    answered t k p held a q =
        given.answers t k (typed-key k p.0 p.1) held a (subst (λ (r : Record). ReadPromise r.edition r area cells' t k a) says q)

    words-give : WordsGiveBook E area cells' words' number b
    words-give =
        record {
          is-accepted = x.numbered ∙ ap (λ (a : RecoverAnswer). (recover_said a).refused) given.is-accepted;
          own-edition = subst (λ (r : Record). Among E r.edition) (sym says) given.own-edition;
          not-switched = ap (λ (r : Record). r.switched) says ∙ given.not-switched;
          next-version = ap (λ (r : Record). r.next.0) says ∙ given.next-version;
          answers =
              λ t k p held version kind told c.
              let x = answered t k p held c.reading c.promised in (
                x.0,
                x.1,
                sym (read-said c.reading.answer version kind told c.numbered c.version-told c.kind-told)
                    ∙ ap (λ (a : ReadAnswer). read_said a) x.2,
              );
          values =
              λ t k p held place bytes told c.
              let x = answered t k p held c.reading c.promised in (
                c.numbered ∙ ap (λ (a : ReadAnswer). (read_said a).refused) x.2 ∙ same_number x.0 E.format (b.keys k),
                given.values t k (typed-key k p.0 p.1) held (record { place = place; bytes = bytes })
                    (subst (λ (r : Record). ValuePromise r.edition r area cells' t k (record { place = place; bytes = bytes })) says c.value),
              );
        }

-- Demand 3 for the exported calls.
pub demand-3-exported : Demand3Exported
demand-3-exported L n s area₀ area ab f es m run =
    record {
      recovery =
          λ order cells cells' words words' number good large long c.
          words-give (editions_behind (formatted_in L) es) n s order m.area cells cells' words words' number (book_of es) long (c.recovers long)
          (stored.recovery order cells cells' (c.recovers long).recovery good large (c.recovers long).promised);
      above-told = stored.above-told;
      agrees = stored.agrees;
    }
  where
    stored : Demand3Of L n s (world_of m) es
    stored = demand-3 L n s area₀ area ab (format-promised L n s area₀ area f) es (world_of m) (exported-run n s run)
