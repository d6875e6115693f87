-- The start of a write, made on the words of the record: what it promises, at each return of its code. No test of a write and nothing that it
-- lays down looks at the present bytes, so that the record without them gives the same.
use Rattle.std.specs.Prelude.{ℕ, ◌<◌, ◌≡◌, Bool, true, false, not, List, length, Ok, Err}
use Rattle.std.proofs.Math.Path.{refl, ap}
use Rattle.std.proofs.Common.{sym, ◌∙◌}
use Rattle.std.proofs.Math.Seq.{sets}
use Rattle.std.proofs.lemmas.Bool.{not-false}
use Rattle.segment.specs.Choice.{pick, or_zero}
use Rattle.segment.specs.Layout.{object_kind}
use Rattle.segment.specs.Entry.{Entry, size_of}
use Rattle.segment.specs.Written.{entry_of}
use Rattle.segment.specs.declared.Key.{Key}
use Rattle.record.specs.Answers.{bare, start_said, with_pending}
use Rattle.record.specs.Range.{fits_lent}
use Rattle.record.specs.Switch.{new_layout}
use Rattle.record.specs.RangeLaws.{fits-bare}
use Rattle.record.specs.declared.Pending.{Pending}
use Rattle.record.specs.declared.Record.{Record}
use Rattle.record.specs.declared.Refusal.{Refusal}
use Rattle.record.specs.declared.Refusal.TheVariants.{BadRecord}
use Rattle.record.specs.Answered.{Start, StartAnswer, Check}
use Rattle.model.specs.Causes.{first_cause}
use Rattle.model.specs.Operations.{write, laid_append, laid_head, laid_entry, fits_head, plan_of}
use Rattle.model.specs.Refused.{Terms, write_causes}
use Rattle.model.specs.Promises.{Begun, lent_lengths, StartPromise}
use Rattle.laws.specs.CauseLaws.{cause-skip}
use Rattle.starting.specs.Checks.{checked}
use Rattle.starting.specs.Answer.{started_with, refused_start}
use Rattle.writing.specs.Tests.{presence_for, facts_for}
use Rattle.writing.specs.TestLaws.{first-bad, write-first}
use Rattle.writing.specs.Laying.{laid_begun}
use Rattle.writing.specs.StartLaws.{write-refused, write-laid}
use Rattle.words.specs.Words.{pending_words, words_of, word, record_in, is_record, decoded}
use Rattle.words.proofs.WordLaws.{counts-long, decoded-record, pending-alone, fits-record}
use Rattle.words.specs.declared.Decoded.{Decoded}
use Rattle.kurdavel.specs.Crossing.{StartCrossed, stores_after}
use Rattle.kurdavel.specs.CrossingLaws.{same-words, said-long, kept_on, handed, start-crossed, front-says}

-- ---- what is laid down

-- the same with another record behind the pending operation
abbrev behind : Record → Begun → Begun
behind r b = record { start = record { answer = b.start.answer; rec = with_pending r b.start.rec.pending }; work = b.work }

laid-bare : (r : Record) (e : Entry) (work : List ℕ)
    → behind r (laid_begun (bare r) (laid_entry r.edition (bare r) e) work) ≡ laid_begun r (laid_entry r.edition r e) work
unfolding laid_begun plan_of pick
laid-bare r e work = go (fits_head r.edition r e)
  where
    go : (t : Bool)
        → behind r (laid_begun (bare r) (pick t (laid_append r.edition e) (laid_head (new_layout r) (bare r) e)) work)
        ≡ laid_begun r (pick t (laid_append r.edition e) (laid_head (new_layout r) r e)) work
    go true = refl
    go false = refl

module _ (q : Terms) (words area cells work : List ℕ) (k : Key) (value : List ℕ) where
  abbrev says : Record
  says = (decoded words).rec

  -- what the tests of a write say of a record
  abbrev pub tests : Record → Check
  tests r = checked (first_cause (write_causes r.edition r (lent_lengths area cells work) q k (facts_for area cells k) (length value)))

  module _ (half : word words 7 < 4294967296) (stores : ℕ) {t : Bool} (tested : t ≡ fits_lent says.edition says (length area) (length cells)) where
    refused-crossed : (c : Refusal) {number : ℕ} → Err c ≡ tests says → number ≡ (start_said (Err c)).refused
        → StartCrossed q (write k value) words words area cells work work stores stores number
    unfolding stores_after
    refused-crossed c e m =
        start-crossed refl (write-refused _ q says area cells work k value c e (refused_start says c) refl)
        (handed {b = Err c} (same-words words half, said-long words) refl m refl)

    pub write-bad : not t ≡ true → StartCrossed q (write k value) words words area cells work work stores stores 4
    write-bad e =
        refused-crossed BadRecord
        (write-first says.edition says (lent_lengths area cells work) q k (presence_for area cells k) (length value) BadRecord
        (first-bad says.edition says (lent_lengths area cells work) q.tables k tested e))
        refl

    module _ (passed : not t ≡ false) {f : Record} (front : f ≡ bare (record_in words)) where
      fit : fits_lent says.edition says (length area) (length cells) ≡ true
      fit = sym tested ∙ not-false t passed

      is : f ≡ bare says
      is = front-says words (length area) (length cells) tested passed front

      pub front-fit : fits_lent f.edition f (length area) (length cells) ≡ true
      front-fit = ap (λ (r : Record). fits_lent r.edition r (length area) (length cells)) is ∙ fits-bare says.edition says (length area) (length cells) fit

      same_tests : tests f ≡ tests says
      same_tests =
          ap tests is
          ∙ ap checked
          (cause-skip _ _ (ap not (fits-bare says.edition says (length area) (length cells) fit)) ∙ sym (cause-skip _ _ (ap not fit)))

      pub write-turned : (c : Refusal) {number : ℕ} → Err c ≡ tests f → number ≡ (start_said (Err c)).refused
          → StartCrossed q (write k value) words words area cells work work stores stores number
      write-turned c e m = refused-crossed c (e ∙ same_tests) m

      pub write-begun : {words' work' : List ℕ} {p : Pending} {left : ℕ} → (Ok tt) ≡ tests f → (kind : ℕ) → kind ≡ or_zero (object_kind f.edition (length value))
          → record { start = started_with f p left; work = work' } ≡ laid_begun f (laid_entry f.edition f (entry_of f.edition kind k f.next value)) work
          → words' ≡ sets words 12 (pending_words p)
          → StartCrossed q (write k value) words words' area cells work work' stores left 0
      unfolding stores_after
      write-begun {words'} {work'} {p} {left} e kind known laid w =
          let are = fits-record _ words (length area) (length cells) fit in
          let said : decoded words ≡ record { ok = true; rec = record_in words } = decoded-record words are in
          let begun : record { start = started_with says p left; work = work' }
          ≡ laid_begun says (laid_entry says.edition says (entry_of says.edition kind k says.next value)) work =
          ap (behind says) (laid ∙ ap (λ (r : Record). laid_begun r (laid_entry r.edition r (entry_of r.edition kind k r.next value)) work) is)
          ∙ laid-bare says (entry_of says.edition kind k says.next value) work in
          start-crossed refl
          (write-laid _ q says area cells work k value (e ∙ same_tests) work' (started_with says p left) kind
          (known ∙ ap (λ (r : Record). or_zero (object_kind r.edition (length value))) is) begun)
          (handed {b = Ok left} (
            kept_on words words' (with_pending says p) (ap (λ (d : Decoded). d.ok) said)
                (w ∙ pending-alone words are half p ∙ ap (λ (d : Decoded). sets words 0 (words_of (with_pending d.rec p))) (sym said)),
            said-long words,
          )
          refl refl refl)
