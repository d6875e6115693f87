-- The switch on the words of the record as they are: what the code has found, case by case.
use Rattle.std.specs.Prelude.{ℕ, ◌<◌, ◌≡◌, refl, Bool, false, not, List, [], ◌∷◌, set, Ok, Err}
use Rattle.std.proofs.Common.{sym, ◌∙◌, arith}
use Rattle.std.proofs.Math.Path.{ap}
use Rattle.std.proofs.Math.Bool.{true}
use Rattle.std.proofs.Math.Seq.{sets}
use Rattle.segment.specs.Choice.{pick}
use Rattle.record.specs.Range.{in_range}
use Rattle.record.specs.Switch.{switched_on, switch-first, switch-second}
use Rattle.record.specs.declared.Pending.{Pending}
use Rattle.record.specs.declared.Pending.TheVariants.{Idle, Append, NewHead, Clean, Forget}
use Rattle.record.specs.declared.Record.{Record}
use Rattle.record.specs.declared.Refusal.TheVariants.{BadRecord, Busy}
use Rattle.record.specs.Answered.{SwitchAnswer}
use Rattle.model.specs.Switching.{switching}
use Rattle.switching.specs.SwitchLaws.{bad-promise, busy-promise, taken-promise}
use Rattle.words.specs.Words.{pending_words, words_of, word, record_in, is_record, switch_number, decoded}
use Rattle.words.proofs.WordLaws.{first_of, second-of, edition-either, pending-words, encode-decode, switch-alone}
use Rattle.words.specs.declared.Decoded.{Decoded}
use Rattle.kurdavel.specs.Crossing.{SwitchCrossed}
use Rattle.kurdavel.specs.CrossingLaws.{range-out, range-in, range-are, range-said, same-words, said-long, kept_on}

-- an operation whose first word is 0 is none, and only that
idle-word : (p : Pending) {t s v n k : ℕ} → pending_words p ≡ t ∷ s ∷ v ∷ n ∷ k ∷ [] → t ≡ 0 → p ≡ Idle
idle-word Idle e z = refl
idle-word (Append n k) e z = let c : ◌≡◌ {A = ℕ} 0 1 = cc in absurd (omega arith)
idle-word (NewHead s n k) e z = let c : ◌≡◌ {A = ℕ} 0 2 = cc in absurd (omega arith)
idle-word (Clean s v n k) e z = let c : ◌≡◌ {A = ℕ} 0 3 = cc in absurd (omega arith)
idle-word (Forget s v n k) e z = let c : ◌≡◌ {A = ℕ} 0 4 = cc in absurd (omega arith)

word-idle : (p : Pending) {t s v n k : ℕ} → pending_words p ≡ t ∷ s ∷ v ∷ n ∷ k ∷ [] → p ≡ Idle → t ≡ 0
word-idle p e i = let f : pending_words p ≡ 0 ∷ 0 ∷ 0 ∷ 0 ∷ 0 ∷ [] = ap (λ (q : Pending). pending_words q) i in cc

module _ (words : List ℕ) (half : word words 7 < 4294967296) where
  -- t is what the code finds for the range
  module _ {t : Bool} (tested : t ≡ in_range (decoded words).rec.edition (decoded words).rec) where
    pub switch-bad : not t ≡ true → SwitchCrossed words words 4
    unfolding switching
    switch-bad e =
        record {
          switching = record { answer = Err BadRecord; rec = (decoded words).rec };
          promised = bad-promise _ _ _ (range-out words tested e) refl;
          numbered = refl;
          says = same-words words half;
          long = said-long words;
        }

    module _ (passed : not t ≡ false) where
      are : is_record words ≡ true
      are = range-are words tested passed

      said-rec : (decoded words).rec ≡ record_in words
      said-rec = ap (λ (d : Decoded). d.rec) (range-said words tested passed)

      said-pending : (decoded words).rec.pending ≡ (record_in words).pending
      said-pending = ap (λ (r : Record). r.pending) said-rec

      pub switch-busy : (word words 12 ≡ 0 → ⊥) → SwitchCrossed words words 5
      unfolding switching
      switch-busy d =
          record {
            switching = record { answer = Err Busy; rec = (decoded words).rec };
            promised = busy-promise _ _ _ (range-in words tested passed) (λ i. d (word-idle (record_in words).pending (pending-words words are) (sym said-pending ∙ i))) refl;
            numbered = refl;
            says = same-words words half;
            long = said-long words;
          }

      module _ (idle : word words 12 ≡ 0) where
        -- the words are those of the record that is switched
        done : (words' : List ℕ) → words' ≡ sets words 0 (words_of (switched_on (record_in words))) → SwitchCrossed words words' 0
        unfolding switching
        done words' w =
            record {
              switching = record { answer = (Ok tt); rec = switched_on (decoded words).rec };
              promised = taken-promise _ _ _ (range-in words tested passed) (said-pending ∙ idle-word (record_in words).pending (pending-words words are) idle) refl;
              numbered = refl;
              says =
                  kept_on words words' (switched_on (decoded words).rec) (ap (λ (d : Decoded). d.ok) (range-said words tested passed))
                  (w ∙ ap (λ (r : Record). sets words 0 (words_of (switched_on r))) (sym said-rec));
              long = said-long words;
            }

        pub switch-turned : word words 10 ≡ 1 → SwitchCrossed words (set words 11 1) 0
        unfolding switch_number pick
        switch-turned own =
            done (set words 11 1)
            (switch-alone words are half true
            ∙ ap (λ (r : Record). sets words 0 (words_of r)) (sym (switch-first (record_in words) (first_of (word words 10) (λ e. omega arith)))))

        pub switch-stays : (word words 10 ≡ 1 → ⊥) → SwitchCrossed words words 0
        switch-stays d =
            done words
            (sym (encode-decode words are half)
            ∙ ap (λ (r : Record). sets words 0 (words_of r)) (sym (switch-second (record_in words) (second-of (word words 10) (edition-either words are d)))))
