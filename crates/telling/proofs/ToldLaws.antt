-- What is told keeps the promise, for every record, area and work buffer.
use Rattle.std.specs.Prelude.{ℕ, ◌≤◌, ◌<◌, refl, Bool, true, false, not, List, ◌⊎◌, length, get_or, Ok, Err, None, Some}
use Rattle.std.proofs.Math.Path.{◌≡◌, sym, ap}
use Rattle.std.proofs.Common.{◌∙◌, subst, inl, inr, mul-le-mul, arith, ltb-false}
use Rattle.std.proofs.Math.Option.{Option, none, some}
use Rattle.std.proofs.lemmas.Bool.{not-false}
use Rattle.segment.proofs.Choice.{pick_true, pick-false}
use Rattle.segment.specs.Layout.{Layout}
use Rattle.record.specs.Answers.{taken, said_by, tell_said, stores_left}
use Rattle.record.specs.Range.{fits_lent}
use Rattle.record.specs.RangeLaws.{Lent, lent}
use Rattle.record.specs.Answered.{Foretold, TellAnswer}
use Rattle.record.specs.declared.Record.{Record}
use Rattle.record.specs.declared.Refusal.{Refusal}
use Rattle.record.specs.declared.Refusal.TheVariants.{BadRecord, WorkShort, NonePending}
use Rattle.model.specs.Causes.{first_cause}
use Rattle.model.specs.Refused.{Lengths, tell_causes}
use Rattle.model.specs.Promises.{Started, tell_lengths, turn_of, TellPromise}
use Rattle.laws.specs.Passed.{step-passed}
use Rattle.laws.specs.Operated.{OperationLaws}
use Rattle.telling.specs.Next.{next_store, NextStore}
use Rattle.telling.proofs.NextLaws.{next-inside}
use Rattle.telling.specs.Agree.{agrees_with, tested_store}
use Rattle.telling.proofs.AgreeLaws.{tested-unfit, tested-next}
use Rattle.telling.proofs.TestLaws.{step-bad, step-short, step-none, step-goes, tested-turn}
use Rattle.record.specs.AnswerLaws.{ok-same}
use Rattle.record.specs.declared.ToldStore.{ToldStore}
use Rattle.telling.specs.Told.{refused_telling, told_store, told_unless, told_by}

-- the store that is told is one that was found
told-found : (x : NextStore) (p b : ℕ) → told_store x ≡ Ok (record { place = p; byte = b }) → x ≡ Some (record { place = p; byte = b })
unfolding told_store
told-found (Some s) p b e = ap (λ (t : ToldStore). Some t) (ok-same e)
told-found None p b e = let z : ◌≡◌ {A = ℕ} 0 1 = cc in absurd (omega arith)

-- and behind the test whether the pending operation agrees with the record, it is the next one
tested-found : (L : Layout) (n : ℕ) (work : List ℕ) (r : Record) (p b : ℕ) → tested_store L n work r ≡ Some (record { place = p; byte = b }) → next_store n work r ≡ Some (record { place = p; byte = b })
unfolding tested_store
tested-found L n work r p b = go (agrees_with L r r.pending) refl
  where
    go : (t : Bool) → agrees_with L r r.pending ≡ t → tested_store L n work r ≡ Some (record { place = p; byte = b }) → next_store n work r ≡ Some (record { place = p; byte = b })
    go true t e = sym (pick_true _ _ _ t) ∙ e
    go false t e = let w : ◌≡◌ {A = NextStore} None (Some (record { place = p; byte = b })) = sym (pick-false _ _ _ t) ∙ e in let z : ◌≡◌ {A = ℕ} 0 1 = cc in absurd (omega arith)

module _ (L : Layout) (laws : OperationLaws L) (r : Record) (area work : List ℕ) where
  abbrev cause : Option Refusal
  cause = first_cause (tell_causes L r (tell_lengths area work))

  abbrev lengths : Lengths
  lengths = record { area = length area; index = r.cells; work = length work }

  fits : cause ≡ none → Lent L r (length area) r.cells
  fits e = lent L r (length area) r.cells (not-false _ (step-passed L r lengths e).record-good)

  long : cause ≡ none → r.size ≤ length work
  long e = ltb-false (length work) r.size (step-passed L r lengths e).work-long

  unless-some : (c : Refusal) → cause ≡ some c → told_unless L r (length area) work cause ≡ Err c
  unfolding told_unless
  unless-some c e = ap (told_unless L r (length area) work) e

  unless-none : cause ≡ none → told_unless L r (length area) work cause ≡ told_store (tested_store L (length area) work r)
  unfolding told_unless
  unless-none e = ap (told_unless L r (length area) work) e

  told-turn : cause ≡ none → (s : Started L area r work) →
      told_unless L r (length area) work cause ≡ Ok (record { place = (turn_of L area r work s).0; byte = (turn_of L area r work s).1 })
  unfolding told_store
  told-turn e s = unless-none e ∙ ap told_store (tested-turn L laws r area work (long e) s)

  found_inside : cause ≡ none → (p b : ℕ) → tested_store L (length area) work r ≡ Some (record { place = p; byte = b }) → p < length area
  found_inside e p b t =
      (next-inside (length area) work r p b (fits e).head-below (fits e).area-own r.pending (tested-found L (length area) work r p b t)).1

  told-inside : (c : Option Refusal) → cause ≡ c → (p b : ℕ) → told_unless L r (length area) work c ≡ Ok (record { place = p; byte = b }) → p < length area
  unfolding told_unless
  told-inside none e p b t = found_inside e p b (told-found (tested_store L (length area) work r) p b t)
  told-inside (some c) e p b t = let z : ◌≡◌ {A = ℕ} 0 1 = cc in absurd (omega arith)

  told-says : (c : Option Refusal) → cause ≡ c → ((d : Refusal) × (cause ≡ some d)) ⊎ Started L area r work →
      tell_said (told_unless L r (length area) work cause) ≡ said_by c taken
  unfolding said_by
  told-says (some c) e w = ap tell_said (unless-some c e)
  told-says none e (inl (d, f)) =
      let q : ◌≡◌ {A = Option Refusal} (some d) none = sym f ∙ e in
      let z : ◌≡◌ {A = ℕ} 0 1 = cc in
      absurd (omega arith)
  told-says none e (inr s) = ap tell_said (told-turn e s)

  pub told-promise : {x : Foretold} → x ≡ told_by L r area work → TellPromise L r area work x
  told-promise e = subst (λ (y : Foretold). TellPromise L r area work y) (sym e) made
    where
      made : TellPromise L r area work (told_by L r area work)
      made =
          record {
            hands-back = refl;
            refused = unless-some;
            exact = told-turn;
            inside = told-inside cause refl;
            says = told-says cause refl;
          }

  -- what the code is to show of its answer
  abbrev pub Ensured : Foretold → Type 0
  Ensured x = (x ≡ told_by L r area work) × TellPromise L r area work x

  both_hold : {x : Foretold} → x ≡ told_by L r area work → Ensured x
  both_hold e = (e, told-promise e)

  pub tell-told : {a : TellAnswer} → a ≡ (told_by L r area work).answer → Ensured (record { answer = a; rec = r })
  tell-told e = both_hold (ap (λ (a : TellAnswer). record { answer = a; rec = r }) e)

  pub tell-bad : {t : Bool} → t ≡ fits_lent L r (length area) r.cells → not t ≡ true → Ensured (refused_telling r BadRecord)
  tell-bad found e = both_hold (sym (ap (λ (a : TellAnswer). record { answer = a; rec = r }) (unless-some BadRecord (step-bad L r lengths found e))))

  -- ---- at each return of the code, behind the tests of range and lengths; k is what it finds for the stores left, u whether the operation agrees

  module _ (fit : fits_lent L r (length area) r.cells ≡ true) where
    -- the answer that is to be told
    abbrev Told : TellAnswer → Type 0
    Told a = a ≡ told_unless L r (length area) work cause

    pub tell-lent : Lent L r (length area) r.cells
    tell-lent = lent L r (length area) r.cells fit

    pub tell-short : length work < r.size → Told (Err WorkShort)
    tell-short h = sym (unless-some WorkShort (step-short L r lengths (sym fit) refl h))

    module _ (enough : r.size ≤ length work) {k : ℕ} (left : k ≡ stores_left r.pending) where
      pub tell_none : k ≡ 0 → Told (Err NonePending)
      tell_none e = sym (unless-some NonePending (step-none L r lengths (sym fit) refl enough left e))

      module _ (some_left : k ≡ 0 → ⊥) {u : Bool} (agrees : u ≡ agrees_with L r r.pending) where
        goes : cause ≡ none
        goes = step-goes L r lengths (sym fit) refl enough left some_left

        told-store : (y : NextStore) → tested_store L (length area) work r ≡ y → Told (told_store y)
        told-store y t = sym (unless-none goes ∙ ap told_store t)

        pub tell-unfit : not u ≡ true → Told (Err BadRecord)
        unfolding told_store
        tell-unfit e = told-store None (tested-unfit L (length area) work r agrees e)

        module _ (fitting : not u ≡ false) {y : NextStore} (next : y ≡ next_store (length area) work r) where
          pub tell-nowhere : y ≡ None → Told (Err BadRecord)
          unfolding told_store
          tell-nowhere e = told-store None (tested-next L (length area) work r agrees fitting (sym next ∙ e))

          module _ (place byte : ℕ) (is : y ≡ Some (record { place = place; byte = byte })) where
            tested : tested_store L (length area) work r ≡ Some (record { place = place; byte = byte })
            tested = tested-next L (length area) work r agrees fitting (sym next ∙ is)

            pub tell-place : place < 4294967296
            tell-place =
                omega (arith, found_inside goes place byte tested, (fits goes).area-own, mul-le-mul (fits goes).slots-high (fits goes).size-high)

            pub tell-at : Told (Ok (record { place = place; byte = byte }))
            unfolding told_store
            tell-at = told-store (Some (record { place = place; byte = byte })) tested
