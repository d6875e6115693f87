-- The call at each of its tests, and that its answers keep the promise.
use Rattle.std.specs.Prelude.{ℕ, ◌≤◌, ◌<◌, ◌≡◌, Bool, true, false, ltb, length, replicate, Some, None, Ok, Err}
use Rattle.std.specs.Prelude as std
use Rattle.std.proofs.Math.Path.{refl, ap}
use Rattle.std.proofs.Common.{sym, ◌∙◌, inl, inr, mul-le-mul, arith, le-ltb}
use Rattle.std.proofs.Math.Bool.{not}
use Rattle.std.proofs.Math.Option.{Option, none, some}
use mathlib.Core.List.{List, [], ◌∷◌}
use Rattle.std.proofs.lemmas.List.{length-replicate}
use Rattle.std.proofs.lemmas.Bool.{not-false}
use Rattle.segment.specs.Choice.{is_none}
use Rattle.segment.specs.Layout.{Layout, digest_size}
use Rattle.record.specs.Range.{fits_lent}
use Rattle.record.specs.RangeLaws.{Lent, lent}
use Rattle.record.specs.Switch.{new_layout}
use Rattle.record.specs.Pairs.{join_said}
use Rattle.record.specs.Answered.{Joined, JoinAnswer}
use Rattle.record.specs.declared.Record.{Record}
use Rattle.record.specs.declared.Refusal.{Refusal}
use Rattle.record.specs.declared.Refusal.TheVariants.{BadRecord, WorkShort, Busy, NoPair}
use Rattle.model.specs.Causes.{when, first_cause}
use Rattle.model.specs.Operations.{log_now}
use Rattle.model.specs.Refused.{Lengths, record_bad, is_pending}
use Rattle.model.specs.Promises.{Genuine, Settled, read_lengths}
use Rattle.model.specs.Joining.{SlotPair, lowest_pair, join_pair, join_early, join_causes, pair_answer, join_answer, pair_said, pair_said_by, JoinPromise}
use Rattle.laws.specs.CauseLaws.{cause-first, cause-skip, cause-false, cause-none, first_some, first-none}
use Rattle.record.specs.Answered.{Check}
use Rattle.starting.specs.Checks.{checked, idle_causes}
use Rattle.starting.specs.CheckLaws.{refused, skipped, checked-some, checked-none}
use Rattle.cleaning.specs.KeptModel.{genuine-indexed}
use Rattle.cleaning.specs.declared.Split.{Split}
use Rattle.joining.specs.Notes.{NotesFit, note_all}
use Rattle.joining.specs.Weights.{Rows, numbers_fit, weights_fit}
use Rattle.joining.specs.WeightsLaws.{fits-same}
use Rattle.joining.specs.PairLaws.{chosen_is, pair-given, pair_same}
use Rattle.joining.specs.JoinModel.{log_split, pair-model}

-- ---- the first tests

module _ (L : Layout) (r : Record) (l : Lengths) {t : Bool} (e : t ≡ fits_lent L r l.area l.index) where
  pub check-bad : not t ≡ true → Err BadRecord ≡ checked (first_cause (join_early L r l))
  check-bad h = refused (when (record_bad L r l) BadRecord) _ (sym (ap not e) ∙ h)

  -- with a work buffer of S bytes the tests of 3 and 5 are that of 5
  pub check-rest : not t ≡ false → {a : Check} → a ≡ checked (first_cause (idle_causes r r.size)) → a ≡ checked (first_cause (join_early L r l))
  unfolding idle_causes
  check-rest h d =
      skipped (when (record_bad L r l) BadRecord) _ (sym (ap not e) ∙ h)
      (d ∙ ap checked (cause-skip (when (ltb r.size r.size) WorkShort) (when (is_pending r.pending) Busy ∷ []) (le-ltb r.size r.size (omega arith))))

-- ---- the pair

-- by the numbers it is the pair by what is kept
pub chosen-same :
    (L : Layout) (area cells notes : List ℕ) (split : Split) (totals shares : List ℕ) (chosen : std.Option (ℕ × ℕ)) → split.slots ≤ 32 →
    notes ≡ note_all area cells split (replicate 5958 0) → Rows L area cells notes split split.slots totals shares →
    chosen ≡ chosen_is (lowest_pair (numbers_fit totals shares split (digest_size L)) split.slots) →
    chosen ≡ chosen_is (lowest_pair (weights_fit L area cells (note_all area cells split (replicate 5958 0)) split) split.slots)
chosen-same L area cells notes split totals shares chosen most is w e =
    e
    ∙ ap chosen_is
    (pair_same (numbers_fit totals shares split (digest_size L)) (weights_fit L area cells notes split) split.slots
    (fits-same L area cells notes split split.slots totals shares most w))
    ∙ ap (λ (ns : List ℕ). chosen_is (lowest_pair (weights_fit L area cells ns split) split.slots)) is

was-pair : (o : Option SlotPair) (i j : ℕ) → Some (i, j) ≡ chosen_is o → o ≡ some (record { first = i; second = j })
unfolding chosen_is
was-pair none i j e = cc
was-pair (some p) i j e =
    let same : (i, j) ≡ (p.first, p.second) = cc in
    let one : p.first ≡ i = ap (λ (q : ℕ × ℕ). q.0) (sym same) in
    let two : p.second ≡ j = ap (λ (q : ℕ × ℕ). q.1) (sym same) in
    λ x. some (record { first = one x; second = two x })

was-nothing : (o : Option SlotPair) → None ≡ chosen_is o → o ≡ none
unfolding chosen_is
was-nothing none e = refl
was-nothing (some p) e = cc

-- both slots of a pair are below n
pub pair_small : (fits : ℕ → ℕ → Bool) (n i j : ℕ) → Some (i, j) ≡ chosen_is (lowest_pair fits n) → (i < n) × (j < n)
pair_small fits n i j e =
    let w = pair-given fits n (record { first = i; second = j }) (was-pair _ i j e) in
    (omega (arith, w.apart, w.below), w.below)

-- ---- the promise

answer-said : (c : Option Refusal) (p : Option SlotPair) → join_said (join_answer c p) ≡ pair_said_by c p
unfolding join_answer pair_said_by pair_answer pair_said
answer-said none none = refl
answer-said none (some p) = refl
answer-said (some c) p = refl

module _ (L : Layout) (area cells : List ℕ) (r : Record) where
  abbrev l : Lengths
  l = read_lengths area cells

  -- the pair by the code's weights
  abbrev pub code_pair : Option SlotPair
  code_pair = lowest_pair (weights_fit (new_layout r) area cells (note_all area cells (log_split r) (replicate 5958 0)) (log_split r)) r.slots

  early-first : (p : Option SlotPair) (c : Refusal) → first_cause (join_early L r l) ≡ some c → first_cause (join_causes L r l p) ≡ some c
  early-first p c e = first_some (join_early L r l) (when (is_none p) NoPair ∷ []) c e

  -- what is lent, where the first tests are passed
  in-range : first_cause (join_early L r l) ≡ none → Lent L r (length area) (length cells)
  in-range e = lent L r (length area) (length cells) (not-false _ (cause-false (when (record_bad L r l) BadRecord) _ e))

  pub fits-notes : (Ok tt) ≡ checked (first_cause (join_early L r l)) → (split : Split) → split ≡ log_split r → NotesFit split area cells (replicate 5958 0)
  fits-notes e split is =
      let f = in-range (checked-none _ e) in
      rw is
      (record {
        slots = record { slots-high = f.slots-high; size_low = f.size_low; size-high = f.size-high; whole = f.area-own };
        cells-few = omega (arith, f.cells-high, f.index-own);
        notes-long = length-replicate {A = ℕ} 5958 0;
      })

  promise : (a : Joined) → a.rec ≡ r → a.answer ≡ join_answer (first_cause (join_causes L r l code_pair)) code_pair → JoinPromise L r area cells a
  unfolding join_answer pair_said_by
  promise a back e =
      record {
        hands-back = back;
        early = early;
        exact = exact;
        says = says;
      }
    where
      early : (c : Refusal) → first_cause (join_early L r l) ≡ some c → a.answer ≡ Err c
      early c q = e ∙ ap (λ (o : Option Refusal). join_answer o code_pair) (early-first code_pair c q)

      model : Option SlotPair
      model = join_pair r (log_now area r)

      exact : Genuine L area r cells → a.answer ≡ join_answer (first_cause (join_causes L r l model)) model
      exact g = e ∙ go (first_cause (join_early L r l)) refl
        where
          go : (o : Option Refusal) → first_cause (join_early L r l) ≡ o →
              join_answer (first_cause (join_causes L r l code_pair)) code_pair ≡ join_answer (first_cause (join_causes L r l model)) model
          go (some c) q =
              ap (λ (d : Option Refusal). join_answer d code_pair) (early-first code_pair c q)
              ∙ sym (ap (λ (d : Option Refusal). join_answer d model) (early-first model c q))
          go none q =
              let f = in-range q in
              ap (λ (p : Option SlotPair). join_answer (first_cause (join_causes L r l p)) p)
              (pair-model area cells (omega (arith, f.area-own, mul-le-mul f.slots-high f.size-high)) r (genuine-indexed L area cells r g)
              (omega (arith, f.cells-high, f.index-own)) f.slots-high)

      says : Settled L area r cells (join_early L r l) → join_said a.answer ≡ pair_said_by (first_cause (join_causes L r l model)) model
      says (inl (c, q)) = ap join_said (early c q) ∙ sym (ap (λ (d : Option Refusal). pair_said_by d model) (early-first model c q))
      says (inr g) = ap join_said (exact g) ∙ answer-said (first_cause (join_causes L r l model)) model

  pub join-refused : (c : Refusal) → Err c ≡ checked (first_cause (join_early L r l)) → JoinPromise L r area cells (record { answer = Err c; rec = r })
  unfolding join_answer
  join-refused c e =
      promise (record { answer = Err c; rec = r }) refl
      (sym (ap (λ (d : Option Refusal). join_answer d code_pair) (early-first code_pair c (checked-some _ c e))))

  -- W is the edition that the code takes for the new head
  module _ (e : (Ok tt) ≡ checked (first_cause (join_early L r l))) (W : Layout) (new : W ≡ new_layout r) (split : Split)
      (is : split ≡ log_split r) (chosen : std.Option (ℕ × ℕ))
      (its : chosen ≡ chosen_is (lowest_pair (weights_fit W area cells (note_all area cells split (replicate 5958 0)) split) split.slots)) where
    code : chosen ≡ chosen_is code_pair
    code =
        its
        ∙ ap (λ (K : Layout). chosen_is (lowest_pair (weights_fit K area cells (note_all area cells split (replicate 5958 0)) split) split.slots)) new
        ∙ ap (λ (s : Split). chosen_is (lowest_pair (weights_fit (new_layout r) area cells (note_all area cells s (replicate 5958 0)) s) s.slots)) is

    only : first_cause (join_causes L r l code_pair) ≡ first_cause (when (is_none code_pair) NoPair ∷ [])
    only = first-none (join_early L r l) (when (is_none code_pair) NoPair ∷ []) (checked-none _ e)

    pub join-pair : (i j : ℕ) → chosen ≡ Some (i, j) → JoinPromise L r area cells (record { answer = Ok (record { first = i; second = j }); rec = r })
    unfolding join_answer pair_answer is_none first_cause
    join-pair i j p =
        let q : code_pair ≡ some (record { first = i; second = j }) = was-pair code_pair i j (sym p ∙ code) in
        promise (record { answer = Ok (record { first = i; second = j }); rec = r }) refl
        (sym
        (ap (λ (d : Option Refusal). join_answer d code_pair) (only ∙ cause-none (when (is_none code_pair) NoPair) [] (ap (λ (o : Option SlotPair). is_none o) q) refl)
        ∙ ap pair_answer q))

    pub join-none : chosen ≡ None → JoinPromise L r area cells (record { answer = Err NoPair; rec = r })
    unfolding join_answer is_none
    join-none p =
        promise (record { answer = Err NoPair; rec = r }) refl
        (sym
        (ap (λ (d : Option Refusal). join_answer d code_pair)
        (only ∙ cause-first (when (is_none code_pair) NoPair) [] (ap (λ (o : Option SlotPair). is_none o) (was-nothing code_pair (sym p ∙ code))))))

    pub pair-below : (i j : ℕ) → chosen ≡ Some (i, j) → (i < 32) × (j < 32)
    pair-below i j p =
        let w = pair_small _ r.slots i j (sym p ∙ code) in
        let f = in-range (checked-none _ e) in
        (omega (arith, w.0, f.slots-high), omega (arith, w.1, f.slots-high))
