-- The two theorems, by the invariant of runs and what a cleaning of two slots does to the tests of a write.
use Prim.Native.Nat.{ℕ, zero, suc, ◌+◌, ◌-◌, ◌≤◌, ◌<◌, max}
use native.Mathlib.Omega.{arith}
use native.Mathlib.Nat.{sub-zero}
use mathlib.Core.Path.{◌≡◌, refl, sym, ap, ◌∙◌, subst, subst⁻¹}
use mathlib.Core.Bool.{Bool, true, false, not}
use mathlib.Core.List.{List, [], ◌∷◌}
use mathlib.Core.Option.{Option, none, some}
use lib.Dec.{eqb, ltb}
use lib.ListN.{length, take, get_or}
use lib.Seq.{sets, take_all}
use borrow.Author.Tests.{le-ltb, ne_eqb, eqb-true, not-false, not-true}
use Rattle.word.specs.Laws.{taken-sets}
use Rattle.segment.specs.Choice.{pick, both, is_none}
use Rattle.segment.proofs.Choice.{pick-false, pick_true, both_left, both_right}
use Rattle.segment.specs.Layout.{Layout, number_limit}
use Rattle.segment.specs.declared.Key.{Key}
use Rattle.slot_map.specs.Bit.{named}
use Rattle.record.specs.Answers.{Said, refusal, start_said, step_said, with_pending}
use Rattle.record.specs.Pairs.{PairSaid, none_said, join_said}
use Rattle.record.specs.Range.{fits_lent}
use Rattle.record.specs.Refusals.{number_of_refusal}
use Rattle.record.specs.Switch.{new_layout, unswitched}
use Rattle.record.specs.Answered.{Joined, Start, Stepped}
use Rattle.record.specs.declared.Pending.{Pending}
use Rattle.record.specs.declared.Pending.TheVariants.{Idle}
use Rattle.record.specs.declared.Record.{Record}
use Rattle.record.specs.declared.Refusal.{Refusal}
use Rattle.record.specs.declared.Refusal.TheVariants.{BadRecord, WorkShort, Busy, NoRoom, BadVictims, KeptTooLong, NumbersSpent, NoPair}
use Rattle.model.specs.Log.{Placed}
use Rattle.model.specs.Causes.{when, first_cause}
use Rattle.model.specs.Recovery.{recovered}
use Rattle.model.specs.Operations.{Operation, write, clean, Typed, log_now, laid, stores_for, stored, started_record, finished_record}
use Rattle.model.specs.Refused.{Lengths, Terms, key_facts, record_bad, work_short, is_pending, victims_bad, kept_too_long, numbers_spent, kept_length, write_causes, clean_causes, start_causes, step_causes, freely}
use Rattle.model.specs.Promises.{Begun, begun, Genuine, Started, StartPromise, StepPromise, stepped, lent_lengths, read_lengths, left_after}
use Rattle.model.specs.Joining.{SlotPair, pair_of, join_fits, join_pair, join_causes, pair_answer, join_answer, JoinPromise}
use Rattle.laws.specs.CauseLaws.{causes-none, cause-skip, cause-first, cause-false, cause-rest, no-cause, refusal-number}
use Rattle.laws.specs.Members.{clash}
use Rattle.laws.specs.Passed.{step-passed}
use Rattle.laws.specs.Operated.{Accepted, plan_at}
use Rattle.laws.specs.OperationsKept.{edition-laws}
use Rattle.laws.specs.RecoverLaws.{recovered-edition}
use Rattle.joining.specs.PairLaws.{Joins, pair-given, pair-none}
use Rattle.history.specs.Book.{joins, starts, steps, asks, Answer, saying, pairing, called, accepted, Book, fresh_book, feed, book_of, version_told, highest_told}
use Rattle.history.specs.Editions.{Editions, formatted_in, editions_after, editions_behind}
use Rattle.history.specs.Runs.{Held, World, held_after, Asked, join, look, Moves, start, step, ask}
use Rattle.history.proofs.Invariant.{Inv, Holding, HeldGood, idle-same, held-promise}
use Rattle.history.proofs.Tellings.{started-pending}
use Rattle.history.proofs.Readings.{held_fits}
use Rattle.history.proofs.Starts.{not-pending}
use Rattle.history.proofs.Theorem.{fresh, run-keeps, move-keeps}
use Rattle.joined.specs.Helps.{Stepping, halt, then, NonePending, NumbersLeft, Named, Helps, JoinHelps, LogSlots, NoJoin}
use Rattle.joined.proofs.Again.{pair-good, skips, met-12, write_again}

-- a world in which a record is held
abbrev at : List ℕ → Held → Option ℕ → World
at area h m = record { area = area; held = some h; cells = m }

-- ---- what the moves are: a call with a record goes by the record's edition

pub record StartMade (L : Layout) (area : List ℕ) (h : Held) (m : Option ℕ) (q : Terms) (o : Operation) (lent : Lengths) (x : Answer) (y : World) : Type 0 where
  pub work : List ℕ
  pub work' : List ℕ
  pub start-answer : Start
  pub typed : Typed o
  pub promise : StartPromise L q o h.rec area h.cells work work' start-answer
  pub lent_is : lent ≡ lent_lengths area h.cells work
  pub says : x ≡ saying (start_said start-answer.answer)
  pub leads : y ≡ at area (held_after h work' start-answer) m

start-made : {n s : ℕ} {area : List ℕ} {h : Held} {m : Option ℕ} {q : Terms} {o : Operation} {lent : Lengths} {x : Answer} {y : World} →
    Moves n s (at area h m) (called (starts q o) lent x) y → StartMade h.rec.edition area h m q o lent x y
start-made (start {work = work} {work' = work'} {a = a} ty p) =
    record { work = work; work' = work'; start-answer = a; typed = ty; promise = p; lent_is = refl; says = refl; leads = refl }

pub record JoinMade (L : Layout) (area : List ℕ) (h : Held) (m : Option ℕ) (x : Answer) (y : World) : Type 0 where
  pub joined : Joined
  pub promise : JoinPromise L h.rec area h.cells joined
  pub says : x ≡ pairing (join_said joined.answer)
  pub stays : y ≡ at area h m

join-made : {n s : ℕ} {area : List ℕ} {h : Held} {m : Option ℕ} {lent : Lengths} {x : Answer} {y : World} →
    Moves n s (at area h m) (called (asks joins) lent x) y → JoinMade h.rec.edition area h m x y
join-made {n = n} {s = s} {area = area} {h = h} {m = m} {lent = lent} (look q) = elim q [ ]
join-made (ask (join {a = a} p)) = record { joined = a; promise = p; says = refl; stays = refl }

-- ---- the pair that is told

-- an answer that names slots names the pair
pair-told : (c : Option Refusal) (p : Option SlotPair) → (c ≡ none → is_none p ≡ false) → (i j : ℕ) →
    join_said (join_answer c p) ≡ record { refused = 0; first = i; second = j } → p ≡ some (record { first = i; second = j })
unfolding join_answer pair_answer is_none
pair-told (some c) p none_of i j e =
    let zero : number_of_refusal c ≡ 0 = ap (λ (x : PairSaid). x.refused) e in
    let own : ◌≡◌ {A = Bool} true false = sym (ap (λ (k : ℕ). eqb k 0) zero) ∙ refusal-number c in
    let z : ◌≡◌ {A = ℕ} 0 1 = cc in
    absurd (omega arith)
pair-told none none none_of i j e = let own = none_of refl in let z : ◌≡◌ {A = ℕ} 0 1 = cc in absurd (omega arith)
pair-told none (some p) none_of i j e =
    λ t. some (record { first = ap (λ (x : PairSaid). x.first) e t; second = ap (λ (x : PairSaid). x.second) e t })

-- 23 is told only where there is no pair
none_told : (c : Option Refusal) (p : Option SlotPair) → ((d : Refusal) → c ≡ some d → number_of_refusal d ≡ 23 → is_none p ≡ true) →
    join_said (join_answer c p) ≡ none_said 23 → p ≡ none
unfolding join_answer pair_answer is_none
none_told (some c) none only e = refl
none_told (some c) (some p) only e =
    let own = only c refl (ap (λ (x : PairSaid). x.refused) e) in let z : ◌≡◌ {A = ℕ} 0 1 = cc in absurd (omega arith)
none_told none none only e = refl
none_told none (some p) only e = let zero : ◌≡◌ {A = ℕ} 0 23 = ap (λ (x : PairSaid). x.refused) e in absurd (omega arith)

some-none : (p : SlotPair) → is_none (some p) ≡ false
unfolding is_none
some-none p = refl

nil : first_cause [] ≡ none
unfolding first_cause
nil = refl

-- two slots of the log that do not fit keep too much
last : (a b c : Bool) → a ≡ true → b ≡ true → both (both a b) (not c) ≡ false → c ≡ true
unfolding both
last true true true p q e = refl
last true true false p q e = sym e
last true false c p q e = absurd (clash false q refl)
last false b c p q e = absurd (clash false p refl)

module _ (E : Editions) (L : Layout) (n s : ℕ) where
  -- ---- the same by the edition of the head

  start-here : {area : List ℕ} {h : Held} {m : Option ℕ} {q : Terms} {o : Operation} {lent : Lengths} {x : Answer} {y : World} (b : Book) →
      Holding E L n s area m b h → Moves n s (at area h m) (called (starts q o) lent x) y → StartMade L area h m q o lent x y
  start-here {area = area} {h = h} {m = m} {q = q} {o = o} {lent = lent} {x = x} {y = y} b good move =
      held-promise E L n s area m b h good (λ (K : Layout). StartMade K area h m q o lent x y) (start-made move)

  join-here : {area : List ℕ} {h : Held} {m : Option ℕ} {lent : Lengths} {x : Answer} {y : World} (b : Book) →
      Holding E L n s area m b h → Moves n s (at area h m) (called (asks joins) lent x) y → JoinMade L area h m x y
  join-here {area = area} {h = h} {m = m} {x = x} {y = y} b good move =
      held-promise E L n s area m b h good (λ (K : Layout). JoinMade K area h m x y) (join-made move)

  -- ---- a store that holds a record

  module _ (area : List ℕ) (h : Held) (m : Option ℕ) (b : Book) (told : ℕ) (inv : Inv E L n s (at area h m) b told) (good : Holding E L n s area m b h) where
    abbrev r : Record
    r = h.rec

    abbrev log : List Placed
    log = log_now area r

    fits : fits_lent L r (length area) (length h.cells) ≡ true
    fits = held_fits E L (edition-laws L) n s area m b h inv.bytes good

    -- a refused start changes nothing
    refused-stays : (q : Terms) (o : Operation) (work work' : List ℕ) (a : Start) → StartPromise L q o r area h.cells work work' a → (c : Refusal) →
        first_cause (start_causes L r log (lent_lengths area h.cells work) q o) ≡ some c → held_after h work' a ≡ h
    unfolding begun
    refused-stays q o work work' a p c e =
        ap (λ (x : Begun). held_after h x.work x.start) (p.exact good.genuine ∙ ap (begun L r log o work) e) ∙
        ap (λ (w : List ℕ). record { rec = r; cells = h.cells; work = w }) (pick-false (eqb (number_of_refusal c) 0) work h.work (refusal-number c))

    -- what a start says, by its first cause
    start-says : (q : Terms) (o : Operation) (work work' : List ℕ) (a : Start) → StartPromise L q o r area h.cells work work' a → (c : Option Refusal) →
        first_cause (start_causes L r log (lent_lengths area h.cells work) q o) ≡ c → start_said a.answer ≡ start_said (begun L r log o work c).start.answer
    start-says q o work work' a p c e = ap (λ (x : Begun). start_said x.start.answer) (p.exact good.genuine ∙ ap (begun L r log o work) e)

    -- a start whose answer says 12 has a first cause of that number
    pub record Cause12 (q : Terms) (o : Operation) (work : List ℕ) : Type 0 where
      pub cause : Refusal
      pub is-first : first_cause (start_causes L r log (lent_lengths area h.cells work) q o) ≡ some cause
      pub twelve : number_of_refusal cause ≡ 12

    was-12 : (q : Terms) (o : Operation) (work work' : List ℕ) (a : Start) → StartPromise L q o r area h.cells work work' a →
        (start_said a.answer).refused ≡ 12 → Cause12 q o work
    unfolding begun
    was-12 q o work work' a p twelve = go (first_cause (start_causes L r log (lent_lengths area h.cells work) q o)) refl
      where
        go : (c : Option Refusal) → first_cause (start_causes L r log (lent_lengths area h.cells work) q o) ≡ c → Cause12 q o work
        go none e =
            let zero : ◌≡◌ {A = ℕ} 0 12 = sym (ap (λ (x : Said). x.refused) (start-says q o work work' a p none e)) ∙ twelve in absurd (omega arith)
        go (some c) e = record { cause = c; is-first = e; twelve = sym (ap (λ (x : Said). x.refused) (start-says q o work work' a p (some c) e)) ∙ twelve }

    -- ---- the pair

    -- the record is idle, and recovery of the area gives it, its switch aside
    module _ (quiet : is_pending r.pending ≡ false) where
      recovers : recovered L r.slots r.size r.cells area ≡ some (unswitched r)
      recovers = good.genuine.recovers ∙ ap some (idle-same r (not-pending r.pending quiet))

      -- what the causes of a join are, here
      only-pair : first_cause (join_causes L r (read_lengths area h.cells) (join_pair r log)) ≡ first_cause (when (is_none (join_pair r log)) NoPair ∷ [])
      only-pair =
          cause-skip (when (record_bad L r (read_lengths area h.cells)) BadRecord) _ (ap not fits) ∙
          cause-skip (when (is_pending r.pending) Busy) _ quiet

      named-pair : (a : Joined) → JoinPromise L r area h.cells a → (i j : ℕ) → join_said a.answer ≡ record { refused = 0; first = i; second = j } →
          Joins (join_fits r log) r.slots i j
      named-pair a p i j e =
          pair-given (join_fits r log) r.slots (record { first = i; second = j })
          (pair-told (first_cause (join_causes L r (read_lengths area h.cells) (join_pair r log))) (join_pair r log)
          (λ none_of. cause-false (when (is_none (join_pair r log)) NoPair) [] (sym only-pair ∙ none_of)) i j (sym (ap join_said (p.exact good.genuine)) ∙ e))

      -- a pair that fits can be cleaned
      module _ (i j : ℕ) (w : Joins (join_fits r log) r.slots i j) where
        both-named : (named r.map i ≡ true) × (named r.map j ≡ true)
        unfolding join_fits
        both-named =
            let slots = both_left _ _ w.fit in
            (both_left (named r.map i) (named r.map j) slots, both_right (named r.map i) (named r.map j) slots)

        short-enough : kept_too_long r (kept_length (new_layout r) log (pair_of i j)) ≡ false
        unfolding join_fits
        short-enough = not-inner (kept_too_long r (kept_length (new_layout r) log (pair_of i j))) (both_right _ _ w.fit)
          where
            not-inner : (t : Bool) → not t ≡ true → t ≡ false
            not-inner true e = sym e
            not-inner false e = refl

        clean-passes : r.digest.0 ≤ 4294967293 → (work : List ℕ) → r.size ≤ length work → (q : Terms) →
            first_cause (start_causes L r log (lent_lengths area h.cells work) q (clean (pair_of i j))) ≡ none
        unfolding start_causes
        clean-passes few work long q =
            causes-none (clean_causes L r (lent_lengths area h.cells work) (kept_length (new_layout r) log (pair_of i j)) (pair_of i j)) (
              ap not fits,
              (
                le-ltb (length work) r.size long,
                (
                  quiet,
                  (
                    pair-good i j (λ e. omega (arith, w.apart)) r both-named.0 both-named.1,
                    (
                      short-enough,
                      (
                        ne_eqb r.digest.0 number_limit (λ e. omega (arith, e)),
                        tt,
                      ),
                    ),
                  ),
                ),
              ),
            )

        accepted-clean : Typed (clean (pair_of i j)) → r.digest.0 ≤ 4294967293 → (work : List ℕ) → r.size ≤ length work → Accepted L area r (clean (pair_of i j))
        accepted-clean ty few work long =
            record {
              lengths = lent_lengths area h.cells work;
              area-bytes = inv.bytes;
              typed = ty;
              recovers = recovers;
              no-cause = clean-passes few work long freely;
            }

-- ---- steps of a cleaning

module _ (L : Layout) (n s : ℕ) where
  -- A cleaning that was started on this area and record is at an area and a record held: some of its stores are done, or all.
  pub data During (area : List ℕ) (r : Record) (victims : ℕ) (area₁ : List ℕ) (h : Held) : Type 0 where
    going :
        (st : Started L area₁ h.rec h.work) → st.before ≡ area → st.idle ≡ r → st.operation ≡ clean victims → During area r victims area₁ h
    over : area₁ ≡ stored area (plan_at L area r (clean victims)) → h.rec ≡ finished_record L area r (clean victims) → During area r victims area₁ h

  module _ (area : List ℕ) (r : Record) (victims : ℕ) where
    -- what a step leaves held
    abbrev left-held : Held → List ℕ → Stepped → Held
    left-held h cells₂ a = record { rec = a.rec; cells = cells₂; work = h.work }

    -- a step of a started operation, by the stores left after it
    step-on :
        (area₁ area₂ cells₂ : List ℕ) (h : Held) (a : Stepped) (st : Started L area₁ h.rec h.work) →
        area₂ ≡ stored st.before (take (suc st.since) (plan_at L st.before st.idle st.operation)) →
        (j : ℕ) → left_after L area₁ h.rec h.work st ≡ j → a ≡ stepped L st.before st.idle st.operation j →
        st.before ≡ area → st.idle ≡ r → st.operation ≡ clean victims → During area r victims area₂ (left-held h cells₂ a)
    unfolding stepped
    step-on area₁ area₂ cells₂ h a st stores zero e is p q o =
        over
        (stores ∙
        ap (stored st.before) (take_all (suc st.since) (plan_at L st.before st.idle st.operation) (omega (arith, e, st.some_left))) ∙
        (λ t. stored (p t) (plan_at L (p t) (q t) (o t))))
        (ap (λ (x : Stepped). x.rec) is ∙ (λ t. finished_record L (p t) (q t) (o t)))
    step-on area₁ area₂ cells₂ h a st stores (suc k) e is p q o =
        going
        (record {
          operation = st.operation;
          before = st.before;
          idle = st.idle;
          since = suc st.since;
          lengths = st.lengths;
          typed = st.typed;
          area-bytes = st.area-bytes;
          recovers = st.recovers;
          accepted = st.accepted;
          some_left = omega (arith, e, st.some_left);
          record-now =
              ap (λ (x : Stepped). x.rec) is ∙
              ap (λ (x : ℕ). with_pending st.idle ((laid L st.idle (log_now st.before st.idle) st.operation).pending x)) (sym e);
          area-now = stores;
          work-now = st.work-now;
        })
        p q o

    step-during :
        (K : Layout) (area₁ area₂ cells₂ work : List ℕ) (h : Held) (a : Stepped) → h.rec.edition ≡ K →
        (is_pending h.rec.pending ≡ true → work ≡ h.work) → StepPromise K h.rec area₁ area₂ h.cells cells₂ work a →
        Genuine K area₁ h.rec h.cells → During area r victims area₁ h →
        During area r victims area₂ (left-held h cells₂ a)
    unfolding finished_record is_pending
    step-during K area₁ area₂ cells₂ work h a its own p g d = go (first_cause (step_causes K h.rec (lent_lengths area₁ h.cells work))) refl d
      where
        go : (c : Option Refusal) → first_cause (step_causes K h.rec (lent_lengths area₁ h.cells work)) ≡ c → During area r victims area₁ h →
            During area r victims area₂ (left-held h cells₂ a)
        go (some c) e d =
            let x = p.refused c e in
            subst⁻¹ (λ (y : List ℕ). During area r victims y (left-held h cells₂ a)) x.area_same
            (subst⁻¹ (λ (y : Held). During area r victims area₁ y)
            (λ t. record { rec = ap (λ (z : Stepped). z.rec) x.answers t; cells = x.index_same t; work = h.work }) d)
        go none e d = by-phase d
          where
            some-pending : is_pending h.rec.pending ≡ true
            some-pending = not-false (is_pending h.rec.pending) (step-passed K h.rec (lent_lengths area₁ h.cells work) e).some-pending

            same-work : work ≡ h.work
            same-work = own some-pending

            by-phase : During area r victims area₁ h → During area r victims area₂ (left-held h cells₂ a)
            by-phase (going st b q o) =
                -- until the last store the head is of the edition that it had
                let here : K ≡ L =
                sym its ∙ ap (λ (y : Record). y.edition) st.record-now ∙
                recovered-edition L st.idle.slots st.idle.size st.idle.cells st.before (unswitched st.idle) st.recovers in
                let x =
                (subst (λ (M : Layout). StepPromise M h.rec area₁ area₂ h.cells cells₂ h.work a) here
                (subst (λ (y : List ℕ). StepPromise K h.rec area₁ area₂ h.cells cells₂ y a) same-work p)).exact
                (subst (λ (M : Layout). first_cause (step_causes M h.rec (lent_lengths area₁ h.cells h.work)) ≡ none) here
                (subst (λ (y : List ℕ). first_cause (step_causes K h.rec (lent_lengths area₁ h.cells y)) ≡ none) same-work e))
                (subst (λ (M : Layout). Genuine M area₁ h.rec h.cells) here g) st in
                step-on area₁ area₂ cells₂ h a st x.stores (left_after L area₁ h.rec h.work st) refl x.answers b q o
            by-phase (over b q) =
                let never : ◌≡◌ {A = Bool} true false = sym some-pending ∙ ap (λ (y : Record). is_pending y.pending) q in
                let z : ◌≡◌ {A = ℕ} 0 1 = cc in
                absurd (omega arith)

    -- where steps lead; the head may then be of another edition (02, R-13)
    pub record Led (y : World) : Type 0 where
      pub editions : Editions
      pub layout : Layout
      pub area₂ : List ℕ
      pub held₂ : Held
      pub cells₂ : Option ℕ
      pub book : Book
      pub told : ℕ
      pub is : y ≡ at area₂ held₂ cells₂
      pub inv : Inv editions layout n s (at area₂ held₂ cells₂) book told
      pub during : During area r victims area₂ held₂

    leads : {y : World} (E : Editions) (K : Layout) (area₁ : List ℕ) (h : Held) (m : Option ℕ) (b : Book) (told : ℕ) → Inv E K n s (at area₁ h m) b told →
        During area r victims area₁ h → Stepping n s (at area₁ h m) y → Led y
    unfolding HeldGood
    leads E K area₁ h m b told inv d halt =
        record { editions = E; layout = K; area₂ = area₁; held₂ = h; cells₂ = m; book = b; told = told; is = refl; inv = inv; during = d }
    leads E K area₁ h m b told inv d (then (step {area' = area₂} {cells' = cells₂} {work = work} {a = a} own p) rest) =
        let made : Moves n s (at area₁ h m) (called steps (lent_lengths area₁ h.cells work) (saying (step_said a.answer))) (at area₂ (left-held h cells₂ a) m) =
        step own p in
        let (M, kept, _) = move-keeps n s E K b told made inv in
        let its : h.rec.edition ≡ K = held-promise E K n s area₁ m b h inv.held (λ (X : Layout). h.rec.edition ≡ X) refl in
        let promise = held-promise E K n s area₁ m b h inv.held (λ (X : Layout). StepPromise X h.rec area₁ area₂ h.cells cells₂ work a) p in
        leads _ M area₂ (left-held h cells₂ a) m _ _ kept (step-during K area₁ area₂ cells₂ work h a its own promise inv.held.genuine d) rest

-- ---- the write again

module _ (E : Editions) (L : Layout) (n s : ℕ) where
  -- what a write and a join right behind it know of the pair
  pub record Known (area : List ℕ) (h : Held) (k : Key) (value : List ℕ) (t : Terms) (i j : ℕ) : Type 0 where
    pub lent : Lengths
    pub cause : Refusal
    pub twelve : number_of_refusal cause ≡ 12
    pub refused : first_cause (start_causes L h.rec (log_now area h.rec) lent t (write k value)) ≡ some cause
    pub quiet : is_pending h.rec.pending ≡ false
    pub fit : Joins (join_fits h.rec (log_now area h.rec)) h.rec.slots i j
    pub few : h.rec.digest.0 ≤ 4294967293

  abbrev CleansAt : World → ℕ → ℕ → Type 0
  CleansAt w i j =
      (q : Terms) (lent : Lengths) (a : Answer) (x : World) → s ≤ lent.work → Moves n s w (called (starts q (clean (pair_of i j))) lent a) x → accepted a ≡ true

  abbrev WritesAt : World → Key → List ℕ → Terms → ℕ → ℕ → Type 0
  WritesAt w k value t i j =
      (q : Terms) (lent : Lengths) (a : Answer) (x : World) → s ≤ lent.work → Moves n s w (called (starts q (clean (pair_of i j))) lent a) x → (y : World) →
      Stepping n s x y → NonePending y → (lent' : Lengths) (a' : Answer) (z : World) → s ≤ lent'.work →
      Moves n s y (called (starts t (write k value)) lent' a') z → accepted a' ≡ true

  module _ (area : List ℕ) (h : Held) (m : Option ℕ) (b : Book) (told : ℕ) (inv : Inv E L n s (at area h m) b told) (good : Holding E L n s area m b h)
      (k : Key) (value : List ℕ) (t : Terms) (i j : ℕ) (know : Known area h k value t i j)
    where
      abbrev victims : ℕ
      victims = pair_of i j

      long-work : (lent : Lengths) (work : List ℕ) → lent ≡ lent_lengths area h.cells work → s ≤ lent.work → h.rec.size ≤ length work
      long-work lent work is long = omega (arith, long, good.size_same, ap (λ (l : Lengths). l.work) is)

      no-cause-of : (q : Terms) (work : List ℕ) → h.rec.size ≤ length work →
          first_cause (start_causes L h.rec (log_now area h.rec) (lent_lengths area h.cells work) q (clean victims)) ≡ none
      no-cause-of q work long = clean-passes E L n s area h m b told inv good know.quiet i j know.fit know.few work long q

      cleans-here : CleansAt (at area h m) i j
      unfolding begun
      cleans-here q lent a x long move =
          let c = start-here E L n s b good move in
          ap accepted c.says ∙
          ap (λ (y : Said). eqb y.refused 0)
          (start-says E L n s area h m b told inv good q (clean victims) c.work c.work' c.start-answer c.promise none
          (no-cause-of q c.work (long-work lent c.work c.lent_is long)))

      -- the record held once the cleaning is started
      begun-held : List ℕ → Held
      begun-held work =
          record {
            rec = started_record L h.rec (log_now area h.rec) (clean victims);
            cells = h.cells;
            work = sets work 0 (laid L h.rec (log_now area h.rec) (clean victims)).bytes;
          }

      begun-here : (q : Terms) (work work' : List ℕ) (a : Start) → StartPromise L q (clean victims) h.rec area h.cells work work' a →
          h.rec.size ≤ length work → held_after h work' a ≡ begun-held work
      unfolding begun pick begun-held
      begun-here q work work' a p long =
          ap (λ (x : Begun). held_after h x.work x.start)
          (p.exact good.genuine ∙ ap (begun L h.rec (log_now area h.rec) (clean victims) work) (no-cause-of q work long))

      began : Typed (clean victims) → (work : List ℕ) → h.rec.size ≤ length work → During L n s area h.rec victims area (begun-held work)
      unfolding stored begun-held accepted-clean
      began ty work long =
          let acc = accepted-clean E L n s area h m b told inv good know.quiet i j know.fit ty know.few work long in
          going
          (record {
            operation = clean victims;
            before = area;
            idle = h.rec;
            since = 0;
            lengths = lent_lengths area h.cells work;
            typed = ty;
            area-bytes = inv.bytes;
            recovers = acc.recovers;
            accepted = acc.no-cause;
            some_left = (edition-laws L).some-stores area h.rec (clean victims) acc;
            record-now = rw sub-zero refl;
            area-now = refl;
            work-now =
                taken-sets work 0 (laid L h.rec (log_now area h.rec) (clean victims)).bytes
                (length (laid L h.rec (log_now area h.rec) (clean victims)).bytes) refl
                (omega (arith, long, (edition-laws L).bytes_fit area h.rec (clean victims) acc));
          })
          refl refl refl

      -- at the end of the steps the write is accepted
      written : Accepted L area h.rec (clean victims) → (E₂ : Editions) (K : Layout) (area₂ : List ℕ) (h₂ : Held) (m₂ : Option ℕ) (b₂ : Book) (told₂ : ℕ) →
          Inv E₂ K n s (at area₂ h₂ m₂) b₂ told₂ → Holding E₂ K n s area₂ m₂ b₂ h₂ → During L n s area h.rec victims area₂ h₂ → h₂.rec.pending ≡ Idle →
          (lent : Lengths) (a : Answer) (z : World) → s ≤ lent.work → Moves n s (at area₂ h₂ m₂) (called (starts t (write k value)) lent a) z → accepted a ≡ true
      unfolding is_pending begun start_causes
      written acc E₂ K area₂ h₂ m₂ b₂ told₂ inv₂ good₂ (going st _ _ _) quiet lent a z long move =
          let never : ◌≡◌ {A = Bool} true false = sym (started-pending L area₂ h₂.rec h₂.work st) ∙ ap is_pending quiet in
          let w : ◌≡◌ {A = ℕ} 0 1 = cc in
          absurd (omega arith)
      written acc E₂ K area₂ h₂ m₂ b₂ told₂ inv₂ good₂ (over here is) quiet lent a z long move =
          let c = start-here E₂ K n s b₂ good₂ move in
          ap accepted c.says ∙
          ap (λ (y : Said). eqb y.refused 0)
          (start-says E₂ K n s area₂ h₂ m₂ b₂ told₂ inv₂ good₂ t (write k value) c.work c.work' c.start-answer c.promise none (passes c.work c.lent_is))
        where
          passes : (work : List ℕ) → lent ≡ lent_lengths area₂ h₂.cells work →
              first_cause (start_causes K h₂.rec (log_now area₂ h₂.rec) (lent_lengths area₂ h₂.cells work) t (write k value)) ≡ none
          passes work lent_is =
              (λ τ. first_cause (write_causes K (is τ) (lent_lengths area₂ h₂.cells work) t k (key_facts (log_now (here τ) (is τ)) k) (length value))) ∙
              write_again L area h.rec i j know.fit.apart know.fit.below acc know.lent (lent_lengths area₂ h₂.cells work) t k (length value)
              know.cause know.twelve know.refused know.few K
              (subst (λ (x : Record). fits_lent K x (length area₂) (length h₂.cells) ≡ true) is (held_fits E₂ K (edition-laws K) n s area₂ m₂ b₂ h₂ inv₂.bytes good₂))
              (omega (arith, long, good.size_same, ap (λ (l : Lengths). l.work) lent_is))

      writes-here : WritesAt (at area h m) k value t i j
      unfolding HeldGood
      writes-here q lent a x long move y run quiet lent' a' z long' move' =
          let c = start-here E L n s b good move in
          let enough = long-work lent c.work c.lent_is long in
          let there : x ≡ at area (begun-held c.work) m =
          c.leads ∙ ap (λ (g : Held). at area g m) (begun-here q c.work c.work' c.start-answer c.promise enough) in
          let (M, kept, _) = move-keeps n s E L b told move inv in
          let led =
          leads L n s area h.rec victims _ M area (begun-held c.work) m _ _
          (subst
          (λ (w : World).
          Inv (editions_after E (called (starts q (clean victims)) lent a)) M n s w (feed b (called (starts q (clean victims)) lent a))
          (max told (version_told (called (starts q (clean victims)) lent a))))
          there kept)
          (began c.typed c.work enough) (subst (λ (w : World). Stepping n s w y) there run) in
          written (accepted-clean E L n s area h m b told inv good know.quiet i j know.fit c.typed know.few c.work enough) led.editions led.layout led.area₂ led.held₂ led.cells₂
          led.book led.told led.inv led.inv.held led.during (quiet led.held₂ (ap (λ (w : World). w.held) led.is)) lent' a' z long'
          (subst (λ (w : World). Moves n s w (called (starts t (write k value)) lent' a') z) led.is move')

  -- ---- together

  -- an answer with two slots says them
  pairing-says : (p q : PairSaid) → pairing p ≡ pairing q → p ≡ q
  pairing-says p q e =
      λ t.
      record {
        refused = (e t).said.refused;
        first = get_or (e t).value 0 0;
        second = get_or (e t).value 1 0;
      }

  joins-helps :
      {w x₁ x₂ : World} {t : Terms} {k : Key} {value : List ℕ} {lent₁ lent₂ : Lengths} {a₁ a₂ : Answer} (b : Book) (told : ℕ) → Inv E L n s w b told →
      Moves n s w (called (starts t (write k value)) lent₁ a₁) x₁ → a₁.said.refused ≡ 12 → Moves n s x₁ (called (asks joins) lent₂ a₂) x₂ → (i j : ℕ) →
      a₂ ≡ pairing (record { refused = 0; first = i; second = j }) → NumbersLeft w → CleansAt x₂ i j × WritesAt x₂ k value t i j
  unfolding HeldGood start_causes
  joins-helps {x₂ = x₂} {t = t} {k = k} {value = value} {lent₂ = lent₂} {a₂ = a₂} b told inv (start {area = area} {work = work} {work' = work'} {h = h} {m = m} {a = a} ty p) twelve ask₂ i j names few =
      subst⁻¹ (λ (x : World). CleansAt x i j × WritesAt x k value t i j) made.stays
      (cleans-here area h m b told inv inv.held k value t i j known, writes-here area h m b told inv inv.held k value t i j known)
    where
      promise : StartPromise L t (write k value) h.rec area h.cells work work' a
      promise = held-promise E L n s area m b h inv.held (λ (K : Layout). StartPromise K t (write k value) h.rec area h.cells work work' a) p

      met : Cause12 E L n s area h m b told inv inv.held t (write k value) work
      met = was-12 E L n s area h m b told inv inv.held t (write k value) work work' a promise twelve

      made : JoinMade L area h m a₂ x₂
      made =
          join-here E L n s b inv.held
          (subst (λ (g : Held). Moves n s (at area g m) (called (asks joins) lent₂ a₂) x₂)
          (refused-stays E L n s area h m b told inv inv.held t (write k value) work work' a promise met.cause met.is-first) ask₂)

      quiet : is_pending h.rec.pending ≡ false
      quiet =
          (met-12 L h.rec (lent_lengths area h.cells work) t k (key_facts (log_now area h.rec) k) (length value) met.cause met.twelve met.is-first
          ).idle

      known : Known area h k value t i j
      known =
          record {
            lent = lent_lengths area h.cells work;
            cause = met.cause;
            twelve = met.twelve;
            refused = met.is-first;
            quiet = quiet;
            fit = named-pair E L n s area h m b told inv inv.held quiet made.joined made.promise i j (pairing-says _ _ (sym made.says ∙ names));
            few = few h refl;
          }

  -- 23 means that there is no pair
  module _ (area : List ℕ) (h : Held) (m : Option ℕ) (b : Book) (told : ℕ) (inv : Inv E L n s (at area h m) b told) (good : Holding E L n s area m b h) where
    abbrev its-pair : Option SlotPair
    its-pair = join_pair h.rec (log_now area h.rec)

    told-23 : (c : Option Refusal) → join_said (join_answer c its-pair) ≡ none_said 23 →
        first_cause (join_causes L h.rec (read_lengths area h.cells) its-pair) ≡ c → (is_pending h.rec.pending ≡ false) × (its-pair ≡ none)
    unfolding join_answer pair_answer
    told-23 none e first = absurd (never its-pair e)
      where
        never : (p : Option SlotPair) → join_said (pair_answer p) ≡ none_said 23 → ⊥
        never none q = let zero : ◌≡◌ {A = ℕ} 0 23 = ap (λ (x : PairSaid). x.refused) q in omega arith
        never (some p) q = let zero : ◌≡◌ {A = ℕ} 0 23 = ap (λ (x : PairSaid). x.refused) q in omega arith
    told-23 (some d) e first =
        let number : number_of_refusal d ≡ 23 = ap (λ (x : PairSaid). x.refused) e in
        let x = skips (when (record_bad L h.rec (read_lengths area h.cells)) BadRecord) _ d 23 number refl first in
        let y = skips (when (is_pending h.rec.pending) Busy) _ d 23 number refl x.1 in
        (y.0, gone its-pair d y.1)
      where
        gone : (p : Option SlotPair) (d : Refusal) → first_cause (when (is_none p) NoPair ∷ []) ≡ some d → p ≡ none
        gone none d q = refl
        gone (some p) d q =
            let no : first_cause (when (is_none (some p)) NoPair ∷ []) ≡ none = cause-skip (when (is_none (some p)) NoPair) [] (some-none p) ∙ nil in
            let z : ◌≡◌ {A = ℕ} 0 1 = cc in
            absurd (omega arith)

    no-join-here : (a : Joined) → JoinPromise L h.rec area h.cells a → join_said a.answer ≡ none_said 23 → (i j : ℕ) → i < j → j < n →
        (named h.rec.map i ≡ true) × (named h.rec.map j ≡ true) → (q : Terms) (work work' : List ℕ) (c : Start) → s ≤ length work →
        StartPromise L q (clean (pair_of i j)) h.rec area h.cells work work' c → start_said c.answer ≡ refusal 14
    unfolding begun start_causes join_fits
    no-join-here a p says i j l below slots q work work' c long start₂ =
        start-says E L n s area h m b told inv good q (clean (pair_of i j)) work work' c start₂ (some KeptTooLong)
        (cause-skip (when (record_bad L h.rec (lent_lengths area h.cells work)) BadRecord) _ (ap not (held_fits E L (edition-laws L) n s area m b h inv.bytes good)) ∙
        cause-skip (when (work_short h.rec (lent_lengths area h.cells work)) WorkShort) _ (le-ltb (length work) h.rec.size (omega (arith, good.size_same, long))) ∙
        cause-skip (when (is_pending h.rec.pending) Busy) _ facts.0 ∙
        cause-skip (when (victims_bad h.rec (pair_of i j)) BadVictims) _ (pair-good i j (λ e. omega arith) h.rec slots.0 slots.1) ∙
        cause-first (when (kept_too_long h.rec (kept_length (new_layout h.rec) (log_now area h.rec) (pair_of i j))) KeptTooLong) _ long_kept)
      where
        facts : (is_pending h.rec.pending ≡ false) × (its-pair ≡ none)
        facts =
            told-23 (first_cause (join_causes L h.rec (read_lengths area h.cells) its-pair)) (sym (ap join_said (p.exact good.genuine)) ∙ says) refl

        unfit : join_fits h.rec (log_now area h.rec) i j ≡ false
        unfit = pair-none (join_fits h.rec (log_now area h.rec)) h.rec.slots facts.1 i j l (omega (arith, good.slots_same, below))

        long_kept : kept_too_long h.rec (kept_length (new_layout h.rec) (log_now area h.rec) (pair_of i j)) ≡ true
        long_kept =
            last (named h.rec.map i) (named h.rec.map j) (kept_too_long h.rec (kept_length (new_layout h.rec) (log_now area h.rec) (pair_of i j))) slots.0 slots.1
            unfit

  no_joins :
      {w x y : World} {lent lent' : Lengths} {a a' : Answer} {q : Terms} (b : Book) (told : ℕ) → Inv E L n s w b told →
      Moves n s w (called (asks joins) lent a) x → a ≡ pairing (none_said 23) → (i j : ℕ) → i < j → j < n → LogSlots w i j → s ≤ lent'.work →
      Moves n s x (called (starts q (clean (pair_of i j))) lent' a') y → a' ≡ saying (refusal 14)
  unfolding HeldGood
  no_joins {w = w} {y = y} {lent = lent} {a = a} {q = q} b told inv (look m) says i j l below slots long move = elim m [ ]
  no_joins {q = q} b told inv (ask (join {area = area} {h = h} {m = m} {a = a} p)) says i j l below slots long move =
      let c = start-here E L n s b inv.held move in
      let promise = held-promise E L n s area m b h inv.held (λ (K : Layout). JoinPromise K h.rec area h.cells a) p in
      c.says ∙
      ap saying
      (no-join-here area h m b told inv inv.held a promise (pairing-says _ _ says) i j l below (slots h refl) q c.work c.work' c.start-answer
      (omega (arith, long, ap (λ (x : Lengths). x.work) c.lent_is)) c.promise)

-- 02, R-7: after cleaning the pair the same write is accepted. For a store that was formatted in either edition (R-11), switched or not (R-13).
pub join-helps : (L : Layout) → JoinHelps L
join-helps L n s area₀ area bytes p es w r t k value d few =
    let (K, kept, _) = run-keeps n s (formatted_in L) L fresh_book 0 r (fresh n s L area₀ area bytes p) in
    let both_ways =
    joins-helps (editions_behind (formatted_in L) es) K n s (book_of es) (max 0 (highest_told es)) kept d.wrote d.met-12 d.asked d.first d.second
    d.names few in
    record { cleans = both_ways.0; writes = both_ways.1 }

-- 02, R-7: 23 means that no two log slots can be cleaned into one head.
pub no_join : (L : Layout) → NoJoin L
no_join L n s area₀ area bytes p es w r lent a x asked says i j l below slots q lent' a' y long move =
    let (K, kept, _) = run-keeps n s (formatted_in L) L fresh_book 0 r (fresh n s L area₀ area bytes p) in
    no_joins (editions_behind (formatted_in L) es) K n s (book_of es) (max 0 (highest_told es)) kept asked says i j l below slots long move
