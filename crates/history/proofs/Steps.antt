-- A step keeps the invariant, and answers what the book says.
use Rattle.std.specs.Prelude.{Ok, Err}
use Prim.Native.Nat.{ℕ, zero, suc, ◌-◌, ◌<◌, max}
use native.Mathlib.Nat.{max-zero}
use native.Mathlib.Omega.{arith}
use mathlib.Core.Path.{◌≡◌, refl, sym, ap, ◌∙◌, subst, subst⁻¹}
use mathlib.Core.Bool.{Bool, true, false}
use mathlib.Core.Logic.{inl, inr}
use mathlib.Core.List.{List}
use mathlib.Core.Option.{Option, none, some}
use lib.Dec.{eqb}
use lib.ListN.{length, take}
use lib.Seq.{take_all}
use borrow.Author.Tests.{not-false}
use Rattle.word.specs.Number.{Bytes}
use Rattle.segment.specs.Choice.{pick}
use Rattle.segment.proofs.Choice.{pick-false}
use Rattle.segment.specs.Layout.{Layout, edition2}
use Rattle.slot_map.specs.Bit.{named}
use Rattle.segment.specs.declared.Key.{Key}
use Rattle.record.specs.Answers.{step_said, with_pending}
use Rattle.record.specs.Refusals.{number_of_refusal}
use Rattle.record.specs.declared.Pending.TheVariants.{Idle}
use Rattle.record.specs.declared.Refusal.{Refusal}
use Rattle.record.specs.Answered.{Stepped, StepAnswer}
use Rattle.record.specs.declared.Progress.{Progress}
use Rattle.record.specs.Switch.{new_layout, unswitched}
use Rattle.record.specs.declared.Record.{Record}
use Rattle.model.specs.Log.{Placed, views_of}
use Rattle.model.specs.Causes.{first_cause}
use Rattle.model.specs.Recovery.{recovered}
use Rattle.model.specs.Index.{IndexRule}
use Rattle.model.specs.Operations.{log_now, laid, stores_for, stored, finished_record, told_version}
use Rattle.model.specs.Refused.{Lengths, is_pending, step_causes}
use Rattle.model.specs.Promises.{Started, StepPromise, StepExact, stepped, IndexStepped, left_after, lent_lengths}
use Rattle.laws.specs.CauseLaws.{refusal-number}
use Rattle.laws.specs.Passed.{step-passed}
use Rattle.laws.specs.MapLaws.{value_at}
use Rattle.laws.specs.Headed.{SlotOrigin}
use Rattle.laws.specs.RecoverLaws.{recovered-edition}
use Rattle.laws.specs.Operated.{Accepted, OperationLaws, plan_at}
use Rattle.history.specs.Book.{steps, saying, Event, called, Awaited, Book, feed, feed_call, take_one, one_off, finish, version_for, version_told}
use Rattle.history.specs.Editions.{Editions, Among}
use Rattle.history.specs.Runs.{Held}
use Rattle.history.specs.Demand3.{EventAgrees, StepAgrees}
use Rattle.history.proofs.Invariant.{Inv, SlotsAmong, recovered-is, Holding, HeldGood, Phase, idle, pending, next_of, log-of, idle-of, slots-of, size_of, cells_of, idle-same, with-geometry, own-geometry, started-accepted, rebuilt, book_entry}
use Rattle.history.proofs.Finished.{finish-idle, finished-edition, finished-switch, finished-next, told_same, told_below, next_grows, finished-map}

module _ (E : Editions) (L : Layout) (laws : OperationLaws L) (n s : ℕ) where
  abbrev pub step_event : Lengths → StepAnswer → Event
  step_event lent a = called steps lent (saying (step_said a))

  -- what is to be shown of a step that answers a and leaves this area and these cells: a new head may be of another edition
  abbrev pub StepGoal : Held → Option ℕ → Lengths → Book → ℕ → List ℕ → List ℕ → Stepped → Type 0
  StepGoal h m lent b t area' cells' a =
      (K : Layout)
      × Inv E K n s (record { area = area'; held = some (record { rec = a.rec; cells = cells'; work = h.work }); cells = m })
      (feed b (step_event lent a.answer)) (max t (version_told (step_event lent a.answer)))
      × EventAgrees E b (step_event lent a.answer)

  -- ---- refused

  refused :
      (area : List ℕ) (h : Held) (m : Option ℕ) (lent : Lengths) (b : Book) (t : ℕ) (c : Refusal) → Inv E L n s (record { area = area; held = some h; cells = m }) b t →
      StepGoal h m lent b t area h.cells (record { answer = Err c; rec = h.rec })
  unfolding feed version_told EventAgrees
  refused area h m lent b t c inv = (
    L,
    rw (max-zero t, pick-false (eqb (number_of_refusal c) 0) (feed_call b steps 0) b, refusal-number c) inv,
    λ p. absurd (never (sym p ∙ refusal-number c)),
  )
    where
      never : ◌≡◌ {A = Bool} true false → ⊥
      never p = let z : ◌≡◌ {A = ℕ} 0 1 = cc in absurd (omega arith)

  -- ---- a step of a started operation

  module _ (area : List ℕ) (h : Held) (m : Option ℕ) (lent : Lengths) (b : Book) (t : ℕ) (inv : Inv E L n s (record { area = area; held = some h; cells = m }) b t)
      (good : Holding E L n s area m b h) (st : Started L area h.rec h.work)
      (awaited :
      b.pending ≡
      some (record { operation = st.operation; left = stores_for L st.idle (log_now st.before st.idle) st.operation - st.since }))
    where
      acc : Accepted L st.before st.idle st.operation
      acc = started-accepted L area h.rec h.work st

      -- the geometry of the store is that of the run
      slots-idle : st.idle.slots ≡ n
      slots-idle = ap (λ (x : Record). x.slots) (sym st.record-now) ∙ good.slots_same

      size-idle : st.idle.size ≡ s
      size-idle = ap (λ (x : Record). x.size) (sym st.record-now) ∙ good.size_same

      cells-idle : some st.idle.cells ≡ m
      cells-idle = ap (λ (x : Record). some x.cells) (sym st.record-now) ∙ sym good.cells_same

      -- a record recovered with the store's own geometry is recovered with the run's
      own : (K : Layout) (after : List ℕ) (r : Record) → recovered K st.idle.slots st.idle.size st.idle.cells after ≡ some r → recovered K n s st.idle.cells after ≡ some r
      own K after r e = with-geometry K st.idle.slots n st.idle.size s st.idle.cells after (some r) slots-idle size-idle e

      -- the old area recovers to the idle record, whose log is the one at the start
      area-recovers : recovered L n s st.idle.cells area ≡ some (unswitched st.idle)
      area-recovers = own L area (unswitched st.idle) (rw st.area-now (laws.prefix-recovers st.before st.idle st.operation acc st.since st.some_left))

      area-log : log_now area st.idle ≡ log_now st.before st.idle
      area-log = rw st.area-now (laws.prefix-log st.before st.idle st.operation acc st.since st.some_left)

      next-idle : st.idle.next.0 ≡ b.next
      next-idle = sym (next_of L n s st.idle.cells area (unswitched st.idle) area-recovers) ∙ inv.agrees.next-same

      map-idle : (k : Key) → value_at (log_now st.before st.idle) k ≡ book_entry k (b.keys k)
      map-idle k =
          ap (λ (x : List Placed). value_at x k) (sym area-log ∙ sym (log-of L n s st.idle.cells area (unswitched st.idle) area-recovers)) ∙
          inv.agrees.map_same k

      -- the slots of the log were of editions that they may have when the operation was started
      idle-among : SlotsAmong E n s st.before st.idle.map
      idle-among i l q =
          subst (Among E)
          (ap (λ (a : List ℕ). (views_of a s i).layout) st.area-now ∙
          subst
          (λ (k : ℕ).
          (views_of (stored st.before (take st.since (plan_at L st.before st.idle st.operation))) k i).layout ≡ (views_of st.before k i).layout)
          size-idle (laws.prefix-slots st.before st.idle st.operation acc st.since st.some_left i q))
          (inv.agrees.slots-among i l
          (ap (λ (x : Record). named x.map i) (sym (recovered-is L n s st.idle.cells area (unswitched st.idle) area-recovers)) ∙ q))

      idle-edition : st.idle.edition ≡ L
      idle-edition = recovered-edition L n s st.idle.cells area (unswitched st.idle) area-recovers

      -- and so would be a new head
      new-among : Among E (new_layout st.idle)
      unfolding pick
      new-among = go st.idle.switched refl
        where
          go : (x : Bool) → st.idle.switched ≡ x → Among E (pick x edition2 st.idle.edition)
          go true e = inr (good.switch (ap (λ (y : Record). y.switched) st.record-now ∙ e), refl)
          go false e = subst⁻¹ (Among E) idle-edition inv.agrees.own-among

      -- the area after one more store
      abbrev after : List ℕ
      after = stored st.before (take (suc st.since) (plan_at L st.before st.idle st.operation))

      abbrev left : ℕ
      left = left_after L area h.rec h.work st

      one_more : stores_for L st.idle (log_now st.before st.idle) st.operation - st.since ≡ suc left
      one_more = omega (arith, st.some_left)

      one_less : stores_for L st.idle (log_now st.before st.idle) st.operation - st.since - 1 ≡ left
      one_less = omega (arith, st.some_left)

      -- one off the book's stores left
      book-left :
          (stores version : ℕ) →
          feed b (called steps lent (saying (record { refused = 0; stores = stores; version = version; kind = 0 }))) ≡ one_off b st.operation left
      unfolding feed feed_call take_one pick
      book-left stores version = ap (take_one b) awaited ∙ ap (one_off b st.operation) one_less

      agrees-with : (a : StepAnswer) → (step_said a).stores ≡ left → (left ≡ 0 → (step_said a).version ≡ version_for b st.operation) → EventAgrees E b (step_event lent a)
      unfolding EventAgrees StepAgrees
      agrees-with a e v _ =
          subst⁻¹ (λ (x : Option Awaited). StepAgrees b (step_said a) x) awaited (e ∙ sym one_less, λ p. v (omega (arith, one_less, p)))

      -- not the last: the same record with one store less, the same log, the same index
      goes_on : (k : ℕ) → left ≡ suc k → StepGoal h m lent b t after h.cells (record { answer = Ok (Progress.Left (suc k)); rec = with_pending st.idle ((laid L st.idle (log_now st.before st.idle) st.operation).pending (suc k)) })
      unfolding one_off HeldGood version_told
      goes_on k e = (
        L,
        rw
            (book-left (suc k) 0, max-zero t, e)
            (subst (λ (c : Option ℕ). Inv E L n s (record { area = after; held = some held'; cells = c }) b' t) cells-idle
            (rebuilt E L n s st.idle.cells after (unswitched st.idle) (some held') b' t bytes' recovers' next-idle
            (λ j. ap (λ (x : List Placed). value_at x j) log' ∙ map-idle j) inv.agrees.own-among slots' inv.below holding')),
        agrees-with (Ok (Progress.Left (suc k))) (sym e) (λ z. absurd (omega (arith, e, z))),
      )
        where
          held' : Held
          held' =
              record {
                rec = with_pending st.idle ((laid L st.idle (log_now st.before st.idle) st.operation).pending (suc k));
                cells = h.cells;
                work = h.work;
              }

          b' : Book
          b' = record { keys = b.keys; next = b.next; pending = some (record { operation = st.operation; left = suc k }) }

          more : suc st.since < length (plan_at L st.before st.idle st.operation)
          more = omega (arith, e, st.some_left)

          bytes' : Bytes after
          bytes' = laws.plan-bytes st.before st.idle st.operation acc (suc st.since)

          -- every slot of the log is as it was
          slots' : SlotsAmong E n s after st.idle.map
          slots' i l q =
              subst⁻¹ (Among E)
              (subst
              (λ (x : ℕ).
              (views_of (stored st.before (take (suc st.since) (plan_at L st.before st.idle st.operation))) x i).layout ≡ (views_of st.before x i).layout)
              size-idle (laws.prefix-slots st.before st.idle st.operation acc (suc st.since) more i q))
              (idle-among i l q)

          own-recovers : recovered L st.idle.slots st.idle.size st.idle.cells after ≡ some (unswitched st.idle)
          own-recovers = laws.prefix-recovers st.before st.idle st.operation acc (suc st.since) more

          recovers' : recovered L n s st.idle.cells after ≡ some (unswitched st.idle)
          recovers' = own L after (unswitched st.idle) own-recovers

          log' : log_now after st.idle ≡ log_now st.before st.idle
          log' = laws.prefix-log st.before st.idle st.operation acc (suc st.since) more

          idle' : st.idle.pending ≡ Idle
          idle' = idle-of L n s st.idle.cells area (unswitched st.idle) area-recovers

          rule-idle : IndexRule st.idle.size (log_now area st.idle) h.cells
          rule-idle = subst (λ (x : Record). IndexRule x.size (log_now area x) h.cells) st.record-now good.genuine.rule

          started' : Started L after held'.rec h.work
          started' =
              record {
                operation = st.operation;
                before = st.before;
                idle = st.idle;
                since = suc st.since;
                lengths = st.lengths;
                typed = st.typed;
                area-bytes = st.area-bytes;
                recovers = st.recovers;
                accepted = st.accepted;
                some_left = more;
                record-now = ap (λ (x : ℕ). with_pending st.idle ((laid L st.idle (log_now st.before st.idle) st.operation).pending x)) (sym e);
                area-now = refl;
                work-now = st.work-now;
              }

          holding' : Holding E L n s after (some st.idle.cells) b' held'
          holding' =
              record {
                slots_same = slots-idle;
                size_same = size-idle;
                cells_same = refl;
                index-long = good.index-long ∙ ap (λ (x : Record). x.cells) st.record-now;
                genuine =
                    record {
                      recovers = own-recovers ∙ ap some (sym (idle-same st.idle idle'));
                      rule = subst (λ (x : List Placed). IndexRule st.idle.size x h.cells) (area-log ∙ sym log') rule-idle;
                    };
                phase = pending started' (ap (λ (x : ℕ). some (record { operation = st.operation; left = x })) (sym e));
                switch = λ q. good.switch (ap (λ (x : Record). x.switched) st.record-now ∙ q);
              }

      -- the last: the record, the map and the index of the finished operation
      ends : (cells' : List ℕ) → length cells' ≡ length h.cells → left ≡ 0 → IndexRule (finished_record L st.before st.idle st.operation).size (log_now after (finished_record L st.before st.idle st.operation)) cells' → StepGoal h m lent b t after cells' (record { answer = Ok (Progress.Done (record { 0 = told_version st.idle st.operation })); rec = finished_record L st.before st.idle st.operation })
      unfolding one_off HeldGood version_told
      ends cells' long e rule = (
        fin.edition,
        rw
            (book-left 0 (told_version st.idle st.operation), e)
            (subst (λ (c : Option ℕ). Inv E fin.edition n s (record { area = after; held = some held'; cells = c }) b' t') cells-idle
            (rebuilt E fin.edition n s st.idle.cells after (unswitched fin) (some held') b' t' bytes' recovers'
            (finished-next L st.before st.idle b next-idle st.operation)
            (λ j. ap (λ (x : List ℕ). value_at (log_now x fin) j) all-stored ∙ laws.finish-map st.before st.idle st.operation acc j ∙ finished-map L st.before st.idle b next-idle st.operation (value_at (log_now st.before st.idle)) map-idle j)
            fin-among slots' told' holding')),
        agrees-with (Ok (Progress.Done (record { 0 = told_version st.idle st.operation }))) (sym e) (λ z. told_same L st.before st.idle b next-idle st.operation),
      )
        where
          fin : Record
          fin = finished_record L st.before st.idle st.operation

          held' : Held
          held' = record { rec = fin; cells = cells'; work = h.work }

          b' : Book
          b' = finish b st.operation

          t' : ℕ
          t' = max t (told_version st.idle st.operation)

          all-stored : after ≡ stored st.before (plan_at L st.before st.idle st.operation)
          all-stored =
              ap (stored st.before)
              (take_all (suc st.since) (plan_at L st.before st.idle st.operation) (omega (arith, e, st.some_left)))

          bytes' : Bytes after
          bytes' = laws.plan-bytes st.before st.idle st.operation acc (suc st.since)

          -- the head's edition then, and the slots of the log
          fin-among : Among E fin.edition
          fin-among =
              elim (finished-edition L st.before st.idle st.operation) [
                | inl same ↦ subst⁻¹ (Among E) (same ∙ idle-edition) inv.agrees.own-among
                | inr new ↦ subst⁻¹ (Among E) new new-among
              ]

          slots' : SlotsAmong E n s after fin.map
          slots' i l q =
              elim
              (subst (λ (x : ℕ). SlotOrigin st.idle (views_of st.before x) (views_of (stored st.before (plan_at L st.before st.idle st.operation)) x) fin.edition i)
              size-idle (laws.finish-slots st.before st.idle st.operation acc i (omega (arith, slots-idle, l)) q)) [
                | inl own ↦ subst⁻¹ (Among E) (ap (λ (a : List ℕ). (views_of a s i).layout) all-stored ∙ own) fin-among
                | inr old ↦ subst⁻¹ (Among E) (ap (λ (a : List ℕ). (views_of a s i).layout) all-stored ∙ old.1) (idle-among i l old.0)
              ]

          own-recovers : recovered fin.edition st.idle.slots st.idle.size st.idle.cells after ≡ some (unswitched fin)
          own-recovers =
              ap (recovered fin.edition st.idle.slots st.idle.size st.idle.cells) all-stored ∙
              laws.finish-recovers st.before st.idle st.operation acc

          recovers' : recovered fin.edition n s st.idle.cells after ≡ some (unswitched fin)
          recovers' = own fin.edition after (unswitched fin) own-recovers

          told' : t' < b'.next
          told' =
              omega (
                arith,
                next_grows L st.before st.idle b next-idle st.operation t inv.below,
                told_below L st.before st.idle b next-idle st.operation (omega (arith, inv.below)),
              )

          fin-slots : fin.slots ≡ n
          fin-slots = slots-of fin.edition n s st.idle.cells after (unswitched fin) recovers'

          fin-size : fin.size ≡ s
          fin-size = size_of fin.edition n s st.idle.cells after (unswitched fin) recovers'

          fin-cells : fin.cells ≡ st.idle.cells
          fin-cells = cells_of fin.edition n s st.idle.cells after (unswitched fin) recovers'

          idle' : fin.pending ≡ Idle
          idle' = idle-of fin.edition n s st.idle.cells after (unswitched fin) recovers'

          holding' : Holding E fin.edition n s after (some st.idle.cells) b' held'
          holding' =
              record {
                slots_same = fin-slots;
                size_same = fin-size;
                cells_same = ap some (sym fin-cells);
                index-long = long ∙ good.index-long ∙ ap (λ (x : Record). x.cells) st.record-now ∙ sym fin-cells;
                genuine =
                    record {
                      recovers = own-geometry fin.edition n s st.idle.cells after (unswitched fin) recovers' ∙ ap some (sym (idle-same fin idle'));
                      rule = rule;
                    };
                phase = idle idle' (finish-idle b st.operation);
                switch =
                    λ q.
                    good.switch
                    (ap (λ (x : Record). x.switched) st.record-now ∙ sym (finished-switch L st.before st.idle st.operation) ∙ q);
              }

      -- whichever store it is
      one-step :
          (area' cells' : List ℕ) (a : Stepped) → length cells' ≡ length h.cells → StepExact L h.rec area area' h.cells cells' h.work a st → StepGoal h m lent b t area' cells' a
      unfolding stepped IndexStepped
      one-step area' cells' a long x =
          subst⁻¹ (λ (y : Stepped). StepGoal h m lent b t area' cells' y) x.answers
          (subst⁻¹ (λ (y : List ℕ). StepGoal h m lent b t y cells' (at_left left)) x.stores (go left refl index'))
        where
          at_left : ℕ → Stepped
          at_left j = stepped L st.before st.idle st.operation j

          index' : IndexStepped after h.cells cells' (at_left left).rec left
          index' =
              subst (λ (y : List ℕ). IndexStepped y h.cells cells' (at_left left).rec left) x.stores
              (subst (λ (y : Stepped). IndexStepped area' h.cells cells' y.rec left) x.answers x.index)

          go : (j : ℕ) → left ≡ j → IndexStepped after h.cells cells' (at_left j).rec j → StepGoal h m lent b t after cells' (at_left j)
          go zero e i = ends cells' long e i
          go (suc k) e i = subst⁻¹ (λ (y : List ℕ). StepGoal h m lent b t after y (at_left (suc k))) i (goes_on k e)

  -- A step keeps the invariant.
  pub step_keeps :
      (area area' cells' work : List ℕ) (h : Held) (m : Option ℕ) (a : Stepped) (b : Book) (t : ℕ) →
      (is_pending h.rec.pending ≡ true → work ≡ h.work) → StepPromise L h.rec area area' h.cells cells' work a →
      Inv E L n s (record { area = area; held = some h; cells = m }) b t → StepGoal h m (lent_lengths area h.cells work) b t area' cells' a
  unfolding HeldGood is_pending
  step_keeps area area' cells' work h m a b t own-work p inv = go cause refl
    where
      lent : Lengths
      lent = lent_lengths area h.cells work

      cause : Option Refusal
      cause = first_cause (step_causes L h.rec lent)

      go : (c : Option Refusal) → cause ≡ c → StepGoal h m lent b t area' cells' a
      go (some c) e =
          let rf = p.refused c e in
          subst⁻¹ (λ (x : Stepped). StepGoal h m lent b t area' cells' x) rf.answers
          (subst⁻¹ (λ (x : List ℕ). StepGoal h m lent b t x cells' (record { answer = Err c; rec = h.rec })) rf.area_same
          (subst⁻¹ (λ (x : List ℕ). StepGoal h m lent b t area x (record { answer = Err c; rec = h.rec })) rf.index_same
          (refused area h m lent b t c inv)))
      go none e = by-phase inv.held.phase
        where
          some-pending : is_pending h.rec.pending ≡ true
          some-pending = not-false (is_pending h.rec.pending) (step-passed L h.rec lent e).some-pending

          same-work : work ≡ h.work
          same-work = own-work some-pending

          by-phase : Phase L area b h → StepGoal h m lent b t area' cells' a
          by-phase (idle q _) = absurd (never (sym some-pending ∙ ap is_pending q))
            where
              never : ◌≡◌ {A = Bool} true false → ⊥
              never z = let y : ◌≡◌ {A = ℕ} 0 1 = cc in absurd (omega arith)
          by-phase (pending st awaited) =
              one-step area h m lent b t inv inv.held st awaited area' cells' a p.same_length
              ((subst (λ (x : List ℕ). StepPromise L h.rec area area' h.cells cells' x a) same-work p).exact
              (subst (λ (x : List ℕ). first_cause (step_causes L h.rec (lent_lengths area h.cells x)) ≡ none) same-work e)
              inv.held.genuine st)
