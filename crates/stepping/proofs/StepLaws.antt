-- Laws of: The step's promise, from what its code does.
use Prim.Native.Nat.{ℕ, zero, suc, ◌-◌, ◌≤◌, ◌<◌}
use Rattle.std.proofs.Math.Path.{◌≡◌, refl, ap, subst}
use Rattle.std.proofs.Common.{sym, ◌∙◌, inl, inr}
use Rattle.std.specs.Prelude.{Bool, not, List, [], ◌∷◌, ltb, get_or, take, Ok, Err, None, Some}
use Rattle.std.proofs.Math.Bool.{true, false}
use Rattle.std.proofs.Math.Option.{Option, none, some}
use native.Mathlib.Omega.{arith}
use Rattle.std.proofs.Math.ListN.{length, set}
use borrow.Author.Tests.{lt-ltb, le-ltb, ltb-false, not-false}
use Rattle.segment.specs.Choice.{pick}
use Rattle.segment.proofs.Choice.{pick_true, pick-false}
use Rattle.segment.specs.Layout.{Layout, entry_size}
use Rattle.segment.specs.Entry.{Entry, Found, entry, end, damage}
use Rattle.segment.specs.declared.Key.{Key}
use Rattle.record.specs.Answers.{step_said, stores_left, with_pending}
use Rattle.record.specs.Committed.{committed}
use Rattle.record.specs.Switch.{new_layout}
use Rattle.record.specs.RangeLaws.{Lent, lent}
use Rattle.record.specs.declared.Commit.{Commit}
use Rattle.record.specs.declared.Pending.{Pending}
use Rattle.record.specs.declared.Pending.TheVariants.{Idle, Append, NewHead, Clean, Forget}
use Rattle.record.specs.declared.Refusal.{Refusal}
use Rattle.record.specs.declared.Refusal.TheVariants.{BadRecord}
use Rattle.record.specs.Answered.{StepAnswer, Stepped}
use Rattle.record.specs.declared.Progress.{Progress}
use Rattle.record.specs.declared.Record.{Record}
use Rattle.model.specs.Log.{Placed}
use Rattle.model.specs.Index.{IndexRule}
use Rattle.model.specs.Operations.{Operation, write, delete, clean, Laid, laid, laid_append, laid_head, laid_entry, laid_forget, fits_head, no_room, written_entry, tombstone_entry, log_now, plan_for, stored, finished_record, told_version}
use Rattle.model.specs.Causes.{first_cause}
use Rattle.model.specs.Refused.{is_pending, step_causes}
use Rattle.model.specs.Promises.{Genuine, Started, OneByte, StepPromise, StepExact, stepped, IndexStepped, lent_lengths}
use Rattle.laws.specs.Passed.{step-passed}
use Rattle.laws.specs.SaidLaws.{step-says}
use Rattle.laws.specs.Stores.{stored_next, stored-all}
use Rattle.laws.specs.Operated.{Accepted}
use Rattle.laws.specs.OperationsKept.{edition-laws}
use Rattle.index.specs.Build.{Built}
use Rattle.telling.specs.Agree.{tested_store}
use Rattle.stepping.specs.Tested.{StepTested}
use Rattle.telling.proofs.TestLaws.{tested-turn, never-bad}
use Rattle.telling.specs.PlanLaws.{at_of}
use Rattle.telling.proofs.PlanLaws.{accepted}
use Rattle.stepping.specs.Finish.{After, refused_step, answered_with, found_in, finish_entry, finish_append, finish_head, finish_clean, finish_forget, one_less, finish_with, advanced}
use Rattle.stepping.specs.ExactLaws.{Ends}
use Rattle.stepping.proofs.ExactLaws.{operation-ends}
use Rattle.record.specs.AnswerLaws.{some-same}
use Rattle.record.specs.declared.ToldStore.{ToldStore}
use Rattle.telling.specs.Next.{NextStore}
use Rattle.stepping.specs.StepLaws.{refused-same}

-- no place and some place are not the same
bad-at : {p b : ℕ} → ◌≡◌ {A = NextStore} None (Some (record { place = p; byte = b })) → ⊥
bad-at q = let z : ◌≡◌ {A = ℕ} 0 1 = cc in omega arith

-- ---- refused

same_byte : (area : List ℕ) → OneByte area area
same_byte [] = (0, 0, refl)
same_byte (b ∷ s) = (0, b, refl)

-- a refusal leaves no stores
refused-left : (r : Record) (c : Refusal) (k : ℕ) → (refused_step r c).answer ≡ Ok (Progress.Left k) → ⊥
refused-left r c k e = let z : ◌≡◌ {A = ℕ} 0 1 = cc in absurd (omega arith)

module _ (L : Layout) (r : Record) (area cells work : List ℕ) (c : Refusal) (first : first_cause (step_causes L r (lent_lengths area cells work)) ≡ some c) where
  same : (d : Refusal) → first_cause (step_causes L r (lent_lengths area cells work)) ≡ some d → c ≡ d
  same d f = let q : ◌≡◌ {A = Option Refusal} (some c) (some d) = sym first ∙ f in cc

  never : first_cause (step_causes L r (lent_lengths area cells work)) ≡ none → ⊥
  never f =
      let q : ◌≡◌ {A = Option Refusal} (some c) none = sym first ∙ f in
      let z : ◌≡◌ {A = ℕ} 0 1 = cc in
      omega arith

  module _ {x : Stepped} (e : x ≡ refused_step r c) where
    pub refused-promise : StepPromise L r area area cells cells work x
    refused-promise =
        record {
          one_byte = same_byte area;
          same_length = refl;
          refused = λ d f. refused-same r area cells d (e ∙ ap (refused_step r) (same d f));
          exact = λ f g s. absurd (never f);
        }

    pub refused-tested : StepTested L r area area cells cells work x
    refused-tested =
        record {
          before-store = λ f t. absurd (never f);
          stores = λ f p b t. absurd (never f);
          behind-store = λ d f. inl refl;
          goes_on = λ k f. absurd (refused-left r c k (ap (λ (y : Stepped). y.answer) (sym e) ∙ f));
        }

-- ---- the stores left of what is laid down

module _ (L : Layout) (idle : Record) (log : List Placed) where
  -- so many stores are left of it, and one less after a step
  abbrev CountsDown : Laid → Type 0
  CountsDown l = (k : ℕ) → (stores_left (l.pending k) ≡ k) × (one_less (l.pending k) ≡ l.pending (k - 1))

  entry-counts : (t : Bool) (e : Entry) → CountsDown (pick t (laid_append L e) (laid_head (new_layout idle) idle e))
  unfolding one_less pick
  entry-counts true e k = (refl, refl)
  entry-counts false e k = (refl, refl)

  delete-counts : (t : Bool) (key : Key) → CountsDown (pick t (laid_forget (new_layout idle) idle log key) (laid_entry L idle (tombstone_entry idle key)))
  unfolding one_less pick
  delete-counts true key k = (refl, refl)
  delete-counts false key k = entry-counts (fits_head L idle (tombstone_entry idle key)) (tombstone_entry idle key) k

  pub counts-down : (o : Operation) → CountsDown (laid L idle log o)
  unfolding laid one_less
  counts-down (write key value) =
      entry-counts (fits_head L idle (written_entry idle key value)) (written_entry idle key value)
  counts-down (delete key) = delete-counts (no_room L idle (entry_size L 0)) key
  counts-down (clean victims) = λ k. (refl, refl)

-- ---- behind the store a step is refused with 4 alone, and hands the record back

module _ (r : Record) where
  abbrev Late : Stepped → Type 0
  Late x = (c : Refusal) → x.answer ≡ Err c → x ≡ refused_step r BadRecord

  answered-late : (done : Commit) (version : ℕ) (counts : List ℕ) (b : Built) → Late (answered_with r done version counts b)
  unfolding answered_with pick
  answered-late done version counts (Some n) = go (ltb n r.cells)
    where
      go : (t : Bool) → Late (pick t (record { answer = Ok (Progress.Done (record { 0 = version })); rec = committed r done n counts }) (refused_step r BadRecord))
      go true c f = let z : ◌≡◌ {A = ℕ} 0 1 = cc in absurd (omega arith)
      go false c f = refl
  answered-late done version counts None = λ c f. refl

module _ (L : Layout) (r : Record) (area cells : List ℕ) where
  found-late : (W : Layout) (done : Commit) (slot place : ℕ) (f : Found) → Late r (found_in W r done area cells slot place f).stepped
  unfolding found_in
  found-late W done slot place (entry e) = answered-late r done r.next.0 _ _
  found-late W done slot place end = λ c f. refl
  found-late W done slot place damage = λ c f. refl

  finish-late : (p : Pending) → Late r (finish_with L r area cells p).stepped
  unfolding finish_with finish_append finish_head finish_clean finish_forget finish_entry
  finish-late Idle = λ c f. refl
  finish-late (Append n k) = found-late _ _ _ _ _
  finish-late (NewHead i n k) = found-late _ _ _ _ _
  finish-late (Clean i v n k) = answered-late r _ 0 _ _
  finish-late (Forget i v n k) = answered-late r _ r.next.0 _ _

  advanced-late : Late r (advanced L r area cells).stepped
  unfolding advanced pick
  advanced-late = go (ltb 1 (stores_left r.pending))
    where
      go : (t : Bool) → Late r
          (pick t
          (record {
            stepped = record { answer = Ok (Progress.Left (stores_left r.pending - 1)); rec = with_pending r (one_less r.pending) };
            cells = cells;
          })
          (finish_with L r area cells r.pending)).stepped
      go true = λ c f. let z : ◌≡◌ {A = ℕ} 0 1 = cc in absurd (omega arith)
      go false = finish-late r.pending

-- ---- while stores are left only the pending operation changes

module _ (r : Record) where
  abbrev Going : Stepped → Type 0
  Going x = (k : ℕ) → x.answer ≡ Ok (Progress.Left k) → x.rec ≡ with_pending r x.rec.pending

  -- the last step leaves none
  answered-going : (done : Commit) (version : ℕ) (counts : List ℕ) (b : Built) → Going (answered_with r done version counts b)
  unfolding answered_with pick
  answered-going done version counts (Some n) = go (ltb n r.cells)
    where
      go : (t : Bool) → Going (pick t (record { answer = Ok (Progress.Done (record { 0 = version })); rec = committed r done n counts }) (refused_step r BadRecord))
      go true k f = let z : ◌≡◌ {A = ℕ} 0 1 = cc in absurd (omega arith)
      go false k f = absurd (refused-left r BadRecord k f)
  answered-going done version counts None = λ k f. absurd (refused-left r BadRecord k f)

module _ (L : Layout) (r : Record) (area cells : List ℕ) where
  found-going : (W : Layout) (done : Commit) (slot place : ℕ) (f : Found) → Going r (found_in W r done area cells slot place f).stepped
  unfolding found_in
  found-going W done slot place (entry e) = answered-going r done r.next.0 _ _
  found-going W done slot place end = λ k f. absurd (refused-left r BadRecord k f)
  found-going W done slot place damage = λ k f. absurd (refused-left r BadRecord k f)

  finish-going : (p : Pending) → Going r (finish_with L r area cells p).stepped
  unfolding finish_with finish_append finish_head finish_clean finish_forget finish_entry
  finish-going Idle = λ k f. absurd (refused-left r BadRecord k f)
  finish-going (Append n k) = found-going _ _ _ _ _
  finish-going (NewHead i n k) = found-going _ _ _ _ _
  finish-going (Clean i v n k) = answered-going r _ 0 _ _
  finish-going (Forget i v n k) = answered-going r _ r.next.0 _ _

  advanced-going : Going r (advanced L r area cells).stepped
  unfolding advanced pick
  advanced-going = go (ltb 1 (stores_left r.pending))
    where
      go : (t : Bool) → Going r
          (pick t
          (record {
            stepped = record { answer = Ok (Progress.Left (stores_left r.pending - 1)); rec = with_pending r (one_less r.pending) };
            cells = cells;
          })
          (finish_with L r area cells r.pending)).stepped
      go true = λ k f. refl
      go false = finish-going r.pending

-- ---- a step of a started operation

module _ (L : Layout) (r : Record) (area cells work : List ℕ)
    (first : first_cause (step_causes L r (lent_lengths area cells work)) ≡ none) where
  step_fits : Lent L r (length area) (length cells)
  step_fits = lent L r (length area) (length cells) (not-false _ (step-passed L r (lent_lengths area cells work) first).record-good)

  work-long : r.size ≤ length work
  work-long = ltb-false (length work) r.size (step-passed L r (lent_lengths area cells work) first).work-long

  pub pending-not-idle : r.pending ≡ Idle → ⊥
  unfolding is_pending
  pending-not-idle q =
      let t : is_pending Idle ≡ true = ap is_pending (sym q) ∙ not-false _ (step-passed L r (lent_lengths area cells work) first).some-pending in
      let z : ◌≡◌ {A = ℕ} 0 1 = cc in
      omega arith

  no-refusal : (c : Refusal) → first_cause (step_causes L r (lent_lengths area cells work)) ≡ some c → ⊥
  no-refusal c f =
      let q : ◌≡◌ {A = Option Refusal} (some c) none = sym f ∙ first in
      let z : ◌≡◌ {A = ℕ} 0 1 = cc in
      omega arith

  module _ (s : Started L area r work) where
    abbrev before : List ℕ
    before = s.before

    abbrev idle : Record
    idle = s.idle

    abbrev log : List Placed
    log = log_now s.before s.idle

    abbrev plan : List (ℕ × ℕ)
    plan = plan_for L s.idle (log_now s.before s.idle) s.operation

    acc : Accepted L s.before s.idle s.operation
    acc = accepted L (edition-laws L) area r work s

    turn : tested_store L (length area) work r ≡ at_of (get_or plan s.since (0, 0))
    turn = tested-turn L (edition-laws L) r area work work-long s

    no-bad : tested_store L (length area) work r ≡ None → ⊥
    no-bad = never-bad L (edition-laws L) r area work work-long s

    module _ (p b : ℕ) (at : tested_store L (length area) work r ≡ Some (record { place = p; byte = b })) where
      stores-next : set area p b ≡ stored before (take (suc s.since) plan)
      stores-next =
          let q : Some (record { place = p; byte = b }) ≡ at_of (get_or plan s.since (0, 0)) = sym at ∙ turn in
          let place : p ≡ (get_or plan s.since (0, 0)).0 = ap (λ (x : ToldStore). x.place) (some-same q) in
          let byte : b ≡ (get_or plan s.since (0, 0)).1 = ap (λ (x : ToldStore). x.byte) (some-same q) in
          ap (λ (x : ℕ). set area x b) place ∙ ap (set area (get_or plan s.since (0, 0)).0) byte
          ∙ ap (λ (x : List ℕ). set x (get_or plan s.since (0, 0)).0 (get_or plan s.since (0, 0)).1) s.area-now
          ∙ sym (stored_next before plan s.since s.some_left)

      module _ (g : Genuine L area r cells) where
        -- what the record and the index are, of the idle record
        rule-idle : IndexRule s.idle.size log cells
        rule-idle =
            subst (λ (l : List Placed). IndexRule s.idle.size l cells)
            (ap (λ (x : List ℕ). log_now x idle) s.area-now
            ∙ (edition-laws L).prefix-log before idle s.operation acc s.since s.some_left)
            (subst (λ (x : Record). IndexRule x.size (log_now area x) cells) s.record-now g.rule)

        cells-idle : length cells ≡ s.idle.cells
        cells-idle = step_fits.index-own ∙ ap (λ (x : Record). x.cells) s.record-now

        left-now : stores_left r.pending ≡ length plan - s.since
        left-now =
            ap (λ (x : Record). stores_left x.pending) s.record-now
            ∙ (counts-down L idle log s.operation (length plan - s.since)).0

        -- the record with k stores left
        abbrev with-left : ℕ → Record
        with-left k = with_pending idle ((laid L idle log s.operation).pending k)

        -- what a step is to give that leaves so many stores
        abbrev Gives : After → ℕ → Type 0
        Gives a k = (a.stepped ≡ stepped L before idle s.operation k) × IndexStepped (set area p b) cells a.cells a.stepped.rec k

        goes_on : (k : ℕ) → length plan - s.since ≡ suc (suc k) → Gives (advanced L r (set area p b) cells) (suc k)
        unfolding advanced stepped IndexStepped
        goes_on k e =
            subst (λ (a : After). Gives a (suc k))
            (sym (pick_true (ltb 1 (stores_left r.pending)) _ _ (lt-ltb 1 (stores_left r.pending) (omega (arith, left-now)))))
            (answer, refl)
          where
            answer :
                ◌≡◌ {A = Stepped}
                (record { answer = Ok (Progress.Left (stores_left r.pending - 1)); rec = with_pending r (one_less r.pending) })
                (record { answer = Ok (Progress.Left (suc k)); rec = with-left (suc k) })
            answer =
                let less : stores_left r.pending - 1 ≡ suc k = omega (arith, left-now) in
                let one : length plan - s.since - 1 ≡ suc k = omega arith in
                ap (λ (n : ℕ). record { answer = Ok (Progress.Left n); rec = with_pending r (one_less r.pending) }) less
                ∙ ap (λ (x : Record). record { answer = Ok (Progress.Left (suc k)); rec = with_pending x (one_less x.pending) }) s.record-now
                ∙ ap (λ (q : Pending). record { answer = Ok (Progress.Left (suc k)); rec = with_pending idle q })
                ((counts-down L idle log s.operation (length plan - s.since)).1 ∙ ap (laid L idle log s.operation).pending one)

        ends_now : length plan - s.since ≡ 1 → Gives (advanced L r (set area p b) cells) zero
        unfolding advanced stepped IndexStepped
        ends_now e =
            subst (λ (a : After). Gives a zero)
            (sym (pick-false (ltb 1 (stores_left r.pending)) _ _ (le-ltb 1 (stores_left r.pending) (omega (arith, left-now)))))
            (subst
            (λ (x : Record).
            Gives (finish_with L x (set area p b) cells x.pending) zero) (sym s.record-now) (gives all))
          where
            whole : set area p b ≡ stored before plan
            whole =
                let last : suc s.since ≡ length plan = omega (arith, s.some_left) in
                stores-next ∙ ap (λ (n : ℕ). stored before (take n plan)) last ∙ stored-all before plan

            all :
                Ends (set area p b) (finished_record L before idle s.operation) (told_version idle s.operation)
                (finish_with L (with-left (length plan - s.since)) (set area p b) cells ((laid L idle log s.operation).pending (length plan - s.since)))
            all =
                subst
                (λ (x : List ℕ).
                Ends x (finished_record L before idle s.operation) (told_version idle s.operation)
                (finish_with L (with-left (length plan - s.since)) x cells ((laid L idle log s.operation).pending (length plan - s.since))))
                (sym whole)
                (operation-ends L before cells idle s.operation acc cells-idle rule-idle (length plan - s.since))

            gives : {a : After} → Ends (set area p b) (finished_record L before idle s.operation) (told_version idle s.operation) a → Gives a zero
            gives {a} w = (
              w.answers,
              subst (λ (x : Record). IndexRule x.size (log_now (set area p b) x) a.cells) (ap (λ (y : Stepped). y.rec) (sym w.answers))
                  w.rule,
            )

        pub step-exact :
            {x : Stepped} {cells' : List ℕ} → record { stepped = x; cells = cells' } ≡ advanced L r (set area p b) cells →
            StepExact L r area (set area p b) cells cells' work x s
        step-exact {x} {cells'} e =
            record {
              stores = stores-next;
              answers = all.0;
              says = ap (λ (y : Stepped). step_said y.answer) all.0 ∙ step-says L before idle s.operation (length plan - suc s.since);
              index = all.1;
            }
          where
            by : (k : ℕ) → length plan - suc s.since ≡ k → Gives (advanced L r (set area p b) cells) k
            by zero q = ends_now (omega (arith, s.some_left))
            by (suc k) q = goes_on k (omega (arith, s.some_left))

            all : Gives (record { stepped = x; cells = cells' }) (length plan - suc s.since)
            all = subst (λ (a : After). Gives a (length plan - suc s.since)) (sym e) (by (length plan - suc s.since) refl)

  -- ---- the promise, where there is no next store, and where it is made

  module _ (bad : tested_store L (length area) work r ≡ None) {x : Stepped} where
    pub bad-promise : StepPromise L r area area cells cells work x
    bad-promise =
        record {
          one_byte = same_byte area;
          same_length = refl;
          refused = λ c f. absurd (no-refusal c f);
          exact = λ f g s. absurd (no-bad s bad);
        }

    pub bad-tested : x ≡ refused_step r BadRecord → StepTested L r area area cells cells work x
    bad-tested e =
        record {
          before-store = λ f t. refused-same r area cells BadRecord e;
          stores = λ f p b t. absurd (bad-at (sym bad ∙ t));
          behind-store = λ c f. inl refl;
          goes_on = λ k f. absurd (refused-left r BadRecord k (ap (λ (y : Stepped). y.answer) (sym e) ∙ f));
        }

  module _ (p b : ℕ) (at : tested_store L (length area) work r ≡ Some (record { place = p; byte = b })) {x : Stepped} {cells' : List ℕ}
      (e : record { stepped = x; cells = cells' } ≡ advanced L r (set area p b) cells) where
    pub stored-promise : length cells' ≡ length cells → StepPromise L r area (set area p b) cells cells' work x
    stored-promise same =
        record {
          one_byte = (p, b, refl);
          same_length = same;
          refused = λ c f. absurd (no-refusal c f);
          exact = λ f g s. step-exact s p b at g e;
        }

    -- a step with more than one store left is not refused behind its store
    last-only : (c : Refusal) → x.answer ≡ Err c → stores_left r.pending ≡ 1
    unfolding advanced
    last-only c f = go (ltb 1 (stores_left r.pending)) refl
      where
        left : 0 < stores_left r.pending
        left = step_fits.left-some (λ q. pending-not-idle q)

        go : (t : Bool) → ltb 1 (stores_left r.pending) ≡ t → stores_left r.pending ≡ 1
        go true t =
            let w : ◌≡◌ {A = StepAnswer} (Ok (Progress.Left (stores_left r.pending - 1))) (Err c) =
            sym (ap (λ (a : After). a.stepped.answer) (e ∙ pick_true (ltb 1 (stores_left r.pending)) _ _ t)) ∙ f in
            let z : ◌≡◌ {A = ℕ} 0 1 = cc in
            absurd (omega arith)
        go false t = omega (arith, left, ltb-false 1 (stores_left r.pending) t)

    late-bad : Late r x
    late-bad = subst (λ (a : After). Late r a.stepped) (sym e) (advanced-late L r (set area p b) cells)

    pub stored-tested : StepTested L r area (set area p b) cells cells' work x
    stored-tested =
        record {
          before-store = λ f t. absurd (bad-at (sym t ∙ at));
          stores = λ f q c t. same_store q c (sym at ∙ t);
          behind-store = λ c f. inr (last-only c f, late-bad c f);
          goes_on = λ k f. subst (λ (a : After). Going r a.stepped) (sym e) (advanced-going L r (set area p b) cells) k f;
        }
      where
        same_store : (q c : ℕ) → ◌≡◌ {A = NextStore} (Some (record { place = p; byte = b })) (Some (record { place = q; byte = c })) → set area p b ≡ set area q c
        same_store q c w =
            let place : p ≡ q = ap (λ (x : ToldStore). x.place) (some-same w) in
            let byte : b ≡ c = ap (λ (x : ToldStore). x.byte) (some-same w) in
            ap (λ (x : ℕ). set area x b) place ∙ ap (set area q) byte
