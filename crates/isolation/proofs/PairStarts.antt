-- A start in two worlds that differ in hidden values alone: it answers the same, and they differ so again.
use Rattle.std.specs.Prelude.{Ok}
use Prim.Native.Nat.{ℕ, ◌≤◌}
use mathlib.Core.Path.{◌≡◌, refl, sym, ap, ◌∙◌, subst, subst⁻¹}
use mathlib.Core.Bool.{Bool}
use mathlib.Core.List.{List}
use mathlib.Core.Option.{Option, none, some}
use lib.Dec.{eqb}
use lib.ListN.{length}
use lib.Seq.{sets}
use borrow.Author.Tests.{ltb-false}
use Rattle.word.specs.Number.{Bytes}
use Rattle.segment.specs.Choice.{pick}
use Rattle.segment.proofs.Choice.{pick-false}
use Rattle.segment.specs.Layout.{Layout}
use Rattle.record.specs.Answers.{start_said, with_pending}
use Rattle.record.specs.Refusals.{number_of_refusal}
use Rattle.record.specs.Switch.{unswitched, as_recovered}
use Rattle.record.specs.declared.Refusal.{Refusal}
use Rattle.record.specs.Answered.{Start, StartAnswer}
use Rattle.record.specs.declared.Record.{Record}
use Rattle.model.specs.Log.{Placed}
use Rattle.model.specs.Causes.{first_cause}
use Rattle.model.specs.Recovery.{recovered, record_from}
use Rattle.model.specs.Operations.{Operation, Typed, log_now, laid, stores_for, started_record}
use Rattle.model.specs.Refused.{Lengths, Terms, start_causes}
use Rattle.model.specs.Promises.{Genuine, StartPromise, Begun, begun, lent_lengths}
use Rattle.laws.specs.CauseLaws.{refusal-number}
use Rattle.laws.specs.Passed.{StartPassed, start-passed}
use Rattle.laws.specs.Starts.{freely-accepted}
use Rattle.laws.specs.Operated.{Accepted}
use Rattle.laws.specs.OperationsKept.{edition-laws}
use Rattle.history.specs.Book.{Book}
use Rattle.history.specs.Editions.{Editions}
use Rattle.history.specs.Runs.{Held, held_after}
use Rattle.history.proofs.Invariant.{Holding, recovered-is, with-geometry, idle-same}
use Rattle.history.proofs.Starts.{not-pending}
use Rattle.isolation.proofs.HiddenBytes.{hidden_log}
use Rattle.isolation.proofs.Alike.{Alike, logs-same}
use Rattle.isolation.proofs.Operations.{hidden_operation, causes-same, pending-same, stores_same}
use Rattle.isolation.proofs.Pair.{Half, half-first, running, HeldPair}

-- ---- alike under the record that is held

module _ (of : ℕ → Bool) (E : Editions) (L : Layout) (n s : ℕ) where
  pub held-recovers :
      (area : List ℕ) (m : Option ℕ) (b : Book) (h : Held) → Holding E L n s area m b h →
      recovered L n s h.rec.cells area ≡ some (as_recovered h.rec)
  held-recovers area m b h good =
      with-geometry L h.rec.slots n h.rec.size s h.rec.cells area (some (as_recovered h.rec)) good.slots_same good.size_same
      good.genuine.recovers

  pub held-alike :
      (area area' : List ℕ) (m : Option ℕ) (b : Book) (h : Held) → Holding E L n s area m b h → Alike of n s (record_from L n s 16 area).map area area' →
      Alike of h.rec.slots h.rec.size h.rec.map area area'
  held-alike area area' m b h good a =
      subst (λ (k : ℕ). Alike of k h.rec.size h.rec.map area area') (sym good.slots_same)
      (subst (λ (k : ℕ). Alike of n k h.rec.map area area') (sym good.size_same)
      (subst (λ (k : ℕ). Alike of n s k area area')
      (sym (ap (λ (x : Record). x.map) (recovered-is L n s h.rec.cells area (as_recovered h.rec) (held-recovers area m b h good)))) a))

-- ---- the two ways of a start

module _ (of any : ℕ → Bool) (L : Layout) (area area' : List ℕ) (h h' : Held) (q : Terms) (o o' : Operation) (work work' : List ℕ) where
  abbrev pub StartBoth : Begun → Begun → Type 0
  StartBoth x x' =
      HeldPair of L area area' (held_after h x.work x.start) (held_after h' x'.work x'.start)
      × (start_said x.start.answer ≡ start_said x'.start.answer)

  abbrev log : List Placed
  log = log_now area h.rec

  abbrev log' : List Placed
  log' = log_now area' h.rec

  refused-both : (c : Refusal) → HeldPair of L area area' h h' → StartBoth (begun L h.rec log o work (some c)) (begun L h.rec log' o' work' (some c))
  unfolding begun
  refused-both c p = (
    record {
      rec-same = refl;
      index-long = p.index-long;
      phase =
          rw (
            pick-false (eqb (number_of_refusal c) 0) work h.work,
            pick-false (eqb (number_of_refusal c) 0) work' h'.work,
            refusal-number c,
          )
          p.phase;
    },
    refl,
  )

  started-both :
      Accepted L area h.rec o → Accepted L area' h.rec o' → h.rec.size ≤ length work → h.rec.size ≤ length work' →
      Alike of h.rec.slots h.rec.size h.rec.map area area' → hidden_operation of o ≡ hidden_operation of o' →
      length h.cells ≡ length h'.cells → StartBoth (begun L h.rec log o work none) (begun L h.rec log' o' work' none)
  unfolding begun pick
  started-both acc acc' long long' a same index = (
    record {
      rec-same = records;
      index-long = index;
      phase =
          running
          (record {
            idle = h.rec;
            since = 0;
            before = area;
            before' = area';
            operation = o;
            operation' = o';
            one = half-first L (edition-laws L) area h.rec work o acc long;
            other =
                subst⁻¹ (λ (x : Record). Half L area' x (sets work' 0 (laid L h.rec log' o').bytes) h.rec 0 area' o') records
                (half-first L (edition-laws L) area' h.rec work' o' acc' long');
            alike = a;
            same = same;
          });
    },
    ap (λ (k : ℕ). start_said (Ok k)) stores,
  )
    where
      logs : hidden_log of log ≡ hidden_log of log'
      logs = logs-same of h.rec area area' a

      stores : stores_for L h.rec log o ≡ stores_for L h.rec log' o'
      stores = stores_same of of L h.rec log log' o o' logs same

      records : started_record L h.rec log o ≡ started_record L h.rec log' o'
      records =
          ap (λ (k : ℕ). with_pending h.rec ((laid L h.rec log o).pending k)) stores ∙
          ap (with_pending h.rec) (pending-same of of L h.rec log log' o o' logs same (stores_for L h.rec log' o'))

  -- A start answers the same, and leaves a pair again.
  pub start-both :
      (w₁ w₁' : List ℕ) (a a' : Start) → Bytes area → Bytes area' → Typed o → Typed o' → HeldPair of L area area' h h' →
      Alike of h.rec.slots h.rec.size h.rec.map area area' → Genuine L area h.rec h.cells → Genuine L area' h'.rec h'.cells →
      lent_lengths area h.cells work ≡ lent_lengths area' h'.cells work' → hidden_operation any o ≡ hidden_operation any o' →
      (first_cause (start_causes L h.rec log (lent_lengths area h.cells work) q o) ≡ none → hidden_operation of o ≡ hidden_operation of o') →
      StartPromise L q o h.rec area h.cells work w₁ a → StartPromise L q o' h'.rec area' h'.cells work' w₁' a' →
      StartBoth (record { start = a; work = w₁ }) (record { start = a'; work = w₁' })
  start-both w₁ w₁' a a' ab ab' ty ty' p alike g g' lent same own promise promise' =
      subst⁻¹ (λ (x : Begun). StartBoth x (record { start = a'; work = w₁' })) (promise.exact g)
      (subst⁻¹ (λ (x : Begun). StartBoth (begun L h.rec log o work cause) x) exact' (go cause refl))
    where
      lengths : Lengths
      lengths = lent_lengths area h.cells work

      cause : Option Refusal
      cause = first_cause (start_causes L h.rec log lengths q o)

      logs : hidden_log of log ≡ hidden_log of log'
      logs = logs-same of h.rec area area' alike

      same-cause : first_cause (start_causes L h.rec log' (lent_lengths area' h'.cells work') q o') ≡ cause
      same-cause =
          ap (λ (l : Lengths). first_cause (start_causes L h.rec log' l q o')) (sym lent) ∙
          sym (ap first_cause (causes-same of any L h.rec log log' o o' logs same lengths q))

      genuine : Genuine L area' h.rec h'.cells
      genuine = subst⁻¹ (λ (r : Record). Genuine L area' r h'.cells) p.rec-same g'

      exact' : record { start = a'; work = w₁' } ≡ begun L h.rec log' o' work' cause
      exact' =
          (subst⁻¹ (λ (r : Record). StartPromise L q o' r area' h'.cells work' w₁' a') p.rec-same promise').exact genuine ∙
          ap (begun L h.rec log' o' work') same-cause

      go : (c : Option Refusal) → cause ≡ c → StartBoth (begun L h.rec log o work c) (begun L h.rec log' o' work' c)
      go (some c) e = refused-both c p
      go none e =
          started-both
          (record { lengths = lengths; area-bytes = ab; typed = ty; recovers = recovers area h.cells g; no-cause = freely-accepted L h.rec log lengths q o ty e })
          (record {
            lengths = lent_lengths area' h'.cells work';
            area-bytes = ab';
            typed = ty';
            recovers = recovers area' h'.cells genuine;
            no-cause = freely-accepted L h.rec log' (lent_lengths area' h'.cells work') q o' ty' (same-cause ∙ e);
          })
          long (subst (λ (k : ℕ). h.rec.size ≤ k) (ap (λ (l : Lengths). l.work) lent) long) alike (own e) p.index-long
        where
          led : StartPassed L h.rec lengths
          led = start-passed L h.rec log lengths q o e

          long : h.rec.size ≤ length work
          long = ltb-false (length work) h.rec.size led.work-long

          recovers : (l cells : List ℕ) → Genuine L l h.rec cells → recovered L h.rec.slots h.rec.size h.rec.cells l ≡ some (unswitched h.rec)
          recovers l cells x = x.recovers ∙ ap some (idle-same h.rec (not-pending h.rec.pending led.idle))
