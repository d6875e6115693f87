-- A start keeps the invariant: refused it changes nothing, accepted it is pending with its stores.
use Rattle.std.specs.Prelude.{Ok, Err}
use Prim.Native.Nat.{ℕ, ◌-◌, ◌≤◌, max}
use native.Mathlib.Nat.{sub-zero, max-zero}
use native.Mathlib.Omega.{arith}
use mathlib.Core.Path.{◌≡◌, refl, sym, ap, ◌∙◌, subst⁻¹}
use mathlib.Core.Bool.{Bool, true, false}
use mathlib.Core.List.{List}
use mathlib.Core.Option.{Option, none, some}
use lib.Dec.{eqb}
use lib.ListN.{length}
use lib.Seq.{sets}
use borrow.Author.Tests.{ltb-false, eqb-true, not-false}
use Rattle.word.specs.Laws.{taken-sets}
use Rattle.segment.specs.Choice.{pick}
use Rattle.segment.proofs.Choice.{pick-false}
use Rattle.segment.specs.Layout.{Layout}
use Rattle.segment.specs.Entry.{Entry}
use Rattle.segment.specs.declared.Key.{Key}
use Rattle.record.specs.Answers.{start_said}
use Rattle.record.specs.Refusals.{number_of_refusal}
use Rattle.record.specs.declared.Expected.{Expected}
use Rattle.record.specs.declared.Expected.TheVariants.{Any, Only}
use Rattle.record.specs.declared.Pending.{Pending}
use Rattle.record.specs.declared.Pending.TheVariants.{Idle, Append, NewHead, Clean, Forget}
use Rattle.record.specs.declared.Refusal.{Refusal}
use Rattle.record.specs.Answered.{Start, StartAnswer}
use Rattle.record.specs.Switch.{unswitched}
use Rattle.record.specs.declared.Record.{Record}
use Rattle.model.specs.Log.{Placed, present}
use Rattle.model.specs.Causes.{first_cause}
use Rattle.model.specs.Recovery.{recovered}
use Rattle.model.specs.Operations.{Operation, write, delete, clean, Typed, log_now, laid, stores_for, started_record, stored}
use Rattle.model.specs.Refused.{Lengths, Terms, freely, version_in, key_facts, expects_other, is_pending, start_causes}
use Rattle.model.specs.Promises.{Started, StartPromise, Begun, begun, lent_lengths}
use Rattle.laws.specs.CauseLaws.{refusal-number}
use Rattle.laws.specs.MapLaws.{unplaced}
use Rattle.laws.specs.Passed.{write-passed, StartPassed, start-passed}
use Rattle.laws.specs.Starts.{freely-accepted}
use Rattle.laws.specs.Operated.{Accepted, OperationLaws}
use Rattle.history.specs.Book.{starts, saying, Event, called, Kept, book_version, Book, feed, feed_call, version_told}
use Rattle.history.specs.Editions.{Editions}
use Rattle.history.specs.Runs.{Held, held_after}
use Rattle.history.specs.Demand3.{Expects, StartAgrees, EventAgrees}
use Rattle.history.proofs.Invariant.{idle-same, Inv, Holding, HeldGood, book_entry, pending}
use Rattle.history.proofs.Readings.{some_same, map-now}

-- ---- what an accepted start has tested first

pub not-pending : (p : Pending) → is_pending p ≡ false → p ≡ Idle
unfolding is_pending
not-pending Idle e = refl
not-pending (Append n k) e = cc
not-pending (NewHead i n k) e = cc
not-pending (Clean i v n k) e = cc
not-pending (Forget i v n k) e = cc

-- ---- what an accepted write expected

-- the version of a key by the log is the book's
version-same : (k : Key) (p : Option Placed) (x : Option Kept) → unplaced p ≡ book_entry k x → version_in p ≡ book_version x
unfolding unplaced book_entry version_in book_version
version-same k none none e = refl
version-same k none (some y) e = cc
version-same k (some p) none e = cc
version-same k (some p) (some y) e = let same : p.entry ≡ _ = some_same e in ap (λ (z : Entry). z.version) same

found-expected : (e : Expected) (v w : ℕ) → expects_other e v ≡ false → v ≡ w → Expects e w
unfolding expects_other Expects
found-expected Any v w h q = tt
found-expected (Only x) v w h q = eqb-true x.0 v (not-false (eqb x.0 v) h) ∙ q

-- ---- the two ways of a start

module _ (E : Editions) (L : Layout) (laws : OperationLaws L) (n s : ℕ) where
  abbrev pub start_event : Terms → Operation → Lengths → Start → Event
  start_event q o lent a = called (starts q o) lent (saying (start_said a.answer))

  -- what is to be shown of a start that answers a and leaves the work buffer work'
  abbrev pub StartGoal : List ℕ → Held → Option ℕ → Terms → Operation → Lengths → Book → ℕ → Start → List ℕ → Type 0
  StartGoal area h m q o lent b t a work' =
      Inv E L n s (record { area = area; held = some (held_after h work' a); cells = m }) (feed b (start_event q o lent a))
      (max t (version_told (start_event q o lent a)))
      × EventAgrees E b (start_event q o lent a)

  refused :
      (area : List ℕ) (h : Held) (m : Option ℕ) (q : Terms) (o : Operation) (lent : Lengths) (b : Book) (t : ℕ) (work' : List ℕ) (c : Refusal) →
      Inv E L n s (record { area = area; held = some h; cells = m }) b t →
      StartGoal area h m q o lent b t (record { answer = Err c; rec = h.rec }) work'
  unfolding feed version_told EventAgrees
  refused area h m q o lent b t work' c inv = (
    rw (max-zero t, pick-false (eqb (number_of_refusal c) 0) work' h.work, pick-false (eqb (number_of_refusal c) 0) (feed_call b (starts q o) 0) b, refusal-number c)
        inv,
    λ e. let both_ways : ◌≡◌ {A = Bool} true false = sym e ∙ refusal-number c in let z : ◌≡◌ {A = ℕ} 0 1 = cc in absurd (omega arith),
  )

  -- An accepted write found the version of the book.
  agreed :
      (area : List ℕ) (h : Held) (m : Option ℕ) (q : Terms) (o : Operation) (b : Book) (t : ℕ) (l : Lengths) →
      Inv E L n s (record { area = area; held = some h; cells = m }) b t → Holding E L n s area m b h →
      first_cause (start_causes L h.rec (log_now area h.rec) l q o) ≡ none → StartAgrees b q o
  unfolding StartAgrees start_causes
  agreed area h m q (write k value) b t l inv good e =
      let log = log_now area h.rec in
      found-expected q.expected (version_in (present log k)) (book_version (b.keys k))
      (write-passed L h.rec l q k (key_facts log k) (length value) e).as-expected
      (version-same k (present log k) (b.keys k) (map-now E L laws n s area h m b t inv good k))
  agreed area h m q (delete k) b t l inv good e = tt
  agreed area h m q (clean victims) b t l inv good e = tt

  accepts :
      (area : List ℕ) (h : Held) (m : Option ℕ) (q : Terms) (o : Operation) (lent : Lengths) (b : Book) (t : ℕ) (work : List ℕ) → Typed o →
      Inv E L n s (record { area = area; held = some h; cells = m }) b t →
      first_cause (start_causes L h.rec (log_now area h.rec) (lent_lengths area h.cells work) q o) ≡ none →
      StartGoal area h m q o lent b t
      (record {
        answer = Ok (stores_for L h.rec (log_now area h.rec) o);
        rec = started_record L h.rec (log_now area h.rec) o;
      })
      (sets work 0 (laid L h.rec (log_now area h.rec) o).bytes)
  unfolding feed feed_call version_told EventAgrees pick HeldGood stored
  accepts area h m q o lent b t work ty inv e = (
    record {
      bytes = inv.bytes;
      base = inv.base;
      agrees =
          record {
            next-same = inv.agrees.next-same;
            map_same = inv.agrees.map_same;
            own-among = inv.agrees.own-among;
            slots-among = inv.agrees.slots-among;
          };
      below = rw (max-zero t) inv.below;
      held =
          record {
            slots_same = inv.held.slots_same;
            size_same = inv.held.size_same;
            cells_same = inv.held.cells_same;
            index-long = inv.held.index-long;
            genuine = record { recovers = inv.held.genuine.recovers; rule = inv.held.genuine.rule };
            phase = pending begun-now (rw sub-zero refl);
            switch = inv.held.switch;
          };
    },
    λ _. agreed area h m q o b t (lent_lengths area h.cells work) inv inv.held e,
  )
    where
      r : Record
      r = h.rec

      log : List Placed
      log = log_now area r

      led : StartPassed L r (lent_lengths area h.cells work)
      led = start-passed L r log (lent_lengths area h.cells work) q o e

      free : first_cause (start_causes L r log (lent_lengths area h.cells work) freely o) ≡ none
      free = freely-accepted L r log (lent_lengths area h.cells work) q o ty e

      none-pending : r.pending ≡ Idle
      none-pending = not-pending r.pending led.idle

      recovers : recovered L r.slots r.size r.cells area ≡ some (unswitched r)
      recovers = inv.held.genuine.recovers ∙ ap some (idle-same r none-pending)

      acc : Accepted L area r o
      acc = record { lengths = lent_lengths area h.cells work; area-bytes = inv.bytes; typed = ty; recovers = recovers; no-cause = free }

      fits : length (laid L r log o).bytes ≤ length work
      fits = omega (arith, laws.bytes_fit area r o acc, ltb-false (length work) r.size led.work-long)

      begun-now : Started L area (started_record L r log o) (sets work 0 (laid L r log o).bytes)
      begun-now =
          record {
            operation = o;
            before = area;
            idle = r;
            since = 0;
            lengths = lent_lengths area h.cells work;
            typed = ty;
            area-bytes = inv.bytes;
            recovers = recovers;
            accepted = free;
            some_left = laws.some-stores area r o acc;
            record-now = rw sub-zero refl;
            area-now = refl;
            work-now = taken-sets work 0 (laid L r log o).bytes (length (laid L r log o).bytes) refl (omega (arith, fits));
          }

  -- A start keeps the invariant.
  pub start-keeps :
      (area work work' : List ℕ) (h : Held) (m : Option ℕ) (q : Terms) (o : Operation) (a : Start) (b : Book) (t : ℕ) → Typed o →
      StartPromise L q o h.rec area h.cells work work' a → Inv E L n s (record { area = area; held = some h; cells = m }) b t →
      StartGoal area h m q o (lent_lengths area h.cells work) b t a work'
  unfolding HeldGood begun
  start-keeps area work work' h m q o a b t ty p inv = subst⁻¹ Goal (p.exact inv.held.genuine) (go cause refl)
    where
      cause : Option Refusal
      cause = first_cause (start_causes L h.rec (log_now area h.rec) (lent_lengths area h.cells work) q o)

      Goal : Begun → Type 0
      Goal x = StartGoal area h m q o (lent_lengths area h.cells work) b t x.start x.work

      go : (c : Option Refusal) → cause ≡ c → Goal (begun L h.rec (log_now area h.rec) o work c)
      go none e = accepts area h m q o (lent_lengths area h.cells work) b t work ty inv e
      go (some c) e = refused area h m q o (lent_lengths area h.cells work) b t work c inv
