-- From what the code decides and lays down to the promise of a start.
use Rattle.std.specs.Prelude.{ℕ, ◌+◌, ◌≤◌, ◌≡◌, Bool, true, false, not, length, Ok, Err}
use Rattle.std.proofs.Math.Path.{refl, sym, ap}
use Rattle.std.proofs.Common.{◌∙◌, arith}
use mathlib.Core.List.{List, [], ◌∷◌, ◌++◌}
use Rattle.std.proofs.Math.Option.{Option, none, some}
use Rattle.std.proofs.Math.Seq.{length-sets}
use borrow.Author.Tests.{eq-eqb, eqb-false, ltb-false, not-false}
use Rattle.segment.specs.Choice.{both, or_zero}
use Rattle.segment.proofs.Choice.{pick-false, both_left, both-false-left, not_none}
use Rattle.segment.specs.Layout.{Layout, value_length, object_kind, entry_size, digest_size, number_limit, table}
use Rattle.segment.proofs.LayoutLaws.{object-kind, object-no-tombstone, tombstone-length}
use Rattle.segment.specs.Entry.{Entry}
use Rattle.segment.proofs.ValueLaws.{value-object, value-tombstone}
use Rattle.segment.specs.Written.{entry_of}
use Rattle.segment.specs.declared.Key.{Key}
use Rattle.record.specs.Range.{fits_lent}
use Rattle.record.specs.RangeLaws.{Lent, lent}
use Rattle.record.specs.Switch.{new_layout}
use Rattle.record.specs.declared.Pending.{Pending}
use Rattle.record.specs.declared.Refusal.{Refusal}
use Rattle.record.specs.declared.Refusal.TheVariants.{BadRecord, NumbersSpent, NoRoom}
use Rattle.record.specs.Answered.{Start, Check}
use Rattle.record.specs.declared.Record.{Record}
use Rattle.record.specs.declared.Tables.{Tables}
use Rattle.model.specs.Log.{Placed}
use Rattle.model.specs.Causes.{Cause, when, first_cause}
use Rattle.model.specs.Operations.{Operation, write, delete, log_now, written_entry, tombstone_entry, fits_with, Laid, laid, laid_entry}
use Rattle.model.specs.Refused.{Lengths, Terms, reaching, KeyFacts, record_bad, work_short, versions_spent, numbers_spent, no_room, no_number, kept_too_long, forget_too_long, forget_length, reach_causes, write_causes, delete_causes, early_causes, start_causes}
use Rattle.model.specs.Promises.{Genuine, Begun, begun, lent_lengths, StartPromise}
use Rattle.laws.specs.CauseLaws.{NoCause, no-cause, first_some, first-none}
use Rattle.laws.specs.Passed.{WritePassed, write-passed}
use Rattle.laws.specs.Entering.{Roomy}
use Rattle.laws.specs.SaidLaws.{start-settled}
use Rattle.laws.specs.Starts.{early-bad, start-early}
use Rattle.starting.specs.Checks.{checked, idle_causes}
use Rattle.starting.specs.CheckLaws.{skipped, checked-some, checked-none, part-refused}
use Rattle.starting.specs.NewHead.{NumberLeft}
use Rattle.starting.specs.Answer.{started_with, refused_start}
use Rattle.writing.specs.Tests.{first_tests, number_tests, present_tests, full_tests, facts_for}
use Rattle.writing.specs.Laying.{laid_begun, EntryReady}
use Rattle.writing.specs.Known.{genuine-facts}

-- ---- any start

none-some : (o : Option Refusal) (y : Refusal) → o ≡ none → o ≡ some y → ⊥
none-some o y e f =
    let p : ◌≡◌ {A = Option Refusal} (some y) none = sym f ∙ e in
    let z : ◌≡◌ {A = ℕ} 0 1 = cc in
    omega arith

-- A start with these causes, as the code goes by them.
module _ (L : Layout) (q : Terms) (o : Operation) (r : Record) (area cells work : List ℕ) (tests : List Cause) where
  abbrev lengths : Lengths
  lengths = lent_lengths area cells work

  -- the first of them is a bad record, and on a genuine store with a record in range they are 01's
  pub record Causes : Type 0 where
    pub early : (x : Refusal) → first_cause (early_causes L r lengths q o) ≡ some x → first_cause tests ≡ some x
    pub agrees :
        Genuine L area r cells → Lent L r (length area) (length cells) →
        first_cause tests ≡ first_cause (start_causes L r (log_now area r) lengths q o)

  module _ (c : Causes) where
    same : Genuine L area r cells → first_cause tests ≡ first_cause (start_causes L r (log_now area r) lengths q o)
    same g = go (record_bad L r lengths) refl
      where
        go : (t : Bool) → record_bad L r lengths ≡ t → first_cause tests ≡ first_cause (start_causes L r (log_now area r) lengths q o)
        go true e =
            let bad = early-bad L r lengths q o e in
            c.early BadRecord bad ∙ sym (start-early L r (log_now area r) lengths q o BadRecord bad)
        go false e = c.agrees g (lent L r (length area) (length cells) (not-false (fits_lent L r (length area) (length cells)) e))

    -- refused: nothing changes
    pub start-refused :
        (x : Refusal) → Err x ≡ checked (first_cause tests) → (a : Start) → a ≡ refused_start r x →
        StartPromise L q o r area cells work work a
    unfolding begun
    start-refused x e a is =
        record { same_length = refl; early = early; exact = exact; says = start-settled L q o r area cells work work a early exact }
      where
        told : (log : List Placed) → record { start = a; work = work } ≡ begun L r log o work (first_cause tests)
        told log =
            ap (λ (s : Start). record { start = s; work = work }) is ∙ sym (ap (begun L r log o work) (checked-some (first_cause tests) x e))

        early :
            (y : Refusal) → first_cause (early_causes L r lengths q o) ≡ some y → record { start = a; work = work } ≡ begun L r [] o work (some y)
        early y h = told [] ∙ ap (begun L r [] o work) (c.early y h)

        exact :
            Genuine L area r cells → record { start = a; work = work } ≡
            begun L r (log_now area r) o work (first_cause (start_causes L r (log_now area r) lengths q o))
        exact g = told (log_now area r) ∙ ap (begun L r (log_now area r) o work) (same g)

    -- no early cause holds: nothing is promised of a store that is not genuine
    pub start-decided :
        ((y : Refusal) → first_cause (early_causes L r lengths q o) ≡ some y → ⊥) → (work' : List ℕ) (a : Start) → length work' ≡ length work →
        (Genuine L area r cells → record { start = a; work = work' } ≡ begun L r (log_now area r) o work (first_cause tests)) →
        StartPromise L q o r area cells work work' a
    start-decided never work' a long h =
        record { same_length = long; early = early; exact = exact; says = start-settled L q o r area cells work work' a early exact }
      where
        early :
            (y : Refusal) → first_cause (early_causes L r lengths q o) ≡ some y → record { start = a; work = work' } ≡ begun L r [] o work (some y)
        early y b = absurd (never y b)

        exact :
            Genuine L area r cells → record { start = a; work = work' } ≡
            begun L r (log_now area r) o work (first_cause (start_causes L r (log_now area r) lengths q o))
        exact g = h g ∙ ap (begun L r (log_now area r) o work) (same g)

    -- accepted: the operation is laid down, by the log of a genuine store
    pub start-laid :
        Ok tt ≡ checked (first_cause tests) → (work' : List ℕ) (a : Start) → length work' ≡ length work →
        (Genuine L area r cells → record { start = a; work = work' } ≡ laid_begun r (laid L r (log_now area r) o) work) →
        StartPromise L q o r area cells work work' a
    unfolding begun laid_begun
    start-laid passed work' a long h =
        start-decided (λ y b. none-some (first_cause tests) y no-cause (c.early y b)) work' a long
        (λ g. h g ∙ ap (begun L r (log_now area r) o work) (sym no-cause))
      where
        no-cause : first_cause tests ≡ none
        no-cause = checked-none (first_cause tests) passed

-- the work buffer keeps its length
laid-long : (r : Record) (l : Laid) (work work' : List ℕ) (a : Start) → record { start = a; work = work' } ≡ laid_begun r l work → length work' ≡ length work
unfolding laid_begun
laid-long r l work work' a h = ap (λ (b : Begun). length b.work) h ∙ length-sets work 0 l.bytes

-- the operation that was laid down is started
pub laid-started : (r : Record) {a : Start} {p : Pending} {left : ℕ} {work' : List ℕ} {b : Begun} → a ≡ started_with r p left
    → record { start = started_with r p left; work = work' } ≡ b → record { start = a; work = work' } ≡ b
laid-started r {work' = work'} e h = ap (λ (s : Start). record { start = s; work = work' }) e ∙ h

-- what the code may rely on once all tests are passed
module _ (L : Layout) (r : Record) (area cells work : List ℕ) (n : ℕ) where
  entry_ready :
      record_bad L r (lent_lengths area cells work) ≡ false → work_short r (lent_lengths area cells work) ≡ false →
      digest_size L + entry_size L n ≤ 256 → EntryReady L r n (length work)
  entry_ready good long room =
      record {
        area_length = length area;
        index_length = length cells;
        lent = lent L r (length area) (length cells) (not-false (fits_lent L r (length area) (length cells)) good);
        long = ltb-false (length work) r.size long;
        room = room;
      }

  some_number : no_number L r (entry_size L n) ≡ false → fits_with L r (entry_size L n) ≡ false → NumberLeft r
  unfolding both
  some_number left f = eqb-false r.digest.0 number_limit (rw f at left)

-- ---- a write

module _ (L : Layout) (q : Terms) (r : Record) (area cells work : List ℕ) (k : Key) (value : List ℕ) where
  abbrev write_tests : List Cause
  write_tests = write_causes L r (lent_lengths area cells work) q k (facts_for area cells k) (length value)

  abbrev writes : Check
  writes = checked (first_cause write_tests)

  write-causes : Causes L q (write k value) r area cells work write_tests
  unfolding laid start_causes early_causes
  write-causes =
      record {
        early = λ x e. first_some (reach_causes L r (lent_lengths area cells work) q.tables k) _ x e;
        agrees = λ g h. ap (λ (f : KeyFacts). first_cause (write_causes L r (lent_lengths area cells work) q k f (length value))) (genuine-facts L area r cells g h k);
      }

  pub write-refused :
      (c : Refusal) → Err c ≡ writes → (a : Start) → a ≡ refused_start r c →
      StartPromise L q (write k value) r area cells work work a
  write-refused c e a is = start-refused L q (write k value) r area cells work write_tests write-causes c e a is

  module _ (passed : Ok tt ≡ writes) where
    written : WritePassed L r (lent_lengths area cells work) q k (facts_for area cells k) (length value)
    written = write-passed L r (lent_lengths area cells work) q k (facts_for area cells k) (length value) (checked-none _ passed)

    -- the kind that the code finds is that of objects with so long a value
    module _ (kind : ℕ) (is : kind ≡ or_zero (object_kind L (length value))) where
      kind-found : object_kind L (length value) ≡ some kind
      kind-found = not_none (object_kind L (length value)) written.value-known ∙ ap some (sym is)

      pub write_known : value_length L kind ≡ some (length value)
      write_known = object-kind L (length value) kind kind-found

      write-said : entry_of L kind k r.next value ≡ written_entry r k value
      write-said =
          ap (λ (v : Option (List ℕ)). record { table = k.table; key = k.key; version = r.next.0; value = v })
          (value-object L kind value (object-no-tombstone L (length value) kind kind-found))

    write-room : Roomy L → digest_size L + entry_size L (length value) ≤ 256
    write-room roomy =
        roomy.room (or_zero (object_kind L (length value))) (length value) (write_known (or_zero (object_kind L (length value))) refl)

    pub write-ready : Roomy L → EntryReady L r (length value) (length work)
    write-ready roomy = entry_ready L r area cells work (length value) written.record-good written.work-long (write-room roomy)

    pub write-number : fits_with L r (entry_size L (length value)) ≡ false → NumberLeft r
    write-number f = some_number L r area cells work (length value) written.number-left f

    pub write-laid :
        (work' : List ℕ) (a : Start) (kind : ℕ) → kind ≡ or_zero (object_kind L (length value)) →
        record { start = a; work = work' } ≡ laid_begun r (laid_entry L r (entry_of L kind k r.next value)) work →
        StartPromise L q (write k value) r area cells work work' a
    unfolding laid
    write-laid work' a kind is h =
        start-laid L q (write k value) r area cells work write_tests write-causes passed work' a (laid-long r _ work work' a h)
        (λ g. h ∙ ap (λ (e : Entry). laid_begun r (laid_entry L r e) work) (write-said kind is))

-- ---- a delete

-- what is known once 4, 22, 3, 5, 8 and 9 are passed
pub record PresentPassed (L : Layout) (r : Record) (l : Lengths) (k : KeyFacts) : Type 0 where
  pub record-good : record_bad L r l ≡ false
  pub work-long : work_short r l ≡ false
  pub present : k.absent ≡ false
  pub versions-left : versions_spent r ≡ false

module _ (L : Layout) (t : Tables) (r : Record) (area cells work : List ℕ) (k : Key) where
  abbrev front : List Cause
  front = present_tests L r (lent_lengths area cells work) t k (facts_for area cells k)

  abbrev pub presents : Check
  presents = checked (first_cause front)

  -- how many bytes the one victim keeps
  abbrev victim_length : ℕ
  victim_length = forget_length (new_layout r) r (log_now area r) k

  -- all of its causes, by that length
  abbrev delete_tests : List Cause
  delete_tests = delete_causes L r (lent_lengths area cells work) (reaching t) k (facts_for area cells k) victim_length

  abbrev room_causes : List Cause
  room_causes = when (forget_too_long L r victim_length) NoRoom ∷ when (no_number L r (entry_size L 0)) NumbersSpent ∷ []

  delete-causes : Causes L (reaching t) (delete k) r area cells work delete_tests
  unfolding laid start_causes early_causes
  delete-causes =
      record {
        early = λ x e. first_some (reach_causes L r (lent_lengths area cells work) t k) _ x e;
        agrees = λ g h. ap (λ (f : KeyFacts). first_cause (delete_causes L r (lent_lengths area cells work) (reaching t) k f victim_length)) (genuine-facts L area r cells g h k);
      }

  in_parts : first_cause (front ++ room_causes) ≡ first_cause delete_tests
  unfolding present_tests first_tests idle_causes
  in_parts = refl

  pub delete-refused :
      (c : Refusal) → Err c ≡ presents → (a : Start) → a ≡ refused_start r c →
      StartPromise L (reaching t) (delete k) r area cells work work a
  delete-refused c e a is =
      start-refused L (reaching t) (delete k) r area cells work delete_tests delete-causes c (part-refused front room_causes c e ∙ ap checked in_parts) a is

  module _ (passed : Ok tt ≡ presents) where
    pub deleted : PresentPassed L r (lent_lengths area cells work) (facts_for area cells k)
    unfolding present_tests first_tests idle_causes
    deleted =
        let x : NoCause front = no-cause front (checked-none _ passed) in
        record { record-good = x.0; work-long = x.1.1.0; present = x.1.1.1.1.1.0; versions-left = x.1.1.1.1.1.1.0 }

    last-causes : first_cause delete_tests ≡ first_cause room_causes
    last-causes = sym in_parts ∙ first-none front room_causes (checked-none _ passed)

    pub delete-ready : Roomy L → EntryReady L r 0 (length work)
    delete-ready roomy =
        entry_ready L r area cells work 0 deleted.record-good deleted.work-long (roomy.room (table L).tombstone_kind 0 (tombstone-length L))

    pub delete-said : entry_of L (table L).tombstone_kind k r.next [] ≡ tombstone_entry r k
    delete-said =
        ap (λ (v : Option (List ℕ)). record { table = k.table; key = k.key; version = r.next.0; value = v })
        (value-tombstone L (table L).tombstone_kind [] (eq-eqb (table L).tombstone_kind (table L).tombstone_kind refl))

    -- where the tombstone finds room, 10 alone is left: s is what the code finds for its length
    module _ (room : no_room L r (entry_size L 0) ≡ false) (s : ℕ) (size : s ≡ entry_size L 0) where
      number-last : {c : Check} → c ≡ checked (first_cause (number_tests L r s)) → c ≡ checked (first_cause delete_tests)
      unfolding number_tests
      number-last e =
          skipped _ _ (both-false-left (no_room L r (entry_size L 0)) (kept_too_long r victim_length) room)
          (e ∙ ap (λ (n : ℕ). checked (first_cause (number_tests L r n))) size)
          ∙ ap checked (sym last-causes)

      pub delete-spent :
          (c : Refusal) → Err c ≡ checked (first_cause (number_tests L r s)) → (a : Start) → a ≡ refused_start r c →
          StartPromise L (reaching t) (delete k) r area cells work work a
      delete-spent c e a is = start-refused L (reaching t) (delete k) r area cells work delete_tests delete-causes c (number-last e) a is

      module _ (left : Ok tt ≡ checked (first_cause (number_tests L r s))) where
        pub delete-number : fits_with L r (entry_size L 0) ≡ false → NumberLeft r
        unfolding number_tests
        delete-number f =
            some_number L r area cells work 0
            (ap (no_number L r) (sym size) ∙ (no-cause (number_tests L r s) (checked-none _ left)).0) f

        pub delete-laid :
            (work' : List ℕ) (a : Start) →
            record { start = a; work = work' } ≡ laid_begun r (laid_entry L r (entry_of L (table L).tombstone_kind k r.next [])) work →
            StartPromise L (reaching t) (delete k) r area cells work work' a
        unfolding laid
        delete-laid work' a h =
            start-laid L (reaching t) (delete k) r area cells work delete_tests delete-causes (number-last left) work' a (laid-long r _ work work' a h)
            (λ g.
            h ∙ ap (λ (e : Entry). laid_begun r (laid_entry L r e) work) delete-said
            ∙ ap (λ (x : Laid). laid_begun r x work) (sym (pick-false (no_room L r (entry_size L 0)) _ _ room)))

    -- where it finds none, 12 goes by what the victim keeps, and 10 comes behind
    module _ (full : no_room L r (entry_size L 0) ≡ true) where
      full-last : first_cause delete_tests ≡ first_cause (full_tests r (kept_too_long r victim_length))
      unfolding full_tests both
      full-last =
          last-causes
          ∙ ap (λ (x : Bool). first_cause (when (both x (kept_too_long r victim_length)) NoRoom ∷ when (no_number L r (entry_size L 0)) NumbersSpent ∷ [])) full
          ∙ ap (λ (x : Bool). first_cause (when (kept_too_long r victim_length) NoRoom ∷ when (both x (numbers_spent r)) NumbersSpent ∷ [])) (both_left (not (fits_with L r (entry_size L 0))) _ full)

      pub delete-full :
          (work' : List ℕ) (a : Start) → length work' ≡ length work →
          (Genuine L area r cells → record { start = a; work = work' } ≡
          begun L r (log_now area r) (delete k) work (first_cause (full_tests r (kept_too_long r victim_length)))) →
          StartPromise L (reaching t) (delete k) r area cells work work' a
      unfolding early_causes present_tests first_tests
      delete-full work' a long h =
          start-decided L (reaching t) (delete k) r area cells work delete_tests delete-causes
          (λ y b. none-some (first_cause front) y (checked-none _ passed) (first_some (reach_causes L r (lent_lengths area cells work) t k) _ y b)) work' a long
          (λ g. h g ∙ ap (begun L r (log_now area r) (delete k) work) (sym full-last))
