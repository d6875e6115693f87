-- Reads answer what the book holds, also while an operation is pending; they keep the invariant, and tell a version below the next.
use Rattle.std.specs.Prelude.{Ok, Err}
use Prim.Native.Nat.{ℕ, ◌+◌, ◌-◌, ◌≤◌, ◌<◌, max}
use native.Mathlib.Nat.{max-zero}
use native.Mathlib.Omega.{arith}
use mathlib.Core.Path.{◌≡◌, refl, sym, ap, ◌∙◌, subst, subst⁻¹}
use mathlib.Core.Bool.{Bool, true, false, not}
use mathlib.Core.List.{List, [], ◌∷◌}
use mathlib.Core.Option.{Option, none, some}
use lib.Dec.{eqb}
use lib.ListN.{length}
use Rattle.word.specs.Number.{Bytes}
use Rattle.segment.specs.Choice.{pick, is_none}
use Rattle.segment.proofs.Choice.{both_left}
use Rattle.segment.specs.Layout.{Layout, entry_size}
use Rattle.segment.specs.Entry.{Entry, kind_of, bytes_in}
use Rattle.segment.specs.declared.Key.{Key}
use Rattle.record.specs.Answers.{Said, taken, said_by, read_said, fewest_said, refusal, with_pending, stores_left}
use Rattle.record.specs.Pairs.{join_said}
use Rattle.record.specs.Reach.{holds_table}
use Rattle.record.specs.Range.{in_range, lengths_own, fits_lent}
use Rattle.record.specs.RangeLaws.{lent, fits-lent, lent-next, lent-pending, lent-switched}
use Rattle.record.specs.declared.Pending.{Pending}
use Rattle.record.specs.declared.Pending.TheVariants.{Idle}
use Rattle.record.specs.Answered.{Joined, JoinAnswer, Reading, ReadAnswer, Fewest}
use Rattle.record.specs.Switch.{new_layout, as_recovered}
use Rattle.record.specs.declared.Record.{Record}
use Rattle.record.specs.declared.Refusal.{Refusal}
use Rattle.record.specs.declared.Refusal.TheVariants.{BadRecord, Busy, Absent, OutsideTables}
use Rattle.record.specs.declared.Tables.{Tables}
use Rattle.model.specs.Log.{Placed, present}
use Rattle.model.specs.Causes.{when, first_cause}
use Rattle.model.specs.Recovery.{recovered}
use Rattle.model.specs.Fewest.{FewestPromise, no_lengths}
use Rattle.model.specs.Operations.{Operation, write, delete, clean, log_now, written_entry, tombstone_entry, fits_head, no_room, laid_append, laid_head, laid_entry, laid_forget, laid, stores_for}
use Rattle.model.specs.Refused.{Lengths, record_bad, key_absent, outside_tables, read_causes, is_pending}
use Rattle.model.specs.Promises.{ReadPromise, ValuePromise, read_answer, present_answer, read_lengths, Part, part_of, value_answer, value_part, tell_lengths, TellPromise}
use Rattle.laws.specs.CauseLaws.{cause-skip, cause-first}
use Rattle.laws.specs.Members.{In}
use Rattle.laws.specs.MapLaws.{value_at, unplaced}
use Rattle.laws.specs.Operated.{OperationLaws}
use Rattle.laws.specs.OperationsKept.{present-in}
use Rattle.history.specs.Book.{Question, reads, reads_value, tells, fewest, asks, Answer, saying, giving, telling, naming, called, accepted, Kept, Book, feed, feed_call, version_told, joins, pairing, Awaited}
use Rattle.history.specs.Editions.{Editions, Among}
use Rattle.history.specs.Runs.{Held, World, Asked, read, read_value, tell, least, join}
use Rattle.model.specs.Joining.{JoinPromise}
use Rattle.history.specs.Demand3.{book_answer, book_value, QuestionAgrees, EventAgrees}
use Rattle.history.proofs.Invariant.{Inv, Holding, HeldGood, Phase, idle, pending, book_entry, started-accepted, next_of, log-of, recovered-is, SlotsAmong, placed-among, with-geometry, held-promise}
use Rattle.history.proofs.Tellings.{started-pending, tell-keeps}

-- ---- the record that is held passes the tests of range and length

pub pick_same : {A : Type 0} (t : Bool) (a : A) → pick t a a ≡ a
unfolding pick
pick_same true a = refl
pick_same false a = refl

pub some_same : {u v : Entry} → ◌≡◌ {A = Option Entry} (some u) (some v) → u ≡ v
some_same q = cc

-- a question changes nothing in the book
pub feed-asks : (b : Book) (q : Question) (l : Lengths) (a : Answer) → feed b (called (asks q) l a) ≡ b
unfolding feed feed_call
feed-asks b q l a = pick_same (accepted a) b

-- an operation is laid down with any number of stores left
laid-left : (L : Layout) (r : Record) (log : List Placed) (o : Operation) (k : ℕ) → stores_left ((laid L r log o).pending k) ≡ k
unfolding laid pick
laid-left L r log o k = go o
  where
    entry : (t : Bool) (e : Entry) → stores_left ((pick t (laid_append L e) (laid_head (new_layout r) r e)).pending k) ≡ k
    entry true e = refl
    entry false e = refl

    gone : (t : Bool) (j : Key) → stores_left ((pick t (laid_forget (new_layout r) r log j) (laid_entry L r (tombstone_entry r j))).pending k) ≡ k
    gone true j = refl
    gone false j = entry (fits_head L r (tombstone_entry r j)) (tombstone_entry r j)

    go : (o : Operation) → stores_left ((laid L r log o).pending k) ≡ k
    go (write j value) = entry (fits_head L r (written_entry r j value)) (written_entry r j value)
    go (delete j) = gone (no_room L r (entry_size L 0)) j
    go (clean victims) = refl

module _ (E : Editions) (L : Layout) (laws : OperationLaws L) (n s : ℕ) where
  -- 1 to S + 1 stores are left of what is pending
  pending-left :
      (area : List ℕ) (b : Book) (h : Held) → Phase L area b h →
      ((h.rec.pending ≡ Idle → ⊥) → 0 < stores_left h.rec.pending) × (stores_left h.rec.pending ≤ h.rec.size + 1)
  pending-left area b h (idle e _) = (
    λ some-pending. absurd (some-pending e),
    subst⁻¹ (λ (p : Pending). stores_left p ≤ h.rec.size + 1) e (omega arith),
  )
  pending-left area b h (pending st _) = (λ _. omega (arith, left, st.some_left), omega (arith, left, size, most))
    where
      stores : ℕ
      stores = stores_for L st.idle (log_now st.before st.idle) st.operation

      left : stores_left h.rec.pending ≡ stores - st.since
      left =
          ap (λ (x : Record). stores_left x.pending) st.record-now ∙
          laid-left L st.idle (log_now st.before st.idle) st.operation (stores - st.since)

      size : h.rec.size ≡ st.idle.size
      size = ap (λ (x : Record). x.size) st.record-now

      most : stores ≤ st.idle.size + 1
      most = laws.few-stores st.before st.idle st.operation (started-accepted L area h.rec h.work st)

  pub held_fits :
      (area : List ℕ) (m : Option ℕ) (b : Book) (h : Held) → Bytes area → Holding E L n s area m b h →
      fits_lent L h.rec (length area) (length h.cells) ≡ true
  held_fits area m b h ab good =
      let left = pending-left area b h good.phase in
      fits-lent L h.rec (length area) (length h.cells)
      (lent-switched h.rec (lent-pending h.rec.pending (lent L idle (length area) (length h.cells) idle-fits) left.0 left.1))
      (lent-next L idle (length area) (length h.cells) idle-fits)
    where
      idle : Record
      idle = as_recovered h.rec

      idle-fits : fits_lent L idle (length area) (length h.cells) ≡ true
      idle-fits =
          ap (λ (c : ℕ). fits_lent L idle (length area) c) good.index-long ∙
          laws.own-lengths h.rec.slots h.rec.size h.rec.cells area idle ab good.genuine.recovers

  -- ---- what the log holds of a key is what the book holds of it

  present-answer :
      (k : Key) (p : Option Placed) (x : Option Kept) → unplaced p ≡ book_entry k x → Among E L → ((y : Placed) → p ≡ some y → Among E y.layout) →
      (K : Layout) × Among E K × (read_answer (first_cause (when (is_none p) Absent ∷ [])) p ≡ book_answer K x)
  unfolding unplaced book_entry first_cause pick is_none read_answer present_answer book_answer
  present-answer k none none e own of = (L, own, refl)
  present-answer k none (some y) e own of = (L, own, cc)
  present-answer k (some p) none e own of = (L, own, cc)
  present-answer k (some p) (some y) e own of = (
    p.layout,
    of p refl,
    ap (λ (z : Entry). Ok (record { version = (record { 0 = z.version }); kind = (kind_of p.layout z) })) (some_same e),
  )

  present-value :
      (area : List ℕ) (size : ℕ) (k : Key) (p : Option Placed) (x : Option Kept) → unplaced p ≡ book_entry k x →
      ((y : Placed) → p ≡ some y → part_of area (value_part size (some y)) ≡ bytes_in y.entry.value) →
      part_of area (value_answer size (first_cause (when (is_none p) Absent ∷ [])) p) ≡ book_value x
  unfolding unplaced book_entry first_cause pick is_none value_answer value_part book_value bytes_in
  present-value area size k none none e part = refl
  present-value area size k none (some y) e part = cc
  present-value area size k (some p) none e part = cc
  present-value area size k (some p) (some y) e part = part p refl ∙ ap (λ (z : Entry). bytes_in z.value) (some_same e)

  -- A record that recovery of the area gives, its pending operation aside, and that fits what is lent.
  module _ (area cells : List ℕ) (r : Record) (ab : Bytes area)
      (recovers : recovered L r.slots r.size r.cells area ≡ some (as_recovered r))
      (fits : fits_lent L r (length area) (length cells) ≡ true) (v : Tables) (k : Key) (x : Option Kept)
      (same : value_at (log_now area r) k ≡ book_entry k x) (own : Among E L) (among : (y : Placed) → In y (log_now area r) → Among E y.layout)
    where
      abbrev cause : Option Refusal
      cause = first_cause (read_causes L r (log_now area r) (read_lengths area cells) v k)

      only-absent : holds_table v k.table ≡ true → cause ≡ first_cause (when (key_absent (log_now area r) k) Absent ∷ [])
      only-absent held =
          cause-skip (when (record_bad L r (read_lengths area cells)) BadRecord) _ (ap not fits) ∙
          cause-skip (when (outside_tables v k) OutsideTables) (when (key_absent (log_now area r) k) Absent ∷ []) (ap not held)

      only-outside : holds_table v k.table ≡ false → cause ≡ some OutsideTables
      only-outside out =
          cause-skip (when (record_bad L r (read_lengths area cells)) BadRecord) _ (ap not fits) ∙
          cause-first (when (outside_tables v k) OutsideTables) (when (key_absent (log_now area r) k) Absent ∷ []) (ap not out)

      pub read_answer_lem : holds_table v k.table ≡ true → (K : Layout) × Among E K × (read_answer cause (present (log_now area r) k) ≡ book_answer K x)
      read_answer_lem held =
          let (K, its, answer) =
          present-answer k (present (log_now area r) k) x same own (λ y q. among y (present-in (log_now area r) k y q)) in
          (K, its, ap (λ (c : Option Refusal). read_answer c (present (log_now area r) k)) (only-absent held) ∙ answer)

      pub value-answer : holds_table v k.table ≡ true → part_of area (value_answer r.size cause (present (log_now area r) k)) ≡ book_value x
      value-answer held =
          ap (λ (c : Option Refusal). part_of area (value_answer r.size c (present (log_now area r) k))) (only-absent held) ∙
          present-value area r.size k (present (log_now area r) k) x same
          (λ y q. laws.value-part area (as_recovered r) ab recovers k y q)

      -- what is said and given, within reach and out of it
      pub read-said :
          (K : Layout) × Among E K
          × (read_said (read_answer cause (present (log_now area r) k)) ≡ pick (holds_table v k.table) (read_said (book_answer K x)) (refusal 22))
      unfolding pick read_answer
      read-said = go (holds_table v k.table) refl
        where
          go : (t : Bool) → holds_table v k.table ≡ t →
              (K : Layout) × Among E K × (read_said (read_answer cause (present (log_now area r) k)) ≡ pick t (read_said (book_answer K x)) (refusal 22))
          go true e = let (K, its, answer) = read_answer_lem e in (K, its, ap read_said answer)
          go false e = (L, own, ap (λ (c : Option Refusal). read_said (read_answer c (present (log_now area r) k))) (only-outside e))

      pub value-given :
          part_of area (value_answer r.size cause (present (log_now area r) k)) ≡ pick (holds_table v k.table) (book_value x) []
      unfolding pick value_answer
      value-given = go (holds_table v k.table) refl
        where
          go : (t : Bool) → holds_table v k.table ≡ t → part_of area (value_answer r.size cause (present (log_now area r) k)) ≡ pick t (book_value x) []
          go true e = value-answer e
          go false e = ap (λ (c : Option Refusal). part_of area (value_answer r.size c (present (log_now area r) k))) (only-outside e)

  -- a version that a read tells is below the next
  pub told_below :
      (next : ℕ) → 0 < next → (c : Option Refusal) (o : Option Placed) → ((x : Placed) → o ≡ some x → x.entry.version < next) →
      (read_said (read_answer c o)).version < next
  unfolding read_answer present_answer
  told_below next some_next (some c) o less = some_next
  told_below next some_next none none less = some_next
  told_below next some_next none (some x) less = less x refl

  -- ---- reads in a run

  module _ (area : List ℕ) (h : Held) (m : Option ℕ) (b : Book) (t : ℕ) (inv : Inv E L n s (record { area = area; held = some h; cells = m }) b t)
      (good : Holding E L n s area m b h) (k : Key)
    where
      idle-recovers : recovered L n s h.rec.cells area ≡ some (as_recovered h.rec)
      idle-recovers =
          with-geometry L h.rec.slots n h.rec.size s h.rec.cells area (some (as_recovered h.rec)) good.slots_same
          good.size_same good.genuine.recovers

      next-now : h.rec.next.0 ≡ b.next
      next-now = sym (next_of L n s h.rec.cells area (as_recovered h.rec) idle-recovers) ∙ inv.agrees.next-same

      pub map-now : value_at (log_now area h.rec) k ≡ book_entry k (b.keys k)
      map-now =
          ap (λ (log : List Placed). value_at log k) (sym (log-of L n s h.rec.cells area (as_recovered h.rec) idle-recovers)) ∙
          inv.agrees.map_same k

      among-now : (y : Placed) → In y (log_now area h.rec) → Among E y.layout
      among-now =
          placed-among E area h.rec
          (subst (λ (x : Record). SlotsAmong E x.slots x.size area x.map)
          (sym (recovered-is L n s h.rec.cells area (as_recovered h.rec) idle-recovers)) inv.agrees.slots-among)

      fits : fits_lent L h.rec (length area) (length h.cells) ≡ true
      fits = held_fits area m b h inv.bytes good

      told-less : (c : Option Refusal) → (read_said (read_answer c (present (log_now area h.rec) k))).version < b.next
      told-less c =
          told_below b.next (omega (arith, inv.below)) c (present (log_now area h.rec) k)
          (λ x e. omega (arith, next-now, laws.version_below area (as_recovered h.rec) good.genuine.recovers k x e))

      -- what is to be shown of a question
      abbrev QuestionGoal : Question → Lengths → Answer → Type 0
      QuestionGoal q l a =
          Inv E L n s (record { area = area; held = some h; cells = m }) (feed b (called (asks q) l a)) (max t (version_told (called (asks q) l a)))
          × EventAgrees E b (called (asks q) l a)

      read_keeps :
          (v : Tables) (l : Lengths) (a : Reading) → ReadPromise L h.rec area h.cells v k a →
          QuestionGoal (reads v k) l (saying (read_said a.answer))
      unfolding feed feed_call version_told EventAgrees QuestionAgrees
      read_keeps v l a p = (
        rw (pick_same (accepted (saying (read_said a.answer))) b)
            (record { bytes = inv.bytes; base = inv.base; agrees = inv.agrees; below = omega (arith, inv.below, less); held = inv.held }),
        let (K, its, said) =
            read-said area h.cells h.rec inv.bytes good.genuine.recovers fits v k (b.keys k) map-now inv.agrees.own-among among-now in
            (K, its, ap (λ (x : ReadAnswer). saying (read_said x)) (p.exact good.genuine) ∙ ap saying said),
      )
        where
          less : (read_said a.answer).version < b.next
          less =
              subst⁻¹ (λ (x : ReadAnswer). (read_said x).version < b.next) (p.exact good.genuine)
              (told-less (first_cause (read_causes L h.rec (log_now area h.rec) (read_lengths area h.cells) v k)))

      value_keeps :
          (v : Tables) (l : Lengths) (p : Part) → ValuePromise L h.rec area h.cells v k p →
          QuestionGoal (reads_value v k) l (giving (part_of area p))
      unfolding feed feed_call version_told pick EventAgrees QuestionAgrees
      value_keeps v l p promise = (
        rw (max-zero t) inv,
        ap giving
            (ap (part_of area) (promise.exact good.genuine) ∙ value-given area h.cells h.rec inv.bytes good.genuine.recovers fits v k (b.keys k) map-now inv.agrees.own-among among-now),
      )

  -- the record of a run is in range, so the slot with the fewest bytes is told
  module _ (area : List ℕ) (h : Held) (m : Option ℕ) (b : Book) (t : ℕ) (a : Fewest) (p : FewestPromise L h.rec a)
      (inv : Inv E L n s (record { area = area; held = some h; cells = m }) b t) (good : Holding E L n s area m b h) where
    in-range : in_range L h.rec ≡ true
    unfolding fits_lent
    in-range = both_left (in_range L h.rec) (lengths_own h.rec (length area) (length h.cells)) (held_fits area m b h inv.bytes good)

    told : fewest_said a.answer ≡ taken
    unfolding said_by
    told =
        p.says
        ∙ ap (λ (c : Option Refusal). said_by c taken) (cause-skip _ _ (ap not in-range) ∙ no-cause-left)
      where
        no-cause-left : first_cause [] ≡ none
        no-cause-left = unfold first_cause in refl

    fewest-keeps :
        Inv E L n s (record { area = area; held = some h; cells = m }) (feed b (called (asks fewest) no_lengths (naming a.answer)))
        (max t (version_told (called (asks fewest) no_lengths (naming a.answer))))
        × EventAgrees E b (called (asks fewest) no_lengths (naming a.answer))
    unfolding version_told EventAgrees QuestionAgrees
    fewest-keeps = (
      subst⁻¹ (λ (x : Book). Inv E L n s (record { area = area; held = some h; cells = m }) x (max t (fewest_said a.answer).version))
          (feed-asks b fewest no_lengths (naming a.answer))
          (subst⁻¹ (λ (v : Said). Inv E L n s (record { area = area; held = some h; cells = m }) b (max t v.version)) told (rw (max-zero t) inv)),
      ap (λ (v : Said). eqb v.refused 0) told,
    )

  -- While an operation is pending no slots are named to join.
  join-busy :
      (area : List ℕ) (h : Held) (m : Option ℕ) (b : Book) → Bytes area → Holding E L n s area m b h → (a : Joined) →
      JoinPromise L h.rec area h.cells a → (x : Awaited) → b.pending ≡ some x → a.answer ≡ Err Busy
  join-busy area h m b ab good a p x e = by-phase good.phase
    where
      by-phase : Phase L area b h → a.answer ≡ Err Busy
      by-phase (idle _ q) = let z : ◌≡◌ {A = ℕ} 0 1 = cc in absurd (omega arith)
      by-phase (pending st _) =
          p.early Busy
          (cause-skip (when (record_bad L h.rec (read_lengths area h.cells)) BadRecord) _ (ap not (held_fits area m b h ab good)) ∙
          cause-first (when (is_pending h.rec.pending) Busy) []
          (started-pending L area h.rec h.work st))

  join-keeps :
      (area : List ℕ) (h : Held) (m : Option ℕ) (b : Book) (t : ℕ) (l : Lengths) (a : Joined) → Inv E L n s (record { area = area; held = some h; cells = m }) b t →
      Holding E L n s area m b h → JoinPromise L h.rec area h.cells a →
      Inv E L n s (record { area = area; held = some h; cells = m }) (feed b (called (asks joins) l (pairing (join_said a.answer))))
      (max t (version_told (called (asks joins) l (pairing (join_said a.answer))))) × EventAgrees E b (called (asks joins) l (pairing (join_said a.answer)))
  unfolding feed feed_call version_told EventAgrees QuestionAgrees
  join-keeps area h m b t l a inv good p = (
    rw (pick_same (accepted (pairing (join_said a.answer))) b, max-zero t) inv,
    λ x e. ap (λ (y : JoinAnswer). pairing (join_said y)) (join-busy area h m b inv.bytes good a p x e),
  )

  -- A question keeps the invariant, and answers what the book says.
  pub ask-keeps :
      {w : World} {q : Question} {l : Lengths} {a : Answer} (b : Book) (t : ℕ) → Asked w q l a → Inv E L n s w b t →
      Inv E L n s w (feed b (called (asks q) l a)) (max t (version_told (called (asks q) l a))) × EventAgrees E b (called (asks q) l a)
  unfolding HeldGood
  ask-keeps b t (read {area} {h} {m} {v} {k} {a} ty p) inv =
      read_keeps area h m b t inv inv.held k v (read_lengths area h.cells) a
      (held-promise E L n s area m b h inv.held (λ (K : Layout). ReadPromise K h.rec area h.cells v k a) p)
  ask-keeps b t (read_value {area} {h} {m} {v} {k} {p} ty promise) inv =
      value_keeps area h m b t inv inv.held k v (read_lengths area h.cells) p
      (held-promise E L n s area m b h inv.held (λ (K : Layout). ValuePromise K h.rec area h.cells v k p) promise)
  ask-keeps b t (tell {area} {work} {h} {m} {a} own p) inv =
      tell-keeps E L n s area work h m a b t own (held-promise E L n s area m b h inv.held (λ (K : Layout). TellPromise K h.rec area work a) p) inv
      inv.held.phase (feed-asks b tells (tell_lengths area work) (telling a.answer))
  ask-keeps b t (least {area} {h} {m} {a} p) inv =
      fewest-keeps area h m b t a (held-promise E L n s area m b h inv.held (λ (K : Layout). FewestPromise K h.rec a) p) inv inv.held
  ask-keeps b t (join {area} {h} {m} {a} p) inv =
      join-keeps area h m b t (read_lengths area h.cells) a inv inv.held
      (held-promise E L n s area m b h inv.held (λ (K : Layout). JoinPromise K h.rec area h.cells a) p)
