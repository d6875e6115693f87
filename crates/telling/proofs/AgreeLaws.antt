-- Laws of: The tests before a step's store at each test of the code, what they say, and that a started operation passes them.
use Rattle.std.specs.Prelude.{ℕ, ◌+◌, ◌-◌, ◌≤◌, ◌<◌, Bool, List, ltb, leb, None}
use Rattle.std.proofs.Math.Path.{◌≡◌, refl, sym}
use Rattle.std.proofs.Common.{◌∙◌, ap}
use Rattle.std.proofs.Math.Bool.{true, false, not}
use native.Mathlib.Omega.{arith}
use Rattle.std.proofs.Math.ListN.{length}
use borrow.Author.Tests.{lt-ltb, le-ltb, le-leb, lt-leb, ltb-true, leb-true, not-false, not-true}
use Rattle.segment.specs.Choice.{pick, both}
use Rattle.segment.proofs.Choice.{pick_true, pick-false, both_left, both_right, both_true, both-false-left, both-false-right}
use Rattle.segment.specs.Layout.{Layout, entry_size, digest_size, good_version, version_limit, number_limit}
use Rattle.segment.specs.Entry.{Entry, size_of, WellFormed}
use Rattle.segment.specs.declared.Key.{Key}
use Rattle.segment.specs.declared.Version.{Version}
use Rattle.slot_map.specs.Bit.{named, within}
use Rattle.slot_map.proofs.BitLaws.{clear-named}
use Rattle.slot_map.proofs.NextLaws.{next-below, next-clear}
use Rattle.record.specs.Answers.{with_pending}
use Rattle.record.specs.RangeLaws.{Lent}
use Rattle.record.specs.Switch.{new_layout}
use Rattle.record.specs.declared.Pending.{Pending}
use Rattle.record.specs.declared.Pending.TheVariants.{Idle, Append, NewHead, Clean, Forget}
use Rattle.record.specs.declared.Record.{Record}
use Rattle.model.specs.Log.{Placed}
use Rattle.model.specs.Operations.{Operation, write, delete, clean, Laid, laid, laid_append, laid_head, laid_entry, laid_clean, laid_forget, laid_delete, log_now, no_room, new_slot, fits_head, kept, all_encoded, written_entry, tombstone_entry}
use Rattle.laws.specs.Operated.{Accepted}
use Rattle.laws.specs.Entering.{Entering, idle-lent, write-enters, delete-next, delete-enters}
use Rattle.laws.specs.Cleanings.{Cleaning, clean-cleans, forget-cleans}
use Rattle.telling.specs.Next.{next_store, NextStore}
use Rattle.telling.specs.Agree.{entry_agrees, slot_agrees, victims_agree, forget_agrees, agrees_with, tested_store}
use Rattle.telling.specs.AgreeLaws.{EntryIn, SlotIn, entry_in, entry_layout, slot-in, takes_number, takes_version}

-- ---- at each test of the code

module _ (L : Layout) (r : Record) (before n : ℕ) where
  pub entry-spent : version_limit L ≤ r.next.0 → false ≡ entry_agrees L r before n
  unfolding entry_agrees
  entry-spent h = sym (both-false-left _ _ (le-ltb r.next.0 (version_limit L) h))

  pub entry-rest : r.next.0 < version_limit L → leb (before + entry_size L 0) n ≡ entry_agrees L r before n
  unfolding entry_agrees both
  entry-rest h = rw (lt-ltb r.next.0 (version_limit L) h)

module _ (r : Record) (i : ℕ) where
  pub slot-past : r.slots ≤ i → false ≡ slot_agrees r i
  unfolding slot_agrees
  slot-past h = sym (both-false-left _ _ (le-ltb i r.slots h))

  pub slot-spent : number_limit ≤ r.digest.0 → false ≡ slot_agrees r i
  unfolding slot_agrees
  slot-spent h = sym (both-false-right _ _ (both-false-left _ _ (le-ltb r.digest.0 number_limit h)))

  pub slot-rest : i < r.slots → r.digest.0 < number_limit → {t : Bool} → t ≡ named r.map i → not t ≡ slot_agrees r i
  unfolding slot_agrees both
  slot-rest h l e = rw (lt-ltb i r.slots h, lt-ltb r.digest.0 number_limit l, e)

module _ (L : Layout) (r : Record) (v n : ℕ) where
  pub victims-short : n < digest_size L → false ≡ victims_agree L r v n
  unfolding victims_agree
  victims-short h = sym (both-false-left _ _ (lt-leb (digest_size L) n h))

  pub victims-none : v ≡ 0 → false ≡ victims_agree L r v n
  unfolding victims_agree
  victims-none e = sym (both-false-right _ _ (both-false-left _ _ (le-ltb 0 v (omega arith))))

  pub victims-rest : digest_size L ≤ n → (v ≡ 0 → ⊥) → {t : Bool} → t ≡ within v r.map → t ≡ victims_agree L r v n
  unfolding victims_agree both
  victims-rest h l e = rw (le-leb (digest_size L) n h, lt-ltb 0 v (omega arith)) e

module _ (L : Layout) (r : Record) (v n : ℕ) where
  pub forget-spent : version_limit L ≤ r.next.0 → false ≡ forget_agrees L r v n
  unfolding forget_agrees
  forget-spent h = sym (both-false-left _ _ (le-ltb r.next.0 (version_limit L) h))

  pub forget-rest : r.next.0 < version_limit L → {t : Bool} → t ≡ victims_agree L r v n → t ≡ forget_agrees L r v n
  unfolding forget_agrees both
  forget-rest h e = rw (lt-ltb r.next.0 (version_limit L) h) e

module _ (L : Layout) (r : Record) where
  pub agree-idle : r.pending ≡ Idle → false ≡ agrees_with L r r.pending
  unfolding agrees_with
  agree-idle e = sym (ap (agrees_with L r) e)

  pub agree-append : {n k : ℕ} → r.pending ≡ Append n k → {t : Bool} → t ≡ entry_agrees L r 0 n → t ≡ agrees_with L r r.pending
  unfolding agrees_with
  agree-append e h = h ∙ sym (ap (agrees_with L r) e)

  pub agree-head :
      {i n k : ℕ} → r.pending ≡ NewHead i n k → {t : Bool} → t ≡ both (slot_agrees r i) (entry_agrees (new_layout r) r (digest_size (new_layout r)) n) →
      t ≡ agrees_with L r r.pending
  unfolding agrees_with
  agree-head e h = h ∙ sym (ap (agrees_with L r) e)

  pub agree-clean :
      {i v n k : ℕ} → r.pending ≡ Clean i v n k → {t : Bool} → t ≡ both (slot_agrees r i) (victims_agree (new_layout r) r v n) →
      t ≡ agrees_with L r r.pending
  unfolding agrees_with
  agree-clean e h = h ∙ sym (ap (agrees_with L r) e)

  pub agree-forget :
      {i v n k : ℕ} → r.pending ≡ Forget i v n k → {t : Bool} → t ≡ both (slot_agrees r i) (forget_agrees (new_layout r) r v n) →
      t ≡ agrees_with L r r.pending
  unfolding agrees_with
  agree-forget e h = h ∙ sym (ap (agrees_with L r) e)

-- ---- the next store behind these tests; t is what the code finds for them

module _ (L : Layout) (area_length : ℕ) (work : List ℕ) (r : Record) {t : Bool} (found : t ≡ agrees_with L r r.pending) where
  pub tested-unfit : not t ≡ true → tested_store L area_length work r ≡ None
  unfolding tested_store
  tested-unfit e = pick-false _ _ _ (sym found ∙ not-true t e)

  module _ (fits : not t ≡ false) where
    pub agrees-found : agrees_with L r r.pending ≡ true
    agrees-found = sym found ∙ not-false t fits

    pub tested-next : {x : NextStore} → next_store area_length work r ≡ x → tested_store L area_length work r ≡ x
    unfolding tested_store
    tested-next e = pick_true _ _ _ agrees-found ∙ e

module _ (L : Layout) (r : Record) (e : agrees_with L r r.pending ≡ true) where
  pub append-agrees : {n k : ℕ} → r.pending ≡ Append n k → EntryIn L r 0 n
  unfolding agrees_with
  append-agrees {n} q = entry_in L r 0 n (sym (ap (agrees_with L r) q) ∙ e)

  pub head-agrees : {i n k : ℕ} → r.pending ≡ NewHead i n k → SlotIn r i × EntryIn (new_layout r) r (digest_size (new_layout r)) n
  unfolding agrees_with
  head-agrees {i} {n} q =
      let w : both (slot_agrees r i) (entry_agrees (new_layout r) r (digest_size (new_layout r)) n) ≡ true = sym (ap (agrees_with L r) q) ∙ e in
      (slot-in r i (both_left _ _ w), entry_in (new_layout r) r (digest_size (new_layout r)) n (both_right _ _ w))

  pub clean-agrees : {i v n k : ℕ} → r.pending ≡ Clean i v n k → SlotIn r i
  unfolding agrees_with
  clean-agrees {i} {v} {n} q =
      let w : both (slot_agrees r i) (victims_agree (new_layout r) r v n) ≡ true = sym (ap (agrees_with L r) q) ∙ e in
      slot-in r i (both_left _ _ w)

  pub forget-agrees : {i v n k : ℕ} → r.pending ≡ Forget i v n k → SlotIn r i × (r.next.0 < version_limit (new_layout r))
  unfolding agrees_with forget_agrees
  forget-agrees {i} {v} {n} q =
      let w : both (slot_agrees r i) (forget_agrees (new_layout r) r v n) ≡ true = sym (ap (agrees_with L r) q) ∙ e in
      (slot-in r i (both_left _ _ w), ltb-true r.next.0 (version_limit (new_layout r)) (both_left _ _ (both_right _ _ w)))

module _ (L : Layout) (r : Record) where
  pub version-disagrees : (p : Pending) → takes_version p ≡ true → version_limit (entry_layout L r p) ≤ r.next.0 → agrees_with L r p ≡ false
  unfolding takes_version entry_layout agrees_with
  version-disagrees Idle t h = refl
  version-disagrees (Append n k) t h = sym (entry-spent L r 0 n h)
  version-disagrees (NewHead i n k) t h = both-false-right _ _ (sym (entry-spent (new_layout r) r (digest_size (new_layout r)) n h))
  version-disagrees (Clean i v n k) t h = let z : ◌≡◌ {A = ℕ} 0 1 = cc in absurd (omega arith)
  version-disagrees (Forget i v n k) t h = both-false-right _ _ (sym (forget-spent (new_layout r) r v n h))

  pub number-disagrees : (p : Pending) → takes_number p ≡ true → number_limit ≤ r.digest.0 → agrees_with L r p ≡ false
  unfolding takes_number agrees_with
  number-disagrees Idle t h = refl
  number-disagrees (Append n k) t h = let z : ◌≡◌ {A = ℕ} 0 1 = cc in absurd (omega arith)
  number-disagrees (NewHead i n k) t h = both-false-left _ _ (sym (slot-spent r i h))
  number-disagrees (Clean i v n k) t h = both-false-left _ _ (sym (slot-spent r i h))
  number-disagrees (Forget i v n k) t h = both-false-left _ _ (sym (slot-spent r i h))

-- ---- what is laid down by a start that is accepted agrees with the record

module _ (L : Layout) (before : List ℕ) (idle : Record) where
  -- what is laid down, with any number of stores left
  abbrev Agrees : Laid → Type 0
  Agrees l = (k : ℕ) → agrees_with L (with_pending idle (l.pending k)) (l.pending k) ≡ true

  new-slot-agrees : (p : Pending) → Lent L idle (length before) idle.cells → idle.digest.0 < number_limit → slot_agrees (with_pending idle p) (new_slot idle) ≡ true
  unfolding slot_agrees
  new-slot-agrees p f h =
      both_true _ _ (lt-ltb (new_slot idle) idle.slots (next-below idle.slots idle.map idle.head f.head-below f.some-free))
      (both_true _ _ (lt-ltb idle.digest.0 number_limit h)
      (ap not (clear-named idle.map (new_slot idle) (next-clear idle.slots idle.map idle.head f.head-below f.some-free))))

  module _ (facts : Lent L idle (length before) idle.cells) (e : Entry) (f : Entering L before idle e) where
    -- an edition in which the entry can stand has a version left
    version-left : (K : Layout) → WellFormed K e → idle.next.0 < version_limit K
    unfolding good_version
    version-left K w =
        omega (
          arith,
          ltb-true e.version (version_limit K) (both_right (ltb 0 e.version) (ltb e.version (version_limit K)) w.version-good),
          f.takes.version,
        )

    entry-laid : (K : Layout) → WellFormed K e → (p : Pending) (o n : ℕ) → o + size_of K e ≤ n → entry_agrees K (with_pending idle p) o n ≡ true
    unfolding entry_agrees
    entry-laid K w p o n h =
        both_true _ _ (lt-ltb idle.next.0 (version_limit K) (version-left K w)) (le-leb (o + entry_size K 0) n (omega arith))

    -- appended in the head's edition, or in a new head of its own
    entry-agrees : Agrees (laid_entry L idle e)
    unfolding pick agrees_with
    entry-agrees = go (fits_head L idle e) refl
      where
        go : (t : Bool) → fits_head L idle e ≡ t → Agrees (pick t (laid_append L e) (laid_head (new_layout idle) idle e))
        go true p k = entry-laid L (f.formed p) ((laid_append L e).pending k) 0 (size_of L e) (omega arith)
        go false p k =
            let W = new_layout idle in
            both_true _ _ (new-slot-agrees ((laid_head W idle e).pending k) facts (f.number-left p))
            (entry-laid W f.formed-new ((laid_head W idle e).pending k) (digest_size W) (digest_size W + size_of W e) (omega arith))

  -- a cleaning's victims, also of one that deletes
  victims-laid :
      (W : Layout) (p : Pending) (victims : ℕ) (next : Version) (stand : List Placed) → Cleaning L W before idle victims next stand →
      victims_agree W (with_pending idle p) victims (digest_size W + length (all_encoded W (kept victims stand))) ≡ true
  unfolding victims_agree
  victims-laid W p victims next stand c =
      both_true _ _ (le-leb (digest_size W) (digest_size W + length (all_encoded W (kept victims stand))) (omega arith))
      (both_true _ _ (lt-ltb 0 victims c.some-victim) c.sub)

  clean-laid : (victims : ℕ) → Accepted L before idle (clean victims) → Agrees (laid_clean (new_layout idle) idle (log_now before idle) victims)
  unfolding agrees_with
  clean-laid victims a k =
      let W = new_layout idle in
      let c = clean-cleans L before idle victims a in
      both_true _ _
      (new-slot-agrees ((laid_clean W idle (log_now before idle) victims).pending k) (idle-lent L before idle (clean victims) a)
      (omega (arith, c.number-left)))
      (victims-laid W ((laid_clean W idle (log_now before idle) victims).pending k) victims idle.next (log_now before idle) c)

  forget-laid : (key : Key) → Accepted L before idle (delete key) → no_room L idle (entry_size L 0) ≡ true → Agrees (laid_forget (new_layout idle) idle (log_now before idle) key)
  unfolding agrees_with forget_agrees
  forget-laid key a full k =
      let W = new_layout idle in
      let c = forget-cleans L before idle key a full in
      both_true _ _
      (new-slot-agrees ((laid_forget W idle (log_now before idle) key).pending k) (idle-lent L before idle (delete key) a)
      (omega (arith, c.number-left)))
      (both_true _ _ (lt-ltb idle.next.0 (version_limit W) (delete-next L before idle key a))
      (victims-laid W ((laid_forget W idle (log_now before idle) key).pending k) _ _ _ c))

  delete-laid : (key : Key) → Accepted L before idle (delete key) → Agrees (laid_delete L idle (log_now before idle) key)
  unfolding pick
  delete-laid key a = go (no_room L idle (entry_size L 0)) refl
    where
      go : (t : Bool) → no_room L idle (entry_size L 0) ≡ t →
          Agrees (pick t (laid_forget (new_layout idle) idle (log_now before idle) key) (laid_entry L idle (tombstone_entry idle key)))
      go true full = forget-laid key a full
      go false room =
          entry-agrees (idle-lent L before idle (delete key) a) (tombstone_entry idle key) (delete-enters L before idle key a room)

  pub laid-agrees : (o : Operation) → Accepted L before idle o → Agrees (laid L idle (log_now before idle) o)
  unfolding laid
  laid-agrees (write key value) a =
      entry-agrees (idle-lent L before idle (write key value) a) (written_entry idle key value) (write-enters L before idle key value a)
  laid-agrees (delete key) a = delete-laid key a
  laid-agrees (clean victims) a = clean-laid victims a
