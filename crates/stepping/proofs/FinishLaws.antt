-- The last step at each test of the code.
use Rattle.std.specs.Prelude.{ℕ, ◌+◌, ◌*◌, ◌-◌, ◌/◌, ◌≤◌, ◌<◌, ◌≡◌, List, ltb, get_or, drop, Ok, Some, None}
use Rattle.std.proofs.Math.Path.{refl, sym, ap, subst}
use Rattle.std.proofs.Common.{◌∙◌, ap₂, mul-le-mul, mul-le-mul_right, suc-mul, arith, length-take, lt-ltb, le-ltb}
use Rattle.segment.proofs.Choice.{pick_true, pick-false}
use Rattle.segment.specs.Layout.{Layout, digest_size}
use Rattle.segment.specs.Entry.{Entry, Found, entry, end, damage, entry_at, answer, key_of, is_tombstone, size_of}
use Rattle.segment.proofs.EntryLaws.{found-fits}
use Rattle.segment.proofs.AnswerLaws.{tells-object, tells-tombstone, tells-end, tells-damage}
use Rattle.segment.specs.declared.Key.{Key}
use Rattle.segment.specs.declared.Read.{Read}
use Rattle.segment.specs.declared.Version.{Version}
use Rattle.slot_map.specs.Bit.{with_bit, less}
use Rattle.record.specs.Answers.{with_pending, stores_left}
use Rattle.record.specs.Committed.{committed}
use Rattle.record.specs.Switch.{new_layout}
use Rattle.record.specs.declared.Commit.{Commit}
use Rattle.record.specs.declared.Pending.{Pending}
use Rattle.record.specs.declared.Pending.TheVariants.{Idle, Append, NewHead, Clean, Forget}
use Rattle.record.specs.declared.Refusal.{Refusal}
use Rattle.record.specs.Answered.{Stepped, StepAnswer}
use Rattle.record.specs.declared.Progress.{Progress}
use Rattle.record.specs.declared.Record.{Record}
use Rattle.model.specs.Log.{segment_of}
use Rattle.model.specs.Operations.{next_after, append_commit, head_commit}
use Rattle.model.specs.Counts.{object_size}
use Rattle.segment.specs.Area.{object_at}
use Rattle.counting.specs.Counting.{lost_at, renewed_at}
use Rattle.laws.specs.Counted.{fewer-most}
use Rattle.index.specs.Insert.{Insertion, inserted}
use Rattle.index.specs.Build.{Rebuilt, Built}
use Rattle.index.specs.declared.Inserted.{Inserted}
use Rattle.telling.specs.Next.{PendingIn}
use Rattle.stepping.specs.Finish.{After, refused_step, unfit, keys_after, answered_with, lost_by, counts_after, entry_in, found_in, finish_entry, finish_append, finish_head, rebuilt, finish_rebuilt, finish_clean, finish_forget, one_less, finish_with, advanced}

-- ---- the keys after an insertion

module _ (n : ℕ) {a : Inserted} where
  pub keys-new : a ≡ Inserted.New → Some (n + 1) ≡ keys_after a n
  unfolding keys_after
  keys-new e = rw e

  pub keys-newer : {old : ℕ} → a ≡ Inserted.Newer old → Some n ≡ keys_after a n
  unfolding keys_after
  keys-newer e = rw e

  pub keys-older : a ≡ Inserted.Older → Some n ≡ keys_after a n
  unfolding keys_after
  keys-older e = rw e

  pub keys-full : a ≡ Inserted.Full → None ≡ keys_after a n
  unfolding keys_after
  keys-full e = rw e

-- ---- the answer

module _ (r : Record) (done : Commit) (version : Version) (counts : List ℕ) {b : Built} where
  pub told-keys :
      {n : ℕ} → b ≡ Some n → n < r.cells → {s : Record} → s ≡ committed r done n counts →
      record { answer = Ok (Progress.Done version); rec = s } ≡ answered_with r done version.0 counts b
  unfolding answered_with
  told-keys {n} e h f =
      ap (λ (s : Record). record { answer = Ok (Progress.Done version); rec = s }) f
      ∙ sym (pick_true (ltb n r.cells) _ _ (lt-ltb n r.cells h))
      ∙ ap (answered_with r done version.0 counts) (sym e)

  pub told_over : {n : ℕ} → b ≡ Some n → r.cells ≤ n → {x : Stepped} → x ≡ refused_step r Refusal.BadRecord → x ≡ answered_with r done version.0 counts b
  unfolding answered_with
  told_over {n} e h f =
      f ∙ sym (pick-false (ltb n r.cells) _ _ (le-ltb n r.cells h)) ∙ ap (answered_with r done version.0 counts) (sym e)

  pub told-many : b ≡ None → {x : Stepped} → x ≡ refused_step r Refusal.BadRecord → x ≡ answered_with r done version.0 counts b
  unfolding answered_with
  told-many e f = f ∙ ap (answered_with r done version.0 counts) (sym e)

-- ---- the present bytes after an insertion

module _ (S : ℕ) (area c : List ℕ) {a : Inserted} where
  pub lost-new : a ≡ Inserted.New → c ≡ lost_by S area a c
  unfolding lost_by
  lost-new e = rw e

  pub lost-newer : {old : ℕ} → a ≡ Inserted.Newer old → {c' : List ℕ} → c' ≡ lost_at S area old c → c' ≡ lost_by S area a c
  unfolding lost_by
  lost-newer e h = rw e h

  pub lost-older : a ≡ Inserted.Older → c ≡ lost_by S area a c
  unfolding lost_by
  lost-older e = rw e

  pub lost-full : a ≡ Inserted.Full → c ≡ lost_by S area a c
  unfolding lost_by
  lost-full e = rw e

-- no number rises
pub lost-few : (S : ℕ) (area c : List ℕ) (a : Inserted) (j : ℕ) → get_or (lost_by S area a c) j 0 ≤ get_or c j 0
unfolding lost_by lost_at
lost-few S area c Inserted.New j = omega arith
lost-few S area c (Inserted.Newer old) j = fewer-most (old / S) j (object_at area old) c
lost-few S area c Inserted.Older j = omega arith
lost-few S area c Inserted.Full j = omega arith

-- ---- an entry put into the index

module _ (r : Record) (done : Commit) (area cells : List ℕ) (slot place : ℕ) where
  pub entry-put :
      (k : Key) (n : ℕ) {a : Inserted} {cells' : List ℕ} → record { answer = a; cells = cells' } ≡ inserted area cells place k r.next.0 → {b : Built} →
      b ≡ keys_after a r.keys → {counts : List ℕ} → counts ≡ counts_after r area a slot n → {x : Stepped} →
      x ≡ answered_with r done r.next.0 counts b → record { stepped = x; cells = cells' } ≡ entry_in r done area cells slot n place k
  entry-put k n {a} {cells'} e eb ec ex =
      ap (λ (s : Stepped). record { stepped = s; cells = cells' }) (ex ∙ ap₂ (answered_with r done r.next.0) ec eb)
      ∙ ap
      (λ (i : Insertion).
      record {
        stepped = answered_with r done r.next.0 (counts_after r area i.answer slot n) (keys_after i.answer r.keys);
        cells = i.cells;
      }) e

  found-entry : (L : Layout) (f : Found) (e : Entry) → f ≡ entry e → {k : Key} → key_of e ≡ k → {n : ℕ} → object_size L e ≡ n → {a : After} →
      a ≡ entry_in r done area cells slot n place k → a ≡ found_in L r done area cells slot place f
  unfolding found_in
  found-entry L f e is key size h =
      h ∙ sym (ap₂ (λ (m : ℕ) (j : Key). entry_in r done area cells slot m place j) size key) ∙ sym (ap (found_in L r done area cells slot place) is)

-- what the reader gives in the slot's segment
module _ (L : Layout) (r : Record) (done : Commit) (area cells : List ℕ) (slot offset : ℕ) {t : Read}
    (given : t ≡ answer L (entry_at L (segment_of area r.size slot) offset)) where
  pub entry-object :
      {k : Key} {v : Version} {kind n : ℕ} → t ≡ Read.Object k v kind n → {a : After} →
      a ≡ entry_in r done area cells slot n (slot * r.size + offset) k → a ≡ finish_entry L r done area cells slot offset
  unfolding finish_entry
  entry-object {k} {v} {kind} {n} e h =
      let w = tells-object L (entry_at L (segment_of area r.size slot) offset) k v kind n (sym given ∙ e) in
      found-entry r done area cells slot (slot * r.size + offset) L (entry_at L (segment_of area r.size slot) offset) w.told w.is w.its-key
      (pick-false (is_tombstone w.told) 0 (size_of L w.told) w.tombstone ∙ w.its-size) h

  -- an entry is no longer than its segment
  pub object-short : {k : Key} {v : Version} {kind n : ℕ} → t ≡ Read.Object k v kind n → r.size ≤ 2048 → n ≤ 2048
  object-short {k} {v} {kind} {n} e h =
      let w = tells-object L (entry_at L (segment_of area r.size slot) offset) k v kind n (sym given ∙ e) in
      omega (
        arith,
        w.its-size,
        found-fits L (segment_of area r.size slot) offset w.told w.is,
        length-take r.size (drop (slot * r.size) area),
      )

  pub entry-tombstone :
      {k : Key} {v : Version} {n : ℕ} → t ≡ Read.Tombstone k v n → {a : After} →
      a ≡ entry_in r done area cells slot 0 (slot * r.size + offset) k → a ≡ finish_entry L r done area cells slot offset
  unfolding finish_entry
  entry-tombstone {k} {v} {n} e h =
      let w = tells-tombstone L (entry_at L (segment_of area r.size slot) offset) k v n (sym given ∙ e) in
      found-entry r done area cells slot (slot * r.size + offset) L (entry_at L (segment_of area r.size slot) offset) w.told w.is w.its-key
      (pick_true (is_tombstone w.told) 0 (size_of L w.told) w.tombstone) h

  module _ {x : Stepped} (ex : x ≡ refused_step r Refusal.BadRecord) where
    refuses : (f : Found) → entry_at L (segment_of area r.size slot) offset ≡ f
        → found_in L r done area cells slot (slot * r.size + offset) f ≡ unfit r cells → record { stepped = x; cells = cells } ≡ finish_entry L r done area cells slot offset
    unfolding finish_entry
    refuses f is u =
        ap (λ (s : Stepped). record { stepped = s; cells = cells }) ex
        ∙ sym (ap (found_in L r done area cells slot (slot * r.size + offset)) is ∙ u)

    pub entry-end : t ≡ Read.End → record { stepped = x; cells = cells } ≡ finish_entry L r done area cells slot offset
    unfolding found_in
    entry-end e = refuses end (tells-end L (entry_at L (segment_of area r.size slot) offset) (sym given ∙ e)) refl

    pub entry-damage : t ≡ Read.Damage → record { stepped = x; cells = cells } ≡ finish_entry L r done area cells slot offset
    unfolding found_in
    entry-damage e = refuses damage (tells-damage L (entry_at L (segment_of area r.size slot) offset) (sym given ∙ e)) refl

-- ---- in the head, and in a new one

-- a place within a slot of an area fits 32 bits
pub place-fits : (slot S o : ℕ) → slot < 32 → S ≤ 2048 → o ≤ 2048 → slot * S + o < 4294967295
place-fits slot S o h l k =
    let a : slot ≤ 31 = omega arith in
    omega (arith, mul-le-mul a l)

-- a slot of the store lies in its area
pub segment-in : (slots S slot a : ℕ) → a ≡ slots * S → slot < slots → slot * S + S ≤ a
segment-in slots S slot a e h = omega (arith, mul-le-mul_right S h, suc-mul slot S)

module _ (r : Record) (area cells : List ℕ) (n : ℕ) where
  pub append-goes :
      {d : Commit} → d ≡ append_commit r n → {a : After} → a ≡ finish_entry d.edition r d area cells r.head r.end →
      a ≡ finish_append r.edition r area cells n
  unfolding finish_append
  append-goes ed e = e ∙ ap (λ (c : Commit). finish_entry c.edition r c area cells r.head r.end) ed

  pub head-goes :
      (slot : ℕ) {m : ℕ} → m ≡ with_bit r.map slot → {d : Commit} → d ≡ head_commit (new_layout r) r slot n m (next_after r) → {b : ℕ} →
      b ≡ digest_size d.edition → {a : After} → a ≡ finish_entry d.edition r d area cells slot b → a ≡ finish_head r area cells slot n
  unfolding finish_head
  head-goes slot {m} em {d} ed {b} eb e =
      e
      ∙ ap (finish_entry d.edition r d area cells slot) eb
      ∙ ap (λ (c : Commit). finish_entry c.edition r c area cells slot (digest_size c.edition))
      (ed ∙ ap (λ (j : ℕ). head_commit (new_layout r) r slot n j (next_after r)) em)

-- ---- a cleaning, and a delete that cleans

module _ (r : Record) (area cells : List ℕ) where
  pub rebuilt-goes :
      (slot victims : ℕ) (d : Commit) (version : ℕ) {b : Built} {cells' : List ℕ} →
      ◌≡◌ {A = Rebuilt} (record { answer = b; cells = cells' }) (rebuilt r area cells d.map) → {counts : List ℕ} →
      counts ≡ renewed_at r.size area slot victims r.counts → {x : Stepped} → x ≡ answered_with r d version counts b →
      record { stepped = x; cells = cells' } ≡ finish_rebuilt r area cells slot victims d version
  rebuilt-goes slot victims d version {b} {cells'} eb ec ex =
      ap (λ (s : Stepped). record { stepped = s; cells = cells' }) (ex ∙ ap (λ (l : List ℕ). answered_with r d version l b) ec)
      ∙ ap
      (λ (a : Rebuilt).
      record { stepped = answered_with r d version (renewed_at r.size area slot victims r.counts) a.answer; cells = a.cells }) eb

  module _ (slot victims n : ℕ) {w m : ℕ} (ew : w ≡ less r.map victims) (em : m ≡ with_bit w slot) where
    -- d is what the code makes of the record's head and counters
    new-commit : (next : Version) {d : Commit} → d ≡ head_commit (new_layout r) r slot n m next → d ≡ head_commit (new_layout r) r slot n (with_bit (less r.map victims) slot) next
    new-commit next ed = ed ∙ ap (λ (j : ℕ). head_commit (new_layout r) r slot n j next) (em ∙ ap (λ (j : ℕ). with_bit j slot) ew)

    pub clean-goes :
        {d : Commit} → d ≡ head_commit (new_layout r) r slot n m r.next → {a : After} → a ≡ finish_rebuilt r area cells slot victims d 0 →
        a ≡ finish_clean r area cells slot victims n
    unfolding finish_clean
    clean-goes ed e = e ∙ ap (λ (c : Commit). finish_rebuilt r area cells slot victims c 0) (new-commit r.next ed)

    pub forget_goes :
        {d : Commit} → d ≡ head_commit (new_layout r) r slot n m (next_after r) → {a : After} → a ≡ finish_rebuilt r area cells slot victims d r.next.0 →
        a ≡ finish_forget r area cells slot victims n
    unfolding finish_forget
    forget_goes ed e = e ∙ ap (λ (c : Commit). finish_rebuilt r area cells slot victims c r.next.0) (new-commit (next_after r) ed)

-- ---- after the store

-- the stores left, by the kind of the operation
pub left_is : {p q : Pending} → p ≡ q → 0 < stores_left p → 0 < stores_left q
left_is e h = subst (λ (x : Pending). 0 < stores_left x) e h

module _ {p : Pending} where
  pub less-idle : p ≡ Idle → Idle ≡ one_less p
  unfolding one_less
  less-idle e = rw e

  pub less-append : {n k : ℕ} → p ≡ Append n k → Append n (k - 1) ≡ one_less p
  unfolding one_less
  less-append e = rw e

  pub less-head : {i n k : ℕ} → p ≡ NewHead i n k → NewHead i n (k - 1) ≡ one_less p
  unfolding one_less
  less-head e = rw e

  pub less-clean : {i v n k : ℕ} → p ≡ Clean i v n k → Clean i v n (k - 1) ≡ one_less p
  unfolding one_less
  less-clean e = rw e

  pub less-forget : {i v n k : ℕ} → p ≡ Forget i v n k → Forget i v n (k - 1) ≡ one_less p
  unfolding one_less
  less-forget e = rw e

module _ (r : Record) where
  pub in-append : {n k : ℕ} → r.pending ≡ Append n k → PendingIn r r.pending → (r.head < r.slots) × (r.end + n ≤ r.size)
  unfolding PendingIn
  in-append e h = subst (PendingIn r) e h

  pub in_head : {i n k : ℕ} → r.pending ≡ NewHead i n k → PendingIn r r.pending → (i < r.slots) × (n ≤ r.size)
  unfolding PendingIn
  in_head e h = subst (PendingIn r) e h

  pub in_clean : {i v n k : ℕ} → r.pending ≡ Clean i v n k → PendingIn r r.pending → (i < r.slots) × (n ≤ r.size)
  unfolding PendingIn
  in_clean e h = subst (PendingIn r) e h

  pub in-forget : {i v n k : ℕ} → r.pending ≡ Forget i v n k → PendingIn r r.pending → (i < r.slots) × (n ≤ r.size)
  unfolding PendingIn
  in-forget e h = subst (PendingIn r) e h

module _ (L : Layout) (r : Record) (area cells : List ℕ) where
  pub with-idle :
      r.pending ≡ Idle → {x : Stepped} → x ≡ refused_step r Refusal.BadRecord →
      record { stepped = x; cells = cells } ≡ finish_with L r area cells r.pending
  unfolding finish_with
  with-idle e h = ap (λ (s : Stepped). record { stepped = s; cells = cells }) h ∙ sym (ap (finish_with L r area cells) e)

  pub with_append : {n k : ℕ} → r.pending ≡ Append n k → {a : After} → a ≡ finish_append L r area cells n → a ≡ finish_with L r area cells r.pending
  unfolding finish_with
  with_append e h = h ∙ sym (ap (finish_with L r area cells) e)

  pub with-head : {i n k : ℕ} → r.pending ≡ NewHead i n k → {a : After} → a ≡ finish_head r area cells i n → a ≡ finish_with L r area cells r.pending
  unfolding finish_with
  with-head e h = h ∙ sym (ap (finish_with L r area cells) e)

  pub with-clean : {i v n k : ℕ} → r.pending ≡ Clean i v n k → {a : After} → a ≡ finish_clean r area cells i v n → a ≡ finish_with L r area cells r.pending
  unfolding finish_with
  with-clean e h = h ∙ sym (ap (finish_with L r area cells) e)

  pub with-forget : {i v n k : ℕ} → r.pending ≡ Forget i v n k → {a : After} → a ≡ finish_forget r area cells i v n → a ≡ finish_with L r area cells r.pending
  unfolding finish_with
  with-forget e h = h ∙ sym (ap (finish_with L r area cells) e)

module _ (L : Layout) (r : Record) (area cells : List ℕ) where
  pub advance-left :
      {k : ℕ} → k ≡ stores_left r.pending → 1 < k → {q : Pending} → q ≡ one_less r.pending → {s : Record} → s ≡ with_pending r q →
      record { stepped = record { answer = Ok (Progress.Left (k - 1)); rec = s }; cells = cells } ≡ advanced L r area cells
  unfolding advanced
  advance-left {k} ek h {q} eq {s} es =
      ap (λ (t : Record). record { stepped = record { answer = Ok (Progress.Left (k - 1)); rec = t }; cells = cells }) (es ∙ ap (with_pending r) eq)
      ∙ ap (λ (j : ℕ). record { stepped = record { answer = Ok (Progress.Left (j - 1)); rec = with_pending r (one_less r.pending) }; cells = cells }) ek
      ∙ sym (pick_true (ltb 1 (stores_left r.pending)) _ _ (lt-ltb 1 (stores_left r.pending) (omega arith)))

  pub advance-last :
      {k : ℕ} → k ≡ stores_left r.pending → k ≤ 1 → {a : After} → a ≡ finish_with L r area cells r.pending → a ≡ advanced L r area cells
  unfolding advanced
  advance-last ek h e = e ∙ sym (pick-false (ltb 1 (stores_left r.pending)) _ _ (le-ltb 1 (stores_left r.pending) (omega arith)))
