-- Laws of: For a started operation the next store is the one of its plan whose turn it is.
use Prim.Native.Nat.{ℕ, zero, suc, ◌+◌, ◌*◌, ◌-◌, ◌≤◌, ◌<◌}
use Rattle.std.specs.Prelude.{◌≡◌, Bool, List, ◌∷◌, ◌++◌, ltb, get_or, take, Some}
use Rattle.std.proofs.Math.Path.{refl, ap}
use Rattle.std.proofs.Common.{sym, ◌∙◌, subst, length-append, get_or-take}
use Rattle.std.proofs.Math.Bool.{true, false}
use Rattle.std.proofs.Math.Option.{some}
use Rattle.std.proofs.Math.Decide.{ℕ_discrete}
use native.Mathlib.Omega.{arith}
use Rattle.std.proofs.Math.ListN.{length}
use borrow.Author.Tests.{ltb-true, ltb-false, leb-true, lt-ltb, le-ltb}
use Rattle.segment.specs.Choice.{pick}
use Rattle.segment.proofs.Choice.{pick_true, pick-false, both_left}
use Rattle.segment.specs.Layout.{Layout, entry_size, digest_size}
use Rattle.segment.specs.Entry.{Entry, encoded, size_of}
use Rattle.segment.proofs.EntryLaws.{length-encoded}
use Rattle.segment.specs.Digest.{encoded_digest}
use Rattle.segment.proofs.DigestLaws.{length-encoded_digest}
use Rattle.segment.specs.declared.Digest.{Digest}
use Rattle.segment.specs.declared.Key.{Key}
use Rattle.slot_map.proofs.NextLaws.{next-below}
use Rattle.record.specs.RangeLaws.{Lent, lent, lent-switched}
use Rattle.record.specs.Switch.{new_layout, unswitched}
use Rattle.record.specs.declared.Pending.TheVariants.{Append, NewHead, Clean, Forget}
use Rattle.record.specs.declared.Record.{Record}
use Rattle.model.specs.Log.{Placed}
use Rattle.model.specs.Operations.{Operation, write, delete, clean, Laid, laid, laid_head, laid_entry, laid_clean, laid_forget, laid_delete, log_now, no_room, new_slot, new_digest, fits_head, kept, all_encoded, forget_victim, forget_kept, forget_digest, written_entry, tombstone_entry, plan_of, plan_for, commit}
use Rattle.model.specs.Promises.{Started}
use Rattle.laws.specs.Stores.{slot-inside, length-stored, commit-byte, commit-end, commit-last}
use Rattle.laws.specs.Operated.{Accepted, OperationLaws}
use Rattle.starting.specs.Stores.{commit_stores, stores-within, stores-full, commit-stores}
use Rattle.telling.specs.Next.{commit_store, slot_store, slot_next, pending_next, next_store}
use Rattle.telling.specs.NextLaws.{Fit}
use Rattle.telling.proofs.NextLaws.{slot-fits, store-last, store_byte, store-end, next-at}
use Rattle.telling.specs.PlanLaws.{NextOf, at_of}

-- ---- a commit

module _ (S i o : ℕ) (bytes : List ℕ) (some_byte : 0 < length bytes) where
  total-stores : length (commit S i o bytes) ≡ commit_stores S o (length bytes)
  total-stores = commit-stores S i o (length bytes) bytes refl some_byte

  module _ (work : List ℕ) (front : take (length bytes) work ≡ bytes) where
    same_byte : (k : ℕ) → k < length bytes → get_or work k 0 ≡ get_or bytes k 0
    same_byte k h = sym (get_or-take (length bytes) work k 0 h) ∙ ap (λ (b : List ℕ). get_or b k 0) front

    pub commit-store : (j : ℕ) → j < length (commit S i o bytes)
        → commit_store (i * S) S o (length bytes) work j ≡ at_of (get_or (commit S i o bytes) j (0, 0))
    commit-store j h = go (ℕ_discrete (j + 1) (commit_stores S o (length bytes))) (ltb (j + 1) (length bytes)) refl
      where
        go : Dec (j + 1 ≡ commit_stores S o (length bytes)) → (t : Bool) → ltb (j + 1) (length bytes) ≡ t
            → commit_store (i * S) S o (length bytes) work j ≡ at_of (get_or (commit S i o bytes) j (0, 0))
        go (yes e) t q =
            sym (store-last (i * S) S o (length bytes) work j refl e)
            ∙ ap ((λ z0. Some (record { place = (i * S + o); byte = z0 }))) (same_byte 0 some_byte)
            ∙ ap at_of (sym (commit-last S i o bytes some_byte j (e ∙ sym total-stores)))
        go (no n) true q =
            let l = ltb-true (j + 1) (length bytes) q in
            let place : i * S + o + (j + 1) ≡ i * S + o + 1 + j = omega arith in
            sym (store_byte (i * S) S o (length bytes) work j refl n l)
            ∙ ap ((λ z0. Some (record { place = (i * S + o + (j + 1)); byte = z0 }))) (same_byte (j + 1) l)
            ∙ ap (λ (p : ℕ). Some (record { place = p; byte = (get_or bytes (j + 1) 0) })) place
            ∙ ap at_of (sym (commit-byte S i o bytes some_byte j l))
        go (no n) false q = ended (ltb (o + length bytes) S) refl
          where
            past : length bytes ≤ j + 1
            past = ltb-false (j + 1) (length bytes) q

            ended : (t : Bool) → ltb (o + length bytes) S ≡ t
                → commit_store (i * S) S o (length bytes) work j ≡ at_of (get_or (commit S i o bytes) j (0, 0))
            ended true w =
                let l = ltb-true (o + length bytes) S w in
                sym (store-end (i * S) S o (length bytes) work j refl n past)
                ∙ ap at_of (sym (commit-end S i o bytes some_byte j l (omega (arith, past, stores-within S o (length bytes) l, total-stores))))
            ended false w =
                absurd (n (omega (arith, past, stores-full S o (length bytes) (ltb-false (o + length bytes) S w), total-stores)))

module _ (a : ℕ) (work : List ℕ) (r : Record) (n : ℕ) (bytes : List ℕ) (long : n ≡ length bytes) (front : take (length bytes) work ≡ bytes) (since : ℕ) where
  -- the slot's store after the stores done
  turn : (S i o first : ℕ) → Fit a (length work) S i o n → since < length (commit S i o bytes) + first
      → slot_next a work S i o n first (length (commit S i o bytes) + first - since) ≡ slot_store (i * S) S o n work first since
  turn S i o first f h =
      let total : length (commit S i o bytes) ≡ commit_stores S o n = commit-stores S i o n bytes (sym long) f.some in
      let back : commit_stores S o n + first - (length (commit S i o bytes) + first - since) ≡ since = omega arith in
      next-at a work S i o n first (length (commit S i o bytes) + first - since) (slot-fits a (length work) S i o n f) (omega arith) (omega arith)
      ∙ ap (slot_store (i * S) S o n work first) back

  commit-turn : (S i o first j : ℕ) → 0 < length bytes → since ≡ j + first → j < length (commit S i o bytes)
      → slot_store (i * S) S o n work first since ≡ at_of (get_or (commit S i o bytes) j (0, 0))
  unfolding slot_store
  commit-turn S i o first j some_byte e h =
      let back : since - first ≡ j = omega arith in
      pick-false _ _ _ (le-ltb since first (omega arith))
      ∙ ap (commit_store (i * S) S o n work) back
      ∙ ap (λ (m : ℕ). commit_store (i * S) S o m work j) long
      ∙ commit-store S i o bytes some_byte work front j h

  pub append-next :
      Fit a (length work) r.size r.head r.end n → since < length (commit r.size r.head r.end bytes) →
      NextOf a work r (record { pending = λ k. Append n k; bytes = bytes }) since
  unfolding plan_of pending_next
  append-next f h =
      let whole : length (commit r.size r.head r.end bytes) - since ≡ length (commit r.size r.head r.end bytes) + 0 - since = omega arith in
      ap (slot_next a work r.size r.head r.end n 0) whole
      ∙ turn r.size r.head r.end 0 f (omega arith)
      ∙ commit-turn r.size r.head r.end 0 since (omega arith) (omega arith) h

  head-turn : (S i : ℕ) → Fit a (length work) S i 0 n → (m : ℕ) → m ≡ since → m < suc (length (commit S i 0 bytes))
      → slot_next a work S i 0 n 1 (suc (length (commit S i 0 bytes)) - since) ≡ at_of (get_or ((i * S, 0) ∷ commit S i 0 bytes) m (0, 0))
  unfolding slot_store
  head-turn S i f m e h =
      let whole : suc (length (commit S i 0 bytes)) - since ≡ length (commit S i 0 bytes) + 1 - since = omega arith in
      ap (slot_next a work S i 0 n 1) whole ∙ turn S i 0 1 f (omega arith) ∙ go m e h
    where
      go : (m : ℕ) → m ≡ since → m < suc (length (commit S i 0 bytes))
          → slot_store (i * S) S 0 n work 1 since ≡ at_of (get_or ((i * S, 0) ∷ commit S i 0 bytes) m (0, 0))
      go zero e h = pick_true _ _ _ (lt-ltb since 1 (omega arith))
      go (suc j) e h = commit-turn S i 0 1 j (omega arith) (omega arith) (omega arith)

  pub head-next :
      (i : ℕ) → Fit a (length work) r.size i 0 n → since < suc (length (commit r.size i 0 bytes)) →
      NextOf a work r (record { pending = λ k. NewHead i n k; bytes = bytes }) since
  unfolding plan_of pending_next
  head-next i f h = head-turn r.size i f since refl h

  pub clean-next :
      (i v : ℕ) → Fit a (length work) r.size i 0 n → since < suc (length (commit r.size i 0 bytes)) →
      NextOf a work r (record { pending = λ k. Clean i v n k; bytes = bytes }) since
  unfolding plan_of pending_next
  clean-next i v f h = head-turn r.size i f since refl h

  pub forget-next :
      (i v : ℕ) → Fit a (length work) r.size i 0 n → since < suc (length (commit r.size i 0 bytes)) →
      NextOf a work r (record { pending = λ k. Forget i v n k; bytes = bytes }) since
  unfolding plan_of pending_next
  forget-next i v f h = head-turn r.size i f since refl h

-- ---- a started operation

module _ (L : Layout) (laws : OperationLaws L) (area : List ℕ) (r : Record) (work : List ℕ) (s : Started L area r work) where
  abbrev log : List Placed
  log = log_now s.before s.idle

  pub accepted : Accepted L s.before s.idle s.operation
  accepted =
      record {
        lengths = s.lengths;
        area-bytes = s.area-bytes;
        typed = s.typed;
        recovers = s.recovers;
        no-cause = s.accepted;
      }

  pub idle-lent : Lent L s.idle (length s.before) s.idle.cells
  idle-lent =
      lent-switched s.idle
      (lent L (unswitched s.idle) (length s.before) s.idle.cells
      (laws.own-lengths s.idle.slots s.idle.size s.idle.cells s.before (unswitched s.idle) s.area-bytes s.recovers))

  pub same_length : length area ≡ length s.before
  same_length = ap length s.area-now ∙ length-stored s.before (take s.since (plan_for L s.idle log s.operation))

  pub new-slot-below : new_slot s.idle < s.idle.slots
  new-slot-below = next-below s.idle.slots s.idle.map s.idle.head idle-lent.head-below idle-lent.some-free

  segment-inside : (i : ℕ) → i < s.idle.slots → i * s.idle.size + s.idle.size ≤ length area
  segment-inside i h = slot-inside area s.idle.slots s.idle.size i (same_length ∙ idle-lent.area-own) h

  module _ (long : s.idle.size ≤ length work) where
    -- the bytes laid down, whatever they are
    abbrev Told : Laid → Type 0
    Told l =
        length l.bytes ≤ s.idle.size → take (length l.bytes) work ≡ l.bytes → s.since < length (plan_of s.idle (l.pending 0) l.bytes) →
        NextOf (length area) work s.idle l s.since

    entry-told : (e : Entry) → Told (laid_entry L s.idle e)
    unfolding plan_of
    entry-told e = go (fits_head L s.idle e) refl
      where
        appends : fits_head L s.idle e ≡ true → Told (record { pending = λ k. Append (size_of L e) k; bytes = encoded L e })
        appends t f w h =
            append-next (length area) work s.idle (size_of L e) (encoded L e) (sym (length-encoded L e)) w s.since
            (record {
              some = omega arith;
              read = omega (arith, length-encoded L e);
              room = leb-true (s.idle.end + size_of L e) s.idle.size (both_left _ _ t);
              inside = segment-inside s.idle.head idle-lent.head-below;
            })
            h

        heads : (W : Layout) → Told (laid_head W s.idle e)
        heads W f w h =
            let total : digest_size W + size_of W e ≡ length (encoded_digest W (new_digest s.idle 0) ++ encoded W e) =
            omega (arith, length-append (encoded_digest W (new_digest s.idle 0)) (encoded W e), length-encoded_digest W (new_digest s.idle 0), length-encoded W e) in
            head-next (length area) work s.idle (digest_size W + size_of W e) (encoded_digest W (new_digest s.idle 0) ++ encoded W e) total w s.since
            (new_slot s.idle)
            (record {
              some = omega arith;
              read = omega arith;
              room = omega arith;
              inside = segment-inside (new_slot s.idle) new-slot-below;
            })
            h

        go : (t : Bool) → fits_head L s.idle e ≡ t → Told (laid_entry L s.idle e)
        go true t = subst Told (sym (pick_true (fits_head L s.idle e) _ _ t)) (appends t)
        go false t = subst Told (sym (pick-false (fits_head L s.idle e) _ _ t)) (heads (new_layout s.idle))

    -- a digest and entries behind it, for a new head of any edition
    total_head : (W : Layout) (d : Digest) (es : List Entry) → digest_size W + length (all_encoded W es) ≡ length (encoded_digest W d ++ all_encoded W es)
    total_head W d es = omega (arith, length-append (encoded_digest W d) (all_encoded W es), length-encoded_digest W d)

    head-fit : (n : ℕ) → 0 < n → n ≤ s.idle.size → Fit (length area) (length work) s.idle.size (new_slot s.idle) 0 n
    head-fit n some_byte f =
        record {
          some = omega arith;
          read = omega arith;
          room = omega arith;
          inside = segment-inside (new_slot s.idle) new-slot-below;
        }

    clean-told : (W : Layout) (v : ℕ) → Told (laid_clean W s.idle log v)
    unfolding plan_of
    clean-told W v f w h =
        let total = total_head W (new_digest s.idle v) (kept v log) in
        clean-next (length area) work s.idle (digest_size W + length (all_encoded W (kept v log)))
        (encoded_digest W (new_digest s.idle v) ++ all_encoded W (kept v log)) total w s.since (new_slot s.idle) v
        (head-fit (digest_size W + length (all_encoded W (kept v log))) (omega arith) (omega arith)) h

    forget-told : (W : Layout) (k : Key) → Told (laid_forget W s.idle log k)
    unfolding plan_of
    forget-told W k f w h =
        let total = total_head W (forget_digest s.idle log k) (forget_kept s.idle log k) in
        forget-next (length area) work s.idle (digest_size W + length (all_encoded W (forget_kept s.idle log k)))
        (encoded_digest W (forget_digest s.idle log k) ++ all_encoded W (forget_kept s.idle log k)) total w s.since (new_slot s.idle)
        (forget_victim log k) (head-fit (digest_size W + length (all_encoded W (forget_kept s.idle log k))) (omega arith) (omega arith)) h

    delete-told : (k : Key) → Told (laid_delete L s.idle log k)
    unfolding pick
    delete-told k = go (no_room L s.idle (entry_size L 0))
      where
        go : (t : Bool) → Told (pick t (laid_forget (new_layout s.idle) s.idle log k) (laid_entry L s.idle (tombstone_entry s.idle k)))
        go true = forget-told (new_layout s.idle) k
        go false = entry-told (tombstone_entry s.idle k)

    told : (o : Operation) → Told (laid L s.idle log o)
    unfolding laid
    told (write k v) = entry-told (written_entry s.idle k v)
    told (delete k) = delete-told k
    told (clean v) = clean-told (new_layout s.idle) v

    -- the store of the plan whose turn it is
    pub next-started : next_store (length area) work r ≡ at_of (get_or (plan_for L s.idle log s.operation) s.since (0, 0))
    next-started =
        ap (next_store (length area) work) s.record-now
        ∙ told s.operation (laws.bytes_fit s.before s.idle s.operation accepted) s.work-now s.some_left
