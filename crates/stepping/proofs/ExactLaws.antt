-- Laws of: The last step of an operation that was started on a recovered store gives 01's own record, version, and an index that keeps its
use Prim.Native.Nat.{ℕ, ◌+◌, ◌*◌, ◌-◌, ◌^◌, ◌<◌}
use Rattle.std.specs.Prelude.{◌≡◌, set, Ok, Some}
use Rattle.std.proofs.Math.Path.{refl, ap, subst}
use Rattle.std.proofs.Common.{sym, ◌∙◌, arith, leb-true}
use Rattle.std.proofs.Math.Bool.{Bool, true, false}
use mathlib.Core.List.{List, ◌∷◌, ◌++◌}
use Rattle.std.proofs.Math.Option.{some}
use Rattle.std.proofs.Math.Nat.{sub-zero}
use Rattle.std.proofs.Math.ListN.{length}
use Rattle.word.specs.Number.{Bytes}
use Rattle.segment.specs.Choice.{pick}
use Rattle.segment.proofs.Choice.{both_left}
use Rattle.segment.specs.Layout.{Layout, entry_size, digest_size}
use Rattle.segment.specs.Entry.{Entry, encoded, size_of}
use Rattle.segment.specs.Digest.{encoded_digest}
use Rattle.segment.specs.declared.Key.{Key}
use Rattle.segment.specs.declared.Version.{Version}
use Rattle.slot_map.specs.Bit.{with_bit, within}
use Rattle.slot_map.proofs.BitLaws.{with-clear}
use Rattle.slot_map.proofs.CountLaws.{with-less}
use Rattle.slot_map.proofs.NextLaws.{next-clear}
use Rattle.record.specs.Answers.{with_pending}
use Rattle.record.specs.Committed.{committed}
use Rattle.record.specs.declared.Commit.{Commit}
use Rattle.record.specs.RangeLaws.{Lent}
use Rattle.record.specs.Switch.{new_layout, unswitched}
use Rattle.record.specs.declared.Pending.{Pending}
use Rattle.record.specs.declared.Pending.TheVariants.{Append, NewHead}
use Rattle.record.specs.Answered.{StepAnswer}
use Rattle.record.specs.declared.Progress.{Progress}
use Rattle.record.specs.declared.Record.{Record}
use Rattle.model.specs.Log.{Placed, segment_of, keys_of}
use Rattle.model.specs.Counts.{object_bytes, without_victims}
use Rattle.model.specs.Index.{IndexRule}
use Rattle.model.specs.Operations.{Operation, write, delete, clean, Laid, laid, laid_append, laid_head, laid_entry, laid_forget, laid_delete, log_now, no_room, new_slot, new_digest, next_after, fits_head, all_encoded, written_entry, tombstone_entry, plan_of, commit, stored, append_commit, head_commit, appended_record, headed_record, entry_record, renewed_record, forgotten_record, deleted_record, finished_record, told_version}
use Rattle.model.specs.Recovery.{recovered}
use Rattle.laws.specs.RecoverLaws.{recovered-apart, recovered-keys, recovered-holds, recovered-above}
use Rattle.laws.specs.Operated.{Accepted, plan_at}
use Rattle.laws.specs.Entering.{Entering, idle-lent, write-enters, delete-enters}
use Rattle.laws.specs.Cleanings.{clean-cleans, forget-cleans}
use Rattle.laws.specs.EntryDone.{appended-added, headed-added}
use Rattle.laws.specs.OperationsKept.{edition-roomy, finishes, clean-scan, clean-layout}
use Rattle.index.specs.InsertLaws.{Indexed}
use Rattle.counting.specs.Counting.{renewed_at, own_bytes}
use Rattle.counting.specs.CountingLaws.{segment-new}
use Rattle.index.specs.Build.{Built, built}
use Rattle.index.specs.BuildLaws.{Holds}
use Rattle.stepping.specs.Finish.{answered_with, finish_append, finish_head, clean_map, ascending, rebuilt, finish_rebuilt, finish_clean, finish_forget, finish_with}
use Rattle.stepping.proofs.EntryLaws.{entry-finished, recovered-found, told-known}
use Rattle.stepping.proofs.CleanLaws.{ascending-good, recovered-built}
use Rattle.stepping.specs.ExactLaws.{Ends}

-- a record with the number of keys that it has
pub keys-own : (r : Record) (done : Commit) (fin : Record) (k : ℕ) → fin.keys ≡ k → committed r done fin.keys fin.counts ≡ fin
    → committed r done k fin.counts ≡ fin
keys-own r done fin k e f = ap (λ (n : ℕ). committed r done n fin.counts) (sym e) ∙ f

module _ (L : Layout) (before cells : List ℕ) (idle : Record) (recovers : recovered L idle.slots idle.size idle.cells before ≡ some (unswitched idle))
    (bytes : Bytes before) (facts : Lent L idle (length before) idle.cells) (long : length cells ≡ idle.cells)
    (rule : IndexRule idle.size (log_now before idle) cells)
  where
    indexed : Indexed idle.size idle.cells (log_now before idle) cells idle.keys
    indexed =
        record {
          rule = rule;
          keys = recovered-keys L idle.slots idle.size idle.cells before (unswitched idle) recovers;
          few = omega (arith, facts.keys-high, facts.cells_low);
          long = long;
        }

    -- an area from which a record is recovered, in the edition of its head, the switch aside
    abbrev Recovers : List ℕ → Record → Type 0
    Recovers after fin = recovered fin.edition idle.slots idle.size idle.cells after ≡ some (unswitched fin)

    -- ---- an entry

    module _ (e : Entry) (f : Entering L before idle e) (k : ℕ) where
      -- what is laid down, and the record in the end
      abbrev EntryEnds : Laid → Record → Type 0
      EntryEnds l fin =
          Recovers (stored before (plan_of idle (l.pending 0) l.bytes)) fin →
          Ends (stored before (plan_of idle (l.pending 0) l.bytes)) fin idle.next.0
          (finish_with L (with_pending idle (l.pending k)) (stored before (plan_of idle (l.pending 0) l.bytes)) cells (l.pending k))

      few-keys : (after : List ℕ) (fin : Record) → Recovers after fin → fin.keys < idle.cells
      few-keys after fin q =
          omega (arith, recovered-holds fin.edition idle.slots idle.size idle.cells after (unswitched fin) q)

      append-ends : fits_head L idle e ≡ true → EntryEnds (laid_append L e) (appended_record L idle (log_now before idle) e)
      unfolding plan_of finish_with finish_append
      append-ends t q =
          let r : Record = with_pending idle (Append (size_of L e) k) in
          let after : List ℕ = stored before (commit idle.size idle.head idle.end (encoded L e)) in
          let fin : Record = appended_record L idle (log_now before idle) e in
          let x : Placed = record { slot = idle.head; layout = L; offset = idle.end; entry = e } in
          let keys = recovered-keys fin.edition idle.slots idle.size idle.cells after (unswitched fin) q in
          let few = few-keys after fin q in
          let done : Commit = append_commit r (size_of L e) in
          let w = entry-finished r done (log_now before idle) (log_now after fin) after cells x
          (appended-added L before idle e recovers bytes f (f.formed t) (leb-true (idle.end + size_of L e) idle.size (both_left _ _ t)))
          (recovered-apart fin.edition idle.slots idle.size idle.cells after (unswitched fin) q)
          (recovered-found fin.edition idle.slots idle.size idle.cells after (unswitched fin) q) f.takes.version indexed (omega arith) facts.cells-high
          (λ y i. omega (arith, recovered-above L idle.slots idle.size idle.cells before (unswitched idle) recovers y i, f.takes.version)) in
          record {
            answers =
                w.answers ∙ ap (λ (s : Record). record { answer = Ok (Progress.Done (record { 0 = idle.next.0 })); rec = s })
                (keys-own r done fin (length (keys_of (log_now after fin))) keys refl);
            rule = w.rule;
          }

      -- the record of a new head, whose slot was free
      slot-clear : (m : ℕ) → m ≡ with_bit idle.map (new_slot idle) → m ≡ (new_digest idle 0).map
      slot-clear m q =
          q ∙ with-clear idle.map (new_slot idle) (next-clear idle.slots idle.map idle.head facts.head-below facts.some-free)
          ∙ ap (λ (j : ℕ). j + 2 ^ new_slot idle) (sym (sub-zero idle.map))

      head-ends : fits_head L idle e ≡ false → EntryEnds (laid_head (new_layout idle) idle e) (headed_record (new_layout idle) idle (log_now before idle) e)
      unfolding plan_of finish_with finish_head
      head-ends t q =
          let W : Layout = new_layout idle in
          let r : Record = with_pending idle (NewHead (new_slot idle) (digest_size W + size_of W e) k) in
          let after : List ℕ =
          stored before
          ((new_slot idle * idle.size, 0) ∷ commit idle.size (new_slot idle) 0 (encoded_digest W (new_digest idle 0) ++ encoded W e)) in
          let fin : Record = headed_record W idle (log_now before idle) e in
          let x : Placed = record { slot = new_slot idle; layout = W; offset = digest_size W; entry = e } in
          let done : ℕ → Commit = λ m. head_commit W r (new_slot idle) (digest_size W + size_of W e) m (record { 0 = idle.next.0 + 1 }) in
          let keys = recovered-keys W idle.slots idle.size idle.cells after (unswitched fin) q in
          let few = few-keys after fin q in
          let w = entry-finished r (done (with_bit idle.map (new_slot idle))) (log_now before idle) (log_now after fin) after cells x
          (headed-added L before idle e recovers bytes f (edition-roomy W) t)
          (recovered-apart W idle.slots idle.size idle.cells after (unswitched fin) q)
          (recovered-found W idle.slots idle.size idle.cells after (unswitched fin) q) f.takes.version indexed (omega arith) facts.cells-high
          (λ y i. omega (arith, recovered-above L idle.slots idle.size idle.cells before (unswitched idle) recovers y i, f.takes.version)) in
          record {
            answers =
                w.answers ∙ ap (λ (s : Record). record { answer = Ok (Progress.Done (record { 0 = idle.next.0 })); rec = s })
                (keys-own r (done (with_bit idle.map (new_slot idle))) fin (length (keys_of (log_now after fin))) keys
                (ap (λ (m : ℕ). committed r (done m) fin.keys fin.counts) (slot-clear (with_bit idle.map (new_slot idle)) refl)));
            rule = w.rule;
          }

      pub entry-ends : EntryEnds (laid_entry L idle e) (entry_record L idle (log_now before idle) e)
      unfolding pick
      entry-ends = go (fits_head L idle e) refl
        where
          go : (t : Bool) → fits_head L idle e ≡ t
              → EntryEnds (pick t (laid_append L e) (laid_head (new_layout idle) idle e))
              (pick t (appended_record L idle (log_now before idle) e) (headed_record (new_layout idle) idle (log_now before idle) e))
          go true p = append-ends p
          go false p = head-ends p

    -- ---- a cleaning, also one that deletes

    -- W is the edition of the new head, p the pending operation, es is what is kept, and `version` what the last step tells
    module _ (W : Layout) (victims : ℕ) (sub : within victims idle.map ≡ true) (p : Pending) (next : Version) (version : ℕ) (es : List Entry) (after : List ℕ) where
      abbrev r : Record
      r = with_pending idle p

      abbrev fin : Record
      fin = renewed_record W before idle victims es next

      abbrev done : ℕ → Commit
      done m = head_commit W r (new_slot idle) (digest_size W + length (all_encoded W es)) m next

      clean-map : clean_map r (new_slot idle) victims ≡ (new_digest idle victims).map
      clean-map =
          with-less idle.map victims (new_slot idle) sub
          (next-clear idle.slots idle.map idle.head facts.head-below facts.some-free)

      pub rebuilt-ends :
          Recovers after fin →
          own_bytes (segment_of after idle.size (new_slot idle)) ≡ object_bytes W es →
          Ends after fin version (finish_rebuilt r after cells (new_slot idle) victims (done (clean_map r (new_slot idle) victims)) version)
      unfolding renewed_at
      rebuilt-ends q held =
          subst (λ (m : ℕ). Ends after fin version (finish_rebuilt r after cells (new_slot idle) victims (done m) version)) (sym clean-map)
          (record {
            answers =
                ap (answered_with r (done (new_digest idle victims).map) version (renewed_at idle.size after (new_slot idle) victims idle.counts)) holds.answers
                ∙ ap (λ (n : ℕ). answered_with r (done (new_digest idle victims).map) version (set (without_victims victims 0 idle.counts) (new_slot idle) n) (Some (length (keys_of (log_now after fin))))) held
                ∙ told-known r (done (new_digest idle victims).map) version (length (keys_of (log_now after fin))) fin.counts (omega (arith, few, keys))
                ∙ ap (λ (s : Record). record { answer = Ok (Progress.Done (record { 0 = version })); rec = s })
                (keys-own r (done (new_digest idle victims).map) fin (length (keys_of (log_now after fin))) keys refl);
            rule = holds.rule;
          })
        where
          keys : fin.keys ≡ length (keys_of (log_now after fin))
          keys = recovered-keys W idle.slots idle.size idle.cells after (unswitched fin) q

          few : fin.keys < idle.cells
          few = omega (arith, recovered-holds W idle.slots idle.size idle.cells after (unswitched fin) q)

          holds : Holds idle.size (length cells) (log_now after fin) (rebuilt r after cells (new_digest idle victims).map)
          holds =
              subst
              (λ (m : ℕ).
              Holds idle.size m (log_now after fin) (built after idle.size (new_digest idle victims).map (ascending idle.slots) m))
              (sym long)
              (recovered-built W idle.slots idle.size idle.cells after (ascending idle.slots) (unswitched fin) q
              (ascending-good idle.slots facts.slots-high) (omega (arith, facts.cells_low)))

-- ---- whichever operation it is

module _ (L : Layout) (before cells : List ℕ) (idle : Record) where
  -- what the last step gives where this is laid down, and the record in the end
  abbrev LaidEnds : Laid → Record → ℕ → ℕ → Type 0
  LaidEnds l fin version k =
      Ends (stored before (plan_of idle (l.pending 0) l.bytes)) fin version
      (finish_with L (with_pending idle (l.pending k)) (stored before (plan_of idle (l.pending 0) l.bytes)) cells (l.pending k))

  delete-ends :
      (key : Key) (a : Accepted L before idle (delete key)) → length cells ≡ idle.cells → IndexRule idle.size (log_now before idle) cells → (k : ℕ) →
      LaidEnds (laid_delete L idle (log_now before idle) key) (deleted_record L before idle key) idle.next.0 k
  unfolding pick laid finished_record finish_with finish_forget plan_of
  delete-ends key a long rule k = go (no_room L idle (entry_size L 0)) refl (finishes L edition-roomy before idle (delete key) a).0
    where
      way : Bool → Laid
      way t = pick t (laid_forget (new_layout idle) idle (log_now before idle) key) (laid_entry L idle (tombstone_entry idle key))

      end : Bool → Record
      end t = pick t (forgotten_record (new_layout idle) before idle key) (entry_record L idle (log_now before idle) (tombstone_entry idle key))

      go : (t : Bool) → no_room L idle (entry_size L 0) ≡ t →
          recovered (end t).edition idle.slots idle.size idle.cells (stored before (plan_of idle ((way t).pending 0) (way t).bytes)) ≡ some (unswitched (end t)) →
          LaidEnds (way t) (end t) idle.next.0 k
      go true full q =
          let c = forget-cleans L before idle key a full in
          rebuilt-ends L before cells idle a.recovers a.area-bytes (idle-lent L before idle (delete key) a) long rule (new_layout idle) _ c.sub _
          (next_after idle) idle.next.0 _ _ q
          (segment-new (new_layout idle) _ _ _ (clean-layout L (new_layout idle) before idle _ _ _ c) (clean-scan L (new_layout idle) before idle _ _ _ c))
      go false room q =
          entry-ends L before cells idle a.recovers a.area-bytes (idle-lent L before idle (delete key) a) long rule
          (tombstone_entry idle key) (delete-enters L before idle key a room) k q

  pub operation-ends :
      (o : Operation) (a : Accepted L before idle o) → length cells ≡ idle.cells → IndexRule idle.size (log_now before idle) cells → (k : ℕ) →
      Ends (stored before (plan_at L before idle o)) (finished_record L before idle o) (told_version idle o)
      (finish_with L (with_pending idle ((laid L idle (log_now before idle) o).pending k)) (stored before (plan_at L before idle o)) cells
      ((laid L idle (log_now before idle) o).pending k))
  unfolding laid finished_record told_version finish_with finish_clean plan_of
  operation-ends (write key value) a long rule k =
      entry-ends L before cells idle a.recovers a.area-bytes (idle-lent L before idle (write key value) a) long rule
      (written_entry idle key value) (write-enters L before idle key value a) k (finishes L edition-roomy before idle (write key value) a).0
  operation-ends (delete key) a long rule k = delete-ends key a long rule k
  operation-ends (clean victims) a long rule k =
      let c = clean-cleans L before idle victims a in
      rebuilt-ends L before cells idle a.recovers a.area-bytes (idle-lent L before idle (clean victims) a) long rule (new_layout idle) victims
      c.sub _ idle.next 0 _ _ (finishes L edition-roomy before idle (clean victims) a).0
      (segment-new (new_layout idle) _ _ _ (clean-layout L (new_layout idle) before idle _ _ _ c) (clean-scan L (new_layout idle) before idle _ _ _ c))
