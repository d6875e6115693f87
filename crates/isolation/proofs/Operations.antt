-- Two operations that differ in hidden values alone, on two stores that do: they are refused by the same cause, have as many stores
-- and the same pending operation, and leave stores that are alike, with one record.
use Prim.Native.Nat.{ℕ, suc, ◌+◌, ◌-◌, ◌*◌, ◌^◌, ◌≤◌, ◌<◌}
use native.Mathlib.Omega.{arith}
use mathlib.Core.Path.{◌≡◌, refl, sym, ap, ◌∙◌, subst}
use mathlib.Core.Bool.{Bool, true, false}
use mathlib.Core.List.{List, [], ◌∷◌, ◌++◌}
use mathlib.Core.Option.{Option, none, some}
use lib.Dec.{ltb}
use lib.ListN.{length, get_or, take, drop, length-append, length-drop}
use borrow.Author.Tests.{leb-true}
use Rattle.segment.specs.Choice.{pick, is_none}
use Rattle.segment.proofs.Choice.{both_left}
use Rattle.segment.specs.Layout.{Layout, entry_size, digest_size, table}
use Rattle.segment.specs.Entry.{Entry, WellFormed, bytes_in, kind_of, encoded, size_of}
use Rattle.segment.proofs.EntryLaws.{length-encoded, formed-known}
use Rattle.segment.specs.Digest.{encoded_digest}
use Rattle.segment.specs.declared.Key.{Key}
use Rattle.segment.specs.declared.Version.{Version}
use Rattle.record.specs.Switch.{new_layout, with_switch, unswitched}
use Rattle.record.specs.declared.Pending.{Pending}
use Rattle.record.specs.declared.Pending.TheVariants.{Idle, Append, NewHead, Clean, Forget}
use Rattle.record.specs.declared.Record.{Record}
use Rattle.model.specs.Log.{Placed, present}
use Rattle.model.specs.Recovery.{recovered, record_from}
use Rattle.model.specs.Operations.{Operation, write, delete, clean, log_now, written_entry, tombstone_entry, fits_with, fits_head, no_room, new_slot, digest_with, new_digest, next_after, kept, all_encoded, forgotten_log, forget_victim, forget_kept, forget_digest, Laid, laid_append, laid_head, laid_entry, laid_forget, laid_delete, laid_clean, laid, stores_from, commit, plan_of, stores_for, stored, appended_record, headed_record, entry_record, forgotten_record, deleted_record, finished_record}
use Rattle.model.specs.Refused.{Lengths, Terms, version_in, KeyFacts, key_facts, kept_length, forget_length, write_causes, delete_causes, clean_causes, start_causes}
use Rattle.laws.specs.Stores.{length-stores_from}
use Rattle.laws.specs.Scans.{encoded-one}
use Rattle.laws.specs.NewHeadBytes.{head_plan, length-head_bytes, formed-one}
use Rattle.laws.specs.Operated.{Accepted, plan_at}
use Rattle.laws.specs.Entering.{Entering, idle-lent, idle-up, write-enters, delete-enters}
use Rattle.laws.specs.Headed.{none_within}
use Rattle.laws.specs.Cleanings.{Cleaning, clean-cleans, forget-cleans}
use Rattle.laws.specs.Planned.{new-next-fits}
use Rattle.laws.specs.RecoverLaws.{recovered-image}
use Rattle.laws.specs.OperationsKept.{edition-roomy, edition-laws}
use Rattle.history.proofs.Finished.{finished-switch}
use Rattle.history.proofs.Invariant.{recovered-is}
use Rattle.isolation.proofs.HiddenBytes.{zeroed, hidden_value, hidden, hidden_log, hidden_one, pick-ap, zeroed-length, size-hidden, present-hidden, has-hidden, kept-hidden, forgotten-hidden, victim-hidden, forget-kept-hidden, encoded-hidden}
use Rattle.isolation.proofs.Alike.{Alike, records-same, layouts_same, logs-same}
use Rattle.isolation.proofs.Twin.{Twin, appends, heads, twin-cut, twin-done}

-- an operation, the value that it writes hidden if its table is one of those
unfoldable pub hidden_operation : (ℕ → Bool) → Operation → Operation
hidden_operation of (write k v) = write k (zeroed (of k.table) v)
hidden_operation of (delete k) = delete k
hidden_operation of (clean victims) = clean victims

-- ---- causes

one_none : (of : ℕ → Bool) (o : Option Placed) → is_none (hidden_one of o) ≡ is_none o
unfolding hidden_one is_none
one_none of none = refl
one_none of (some x) = refl

one-version : (of : ℕ → Bool) (o : Option Placed) → version_in (hidden_one of o) ≡ version_in o
unfolding hidden_one version_in
one-version of none = refl
one-version of (some x) = refl

module _ (of any : ℕ → Bool) where
  pub absent-hidden : (log : List Placed) (k : Key) → is_none (present (hidden_log of log) k) ≡ is_none (present log k)
  absent-hidden log k = ap is_none (present-hidden of log k) ∙ one_none of (present log k)

  facts-hidden : (log : List Placed) (k : Key) → key_facts (hidden_log of log) k ≡ key_facts log k
  facts-hidden log k = rw (has-hidden of log k, absent-hidden log k, ap version_in (present-hidden of log k) ∙ one-version of (present log k))

  pub kept-long-hidden : (L : Layout) (log : List Placed) (victims : ℕ) → kept_length L (hidden_log of log) victims ≡ kept_length L log victims
  kept-long-hidden L log victims = ap (λ (es : List Entry). length (all_encoded L es)) (kept-hidden of victims log) ∙ encoded-hidden of L (kept victims log)

  -- what the one victim of a delete keeps is of one length
  forget-long-hidden : (W : Layout) (r : Record) (log : List Placed) (k : Key) →
      length (all_encoded W (forget_kept r (hidden_log of log) k)) ≡ length (all_encoded W (forget_kept r log k))
  forget-long-hidden W r log k =
      ap (λ (es : List Entry). length (all_encoded W es)) (forget-kept-hidden of r log k) ∙ encoded-hidden of W (forget_kept r log k)

  causes-hidden :
      (L : Layout) (r : Record) (log : List Placed) (l : Lengths) (q : Terms) (o : Operation) →
      start_causes L r (hidden_log of log) l q (hidden_operation any o) ≡ start_causes L r log l q o
  unfolding start_causes hidden_operation
  causes-hidden L r log l q (write k v) =
      ap (λ (f : KeyFacts). write_causes L r l q k f (length (zeroed (any k.table) v))) (facts-hidden log k) ∙
      ap (write_causes L r l q k (key_facts log k)) (zeroed-length (any k.table) v)
  causes-hidden L r log l q (delete k) =
      ap (λ (f : KeyFacts). delete_causes L r l q k f (forget_length (new_layout r) r (hidden_log of log) k)) (facts-hidden log k) ∙
      ap (delete_causes L r l q k (key_facts log k)) (forget-long-hidden (new_layout r) r log k)
  causes-hidden L r log l q (clean victims) = ap (λ (n : ℕ). clean_causes L r l n victims) (kept-long-hidden (new_layout r) log victims)

  -- ---- what a start lays down, at the head's end by its layout L, and in a new head by any layout W

  entry-pending : (L : Layout) (r : Record) (e : Entry) (k : ℕ) → (laid_entry L r (hidden any e)).pending k ≡ (laid_entry L r e).pending k
  entry-pending L r e k =
      ap
      (λ (n : ℕ). (pick (fits_with L r n) (laid_append L (hidden any e)) (laid_head (new_layout r) r (hidden any e))).pending k)
      (size-hidden any L e) ∙ go (new_layout r) (fits_head L r e)
    where
      go :
          (W : Layout) (t : Bool) →
          (pick t (laid_append L (hidden any e)) (laid_head W r (hidden any e))).pending k ≡ (pick t (laid_append L e) (laid_head W r e)).pending k
      go W true = unfold pick in rw (size-hidden any L e)
      go W false = unfold pick in rw (size-hidden any W e)

  encoded-long : (L : Layout) (e : Entry) → length (encoded L (hidden any e)) ≡ length (encoded L e)
  encoded-long L e = length-encoded L (hidden any e) ∙ size-hidden any L e ∙ sym (length-encoded L e)

  entry-long : (L : Layout) (r : Record) (e : Entry) → length (laid_entry L r (hidden any e)).bytes ≡ length (laid_entry L r e).bytes
  entry-long L r e =
      ap
      (λ (n : ℕ). length (pick (fits_with L r n) (laid_append L (hidden any e)) (laid_head (new_layout r) r (hidden any e))).bytes)
      (size-hidden any L e) ∙ go (new_layout r) (fits_head L r e)
    where
      go :
          (W : Layout) (t : Bool) →
          length (pick t (laid_append L (hidden any e)) (laid_head W r (hidden any e))).bytes ≡ length (pick t (laid_append L e) (laid_head W r e)).bytes
      go W true = unfold pick in encoded-long L e
      go W false =
          unfold pick in
          length-append (encoded_digest W (new_digest r 0)) (encoded W (hidden any e)) ∙
          ap (λ (n : ℕ). length (encoded_digest W (new_digest r 0)) + n) (encoded-long W e) ∙
          sym (length-append (encoded_digest W (new_digest r 0)) (encoded W e))

  -- a delete, which may clean
  delete-pending : (L : Layout) (r : Record) (log : List Placed) (j : Key) (k : ℕ) →
      (laid_delete L r (hidden_log of log) j).pending k ≡ (laid_delete L r log j).pending k
  delete-pending L r log j k = go (new_layout r) (no_room L r (entry_size L 0))
    where
      go : (W : Layout) (t : Bool) →
          (pick t (laid_forget W r (hidden_log of log) j) (laid_entry L r (tombstone_entry r j))).pending k ≡
          (pick t (laid_forget W r log j) (laid_entry L r (tombstone_entry r j))).pending k
      go W true = unfold pick in λ i. Forget (new_slot r) (victim-hidden of log j i) (digest_size W + forget-long-hidden W r log j i) k
      go W false = unfold pick in refl

  delete-long : (L : Layout) (r : Record) (log : List Placed) (j : Key) →
      length (laid_delete L r (hidden_log of log) j).bytes ≡ length (laid_delete L r log j).bytes
  delete-long L r log j = go (new_layout r) (no_room L r (entry_size L 0))
    where
      one : (W : Layout) (l : List Placed) →
          length (laid_forget W r l j).bytes ≡ digest_size W + length (all_encoded W (forget_kept r l j))
      one W l = length-head_bytes W (forget_digest r l j) (forget_kept r l j)

      go : (W : Layout) (t : Bool) →
          length (pick t (laid_forget W r (hidden_log of log) j) (laid_entry L r (tombstone_entry r j))).bytes ≡
          length (pick t (laid_forget W r log j) (laid_entry L r (tombstone_entry r j))).bytes
      go W true = unfold pick in one W (hidden_log of log) ∙ ap (λ (n : ℕ). digest_size W + n) (forget-long-hidden W r log j) ∙ sym (one W log)
      go W false = unfold pick in refl

  clean-long : (W : Layout) (r : Record) (log : List Placed) (victims : ℕ) →
      length (laid_clean W r (hidden_log of log) victims).bytes ≡ length (laid_clean W r log victims).bytes
  clean-long W r log victims =
      length-append (encoded_digest W (new_digest r victims)) (all_encoded W (kept victims (hidden_log of log))) ∙
      ap (λ (n : ℕ). length (encoded_digest W (new_digest r victims)) + n) (kept-long-hidden W log victims) ∙
      sym (length-append (encoded_digest W (new_digest r victims)) (all_encoded W (kept victims log)))

  pending-hidden :
      (L : Layout) (r : Record) (log : List Placed) (o : Operation) (k : ℕ) →
      (laid L r (hidden_log of log) (hidden_operation any o)).pending k ≡ (laid L r log o).pending k
  unfolding laid hidden_operation hidden_value
  pending-hidden L r log (write j v) k = entry-pending L r (written_entry r j v) k
  pending-hidden L r log (delete j) k = delete-pending L r log j k
  pending-hidden L r log (clean victims) k = rw (kept-long-hidden (new_layout r) log victims)

  bytes-hidden :
      (L : Layout) (r : Record) (log : List Placed) (o : Operation) →
      length (laid L r (hidden_log of log) (hidden_operation any o)).bytes ≡ length (laid L r log o).bytes
  unfolding laid hidden_operation hidden_value
  bytes-hidden L r log (write j v) = entry-long L r (written_entry r j v)
  bytes-hidden L r log (delete j) = delete-long L r log j
  bytes-hidden L r log (clean victims) = clean-long (new_layout r) r log victims

-- ---- as many stores

commit-long : (S i at : ℕ) (b c : List ℕ) → length b ≡ length c → length (commit S i at b) ≡ length (commit S i at c)
commit-long S i at b c e = one b ∙ ap (λ (n : ℕ). n - 1 + (pick (ltb (at + n) S) 1 0 + 1)) e ∙ sym (one c)
  where
    ending : List ℕ → List (ℕ × ℕ)
    ending l = pick (ltb (at + length l) S) ((i * S + at + length l, 0) ∷ []) []

    one : (l : List ℕ) → length (commit S i at l) ≡ length l - 1 + (pick (ltb (at + length l) S) 1 0 + 1)
    one l =
        length-append (stores_from (i * S + at + 1) (drop 1 l) ++ ending l) ((i * S + at, get_or l 0 0) ∷ []) ∙
        ap (λ (n : ℕ). n + 1) (length-append (stores_from (i * S + at + 1) (drop 1 l)) (ending l)) ∙
        omega (
          arith,
          length-stores_from (i * S + at + 1) (drop 1 l),
          length-drop 1 l,
          pick-ap {A = List (ℕ × ℕ)} length (ltb (at + length l) S) ((i * S + at + length l, 0) ∷ []) [],
        )

plan-long : (r : Record) (p : Pending) (b c : List ℕ) → length b ≡ length c → length (plan_of r p b) ≡ length (plan_of r p c)
unfolding plan_of
plan-long r Idle b c e = refl
plan-long r (Append n k) b c e = commit-long r.size r.head r.end b c e
plan-long r (NewHead i n k) b c e = ap suc (commit-long r.size i 0 b c e)
plan-long r (Clean i v n k) b c e = ap suc (commit-long r.size i 0 b c e)
plan-long r (Forget i v n k) b c e = ap suc (commit-long r.size i 0 b c e)

-- ---- two logs and two operations

module _ (of any : ℕ → Bool) (L : Layout) (r : Record) (log log' : List Placed) (o o' : Operation) (logs : hidden_log of log ≡ hidden_log of log')
    (same : hidden_operation any o ≡ hidden_operation any o')
  where
    pub causes-same : (l : Lengths) (q : Terms) → start_causes L r log l q o ≡ start_causes L r log' l q o'
    causes-same l q =
        sym (causes-hidden of any L r log l q o) ∙ ap (λ (x : List Placed). start_causes L r x l q (hidden_operation any o)) logs ∙
        ap (start_causes L r (hidden_log of log') l q) same ∙ causes-hidden of any L r log' l q o'

    pub pending-same : (k : ℕ) → (laid L r log o).pending k ≡ (laid L r log' o').pending k
    pending-same k =
        sym (pending-hidden of any L r log o k) ∙ ap (λ (x : List Placed). (laid L r x (hidden_operation any o)).pending k) logs ∙
        ap (λ (x : Operation). (laid L r (hidden_log of log') x).pending k) same ∙ pending-hidden of any L r log' o' k

    pub long_same : length (laid L r log o).bytes ≡ length (laid L r log' o').bytes
    long_same =
        sym (bytes-hidden of any L r log o) ∙ ap (λ (x : List Placed). length (laid L r x (hidden_operation any o)).bytes) logs ∙
        ap (λ (x : Operation). length (laid L r (hidden_log of log') x).bytes) same ∙ bytes-hidden of any L r log' o'

    pub stores_same : stores_for L r log o ≡ stores_for L r log' o'
    stores_same =
        plan-long r ((laid L r log o).pending 0) (laid L r log o).bytes (laid L r log' o').bytes long_same ∙
        ap (λ (p : Pending). length (plan_of r p (laid L r log' o').bytes)) (pending-same 0)

-- ---- the plans of two accepted operations

module _ (of : ℕ → Bool) (L : Layout) (before before' : List ℕ) (idle : Record) where
  -- the layout of a new head
  abbrev new : Layout
  new = new_layout idle

  -- an entry in a new head, which has room for it
  twin-head :
      (e e' : Entry) → WellFormed new e → WellFormed new e' → hidden of e ≡ hidden of e' → 256 ≤ idle.size → idle.digest.0 + 1 < 256 ^ 4 →
      idle.next.0 < 256 ^ (table new).width →
      Twin of L new idle (plan_of idle ((laid_head new idle e).pending 0) (laid_head new idle e).bytes)
      (plan_of idle ((laid_head new idle e').pending 0) (laid_head new idle e').bytes) (new_digest idle 0).map
  unfolding plan_of
  twin-head e e' f f' same big number wide =
      subst (λ (b : List ℕ). Twin of L new idle (plan-of b) (plan-of (encoded new e')) (new_digest idle 0).map) (encoded-one new e)
      (subst (λ (b : List ℕ). Twin of L new idle (plan-of (all_encoded new (e ∷ []))) (plan-of b) (new_digest idle 0).map) (encoded-one new e')
      (heads 0 idle.next (e ∷ []) (e' ∷ []) (none_within idle.map) number wide (formed-one new e f) (formed-one new e' f')
      (ap (λ (x : Entry). x ∷ []) same)
      (omega (
        arith,
        ap length (encoded-one new e),
        length-encoded new e,
        (edition-roomy new).room (kind_of new e) (length (bytes_in e.value)) (formed-known new e f),
      ))))
    where
      plan-of : List ℕ → List (ℕ × ℕ)
      plan-of b =
          (new_slot idle * idle.size, 0) ∷ commit idle.size (new_slot idle) 0 (encoded_digest new (new_digest idle 0) ++ b)

  twin-entry :
      (e e' : Entry) → Entering L before idle e → Entering L before' idle e' → hidden of e ≡ hidden of e' → 256 ≤ idle.size →
      idle.next.0 < 256 ^ (table new).width →
      Twin of L new idle (plan_of idle ((laid_entry L idle e).pending 0) (laid_entry L idle e).bytes)
      (plan_of idle ((laid_entry L idle e').pending 0) (laid_entry L idle e').bytes) (entry_record L idle (log_now before idle) e).map
  unfolding pick plan_of
  twin-entry e e' f f' same big wide = subst (λ (t : Bool). shape (fits_head L idle e) t) fits-same (go (fits_head L idle e) refl)
    where
      lay : Bool → Entry → Laid
      lay t x = pick t (laid_append L x) (laid_head new idle x)

      shape : Bool → Bool → Type 0
      shape t u =
          Twin of L new idle (plan_of idle ((lay t e).pending 0) (lay t e).bytes) (plan_of idle ((lay u e').pending 0) (lay u e').bytes)
          (pick t (appended_record L idle (log_now before idle) e) (headed_record new idle (log_now before idle) e)).map

      sizes : size_of L e ≡ size_of L e'
      sizes = sym (size-hidden of L e) ∙ ap (size_of L) same ∙ size-hidden of L e'

      fits-same : fits_head L idle e ≡ fits_head L idle e'
      fits-same = ap (fits_with L idle) sizes

      go : (t : Bool) → fits_head L idle e ≡ t → shape t t
      go true p =
          appends e e' (f.formed p) (f'.formed (sym fits-same ∙ p)) same (leb-true (idle.end + size_of L e) idle.size (both_left _ _ p))
      go false p = twin-head e e' f.formed-new f'.formed-new same big (omega (arith, f.number-left p)) wide

  -- a next version fits its bytes in a new head
  next-wide : (o : Operation) → Accepted L before idle o → idle.next.0 < 256 ^ (table new).width
  next-wide o a = new-next-fits L before idle a.recovers a.area-bytes new (idle-up L before idle o a)

  -- cleanings that go by logs which differ in hidden values alone, also those that delete
  twin-clean :
      (victims : ℕ) (next : Version) (stand stand' : List Placed) → Cleaning L new before idle victims next stand →
      Cleaning L new before' idle victims next stand' → hidden_log of stand ≡ hidden_log of stand' →
      Twin of L new idle (head_plan new idle.size (new_slot idle) (digest_with idle victims next) (kept victims stand))
      (head_plan new idle.size (new_slot idle) (digest_with idle victims next) (kept victims stand')) (new_digest idle victims).map
  twin-clean victims next stand stand' c c' logs =
      heads victims next (kept victims stand) (kept victims stand') c.sub c.number-left c.next_fits c.formed c'.formed
      (sym (kept-hidden of victims stand) ∙ ap (kept victims) logs ∙ kept-hidden of victims stand') c.room

  -- a delete, by whether its tombstone finds room
  module _ (k : Key) (a : Accepted L before idle (delete k)) (a' : Accepted L before' idle (delete k))
      (logs : hidden_log of (log_now before idle) ≡ hidden_log of (log_now before' idle))
    where
      victims-same : forget_victim (log_now before idle) k ≡ forget_victim (log_now before' idle) k
      victims-same =
          sym (victim-hidden of (log_now before idle) k) ∙ ap (λ (l : List Placed). forget_victim l k) logs ∙ victim-hidden of (log_now before' idle) k

      stands_same : hidden_log of (forgotten_log idle (log_now before idle) k) ≡ hidden_log of (forgotten_log idle (log_now before' idle) k)
      stands_same =
          sym (forgotten-hidden of idle (log_now before idle) k) ∙ ap (λ (l : List Placed). forgotten_log idle l k) logs ∙
          forgotten-hidden of idle (log_now before' idle) k

      twin-forget : no_room L idle (entry_size L 0) ≡ true →
          Twin of L new idle
          (head_plan new idle.size (new_slot idle) (forget_digest idle (log_now before idle) k) (forget_kept idle (log_now before idle) k))
          (head_plan new idle.size (new_slot idle) (forget_digest idle (log_now before' idle) k) (forget_kept idle (log_now before' idle) k))
          (new_digest idle (forget_victim (log_now before idle) k)).map
      twin-forget full =
          subst
          (λ (w : ℕ).
          Twin of L new idle
          (head_plan new idle.size (new_slot idle) (forget_digest idle (log_now before idle) k) (forget_kept idle (log_now before idle) k))
          (head_plan new idle.size (new_slot idle) (digest_with idle w (next_after idle)) (kept w (forgotten_log idle (log_now before' idle) k)))
          (new_digest idle (forget_victim (log_now before idle) k)).map)
          victims-same
          (twin-clean (forget_victim (log_now before idle) k) (next_after idle) (forgotten_log idle (log_now before idle) k)
          (forgotten_log idle (log_now before' idle) k) (forget-cleans L before idle k a full)
          (subst (λ (w : ℕ). Cleaning L new before' idle w (next_after idle) (forgotten_log idle (log_now before' idle) k)) (sym victims-same)
          (forget-cleans L before' idle k a' full)) stands_same)

      twin-delete :
          Twin of L new idle (plan_at L before idle (delete k)) (plan_at L before' idle (delete k)) (deleted_record L before idle k).map
      unfolding laid plan_of
      twin-delete = go (no_room L idle (entry_size L 0)) refl
        where
          way : Bool → List Placed → Laid
          way t log = pick t (laid_forget new idle log k) (laid_entry L idle (tombstone_entry idle k))

          go : (t : Bool) → no_room L idle (entry_size L 0) ≡ t →
              Twin of L new idle (plan_of idle ((way t (log_now before idle)).pending 0) (way t (log_now before idle)).bytes)
              (plan_of idle ((way t (log_now before' idle)).pending 0) (way t (log_now before' idle)).bytes)
              (pick t (forgotten_record new before idle k) (entry_record L idle (log_now before idle) (tombstone_entry idle k))).map
          go true full = unfold pick in twin-forget full
          go false room =
              unfold pick in
              twin-entry (tombstone_entry idle k) (tombstone_entry idle k) (delete-enters L before idle k a room)
              (delete-enters L before' idle k a' room) refl (idle-lent L before idle (delete k) a).size_low (next-wide (delete k) a)

  pub twins :
      (o o' : Operation) → Accepted L before idle o → Accepted L before' idle o' →
      hidden_log of (log_now before idle) ≡ hidden_log of (log_now before' idle) → hidden_operation of o ≡ hidden_operation of o' →
      Twin of L (new_layout idle) idle (plan_at L before idle o) (plan_at L before' idle o') (finished_record L before idle o).map
  unfolding laid plan_of finished_record hidden_operation hidden_value
  twins (write k v) (write j u) a a' logs same =
      twin-entry (written_entry idle k v) (written_entry idle j u) (write-enters L before idle k v a) (write-enters L before' idle j u a')
      (λ i. record { table = (keys i).table; key = (keys i).key; version = idle.next.0; value = some (values i) })
      (idle-lent L before idle (write k v) a).size_low (next-wide (write k v) a)
    where
      keys : k ≡ j
      keys = cc

      values : zeroed (of k.table) v ≡ zeroed (of j.table) u
      values = cc
  twins (delete k) (delete j) a a' logs same =
      subst
      (λ (x : Key).
      Accepted L before' idle (delete x) →
      Twin of L new idle (plan_at L before idle (delete k)) (plan_at L before' idle (delete x)) (deleted_record L before idle k).map)
      keys (λ b. twin-delete k a b logs) a'
    where
      keys : k ≡ j
      keys = cc
  twins (clean victims) (clean other) a a' logs same =
      subst
      (λ (x : ℕ).
      Accepted L before' idle (clean x) →
      Twin of L new idle (plan_at L before idle (clean victims)) (plan_at L before' idle (clean x)) (new_digest idle victims).map)
      keys
      (λ b.
      twin-clean victims idle.next (log_now before idle) (log_now before' idle) (clean-cleans L before idle victims a)
      (clean-cleans L before' idle victims b) logs)
      a'
    where
      keys : victims ≡ other
      keys = cc
  twins (write k v) (delete j) a a' logs same = let z : ◌≡◌ {A = ℕ} 0 1 = cc in absurd (omega arith)
  twins (write k v) (clean j) a a' logs same = let z : ◌≡◌ {A = ℕ} 0 1 = cc in absurd (omega arith)
  twins (delete k) (write j u) a a' logs same = let z : ◌≡◌ {A = ℕ} 0 1 = cc in absurd (omega arith)
  twins (delete k) (clean j) a a' logs same = let z : ◌≡◌ {A = ℕ} 0 1 = cc in absurd (omega arith)
  twins (clean k) (write j u) a a' logs same = let z : ◌≡◌ {A = ℕ} 0 1 = cc in absurd (omega arith)
  twins (clean k) (delete j) a a' logs same = let z : ◌≡◌ {A = ℕ} 0 1 = cc in absurd (omega arith)

  -- ---- what they leave

  module _ (o o' : Operation) (acc : Accepted L before idle o) (acc' : Accepted L before' idle o')
      (a : Alike of idle.slots idle.size idle.map before before') (same : hidden_operation of o ≡ hidden_operation of o')
    where
      both : Twin of L new idle (plan_at L before idle o) (plan_at L before' idle o') (finished_record L before idle o).map
      both = twins o o' acc acc' (logs-same of idle before before' a) same

      -- After every proper prefix the areas are alike under the old record,
      pub cut-alike :
          (k : ℕ) → k < length (plan_at L before idle o) → k < length (plan_at L before' idle o') →
          Alike of idle.slots idle.size idle.map (stored before (take k (plan_at L before idle o))) (stored before' (take k (plan_at L before' idle o')))
      cut-alike k h h' = twin-cut of L new idle before before' acc.recovers acc'.recovers a both k h h'

      -- and after the whole plans under the finished one,
      pub done-alike :
          Alike of idle.slots idle.size (finished_record L before idle o).map (stored before (plan_at L before idle o))
          (stored before' (plan_at L before' idle o'))
      done-alike = twin-done of L new idle before before' acc.recovers acc'.recovers a both

      -- which is one record.
      pub finished-same : finished_record L before idle o ≡ finished_record L before' idle o'
      finished-same =
          (λ i. with_switch (unswitched fin) (finished-switch L before idle o i)) ∙ ap (λ (x : Record). with_switch x idle.switched) recovered-same ∙
          (λ i. with_switch (unswitched fin') (sym (finished-switch L before' idle o') i))
        where
          fin : Record
          fin = finished_record L before idle o

          fin' : Record
          fin' = finished_record L before' idle o'

          after : List ℕ
          after = stored before (plan_at L before idle o)

          after' : List ℕ
          after' = stored before' (plan_at L before' idle o')

          -- what recovery gives of each area
          done : recovered fin.edition idle.slots idle.size idle.cells after ≡ some (unswitched fin)
          done = (edition-laws L).finish-recovers before idle o acc

          done' : recovered fin'.edition idle.slots idle.size idle.cells after' ≡ some (unswitched fin')
          done' = (edition-laws L).finish-recovers before' idle o' acc'

          alike : Alike of idle.slots idle.size (record_from fin.edition idle.slots idle.size 16 after).map after after'
          alike =
              subst (λ (m : ℕ). Alike of idle.slots idle.size m after after')
              (ap (λ (x : Record). x.map) (recovered-is fin.edition idle.slots idle.size idle.cells after (unswitched fin) done)) done-alike

          -- the heads are of one edition
          editions : fin.edition ≡ fin'.edition
          editions =
              sym (recovered-image fin.edition idle.slots idle.size idle.cells after (unswitched fin) done) ∙
              layouts_same of fin.edition idle.slots idle.size after after' alike idle.cells (unswitched fin) done ∙
              recovered-image fin'.edition idle.slots idle.size idle.cells after' (unswitched fin') done'

          recovered-same : unswitched fin ≡ unswitched fin'
          recovered-same =
              recovered-is fin.edition idle.slots idle.size idle.cells after (unswitched fin) done ∙
              records-same of fin.edition idle.slots idle.size after after' alike idle.cells idle.cells (unswitched fin) done ∙
              ap (λ (K : Layout). record_from K idle.slots idle.size idle.cells after') editions ∙
              sym (recovered-is fin'.edition idle.slots idle.size idle.cells after' (unswitched fin') done')
