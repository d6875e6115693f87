-- The plan of an accepted operation is one of two: an entry committed at the head's end, or a new head. From that alone follows
-- what every proper prefix of its stores leaves.
use Rattle.std.specs.Prelude.{ℕ, zero, suc, ◌+◌, ◌-◌, ◌*◌, ◌^◌, ◌≤◌, ◌<◌, ◌≡◌, Bool, take}
use native.Mathlib.Omega.{arith}
use Rattle.std.proofs.Math.Decide.{dec_lt}
use Rattle.std.proofs.Math.Path.{refl, ap, subst}
use Rattle.std.proofs.Common.{◌∙◌, pow_mono, leb-true}
use Rattle.std.proofs.Math.Bool.{true, false}
use mathlib.Core.List.{List, [], ◌∷◌, ◌++◌, Memᴰ}
use Rattle.std.proofs.Math.Option.{some}
use Rattle.std.proofs.Math.ListN.{length}
use Rattle.word.specs.Number.{Bytes}
use Rattle.segment.specs.Choice.{pick}
use Rattle.segment.proofs.Choice.{both_left}
use Rattle.segment.specs.Layout.{Layout, digest_size, entry_size, table}
use Rattle.segment.specs.Entry.{Entry, WellFormed, bytes_in, kind_of, encoded, size_of}
use Rattle.segment.proofs.EntryLaws.{length-encoded, formed-known}
use Rattle.segment.specs.Digest.{encoded_digest}
use Rattle.segment.specs.declared.Digest.{Digest}
use Rattle.segment.specs.declared.Key.{Key}
use Rattle.segment.specs.declared.Version.{Version}
use Rattle.slot_map.specs.Bit.{named, within}
use Rattle.slot_map.proofs.BitLaws.{clear-named, add-below}
use Rattle.slot_map.proofs.CountLaws.{clear-sub}
use Rattle.slot_map.proofs.NextLaws.{next-below, next-clear}
use Rattle.record.specs.RangeLaws.{Lent, lent-switched}
use Rattle.record.specs.Switch.{new_layout, unswitched}
use Rattle.record.specs.declared.Record.{Record}
use Rattle.model.specs.Log.{View, Placed, scan, items_of, views_of, log_of}
use Rattle.model.specs.Recovery.{later, recovered}
use Rattle.model.specs.Operations.{Operation, write, delete, clean, log_now, written_entry, tombstone_entry, fits_head, no_room, new_slot, digest_with, new_digest, kept, all_encoded, Laid, laid_append, laid_head, laid_entry, laid_forget, laid_delete, laid, commit, plan_of, stored}
use Rattle.laws.specs.Editions.{later-limit}
use Rattle.laws.specs.Members.{clash}
use Rattle.laws.specs.Stores.{length-commit-within, length-commit-full, length-stored}
use Rattle.laws.specs.Scans.{encoded-one}
use Rattle.laws.specs.AppendBytes.{append-prefix, append-prefix-bytes}
use Rattle.laws.specs.NewHeadBytes.{head_bytes, head_plan, length-head_bytes, formed-one, new-head-prefix, new-head-other-prefix, new-head-prefix-bytes}
use Rattle.laws.specs.LogLaws.{log-same, alike-view}
use Rattle.laws.specs.RecoverLaws.{recovered-holds, recovered-next, recovered-scan, views-recovered, cut-recovered, cut-log, recovered-layout}
use Rattle.laws.specs.Operated.{Accepted, plan_at}
use Rattle.laws.specs.Entering.{Roomy, Entering, idle-lent, write-enters, delete-enters}
use Rattle.laws.specs.Cleanings.{Cleaning, clean-cleans, forget-cleans}

-- Which plan it is, with what is known of its bytes. The head is of the layout L, a new head of W.
pub data Planned (L W : Layout) (r : Record) : List ℕ → List (ℕ × ℕ) → Type 0 where
  appends : (x : Entry) → WellFormed L x → r.end + size_of L x ≤ r.size → Planned L W r (encoded L x) (commit r.size r.head r.end (encoded L x))
  heads :
      (d : Digest) (es : List Entry) → ((x : Entry) → Memᴰ x es → WellFormed W x) → digest_size W + length (all_encoded W es) ≤ r.size →
      Planned L W r (head_bytes W d es) (head_plan W r.size (new_slot r) d es)

-- ---- which of the two

module _ (L : Layout) (before : List ℕ) (idle : Record) where
  abbrev new : Layout
  new = new_layout idle

  -- a plan that lays these down
  abbrev Shape : Laid → Type 0
  Shape l = Planned L new idle l.bytes (plan_of idle (l.pending 0) l.bytes)

  planned-entry : Roomy new → (e : Entry) → Entering L before idle e → 256 ≤ idle.size → Shape (laid_entry L idle e)
  unfolding pick plan_of
  planned-entry roomy e f big = go (fits_head L idle e) refl
    where
      go : (t : Bool) → fits_head L idle e ≡ t → Shape (pick t (laid_append L e) (laid_head new idle e))
      go true p = appends e (f.formed p) (leb-true (idle.end + size_of L e) idle.size (both_left _ _ p))
      go false p =
          subst
          (λ (b : List ℕ).
          Planned L new idle (encoded_digest new (new_digest idle 0) ++ b)
          ((new_slot idle * idle.size, 0) ∷ commit idle.size (new_slot idle) 0 (encoded_digest new (new_digest idle 0) ++ b)))
          (encoded-one new e)
          (heads (new_digest idle 0) (e ∷ []) (formed-one new e f.formed-new)
          (omega (
            arith,
            ap length (encoded-one new e),
            length-encoded new e,
            roomy.room (kind_of new e) (length (bytes_in e.value)) (formed-known new e f.formed-new),
          )))

  planned-clean :
      (victims : ℕ) (next : Version) (stand : List Placed) → Cleaning L new before idle victims next stand →
      Planned L new idle (head_bytes new (digest_with idle victims next) (kept victims stand))
      (head_plan new idle.size (new_slot idle) (digest_with idle victims next) (kept victims stand))
  planned-clean victims next stand c = heads (digest_with idle victims next) (kept victims stand) c.formed c.room

  -- a delete, by whether its tombstone finds room
  planned-delete : Roomy new → (k : Key) → Accepted L before idle (delete k) → Shape (laid_delete L idle (log_now before idle) k)
  unfolding pick plan_of
  planned-delete roomy k a = go (no_room L idle (entry_size L 0)) refl
    where
      go : (t : Bool) → no_room L idle (entry_size L 0) ≡ t →
          Shape (pick t (laid_forget new idle (log_now before idle) k) (laid_entry L idle (tombstone_entry idle k)))
      go true full = planned-clean _ _ _ (forget-cleans L before idle k a full)
      go false room =
          planned-entry roomy (tombstone_entry idle k) (delete-enters L before idle k a room) (idle-lent L before idle (delete k) a).size_low

  -- The plan of an accepted operation.
  pub planned : Roomy (new_layout idle) → (o : Operation) → Accepted L before idle o →
      Planned L (new_layout idle) idle (laid L idle (log_now before idle) o).bytes (plan_at L before idle o)
  unfolding laid plan_of
  planned roomy (write k value) a =
      planned-entry roomy (written_entry idle k value) (write-enters L before idle k value a) (idle-lent L before idle (write k value) a).size_low
  planned roomy (delete k) a = planned-delete roomy k a
  planned roomy (clean victims) a = planned-clean _ _ _ (clean-cleans L before idle victims a)

-- ---- what it leaves

module _ (L : Layout) (area : List ℕ) (r : Record) (e : recovered L r.slots r.size r.cells area ≡ some (unswitched r)) where
  facts : Lent L r (length area) r.cells
  facts = lent-switched r (recovered-holds L r.slots r.size r.cells area (unswitched r) e)

  -- the slot of a new head is one of the store's, and free
  pub new-below : new_slot r < r.slots
  new-below = next-below r.slots r.map r.head facts.head-below facts.some-free

  pub new-free : named r.map (new_slot r) ≡ false
  new-free = clear-named r.map (new_slot r) (next-clear r.slots r.map r.head facts.head-below facts.some-free)

  -- the digest of a new head fits its bytes
  pub new-map-fits : (victims : ℕ) → within victims r.map ≡ true → (new_digest r victims).map < 256 ^ 4
  new-map-fits victims sub =
      omega (
        arith,
        add-below r.slots (r.map - victims) (new_slot r) (omega (arith, facts.map_below)) new-below
            (clear-sub r.map victims (new_slot r) sub (next-clear r.slots r.map r.head facts.head-below facts.some-free)),
        pow_mono facts.slots-high,
      )

  pub new-next-fits : Bytes area → (W : Layout) → later L W ≡ false → r.next.0 < 256 ^ (table W).width
  new-next-fits bytes W up =
      omega (arith, facts.next-some, recovered-next L r.slots r.size r.cells area (unswitched r) e bytes, later-limit L W up)

  -- what is to be shown of an area that a prefix leaves
  abbrev Stays : List ℕ → Type 0
  Stays area' =
      (recovered L r.slots r.size r.cells area' ≡ some (unswitched r))
      × (log_of (views_of area' r.size) (named r.map) r.slots ≡ log_of (views_of area r.size) (named r.map) r.slots)

  same-stays : (area' : List ℕ) → length area' ≡ length area → ((i : ℕ) → views_of area' r.size i ≡ views_of area r.size i) → Stays area'
  same-stays area' long same = (
    views-recovered L r.slots r.size r.cells area area' long (λ i l. same i) ∙ e,
    log-same (views_of area r.size) (views_of area' r.size) (named r.map) (named r.map) r.slots (λ i l. refl)
        (λ i l p. alike-view (views_of area r.size) (views_of area' r.size) i (same i)),
  )

  -- After every proper prefix of the stores recovery gives the old record, and the log is the old one.
  pub prefix-stays : (W : Layout) (bytes : List ℕ) (plan : List (ℕ × ℕ)) → Planned L W r bytes plan → (k : ℕ) → k < length plan → Stays (stored area (take k plan))
  unfolding stored
  prefix-stays W bytes plan (appends x f fits) k h =
      same-stays (stored area (take k plan)) (length-stored area (take k plan))
      (append-prefix L r.slots r.size r.head area (items_of (views_of area r.size r.head).scan) r.end x facts.area-own
      facts.head-below (recovered-layout L r.slots r.size r.cells area (unswitched r) e) (recovered-scan L r.slots r.size r.cells area (unswitched r) e) f fits k h)
  prefix-stays W bytes plan (heads d es f fits) k h = go k h
    where
      others :
          (j i : ℕ) → (i ≡ new_slot r → ⊥) →
          views_of (stored area (take j (head_plan W r.size (new_slot r) d es))) r.size i ≡ views_of area r.size i
      others j i q = new-head-other-prefix W r.size (new_slot r) area d es fits j i q

      go : (j : ℕ) → j < length (head_plan W r.size (new_slot r) d es) → Stays (stored area (take j (head_plan W r.size (new_slot r) d es)))
      go zero l = same-stays (stored area []) refl (λ i. refl)
      go (suc j) l = (
        cut-recovered L r.slots r.size r.cells area (stored area (take (suc j) (head_plan W r.size (new_slot r) d es)))
            (length-stored area (take (suc j) (head_plan W r.size (new_slot r) d es))) (unswitched r) (new_slot r) new-free (λ i q o. others (suc j) i o) e
            (new-head-prefix W r.size (new_slot r) area d es fits (suc j) (omega arith) l),
        cut-log L r.slots r.size r.cells area (stored area (take (suc j) (head_plan W r.size (new_slot r) d es)))
            (length-stored area (take (suc j) (head_plan W r.size (new_slot r) d es))) (unswitched r) (new_slot r) new-free (λ i q o. others (suc j) i o),
      )

  -- The log's slots keep their editions.
  pub prefix-layout :
      (W : Layout) (bytes : List ℕ) (plan : List (ℕ × ℕ)) → Planned L W r bytes plan → (k : ℕ) → k < length plan → (i : ℕ) → named r.map i ≡ true →
      (views_of (stored area (take k plan)) r.size i).layout ≡ (views_of area r.size i).layout
  prefix-layout W bytes plan (appends x f fits) k h i q =
      ap (λ (w : View). w.layout)
      (append-prefix L r.slots r.size r.head area (items_of (views_of area r.size r.head).scan) r.end x facts.area-own
      facts.head-below (recovered-layout L r.slots r.size r.cells area (unswitched r) e) (recovered-scan L r.slots r.size r.cells area (unswitched r) e) f fits k h i)
  prefix-layout W bytes plan (heads d es f fits) k h i q =
      ap (λ (w : View). w.layout)
      (new-head-other-prefix W r.size (new_slot r) area d es fits k i (λ o. clash (named r.map i) q (ap (named r.map) o ∙ new-free)))

  -- The area stays one of bytes.
  pub prefix-bytes : (W : Layout) (bytes : List ℕ) (plan : List (ℕ × ℕ)) → Planned L W r bytes plan → Bytes area → (k : ℕ) → Bytes (stored area (take k plan))
  prefix-bytes W bytes plan (appends x f fits) h k = append-prefix-bytes L r.size r.head r.end area x f h k
  prefix-bytes W bytes plan (heads d es f fits) h k = new-head-prefix-bytes W r.size (new_slot r) area d es f h k

  -- It has a store at least, and its bytes fit a segment.
  pub plan-stores : (W : Layout) (bytes : List ℕ) (plan : List (ℕ × ℕ)) → Planned L W r bytes plan → 0 < length plan
  plan-stores W bytes plan (appends x f fits) = go (dec_lt (r.end + length (encoded L x)) r.size)
    where
      go : Dec (r.end + length (encoded L x) < r.size) → 0 < length (commit r.size r.head r.end (encoded L x))
      go (yes h) = omega (arith, length-commit-within r.size r.head r.end (encoded L x) (omega arith) h)
      go (no h) = omega (arith, length-commit-full r.size r.head r.end (encoded L x) (omega arith) (omega arith))
  plan-stores W bytes plan (heads d es f fits) = omega arith

  -- It has S + 1 stores at the most.
  pub plan-most : (W : Layout) (bytes : List ℕ) (plan : List (ℕ × ℕ)) → Planned L W r bytes plan → length plan ≤ r.size + 1
  plan-most W bytes plan (appends x f fits) = go (dec_lt (r.end + length (encoded L x)) r.size)
    where
      go : Dec (r.end + length (encoded L x) < r.size) → length (commit r.size r.head r.end (encoded L x)) ≤ r.size + 1
      go (yes h) = omega (arith, length-commit-within r.size r.head r.end (encoded L x) (omega arith) h)
      go (no h) =
          omega (arith, length-encoded L x, length-commit-full r.size r.head r.end (encoded L x) (omega arith) (omega arith))
  plan-most W bytes plan (heads d es f fits) = go (dec_lt (length (head_bytes W d es)) r.size)
    where
      go : Dec (length (head_bytes W d es) < r.size) → length (head_plan W r.size (new_slot r) d es) ≤ r.size + 1
      go (yes h) = omega (arith, length-commit-within r.size (new_slot r) 0 (head_bytes W d es) (omega arith) (omega arith))
      go (no h) =
          omega (arith, length-head_bytes W d es, length-commit-full r.size (new_slot r) 0 (head_bytes W d es) (omega arith) (omega arith))

  pub plan-fits : (W : Layout) (bytes : List ℕ) (plan : List (ℕ × ℕ)) → Planned L W r bytes plan → length bytes ≤ r.size
  plan-fits W bytes plan (appends x f fits) = omega (arith, length-encoded L x, facts.end_low)
  plan-fits W bytes plan (heads d es f fits) = omega (arith, length-head_bytes W d es)
