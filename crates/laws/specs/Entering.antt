-- What an accepted write or delete has tested: its entry is well formed, takes the next version, finds room in the index, and fits
-- the head or a new one.
use Rattle.std.specs.Prelude.{ℕ, ◌+◌, ◌-◌, ◌≤◌, ◌<◌, ◌≡◌, refl, Bool, true, false, not, List, eqb, ltb, length}
use Rattle.std.proofs.Common.{arith, ap, ◌∙◌, subst, ltb-false, ltb-true}
use Rattle.std.proofs.Math.Option.{Option, none, some}
use Rattle.std.proofs.lemmas.Bool.{eqb-false}
use Rattle.segment.specs.Choice.{pick, both, is_none}
use Rattle.segment.proofs.Choice.{both_right}
use Rattle.segment.specs.Layout.{Layout, value_length, entry_size, digest_size, version_limit, number_limit, table}
use Rattle.segment.proofs.LayoutLaws.{version-good, known-either}
use Rattle.segment.specs.Entry.{Entry, bytes_in, length_known, WellFormed}
use Rattle.segment.specs.declared.Key.{Key}
use Rattle.slot_map.specs.Count.{used}
use Rattle.record.specs.RangeLaws.{Lent, lent-switched}
use Rattle.record.specs.Switch.{new_layout, unswitched}
use Rattle.record.specs.declared.Record.{Record}
use Rattle.model.specs.Log.{Placed, has_key, present, latest, object_only}
use Rattle.model.specs.Operations.{Operation, write, delete, log_now, written_entry, tombstone_entry, fits_head, no_room, count_new}
use Rattle.model.specs.Refused.{freely, key_facts, versions_spent, kept_too_long, forget_length, start_causes}
use Rattle.model.specs.Recovery.{later}
use Rattle.laws.specs.Editions.{new-later, later-limit}
use Rattle.laws.specs.Latest.{latest-has}
use Rattle.laws.specs.RecoverLaws.{recovered-holds, recovered-next, recovered-number, recovered-edition}
use Rattle.laws.specs.Appended.{Takes}
use Rattle.laws.specs.Operated.{Accepted}
use Rattle.laws.specs.Passed.{WritePassed, write-passed, DeletePassed, delete-passed}
use Rattle.laws.specs.LogLaws.{both-true-false}

-- A layout of which every entry fits a fresh segment of the smallest size, and whose versions take a byte at least.
pub record Roomy (L : Layout) : Type 0 where
  pub wide : 0 < (table L).width
  pub room : (k n : ℕ) → value_length L k ≡ some n → digest_size L + entry_size L n ≤ 256

-- What is known of the entry of an accepted write or delete: it can stand in a new head, and in the head where it fits.
pub record Entering (L : Layout) (before : List ℕ) (idle : Record) (e : Entry) : Type 0 where
  pub formed : fits_head L idle e ≡ true → WellFormed L e
  pub formed-new : WellFormed (new_layout idle) e
  pub takes : Takes idle.next.0 idle.keys idle.cells (log_now before idle) e
  pub two-free : fits_head L idle e ≡ false → used idle.slots idle.map + 2 ≤ idle.slots
  pub number-left : fits_head L idle e ≡ false → idle.digest.0 < number_limit

-- ---- the record of an accepted operation

module _ (L : Layout) (before : List ℕ) (idle : Record) (o : Operation) (a : Accepted L before idle o) where
  pub idle-lent : Lent L idle (length before) idle.cells
  idle-lent = lent-switched idle (recovered-holds L idle.slots idle.size idle.cells before (unswitched idle) a.recovers)

  pub idle-next : idle.next.0 ≤ version_limit L
  idle-next = recovered-next L idle.slots idle.size idle.cells before (unswitched idle) a.recovers a.area-bytes

  pub idle-number : idle.digest.0 ≤ number_limit
  idle-number = recovered-number L idle.slots idle.size idle.cells before (unswitched idle) a.recovers a.area-bytes

  pub idle-edition : idle.edition ≡ L
  idle-edition = recovered-edition L idle.slots idle.size idle.cells before (unswitched idle) a.recovers

  -- a new head is of no earlier edition
  pub idle-up : later L (new_layout idle) ≡ false
  idle-up = subst (λ (K : Layout). later K (new_layout idle) ≡ false) idle-edition (new-later idle)

  next-left : versions_spent idle ≡ false → idle.next.0 < version_limit (new_layout idle)
  next-left t =
      omega (arith, idle-next, later-limit L (new_layout idle) idle-up, eqb-false idle.next.0 (version_limit (new_layout idle)) t)

-- ---- tests taken apart

not-true-of : (t : Bool) → t ≡ false → not t ≡ true
not-true-of t e = ap not e

number-below : (x : ℕ) → x ≤ number_limit → eqb x number_limit ≡ false → x < number_limit
number-below x h e = omega (arith, eqb-false x number_limit e)

free-two : (n used : ℕ) → used ≤ n → ltb (n - used) 2 ≡ false → used + 2 ≤ n
free-two n used h e = omega (arith, ltb-false (n - used) 2 e)

-- a new key finds room where the keys are not full
new-room : (has : Bool) (keys m : ℕ) → keys ≤ m - 1 → both (not has) (eqb keys (m - 1)) ≡ false → keys + pick has 0 1 ≤ m - 1
unfolding pick both
new-room true keys m h e = omega arith
new-room false keys m h e = omega (arith, eqb-false keys (m - 1) e)

pick-room : (keys m : ℕ) → keys ≤ m - 1 → keys + pick true 0 1 ≤ m - 1
unfolding pick
pick-room keys m h = omega arith

-- a present key has an entry
present-has : (log : List Placed) (k : Key) → is_none (present log k) ≡ false → has_key log k ≡ true
unfolding present object_only is_none
present-has log k e = go (latest log k) refl e
  where
    go : (x : Option Placed) → latest log k ≡ x → is_none (object_only x) ≡ false → has_key log k ≡ true
    go none p q = cc
    go (some x) p q = latest-has log k x p

some_of : (o : Option Placed) → is_none o ≡ false → (x : Placed) × o ≡ some x
unfolding is_none
some_of none e = let z : ◌≡◌ {A = ℕ} 0 1 = cc in absurd (omega arith)
some_of (some x) e = (x, refl)

-- ---- write and delete

module _ (L : Layout) (before : List ℕ) (idle : Record) (k : Key) where
  abbrev log : List Placed
  log = log_now before idle

  pub write-enters : (value : List ℕ) → Accepted L before idle (write k value) → Entering L before idle (written_entry idle k value)
  unfolding start_causes count_new length_known bytes_in
  write-enters value a =
      record {
        formed = λ fits. formed-in L (ltb-true idle.next.0 (version_limit L) (both_right _ _ fits));
        formed-new = formed-in (new_layout idle) (next-left L before idle (write k value) a tests.versions-left);
        takes = record { version = refl; room = new-room (has_key log k) idle.keys idle.cells facts.keys-high tests.key_fits };
        two-free = λ f. free-two idle.slots (used idle.slots idle.map) (omega (arith, facts.some-free)) (both-true-false _ _ tests.room (not-true-of _ f));
        number-left = λ f. number-below idle.digest.0 (idle-number L before idle (write k value) a) (both-true-false _ _ tests.number-left (not-true-of _ f));
      }
    where
      tests : WritePassed L idle a.lengths freely k (key_facts log k) (length value)
      tests = write-passed L idle a.lengths freely k (key_facts log k) (length value) a.no-cause

      facts : Lent L idle (length before) idle.cells
      facts = idle-lent L before idle (write k value) a

      formed-in : (K : Layout) → idle.next.0 < version_limit K → WellFormed K (written_entry idle k value)
      formed-in K left =
          record {
            length-known = ap not (known-either K L (length value) ∙ tests.value-known);
            table_fits = a.typed.0.0;
            key_fits = a.typed.0.1;
            version-good = version-good K idle.next.0 facts.next-some left;
            value-bytes = a.typed.1;
          }

  -- the tombstone of an accepted delete
  module _ (a : Accepted L before idle (delete k)) where
    tests : DeletePassed L idle a.lengths freely k (key_facts log k) (forget_length (new_layout idle) idle log k)
    unfolding start_causes
    tests = delete-passed L idle a.lengths freely k (key_facts log k) (forget_length (new_layout idle) idle log k) a.no-cause

    facts : Lent L idle (length before) idle.cells
    facts = idle-lent L before idle (delete k) a

    pub delete-next : idle.next.0 < version_limit (new_layout idle)
    delete-next = next-left L before idle (delete k) a tests.versions-left

    pub delete-number : fits_head L idle (tombstone_entry idle k) ≡ false → idle.digest.0 < number_limit
    unfolding bytes_in
    delete-number f =
        number-below idle.digest.0 (idle-number L before idle (delete k) a)
        (both-true-false _ _ tests.number-left (not-true-of _ f))

    formed-in : (K : Layout) → idle.next.0 < version_limit K → WellFormed K (tombstone_entry idle k)
    unfolding length_known bytes_in
    formed-in K left =
        record {
          length-known = refl;
          table_fits = a.typed.0;
          key_fits = a.typed.1;
          version-good = version-good K idle.next.0 facts.next-some left;
          value-bytes = λ i. omega arith;
        }

    pub delete-formed : WellFormed (new_layout idle) (tombstone_entry idle k)
    delete-formed = formed-in (new_layout idle) delete-next

    -- what its victim keeps fits a new head, where it finds no room
    pub delete-room : no_room L idle (entry_size L 0) ≡ true → kept_too_long idle (forget_length (new_layout idle) idle log k) ≡ false
    delete-room full = both-true-false _ _ tests.room full

    -- the object that it is to delete
    pub delete-live : (x : Placed) × present log k ≡ some x
    delete-live = some_of (present log k) tests.present

    -- where it finds room
    pub delete-enters : no_room L idle (entry_size L 0) ≡ false → Entering L before idle (tombstone_entry idle k)
    unfolding count_new bytes_in
    delete-enters room =
        record {
          formed = λ fits. formed-in L (ltb-true idle.next.0 (version_limit L) (both_right _ _ fits));
          formed-new = delete-formed;
          takes =
              record {
                version = refl;
                room = rw (present-has log k tests.present) (pick-room idle.keys idle.cells facts.keys-high);
              };
          two-free =
              λ f.
              free-two idle.slots (used idle.slots idle.map) (omega (arith, facts.some-free))
              (both-true-false _ _ room (not-true-of _ f));
          number-left = delete-number;
        }
