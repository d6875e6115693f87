-- 02, R-13: a store that is switched to the second edition, so that each new head is of that edition.
use Rattle.std.specs.Prelude.{◌≡◌, refl, Bool, true, false, Ok, Err}
use Rattle.std.proofs.Common.{◌∙◌, ap}
use Rattle.segment.specs.Choice.{pick, either}
use Rattle.segment.specs.Layout.{Layout, edition1, edition2, same_layout}
use Rattle.record.specs.Answers.{Said, taken, refusal}
use Rattle.record.specs.Refusals.{number_of_refusal}
use Rattle.record.specs.declared.Pending.TheVariants.{Idle}
use Rattle.record.specs.declared.Record.{Record}
use Rattle.record.specs.declared.Refusal.{Refusal}
use Rattle.record.specs.Answered.{SwitchAnswer}

-- The edition of the next new head: the second once the store is switched, else that of the head.
abbrev pub new_layout : Record → Layout
new_layout r = pick r.switched edition2 r.edition

-- a store that is not switched goes on in the edition of its head
pub unswitched-new : (L : Layout) (r : Record) → r.switched ≡ false → r.edition ≡ L → new_layout r ≡ L
unfolding pick
unswitched-new L r off own = ap (λ (t : Bool). pick t edition2 r.edition) off ∙ own

-- the record with its switch set or not
abbrev pub with_switch : Record → Bool → Record
with_switch r t =
    record {
      slots = r.slots;
      size = r.size;
      cells = r.cells;
      edition = r.edition;
      switched = t;
      head = r.head;
      end = r.end;
      digest = r.digest;
      map = r.map;
      next = r.next;
      keys = r.keys;
      counts = r.counts;
      pending = r.pending;
    }

-- what the switch makes of a record: nothing where the store is switched or its head is of the second edition
abbrev pub switched_on : Record → Record
switched_on r = with_switch r (either r.switched (same_layout r.edition edition1))

pub switch-first : (r : Record) → r.edition ≡ edition1 → switched_on r ≡ with_switch r true
unfolding either same_layout
switch-first r own = ap (with_switch r) (go r.switched)
  where
    go : (t : Bool) → either t (same_layout r.edition edition1) ≡ true
    go true = refl
    go false = ap (λ (L : Layout). same_layout L edition1) own

pub switch-second : (r : Record) → r.edition ≡ edition2 → switched_on r ≡ r
unfolding either same_layout
switch-second r own = ap (with_switch r) (go r.switched)
  where
    go : (t : Bool) → either t (same_layout r.edition edition1) ≡ t
    go true = refl
    go false = ap (λ (L : Layout). same_layout L edition1) own

-- the record, its switch aside, and its pending operation aside too: what recovery of the same area gives
abbrev pub unswitched : Record → Record
unswitched r = with_switch r false

abbrev pub as_recovered : Record → Record
as_recovered r =
    record {
      slots = r.slots;
      size = r.size;
      cells = r.cells;
      edition = r.edition;
      switched = false;
      head = r.head;
      end = r.end;
      digest = r.digest;
      map = r.map;
      next = r.next;
      keys = r.keys;
      counts = r.counts;
      pending = Idle;
    }

-- accepted or its number
abbrev pub switch_said : SwitchAnswer → Said
switch_said (Ok u) = taken
switch_said (Err r) = refusal (number_of_refusal r)
