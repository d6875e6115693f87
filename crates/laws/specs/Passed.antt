-- What is known once no cause of a call holds: a field for each cause of its list. A law turns the list into the record, and only
-- these laws go by places in the list.
use Rattle.std.specs.Prelude.{ℕ, ◌≡◌, Bool, false, not, List, [], ◌∷◌, ◌++◌, length}
use Rattle.std.proofs.Math.Option.{Option, none}
use Rattle.segment.specs.Choice.{is_none}
use Rattle.segment.specs.Layout.{Layout, entry_size}
use Rattle.segment.specs.declared.Key.{Key}
use Rattle.record.specs.Range.{cells_good}
use Rattle.record.specs.Switch.{new_layout}
use Rattle.record.specs.declared.Refusal.TheVariants.{BadOrder}
use Rattle.record.specs.declared.Record.{Record}
use Rattle.model.specs.Log.{View, Head, Placed, version_shared}
use Rattle.model.specs.Causes.{Cause, when, first_cause}
use Rattle.model.specs.Recovery.{geometry_bad, order_bad, head_else, digest_bad, map_bad, names_no_digest, log_damaged, log_slots, log_under, lent_causes, image_causes_by}
use Rattle.model.specs.Operations.{Operation, write, delete, clean}
use Rattle.model.specs.Refused.{Lengths, Terms, KeyFacts, key_facts, expects_other, outside_tables, kept_length, record_bad, work_short, is_pending, value_bad, versions_spent, numbers_spent, keys_full, no_room, no_number, forget_too_long, forget_length, victims_bad, kept_too_long, write_causes, delete_causes, clean_causes, start_causes, step_causes}
use Rattle.laws.specs.CauseLaws.{NoCause, no-cause}

pub record WritePassed (L : Layout) (r : Record) (l : Lengths) (t : Terms) (j : Key) (k : KeyFacts) (n : ℕ) : Type 0 where
  pub record-good : record_bad L r l ≡ false
  pub in_reach : outside_tables t.tables j ≡ false
  pub work-long : work_short r l ≡ false
  pub idle : is_pending r.pending ≡ false
  pub value-known : value_bad L n ≡ false
  pub log-sound : k.forbidden ≡ false
  pub as-expected : expects_other t.expected k.version ≡ false
  pub versions-left : versions_spent r ≡ false
  pub key_fits : keys_full r k ≡ false
  pub room : no_room L r (entry_size L n) ≡ false
  pub number-left : no_number L r (entry_size L n) ≡ false

pub write-passed :
    (L : Layout) (r : Record) (l : Lengths) (t : Terms) (j : Key) (k : KeyFacts) (n : ℕ) → first_cause (write_causes L r l t j k n) ≡ none →
    WritePassed L r l t j k n
write-passed L r l t j k n e =
    let x : NoCause (write_causes L r l t j k n) = no-cause (write_causes L r l t j k n) e in
    record {
      record-good = x.0;
      in_reach = x.1.0;
      work-long = x.1.1.0;
      idle = x.1.1.1.0;
      value-known = x.1.1.1.1.0;
      log-sound = x.1.1.1.1.1.0;
      as-expected = x.1.1.1.1.1.1.0;
      versions-left = x.1.1.1.1.1.1.1.0;
      key_fits = x.1.1.1.1.1.1.1.1.0;
      room = x.1.1.1.1.1.1.1.1.1.0;
      number-left = x.1.1.1.1.1.1.1.1.1.1.0;
    }

pub record DeletePassed (L : Layout) (r : Record) (l : Lengths) (t : Terms) (j : Key) (k : KeyFacts) (n : ℕ) : Type 0 where
  pub record-good : record_bad L r l ≡ false
  pub in_reach : outside_tables t.tables j ≡ false
  pub work-long : work_short r l ≡ false
  pub idle : is_pending r.pending ≡ false
  pub log-sound : k.forbidden ≡ false
  pub present : k.absent ≡ false
  pub versions-left : versions_spent r ≡ false
  pub room : forget_too_long L r n ≡ false
  pub number-left : no_number L r (entry_size L 0) ≡ false

pub delete-passed :
    (L : Layout) (r : Record) (l : Lengths) (t : Terms) (j : Key) (k : KeyFacts) (n : ℕ) → first_cause (delete_causes L r l t j k n) ≡ none →
    DeletePassed L r l t j k n
delete-passed L r l t j k n e =
    let x : NoCause (delete_causes L r l t j k n) = no-cause (delete_causes L r l t j k n) e in
    record {
      record-good = x.0;
      in_reach = x.1.0;
      work-long = x.1.1.0;
      idle = x.1.1.1.0;
      log-sound = x.1.1.1.1.0;
      present = x.1.1.1.1.1.0;
      versions-left = x.1.1.1.1.1.1.0;
      room = x.1.1.1.1.1.1.1.0;
      number-left = x.1.1.1.1.1.1.1.1.0;
    }

pub record CleanPassed (L : Layout) (r : Record) (l : Lengths) (n victims : ℕ) : Type 0 where
  pub record-good : record_bad L r l ≡ false
  pub work-long : work_short r l ≡ false
  pub idle : is_pending r.pending ≡ false
  pub victims-good : victims_bad r victims ≡ false
  pub kept-fits : kept_too_long r n ≡ false
  pub number-left : numbers_spent r ≡ false

pub clean-passed : (L : Layout) (r : Record) (l : Lengths) (n victims : ℕ) → first_cause (clean_causes L r l n victims) ≡ none → CleanPassed L r l n victims
clean-passed L r l n victims e =
    let t : NoCause (clean_causes L r l n victims) = no-cause (clean_causes L r l n victims) e in
    record {
      record-good = t.0;
      work-long = t.1.0;
      idle = t.1.1.0;
      victims-good = t.1.1.1.0;
      kept-fits = t.1.1.1.1.0;
      number-left = t.1.1.1.1.1.0;
    }

-- what every start has tested
pub record StartPassed (L : Layout) (r : Record) (l : Lengths) : Type 0 where
  pub record-good : record_bad L r l ≡ false
  pub work-long : work_short r l ≡ false
  pub idle : is_pending r.pending ≡ false

pub start-passed :
    (L : Layout) (r : Record) (log : List Placed) (l : Lengths) (t : Terms) (o : Operation) → first_cause (start_causes L r log l t o) ≡ none →
    StartPassed L r l
unfolding start_causes
start-passed L r log l t (write k value) e =
    let x = write-passed L r l t k (key_facts log k) (length value) e in record { record-good = x.record-good; work-long = x.work-long; idle = x.idle }
start-passed L r log l t (delete k) e =
    let x = delete-passed L r l t k (key_facts log k) (forget_length (new_layout r) r log k) e in record { record-good = x.record-good; work-long = x.work-long; idle = x.idle }
start-passed L r log l t (clean victims) e =
    let x = clean-passed L r l (kept_length (new_layout r) log victims) victims e in record { record-good = x.record-good; work-long = x.work-long; idle = x.idle }

pub record StepPassed (L : Layout) (r : Record) (l : Lengths) : Type 0 where
  pub record-good : record_bad L r l ≡ false
  pub work-long : work_short r l ≡ false
  pub some-pending : not (is_pending r.pending) ≡ false

pub step-passed : (L : Layout) (r : Record) (l : Lengths) → first_cause (step_causes L r l) ≡ none → StepPassed L r l
step-passed L r l e =
    let t : NoCause (step_causes L r l) = no-cause (step_causes L r l) e in
    record { record-good = t.0; work-long = t.1.0; some-pending = t.1.1.0 }

-- What recovery has tested of what it is lent,
pub record LentPassed (n s m area_length : ℕ) (order : List ℕ) : Type 0 where
  pub geometry-good : geometry_bad n s area_length ≡ false
  pub cells-within : not (cells_good m) ≡ false
  pub order-good : order_bad n order ≡ false

pub lent-passed :
    (n s m area_length : ℕ) (order : List ℕ) → first_cause (lent_causes n s m area_length ++ (when (order_bad n order) BadOrder ∷ [])) ≡ none →
    LentPassed n s m area_length order
lent-passed n s m area_length order e =
    let t : NoCause (lent_causes n s m area_length ++ (when (order_bad n order) BadOrder ∷ [])) = no-cause _ e in
    record { geometry-good = t.0; cells-within = t.1.0; order-good = t.1.1.0 }

-- and of the image before it counts keys, by whether its editions bring 28.
pub record ImagePassed (mixed : Bool) (v : ℕ → View) (n : ℕ) (h : Option Head) : Type 0 where
  pub has-head : is_none h ≡ false
  pub digest-good : digest_bad v n (head_else h) ≡ false
  pub map-within : map_bad n (head_else h) ≡ false
  pub all-digests : names_no_digest v (log_slots (head_else h)) n ≡ false
  pub editions-good : mixed ≡ false
  pub undamaged : log_damaged v (log_slots (head_else h)) n ≡ false
  pub versions-apart : version_shared (log_under v n (head_else h)) ≡ false

pub image-passed : (mixed : Bool) (v : ℕ → View) (n : ℕ) (h : Option Head) → first_cause (image_causes_by mixed v n h) ≡ none → ImagePassed mixed v n h
image-passed mixed v n h e =
    let t : NoCause (image_causes_by mixed v n h) = no-cause (image_causes_by mixed v n h) e in
    record {
      has-head = t.0;
      digest-good = t.1.0;
      map-within = t.1.1.0;
      all-digests = t.1.1.1.0;
      editions-good = t.1.1.1.1.0;
      undamaged = t.1.1.1.1.1.0;
      versions-apart = t.1.1.1.1.1.1.0;
    }
