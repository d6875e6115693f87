-- What holds of every start.
use Rattle.std.specs.Prelude.{ℕ, ◌≡◌, refl, true, false, not, List, [], ◌∷◌, ◌++◌, eqb, length}
use Rattle.std.proofs.Common.{sym, ap, ◌∙◌}
use Rattle.std.proofs.Math.Option.{Option, none, some}
use Rattle.std.proofs.Math.Seq.{length-sets}
use Rattle.std.proofs.lemmas.Bool.{not-false}
use Rattle.segment.proofs.Choice.{both-false-right}
use Rattle.segment.specs.Layout.{Layout, entry_size}
use Rattle.segment.specs.declared.Key.{Key}
use Rattle.record.specs.Refusals.{number_of_refusal}
use Rattle.record.specs.declared.Refusal.{Refusal}
use Rattle.record.specs.declared.Refusal.TheVariants.{BadRecord, Absent, OutsideTables, WorkShort, Busy, VersionsSpent, NoRoom, NumbersSpent}
use Rattle.record.specs.declared.Tables.{Tables}
use Rattle.record.specs.Reach.{holds_table, all_hold}
use Rattle.record.specs.Switch.{new_layout}
use Rattle.record.specs.declared.Record.{Record}
use Rattle.model.specs.Log.{Placed}
use Rattle.model.specs.Causes.{Cause, when, first_cause}
use Rattle.model.specs.Operations.{Operation, write, delete, clean, Typed, laid}
use Rattle.model.specs.Refused.{Lengths, Terms, freely, key_facts, key_absent, expects_other, record_bad, outside_tables, work_short, is_pending, versions_spent, no_room, no_number, kept_too_long, forget_too_long, forget_length, reach_causes, early_causes, read_causes, write_causes, delete_causes, start_causes}
use Rattle.model.specs.Promises.{begun}
use Rattle.laws.specs.CauseLaws.{cause-first, cause-passed, first_some, NoCause, no-cause, causes-none, never_met}

-- the work buffer keeps its length
pub begun-length : (L : Layout) (r : Record) (log : List Placed) (o : Operation) (work : List ℕ) (c : Option Refusal) →
    length (begun L r log o work c).work ≡ length work
unfolding begun
begun-length L r log o work none = length-sets work 0 (laid L r log o).bytes
begun-length L r log o work (some c) = refl

-- 4 comes before every other cause, and 22 next
pub early-bad : (L : Layout) (r : Record) (l : Lengths) (t : Terms) (o : Operation) → record_bad L r l ≡ true →
    first_cause (early_causes L r l t o) ≡ some BadRecord
unfolding early_causes
early-bad L r l t (write k value) h = cause-first _ _ h
early-bad L r l t (delete k) h = cause-first _ _ h
early-bad L r l t (clean victims) h = cause-first _ _ h

pub start-early : (L : Layout) (r : Record) (log : List Placed) (l : Lengths) (t : Terms) (o : Operation) (c : Refusal) →
    first_cause (early_causes L r l t o) ≡ some c → first_cause (start_causes L r log l t o) ≡ some c
unfolding start_causes early_causes
start-early L r log l t (write k value) c h = first_some (reach_causes L r l t.tables k) _ c h
start-early L r log l t (delete k) c h = first_some (reach_causes L r l t.tables k) _ c h
start-early L r log l t (clean victims) c h = first_some (when (record_bad L r l) BadRecord ∷ []) _ c h

pub read-early : (L : Layout) (r : Record) (log : List Placed) (l : Lengths) (t : Tables) (k : Key) (c : Refusal) →
    first_cause (reach_causes L r l t k) ≡ some c → first_cause (read_causes L r log l t k) ≡ some c
read-early L r log l t k c h = first_some (reach_causes L r l t k) (when (key_absent log k) Absent ∷ []) c h

-- What is accepted on terms is accepted on none.
pub freely-accepted :
    (L : Layout) (r : Record) (log : List Placed) (l : Lengths) (t : Terms) (o : Operation) → Typed o →
    first_cause (start_causes L r log l t o) ≡ none → first_cause (start_causes L r log l freely o) ≡ none
unfolding start_causes expects_other
freely-accepted L r log l t (write k value) typed e =
    let x : NoCause (write_causes L r l t k (key_facts log k) (length value)) = no-cause (write_causes L r l t k (key_facts log k) (length value)) e in
    causes-none (write_causes L r l freely k (key_facts log k) (length value))
    (x.0, (ap not (all_hold k.table typed.0.0), (x.1.1.0, (x.1.1.1.0, (x.1.1.1.1.0, (x.1.1.1.1.1.0, (refl, x.1.1.1.1.1.1.1)))))))
freely-accepted L r log l t (delete k) typed e =
    let n = forget_length (new_layout r) r log k in
    let x : NoCause (delete_causes L r l t k (key_facts log k) n) = no-cause (delete_causes L r l t k (key_facts log k) n) e in
    causes-none (delete_causes L r l freely k (key_facts log k) n) (x.0, (ap not (all_hold k.table typed.0), x.1.1))
freely-accepted L r log l t (clean victims) typed e = e

-- whether the tables of a start hold its key's
unfoldable pub StartInside : Terms → Operation → Type 0
StartInside t (write k value) = holds_table t.tables k.table ≡ true
StartInside t (delete k) = holds_table t.tables k.table ≡ true
StartInside t (clean victims) = Unit

-- where it is accepted they do
pub start-inside :
    (L : Layout) (r : Record) (log : List Placed) (l : Lengths) (t : Terms) (o : Operation) → first_cause (start_causes L r log l t o) ≡ none →
    StartInside t o
unfolding start_causes StartInside
start-inside L r log l t (write k value) e = not-false _ (no-cause (write_causes L r l t k (key_facts log k) (length value)) e).1.0
start-inside L r log l t (delete k) e =
    not-false _ (no-cause (delete_causes L r l t k (key_facts log k) (forget_length (new_layout r) r log k)) e).1.0
start-inside L r log l t (clean victims) e = tt

-- 02, R-4 and R-13: a delete meets 12 only where what its victim keeps, rewritten, does not fit the new head.
pub delete-full-only : (L : Layout) (r : Record) (log : List Placed) (l : Lengths) (t : Terms) (k : Key) →
    kept_too_long r (forget_length (new_layout r) r log k) ≡ false → (c : Refusal) →
    first_cause (start_causes L r log l t (delete k)) ≡ some c → eqb (number_of_refusal c) 12 ≡ false
unfolding start_causes
delete-full-only L r log l t k fits c e =
    never_met 12 (before ++ after) (refl, (refl, (refl, (refl, (refl, (refl, (refl, (refl, tt)))))))) c
    (sym (cause-passed before (when (forget_too_long L r n) NoRoom) after (both-false-right (no_room L r (entry_size L 0)) (kept_too_long r n) fits)) ∙ e)
  where
    n : ℕ
    n = forget_length (new_layout r) r log k

    before : List Cause
    before =
        when (record_bad L r l) BadRecord
        ∷ when (outside_tables t.tables k) OutsideTables
        ∷ when (work_short r l) WorkShort
        ∷ when (is_pending r.pending) Busy
        ∷ when (key_facts log k).forbidden BadRecord
        ∷ when (key_facts log k).absent Absent
        ∷ when (versions_spent r) VersionsSpent
        ∷ []

    after : List Cause
    after = when (no_number L r (entry_size L 0)) NumbersSpent ∷ []
