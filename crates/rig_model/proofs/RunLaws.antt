-- Laws of a run: what the promises of start and step give on a store that is idle and recovered, and on one whose operation is under way.
-- What is proved of the definitions in `specs/RunLaws.antt`.
use Prim.Native.Nat.{ℕ, suc, ◌+◌, ◌-◌, ◌≤◌, ◌<◌}
use Rattle.std.specs.Prelude.{◌≡◌, Bool, true, false, not, length, Ok, Err}
use Rattle.std.proofs.Math.Path.{refl, ap, subst, subst⁻¹}
use Rattle.std.proofs.Common.{sym, ◌∙◌, arith, take_all, le-ltb, le-leb}
use mathlib.Core.List.{List, [], ◌∷◌}
use Rattle.std.proofs.Math.Option.{none, some}
use Rattle.std.proofs.Math.ListN.{take}
use Rattle.word.specs.Number.{Bytes}
use Rattle.word.specs.Laws.{taken-sets}
use Rattle.segment.specs.Choice.{pick}
use Rattle.segment.proofs.Choice.{both_left, both_right, both_true}
use Rattle.segment.specs.Layout.{Layout, entry_size}
use Rattle.segment.specs.Entry.{Entry}
use Rattle.segment.specs.declared.Key.{Key}
use Rattle.record.specs.Answers.{with_pending}
use Rattle.record.specs.Range.{between, left_good, in_range, lengths_own, fits_lent}
use Rattle.record.specs.Switch.{new_layout, with_switch, unswitched}
use Rattle.record.specs.declared.Pending.{Pending}
use Rattle.record.specs.declared.Pending.TheVariants.{Idle}
use Rattle.record.specs.declared.Record.{Record}
use Rattle.record.specs.declared.Refusal.{Refusal}
use Rattle.record.specs.declared.Refusal.TheVariants.{BadRecord, WorkShort, NonePending}
use Rattle.record.specs.Answered.{Start, Stepped}
use Rattle.model.specs.Log.{Placed}
use Rattle.model.specs.Causes.{when, first_cause}
use Rattle.model.specs.Recovery.{image_layout, recovered}
use Rattle.model.specs.Index.{IndexRule}
use Rattle.model.specs.Operations.{Operation, write, delete, clean, Typed, log_now, laid, laid_append, laid_head, laid_entry, laid_forget, laid_delete, fits_head, no_room, written_entry, tombstone_entry, stored, finished_record}
use Rattle.model.specs.Refused.{Lengths, freely, is_pending, start_causes, step_causes}
use Rattle.model.specs.Promises.{Genuine, Started, StartPromise, Begun, begun, lent_lengths, StepPromise, StepExact, stepped, IndexStepped}
use Rattle.laws.specs.Stores.{length-stored}
use Rattle.laws.specs.Operated.{Accepted, plan_at}
use Rattle.laws.specs.OperationsKept.{edition-laws}
use Rattle.laws.specs.RecoverLaws.{recovered-edition, recovered-image}
use Rattle.history.proofs.Finished.{finished-switch}
use Rattle.history.proofs.Invariant.{recovered-is, idle-of, slots-of, size_of, cells_of, idle-same, own-geometry}
use Rattle.rig_model.specs.Verdict.{lent, cause_at, record_at}
use Rattle.rig_model.specs.RunLaws.{Ended, Going, Left, Ready, Under}

-- ---- the edition

-- The layout at which an area recovers is the edition of the record, and that of the area.
module _ (L : Layout) (area : List ℕ) (r : Record) (e : recovered L 4 256 16 area ≡ some r) where
  pub at-record : recovered r.edition 4 256 16 area ≡ some r
  at-record = subst⁻¹ (λ (x : Layout). recovered x 4 256 16 area ≡ some r) (recovered-edition L 4 256 16 area r e) e

  pub at-image : recovered (image_layout 4 256 area) 4 256 16 area ≡ some r
  at-image = subst⁻¹ (λ (x : Layout). recovered x 4 256 16 area ≡ some r) (recovered-image L 4 256 16 area r e) e

-- and the record is not switched (02, R-13)
pub recovered-off : (L : Layout) (area : List ℕ) (r : Record) → recovered L 4 256 16 area ≡ some r → r.switched ≡ false
recovered-off L area r e = ap (λ (x : Record). x.switched) (recovered-is L 4 256 16 area r e)

off-same : (r : Record) → r.switched ≡ false → unswitched r ≡ r
off-same r off = ap (with_switch r) (sym off)

module _ (area : List ℕ) (r : Record) (cells : List ℕ) (y : Ready area r cells) where
  pub ready-record : r ≡ record_at area
  ready-record = recovered-is (image_layout 4 256 area) 4 256 16 area r (at-image r.edition area r y.recovers)

  own : recovered r.edition r.slots r.size r.cells area ≡ some r
  own = own-geometry r.edition 4 256 16 area r y.recovers

  pub ready-idle : r.pending ≡ Idle
  ready-idle = idle-of r.edition 4 256 16 area r y.recovers

  pub ready-off : unswitched r ≡ r
  ready-off = off-same r (recovered-off r.edition area r y.recovers)

  pub ready-genuine : Genuine r.edition area r cells
  ready-genuine = record { recovers = own ∙ ap some (sym ready-off ∙ sym (idle-same r ready-idle)); rule = y.rule }

entry-left : (L : Layout) (r : Record) (e : Entry) (s k : ℕ) → Left s k (laid_entry L r e)
unfolding left_good is_pending pick
entry-left L r e s k = go (fits_head L r e)
  where
    go : (t : Bool) → Left s k (pick t (laid_append L e) (laid_head (new_layout r) r e))
    go true = (refl, refl)
    go false = (refl, refl)

delete-left : (L : Layout) (r : Record) (log : List Placed) (key : Key) (s k : ℕ) → Left s k (laid_delete L r log key)
unfolding left_good is_pending pick
delete-left L r log key s k = go (no_room L r (entry_size L 0))
  where
    go : (t : Bool) → Left s k (pick t (laid_forget (new_layout r) r log key) (laid_entry L r (tombstone_entry r key)))
    go true = (refl, refl)
    go false = entry-left L r (tombstone_entry r key) s k

laid-left : (L : Layout) (r : Record) (log : List Placed) (o : Operation) (s k : ℕ) → Left s k (laid L r log o)
unfolding laid left_good is_pending
laid-left L r log (write key value) s k = entry-left L r (written_entry r key value) s k
laid-left L r log (delete key) s k = delete-left L r log key s k
laid-left L r log (clean victims) s k = (refl, refl)

fits-pending : (L : Layout) (r : Record) (p : Pending) (a c : ℕ) → fits_lent L r a c ≡ true → left_good r.size p ≡ true → fits_lent L (with_pending r p) a c ≡ true
unfolding fits_lent in_range lengths_own
fits-pending L r p a c e l =
    let range = both_left _ _ e in
    let x = both_right _ _ range in
    both_true _ _ (both_true _ _ (both_left _ _ range) (both_true _ _ (both_left _ _ x) (both_true _ _ (both_left _ _ (both_right _ _ x)) (both_true _ _ (both_left _ _ (both_right _ _ (both_right _ _ x))) l)))) (both_right _ _ e)

passes : (a b c : Bool) → a ≡ false → b ≡ false → c ≡ false → first_cause (when a BadRecord ∷ when b WorkShort ∷ when c NonePending ∷ []) ≡ none
unfolding first_cause pick
passes a b c p q r = rw (p, q, r)

module _ (before : List ℕ) (idle : Record) (o : Operation) (k : ℕ) (area : List ℕ) (r : Record) (cells work : List ℕ) (g : Going before idle o k area r cells work) where
  abbrev n : ℕ
  n = length (plan_at idle.edition before idle o)

  abbrev going-started : Started idle.edition area r work
  going-started =
      record {
        operation = o;
        before = before;
        idle = idle;
        since = k;
        lengths = g.accepted.lengths;
        typed = g.accepted.typed;
        area-bytes = g.accepted.area-bytes;
        recovers = g.accepted.recovers;
        accepted = g.accepted.no-cause;
        some_left = g.some_left;
        record-now = g.record-now;
        area-now = g.area-now;
        work-now = g.work-now;
      }

  size-256 : idle.size ≡ 256
  size-256 = size_of idle.edition 4 256 16 before idle g.ready.recovers

  same_log : log_now area idle ≡ log_now before idle
  same_log = ap (λ (x : List ℕ). log_now x idle) g.area-now ∙ (edition-laws idle.edition).prefix-log before idle o g.accepted k g.some_left

  going-genuine : Genuine idle.edition area r cells
  going-genuine =
      subst⁻¹ (λ (x : Record). Genuine idle.edition area x cells) g.record-now
      (record {
        recovers =
            ap (recovered idle.edition idle.slots idle.size idle.cells) g.area-now
            ∙ (edition-laws idle.edition).prefix-recovers before idle o g.accepted k g.some_left
            ∙ ap some (sym (idle-same idle (ready-idle before idle cells g.ready)));
        rule = subst (λ (x : List Placed). IndexRule idle.size x cells) (sym same_log) g.ready.rule;
      })

  going-fits : fits_lent idle.edition r (length area) (length cells) ≡ true
  going-fits =
      subst⁻¹ (λ (x : Record). fits_lent idle.edition x (length area) (length cells) ≡ true) g.record-now
      (fits-pending idle.edition idle _ (length area) (length cells)
      (subst⁻¹ (λ (x : ℕ). fits_lent idle.edition idle x (length cells) ≡ true) (ap length g.area-now ∙ length-stored before (take k (plan_at idle.edition before idle o)))
      (subst⁻¹ (λ (x : ℕ). fits_lent idle.edition idle (length before) x ≡ true) g.ready.long ((edition-laws idle.edition).own-lengths 4 256 16 before idle g.ready.bytes g.ready.recovers)))
      ((laid-left idle.edition idle (log_now before idle) o idle.size (n - k)).0 ∙ in-limits))
    where
      in-limits : between 1 (idle.size + 1) (n - k) ≡ true
      in-limits =
          unfold between in
          both_true _ _ (le-leb 1 (n - k) (omega (arith, g.some_left))) (le-leb (n - k) (idle.size + 1) (omega (arith, (edition-laws idle.edition).few-stores before idle o g.accepted)))

  going-passes : first_cause (step_causes idle.edition r (lent_lengths area cells work)) ≡ none
  going-passes =
      passes _ _ _ (ap not going-fits)
      (le-ltb (length work) r.size (omega (arith, g.work-long, size-256, ap (λ (x : Record). x.size) g.record-now)))
      (ap not (ap (λ (x : Record). is_pending x.pending) g.record-now ∙ (laid-left idle.edition idle (log_now before idle) o 0 (n - k)).1))

  -- ---- one step more

  module _ (area' cells' : List ℕ) (a : Stepped) (p : StepPromise idle.edition r area area' cells cells' work a) where
    exactly : StepExact idle.edition r area area' cells cells' work a going-started
    exactly = p.exact going-passes going-genuine going-started

    module _ (j : ℕ) (e : n - suc k ≡ suc j) where
      answered : a ≡ stepped idle.edition before idle o (suc j)
      answered = exactly.answers ∙ ap (stepped idle.edition before idle o) e

      same-cells : cells' ≡ cells
      unfolding IndexStepped
      same-cells = subst (λ (x : ℕ). IndexStepped area' cells cells' a.rec x) e exactly.index

      goes_on : Going before idle o (suc k) area' a.rec cells' work
      unfolding stepped
      goes_on =
          record {
            ready = subst⁻¹ (λ (x : List ℕ). Ready before idle x) same-cells g.ready;
            area-long = g.area-long;
            work-long = g.work-long;
            accepted = g.accepted;
            some_left = omega (arith, e);
            record-now =
                ap (λ (x : Stepped). x.rec) answered
                ∙ ap (λ (x : ℕ). with_pending idle ((laid idle.edition idle (log_now before idle) o).pending x)) (sym e);
            area-now = exactly.stores;
            work-now = g.work-now;
          }

    module _ (e : n - suc k ≡ 0) where
      all-stored : area' ≡ stored before (plan_at idle.edition before idle o)
      all-stored = exactly.stores ∙ ap (stored before) (take_all (suc k) (plan_at idle.edition before idle o) (omega (arith, e, g.some_left)))

      finished-rec : a.rec ≡ finished_record idle.edition before idle o
      unfolding stepped
      finished-rec = ap (λ (x : Stepped). x.rec) (exactly.answers ∙ ap (stepped idle.edition before idle o) e)

      index-rule : IndexRule a.rec.size (log_now area' a.rec) cells'
      unfolding IndexStepped
      index-rule = subst (λ (x : ℕ). IndexStepped area' cells cells' a.rec x) e exactly.index

      -- a store that is not switched stays so
      fin-off : unswitched (finished_record idle.edition before idle o) ≡ finished_record idle.edition before idle o
      fin-off =
          off-same (finished_record idle.edition before idle o)
          (finished-switch idle.edition before idle o ∙ recovered-off idle.edition before idle g.ready.recovers)

      abbrev fin-edition : Layout
      fin-edition = (finished_record idle.edition before idle o).edition

      recovers-now : recovered fin-edition 4 256 16 area' ≡ some a.rec
      recovers-now =
          sym
          (λ i.
          recovered fin-edition (slots-of idle.edition 4 256 16 before idle g.ready.recovers i) (size_of idle.edition 4 256 16 before idle g.ready.recovers i)
          (cells_of idle.edition 4 256 16 before idle g.ready.recovers i) area')
          ∙ ap (recovered fin-edition idle.slots idle.size idle.cells) all-stored
          ∙ (edition-laws idle.edition).finish-recovers before idle o g.accepted
          ∙ ap some (fin-off ∙ sym finished-rec)

      ends : Ended before idle o area' a.rec cells'
      ends =
          record {
            stored-all = all-stored;
            ready =
                record {
                  bytes =
                      subst⁻¹ Bytes exactly.stores ((edition-laws idle.edition).plan-bytes before idle o g.accepted (suc k));
                  long = p.same_length ∙ g.ready.long;
                  recovers = at-record fin-edition area' a.rec recovers-now;
                  rule = index-rule;
                };
          }

-- ---- a start

module _ (o : Operation) (ty : Typed o) (area : List ℕ) (r : Record) (cells work work' : List ℕ) (a : Start) (y : Ready area r cells) (al : length area ≡ 1024) (wl : length work ≡ 256)
    (p : StartPromise r.edition freely o r area cells work work' a) where
  start-exactly : record { start = a; work = work' } ≡ begun r.edition r (log_now area r) o work (cause_at area r o)
  start-exactly = p.exact (ready-genuine area r cells y) ∙ ap (λ (l : Lengths). begun r.edition r (log_now area r) o work (first_cause (start_causes r.edition r (log_now area r) l freely o))) (λ i. record { area = al i; index = y.long i; work = wl i })

  module _ (c : Refusal) (e : cause_at area r o ≡ some c) where
    pub start-refused : a.answer ≡ Err c
    unfolding begun
    start-refused = ap (λ (x : Begun). x.start.answer) (start-exactly ∙ ap (begun r.edition r (log_now area r) o work) e)

  module _ (e : cause_at area r o ≡ none) where
    started-all : record { start = a; work = work' } ≡ begun r.edition r (log_now area r) o work none
    started-all = start-exactly ∙ ap (begun r.edition r (log_now area r) o work) e

    pub start-stores : a.answer ≡ Ok (length (plan_at r.edition area r o))
    unfolding begun
    start-stores = ap (λ (x : Begun). x.start.answer) started-all

    accepts : Accepted r.edition area r o
    accepts = record { lengths = lent; area-bytes = y.bytes; typed = ty; recovers = own-geometry r.edition 4 256 16 area r y.recovers ∙ ap some (sym (ready-off area r cells y)); no-cause = e }

    pub start_under : Under area r o (length (plan_at r.edition area r o)) area a.rec cells work'
    unfolding begun stored
    start_under =
        record {
          most = omega arith;
          going = λ h.
              record {
                ready = y;
                area-long = al;
                work-long = p.same_length ∙ wl;
                accepted = accepts;
                some_left = omega arith;
                record-now =
                    ap (λ (x : Begun). x.start.rec) started-all
                    ∙ ap (λ (x : ℕ). with_pending r ((laid r.edition r (log_now area r) o).pending x)) (sym (all_left (length (plan_at r.edition area r o))));
                area-now = ap (λ (x : ℕ). stored area (take x (plan_at r.edition area r o))) (sym (sub_self (length (plan_at r.edition area r o))));
                work-now =
                    subst⁻¹ (λ (x : List ℕ). take (length bytes) x ≡ bytes) (ap (λ (x : Begun). x.work) started-all)
                    (taken-sets work 0 bytes (length bytes) refl (omega (arith, (edition-laws r.edition).bytes_fit area r o accepts, wl, size_of r.edition 4 256 16 area r y.recovers)));
              };
          ended = λ z. absurd (omega (arith, z, (edition-laws r.edition).some-stores area r o accepts));
        }
      where
        bytes : List ℕ
        bytes = (laid r.edition r (log_now area r) o).bytes

        all_left : (n : ℕ) → n - (n - n) ≡ n
        all_left n = omega arith

        sub_self : (n : ℕ) → n - n ≡ 0
        sub_self n = omega arith

-- ---- the loop over the stores

pub under-turn : (before : List ℕ) (idle : Record) (o : Operation) (left : ℕ) (area : List ℕ) (r : Record) (cells work area' cells' : List ℕ) (a : Stepped)
    → 0 < left → Under before idle o left area r cells work → StepPromise r.edition r area area' cells cells' work a
    → Under before idle o (left - 1) area' a.rec cells' work
under-turn before idle o left area r cells work area' cells' a h u p =
    record {
      most = omega (arith, u.most);
      going = λ some.
          subst (λ (x : ℕ). Going before idle o x area' a.rec cells' work) (one_more u.most)
          (goes_on before idle o k area r cells work g area' cells' a p' (left - 2) (two-less u.most some));
      ended = λ none_left. ends before idle o k area r cells work g area' cells' a p' (no_more u.most none_left);
    }
  where
    k : ℕ
    k = length (plan_at idle.edition before idle o) - left

    g : Going before idle o k area r cells work
    g = u.going h

    p' : StepPromise idle.edition r area area' cells cells' work a
    p' = subst (λ (L : Layout). StepPromise L r area area' cells cells' work a) (ap (λ (x : Record). x.edition) g.record-now) p

    one_more : left ≤ length (plan_at idle.edition before idle o) → suc k ≡ length (plan_at idle.edition before idle o) - (left - 1)
    one_more m = omega arith

    two-less : left ≤ length (plan_at idle.edition before idle o) → 0 < left - 1 → length (plan_at idle.edition before idle o) - suc k ≡ suc (left - 2)
    two-less m s = omega arith

    no_more : left ≤ length (plan_at idle.edition before idle o) → left - 1 ≡ 0 → length (plan_at idle.edition before idle o) - suc k ≡ 0
    no_more m s = omega arith
