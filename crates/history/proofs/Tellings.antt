-- What is told of the next store keeps the invariant, and agrees with the book on whether an operation is pending.
use Rattle.std.specs.Prelude.{Ok, Err}
use Prim.Native.Nat.{ℕ, ◌-◌, max}
use native.Mathlib.Nat.{max-zero}
use native.Mathlib.Omega.{arith}
use mathlib.Core.Path.{◌≡◌, refl, sym, ap, ◌∙◌, subst⁻¹}
use mathlib.Core.Bool.{Bool, true, false, not}
use mathlib.Core.List.{List, []}
use mathlib.Core.Option.{Option, none, some}
use Rattle.segment.specs.Choice.{pick}
use Rattle.segment.specs.Entry.{Entry}
use Rattle.segment.specs.Layout.{Layout, entry_size}
use Rattle.segment.specs.declared.Key.{Key}
use Rattle.record.specs.Refusals.{number_of_refusal}
use Rattle.record.specs.Answered.{Foretold, TellAnswer}
use Rattle.record.specs.Switch.{new_layout}
use Rattle.record.specs.declared.Record.{Record}
use Rattle.record.specs.declared.Refusal.{Refusal}
use Rattle.record.specs.declared.Refusal.TheVariants.{BadRecord, WorkShort, NonePending}
use Rattle.model.specs.Log.{Placed}
use Rattle.model.specs.Causes.{first_cause}
use Rattle.model.specs.Operations.{Operation, write, delete, clean, log_now, written_entry, tombstone_entry, fits_head, no_room, laid_append, laid_head, laid_entry, laid_forget, laid, stores_for}
use Rattle.model.specs.Refused.{Lengths, record_bad, work_short, is_pending, tell_causes}
use Rattle.model.specs.Promises.{Started, tell_lengths, TellPromise}
use Rattle.laws.specs.CauseLaws.{cause-first, cause-skip, cause-none, refusal-number}
use Rattle.history.specs.Book.{tells, asks, Answer, telling, called, accepted, Book, feed, version_told}
use Rattle.history.specs.Editions.{Editions}
use Rattle.history.specs.Runs.{Held}
use Rattle.history.specs.Demand3.{TellAgrees, QuestionAgrees, EventAgrees}
use Rattle.history.proofs.Invariant.{Inv, Phase, idle, pending}

-- no version is told
no-version : (x : TellAnswer) → (telling x).said.version ≡ 0
no-version (Ok s) = refl
no-version (Err c) = refl

-- ---- the causes, by whether an operation is pending

no-causes : first_cause [] ≡ none
unfolding first_cause
no-causes = refl

module _ (L : Layout) (r : Record) (l : Lengths) where
  abbrev lent : Lengths
  lent = record { area = l.area; index = r.cells; work = l.work }

  abbrev cause : Option Refusal
  cause = first_cause (tell_causes L r l)

  pub idle-refused : is_pending r.pending ≡ false → (c : Refusal) × (cause ≡ some c)
  idle-refused e = go (record_bad L r lent) refl (work_short r lent) refl
    where
      go : (t : Bool) → record_bad L r lent ≡ t → (u : Bool) → work_short r lent ≡ u → (c : Refusal) × (cause ≡ some c)
      go true p u q = (BadRecord, cause-first _ _ p)
      go false p true q = (WorkShort, cause-skip _ _ p ∙ cause-first _ _ q)
      go false p false q = (NonePending, cause-skip _ _ p ∙ cause-skip _ _ q ∙ cause-first _ _ (ap not e))

  never-six : is_pending r.pending ≡ true → (c : Refusal) → cause ≡ some c → number_of_refusal c ≡ 6 → ⊥
  never-six e c f six = go (record_bad L r lent) refl (work_short r lent) refl
    where
      is : (d : Refusal) → cause ≡ some d → number_of_refusal d ≡ 6
      is d g = let q : ◌≡◌ {A = Option Refusal} (some c) (some d) = sym f ∙ g in let same : c ≡ d = cc in ap number_of_refusal (sym same) ∙ six

      go : (t : Bool) → record_bad L r lent ≡ t → (u : Bool) → work_short r lent ≡ u → ⊥
      go true p u q = let z = is BadRecord (cause-first _ _ p) in omega arith
      go false p true q = let z = is WorkShort (cause-skip _ _ p ∙ cause-first _ _ q) in omega arith
      go false p false q =
          let g : cause ≡ none = cause-none _ _ p (cause-none _ _ q (cause-none _ _ (ap not e) no-causes)) in
          let w : ◌≡◌ {A = Option Refusal} (some c) none = sym f ∙ g in
          let z : ◌≡◌ {A = ℕ} 0 1 = cc in
          omega arith

-- ---- a started operation is pending

laid-pending : (L : Layout) (r : Record) (log : List Placed) (o : Operation) (k : ℕ) → is_pending ((laid L r log o).pending k) ≡ true
unfolding laid pick is_pending
laid-pending L r log o k = go o
  where
    entry : (t : Bool) (e : Entry) → is_pending ((pick t (laid_append L e) (laid_head (new_layout r) r e)).pending k) ≡ true
    entry true e = refl
    entry false e = refl

    gone : (t : Bool) (j : Key) → is_pending ((pick t (laid_forget (new_layout r) r log j) (laid_entry L r (tombstone_entry r j))).pending k) ≡ true
    gone true j = refl
    gone false j = entry (fits_head L r (tombstone_entry r j)) (tombstone_entry r j)

    go : (o : Operation) → is_pending ((laid L r log o).pending k) ≡ true
    go (write j value) = entry (fits_head L r (written_entry r j value)) (written_entry r j value)
    go (delete j) = gone (no_room L r (entry_size L 0)) j
    go (clean victims) = refl

pub started-pending : (L : Layout) (area : List ℕ) (r : Record) (work : List ℕ) → Started L area r work → is_pending r.pending ≡ true
started-pending L area r work st =
    ap (λ (x : Record). is_pending x.pending) st.record-now ∙
    laid-pending L st.idle (log_now st.before st.idle) st.operation
    (stores_for L st.idle (log_now st.before st.idle) st.operation - st.since)

module _ (E : Editions) (L : Layout) (n s : ℕ) (area work : List ℕ) (h : Held) (m : Option ℕ) (a : Foretold) (b : Book) (t : ℕ)
    (own : is_pending h.rec.pending ≡ true → work ≡ h.work) (p : TellPromise L h.rec area work a)
  where
    abbrev said : Answer
    said = telling a.answer

    -- ---- what the book says

    pub refused-told : (c : Refusal) → first_cause (tell_causes L h.rec (tell_lengths area work)) ≡ some c → accepted said ≡ false
    refused-told c e = ap (λ (x : TellAnswer). accepted (telling x)) (p.refused c e) ∙ refusal-number c

    told-agrees : Phase L area b h → TellAgrees said b.pending
    unfolding TellAgrees is_pending
    told-agrees (idle e none-awaited) =
        let c = idle-refused L h.rec (tell_lengths area work) (ap is_pending e) in
        subst⁻¹ (TellAgrees said) none-awaited (refused-told c.0 c.1)
    told-agrees (pending st awaited) = subst⁻¹ (TellAgrees said) awaited (by-cause (first_cause (tell_causes L h.rec (tell_lengths area work))) refl)
      where
        is-pending : is_pending h.rec.pending ≡ true
        is-pending = started-pending L area h.rec h.work st

        by-cause : (c : Option Refusal) → first_cause (tell_causes L h.rec (tell_lengths area work)) ≡ c → said.said.refused ≡ 6 → ⊥
        by-cause (some c) e six =
            never-six L h.rec (tell_lengths area work) is-pending c e (sym (ap (λ (x : TellAnswer). (telling x).said.refused) (p.refused c e)) ∙ six)
        by-cause none e six =
            let z = sym (ap (λ (x : TellAnswer). (telling x).said.refused) (p.exact e (subst⁻¹ (Started L area h.rec) (own is-pending) st))) ∙ six in
            omega arith

    -- A question keeps the invariant.
    pub tell-keeps :
        Inv E L n s (record { area = area; held = some h; cells = m }) b t → Phase L area b h → feed b (called (asks tells) (tell_lengths area work) said) ≡ b →
        Inv E L n s (record { area = area; held = some h; cells = m }) (feed b (called (asks tells) (tell_lengths area work) said))
        (max t (version_told (called (asks tells) (tell_lengths area work) said)))
        × EventAgrees E b (called (asks tells) (tell_lengths area work) said)
    unfolding version_told EventAgrees QuestionAgrees
    tell-keeps inv phase same = (
      subst⁻¹ (λ (x : Book). Inv E L n s (record { area = area; held = some h; cells = m }) x (max t said.said.version)) same
          (subst⁻¹ (λ (v : ℕ). Inv E L n s (record { area = area; held = some h; cells = m }) b (max t v)) (no-version a.answer) (rw (max-zero t) inv)),
      told-agrees phase,
    )
