-- What a device holds that gets each byte as it is told: the area of one side of a step.
use Rattle.std.specs.Prelude.{Ok}
use Prim.Native.Nat.{ℕ, suc, ◌-◌}
use native.Mathlib.Omega.{arith}
use mathlib.Core.Path.{◌≡◌, refl, sym, ap, ◌∙◌, subst}
use mathlib.Core.Bool.{true}
use mathlib.Core.List.{List, [], ◌∷◌, ◌++◌}
use mathlib.Core.Option.{Option, none, some}
use lib.ListN.{length, get_or, take, set}
use Rattle.segment.specs.Layout.{Layout}
use Rattle.record.specs.Answered.{Foretold, Stepped, TellAnswer}
use Rattle.record.specs.declared.Refusal.{Refusal}
use Rattle.model.specs.Causes.{first_cause}
use Rattle.model.specs.Operations.{log_now, plan_for, stored}
use Rattle.model.specs.Refused.{Lengths, is_pending, step_causes, tell_causes}
use Rattle.model.specs.Promises.{Started, StepPromise, lent_lengths, tell_lengths, TellPromise}
use Rattle.laws.specs.Members.{clash}
use Rattle.laws.specs.Stores.{stored_next}
use Rattle.history.specs.Book.{tells, steps, Answer, telling, accepted, Event, called, Book, fresh_book, book_of}
use Rattle.history.specs.Editions.{Editions, formatted_in, editions_behind}
use Rattle.history.specs.Runs.{Held, World, Asked, tell, Moves, step, Run, stop, go}
use Rattle.history.specs.Demand3.{Demand3Of}
use Rattle.history.specs.Device.{on_device, DeviceFor, DeviceClaim}
use Rattle.history.proofs.Invariant.{Inv, Holding, HeldGood, Phase, idle, pending, held-promise}
use Rattle.history.proofs.Tellings.{idle-refused, refused-told, started-pending}
use Rattle.history.proofs.Theorem.{run-keeps, fresh, demand-3}

-- a list of events and one more
one_more : {n s : ℕ} {w x y : World} {es : List Event} {e : Event} → Run n s w es x → Moves n s x e y → Run n s w (es ++ e ∷ []) y
one_more stop m = go m stop
one_more (go k r) m = go k (one_more r m)

-- ---- a store that is told and the step that follows

module _ (E : Editions) (L : Layout) (n s : ℕ) (area area' cells' work work' : List ℕ) (h : Held) (m : Option ℕ) (b : Book) (x : Foretold) (a : Stepped)
    (own : is_pending h.rec.pending ≡ true → work ≡ h.work) (p : TellPromise L h.rec area work x) (took : accepted (telling x.answer) ≡ true)
    (own' : is_pending h.rec.pending ≡ true → work' ≡ h.work) (q : StepPromise L h.rec area area' h.cells cells' work' a)
    (good : Holding E L n s area m b h)
  where
    abbrev cause : Option Refusal
    cause = first_cause (tell_causes L h.rec (tell_lengths area work))

    none-holds : (c : Option Refusal) → cause ≡ c → cause ≡ none
    none-holds none e = e
    none-holds (some c) e = absurd (clash (accepted (telling x.answer)) took (refused-told E L n s area work h m x b 0 own p c e))

    no-cause : cause ≡ none
    no-cause = none-holds cause refl

    started : Phase L area b h → Started L area h.rec h.work
    unfolding is_pending
    started (idle e _) =
        let c = idle-refused L h.rec (tell_lengths area work) (ap is_pending e) in
        let w : ◌≡◌ {A = Option Refusal} (some c.0) none = sym c.1 ∙ no-cause in
        let z : ◌≡◌ {A = ℕ} 0 1 = cc in
        absurd (omega arith)
    started (pending st _) = st

    module _ (st : Started L area h.rec h.work) where
      abbrev plan : List (ℕ × ℕ)
      plan = plan_for L st.idle (log_now st.before st.idle) st.operation

      is-pending : is_pending h.rec.pending ≡ true
      is-pending = started-pending L area h.rec h.work st

      same-work : work ≡ work'
      same-work = own is-pending ∙ sym (own' is-pending)

      step-goes : first_cause (step_causes L h.rec (lent_lengths area h.cells work')) ≡ none
      step-goes =
          ap (λ (i : ℕ). first_cause (step_causes L h.rec (record { area = length area; index = i; work = length work' }))) good.index-long
          ∙ ap (λ (l : List ℕ). first_cause (tell_causes L h.rec (tell_lengths area l))) (sym same-work)
          ∙ no-cause

      -- the same operation, its work buffer being the one that the call got
      stores : (l : List ℕ) → l ≡ h.work → StepPromise L h.rec area area' h.cells cells' l a →
          first_cause (step_causes L h.rec (lent_lengths area h.cells l)) ≡ none → area' ≡ stored st.before (take (suc st.since) plan)
      stores l e promise goes =
          ((subst (λ (k : List ℕ). StepPromise L h.rec area area' h.cells cells' k a) e promise).exact
          (subst (λ (k : List ℕ). first_cause (step_causes L h.rec (lent_lengths area h.cells k)) ≡ none) e goes) good.genuine st).stores

      tells-turn : (l : List ℕ) → l ≡ h.work → TellPromise L h.rec area l x → first_cause (tell_causes L h.rec (tell_lengths area l)) ≡ none →
          x.answer ≡ Ok (record { place = (get_or plan st.since (0, 0)).0; byte = (get_or plan st.since (0, 0)).1 })
      tells-turn l e promise goes =
          (subst (λ (k : List ℕ). TellPromise L h.rec area k x) e promise).exact
          (subst (λ (k : List ℕ). first_cause (tell_causes L h.rec (tell_lengths area k)) ≡ none) e goes) st

      told-from : area' ≡ on_device area (telling x.answer)
      told-from =
          stores work' (own' is-pending) q step-goes ∙ stored_next st.before plan st.since st.some_left
          ∙ ap (λ (l : List ℕ). set l (get_or plan st.since (0, 0)).0 (get_or plan st.since (0, 0)).1) (sym st.area-now)
          ∙ ap (λ (y : TellAnswer). on_device area (telling y)) (sym (tells-turn work (own is-pending) p no-cause))

    pub told-stored : area' ≡ on_device area (telling x.answer)
    told-stored = told-from (started good.phase)

module _ (E : Editions) (L : Layout) (n s : ℕ) where
  told-then :
      {w x : World} {l k : Lengths} {told a : Answer} (b : Book) (t : ℕ) → Asked w tells l told → accepted told ≡ true →
      Moves n s w (called steps k a) x → Inv E L n s w b t → x.area ≡ on_device w.area told
  unfolding HeldGood
  told-then b t (tell {area} {work} {h} {m} {a = y} own p) took (step {area' = area'} {cells' = cells'} {work = work'} {a = a} own' q) inv =
      told-stored E L n s area area' cells' work work' h m b y a own
      (held-promise E L n s area m b h inv.held (λ (K : Layout). TellPromise K h.rec area work y) p) took own'
      (held-promise E L n s area m b h inv.held (λ (K : Layout). StepPromise K h.rec area area' h.cells cells' work' a) q) inv.held

pub device-for : (L : Layout) → DeviceFor L
device-for L n s area₀ area ab f es w x run l k told a asked took moved =
    let (K, kept, agrees) = run-keeps n s (formatted_in L) L fresh_book 0 run (fresh n s L area₀ area ab f) in
    let same = told-then (editions_behind (formatted_in L) es) K n s (book_of es) _ asked took moved kept in
    record {
      same = sym same;
      before = demand-3 L n s area₀ area ab f es w run;
      after =
          subst (λ (d : List ℕ). Demand3Of L n s (record { area = d; held = x.held; cells = x.cells }) (es ++ called steps k a ∷ [])) same
          (demand-3 L n s area₀ area ab f (es ++ called steps k a ∷ []) x (one_more run moved));
    }

-- A device that gets each byte as it is told recovers as the store does that was cut on one side of the step.
pub device : DeviceClaim
device L = device-for L
