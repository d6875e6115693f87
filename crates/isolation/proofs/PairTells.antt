-- The next store told in two worlds that differ in hidden values alone: the same refusal, and the same place. The byte may be of a hidden
-- value, and nothing is said of it.
use Rattle.std.specs.Prelude.{Ok}
use Prim.Native.Nat.{ℕ, zero, suc, ◌+◌, ◌*◌}
use native.Mathlib.Omega.{arith}
use mathlib.Core.Path.{◌≡◌, refl, sym, ap, ◌∙◌, subst, subst⁻¹}
use mathlib.Core.Bool.{Bool, true}
use mathlib.Core.List.{List, [], ◌∷◌, ◌++◌}
use mathlib.Core.Option.{Option, none, some}
use lib.Dec.{ltb}
use lib.ListN.{length, get_or, drop, length-drop}
use Rattle.segment.specs.Choice.{pick}
use Rattle.segment.specs.Layout.{Layout}
use Rattle.record.specs.Answers.{taken}
use Rattle.record.specs.Answered.{Foretold, TellAnswer}
use Rattle.record.specs.declared.Pending.{Pending}
use Rattle.record.specs.declared.Pending.TheVariants.{Idle, Append, NewHead, Clean, Forget}
use Rattle.record.specs.declared.Record.{Record}
use Rattle.record.specs.declared.Refusal.{Refusal}
use Rattle.model.specs.Log.{Placed}
use Rattle.model.specs.Causes.{first_cause}
use Rattle.model.specs.Operations.{stores_from, commit, plan_of, plan_for, laid, log_now}
use Rattle.model.specs.Refused.{Lengths, is_pending, tell_causes}
use Rattle.model.specs.Promises.{tell_lengths, TellPromise}
use Rattle.history.specs.Book.{telling}
use Rattle.history.specs.Runs.{Held}
use Rattle.history.proofs.Tellings.{idle-refused, started-pending}
use Rattle.isolation.specs.Owners.{numbers_of, SameNumbers}
use Rattle.isolation.proofs.HiddenBytes.{hidden_log}
use Rattle.isolation.proofs.Alike.{logs-same}
use Rattle.isolation.proofs.Operations.{pending-same, long_same}
use Rattle.isolation.proofs.Pair.{half-started, Running, Together, resting, running, HeldPair}

-- ---- the places of a plan's stores go by the number of bytes alone

unfoldable places : List (ℕ × ℕ) → List ℕ
places [] = []
places (x ∷ plan) = x.0 ∷ places plan

place_at : (plan : List (ℕ × ℕ)) (k : ℕ) → (get_or plan k (0, 0)).0 ≡ get_or (places plan) k 0
unfolding places
place_at [] k = refl
place_at (x ∷ plan) zero = refl
place_at (x ∷ plan) (suc k) = place_at plan k

places-append : (a b : List (ℕ × ℕ)) → places (a ++ b) ≡ places a ++ places b
unfolding places
places-append [] b = refl
places-append (x ∷ a) b = ap (λ (l : List ℕ). x.0 ∷ l) (places-append a b)

places-from : (p : ℕ) (b c : List ℕ) → length b ≡ length c → places (stores_from p b) ≡ places (stores_from p c)
unfolding places stores_from
places-from p [] [] e = refl
places-from p (x ∷ b) (y ∷ c) e = ap (λ (l : List ℕ). p ∷ l) (places-from (p + 1) b c (omega arith))
places-from p [] (y ∷ c) e = absurd (omega arith)
places-from p (x ∷ b) [] e = absurd (omega arith)

commit-places : (S i at : ℕ) (b c : List ℕ) → length b ≡ length c → places (commit S i at b) ≡ places (commit S i at c)
commit-places S i at b c e =
    shape b ∙ ap (λ (l : List ℕ). l ++ places (ending (length b)) ++ (i * S + at) ∷ []) bodies
    ∙ ap (λ (n : ℕ). places (stores_from (i * S + at + 1) (drop 1 c)) ++ places (ending n) ++ (i * S + at) ∷ []) e
    ∙ sym (shape c)
  where
    ending : ℕ → List (ℕ × ℕ)
    ending n = pick (ltb (at + n) S) ((i * S + at + n, 0) ∷ []) []

    bodies : places (stores_from (i * S + at + 1) (drop 1 b)) ≡ places (stores_from (i * S + at + 1) (drop 1 c))
    bodies = places-from (i * S + at + 1) (drop 1 b) (drop 1 c) (omega (arith, length-drop 1 b, length-drop 1 c))

    last : (x : ℕ) → places ((i * S + at, x) ∷ []) ≡ (i * S + at) ∷ []
    last x = unfold places in refl

    shape : (l : List ℕ) →
        places (commit S i at l) ≡ places (stores_from (i * S + at + 1) (drop 1 l)) ++ places (ending (length l)) ++ (i * S + at) ∷ []
    shape l =
        places-append (stores_from (i * S + at + 1) (drop 1 l) ++ ending (length l)) ((i * S + at, get_or l 0 0) ∷ [])
        ∙ ap (λ (k : List ℕ). k ++ places ((i * S + at, get_or l 0 0) ∷ [])) (places-append (stores_from (i * S + at + 1) (drop 1 l)) (ending (length l)))
        ∙ ap (λ (k : List ℕ). places (stores_from (i * S + at + 1) (drop 1 l)) ++ places (ending (length l)) ++ k) (last (get_or l 0 0))

plan-places : (r : Record) (p : Pending) (b c : List ℕ) → length b ≡ length c → places (plan_of r p b) ≡ places (plan_of r p c)
unfolding plan_of places
plan-places r Idle b c e = refl
plan-places r (Append n k) b c e = commit-places r.size r.head r.end b c e
plan-places r (NewHead i n k) b c e = ap (λ (l : List ℕ). i * r.size ∷ l) (commit-places r.size i 0 b c e)
plan-places r (Clean i v n k) b c e = ap (λ (l : List ℕ). i * r.size ∷ l) (commit-places r.size i 0 b c e)
plan-places r (Forget i v n k) b c e = ap (λ (l : List ℕ). i * r.size ∷ l) (commit-places r.size i 0 b c e)

-- ---- two worlds

module _ (of : ℕ → Bool) (L : Layout) (area area' work work' : List ℕ) (h h' : Held) (a a' : Foretold) (held : HeldPair of L area area' h h')
    (lent : tell_lengths area work ≡ tell_lengths area' work') (own : is_pending h.rec.pending ≡ true → work ≡ h.work)
    (own' : is_pending h'.rec.pending ≡ true → work' ≡ h'.work) (p : TellPromise L h.rec area work a)
    (promise : TellPromise L h'.rec area' work' a')
  where
    p' : TellPromise L h.rec area' work' a'
    p' = subst⁻¹ (λ (r : Record). TellPromise L r area' work' a') held.rec-same promise

    abbrev cause : Option Refusal
    cause = first_cause (tell_causes L h.rec (tell_lengths area work))

    cause' : (c : Option Refusal) → cause ≡ c → first_cause (tell_causes L h.rec (tell_lengths area' work')) ≡ c
    cause' c e = ap (λ (l : Lengths). first_cause (tell_causes L h.rec l)) (sym lent) ∙ e

    abbrev Goal : Type 0
    Goal = SameNumbers (telling a.answer) (telling a'.answer)

    -- both are told a store at one place
    at_place : (place q byte byte' : ℕ) → a.answer ≡ Ok (record { place = place; byte = byte }) → a'.answer ≡ Ok (record { place = q; byte = byte' }) → place ≡ q → Goal
    at_place place q byte byte' e e' same =
        ap (λ (x : TellAnswer). numbers_of (telling x)) e ∙ ap (λ (k : ℕ). record { said = taken; value = []; place = k }) same
        ∙ sym (ap (λ (x : TellAnswer). numbers_of (telling x)) e')

    module _ (x : Running of L area area' h.rec h.work h'.work) (goes : cause ≡ none) where
      abbrev log : List Placed
      log = log_now x.before x.idle

      abbrev log' : List Placed
      log' = log_now x.before' x.idle

      logs : hidden_log of log ≡ hidden_log of log'
      logs = logs-same of x.idle x.before x.before' x.alike

      same-places : places (plan_for L x.idle log x.operation) ≡ places (plan_for L x.idle log' x.operation')
      same-places =
          plan-places x.idle ((laid L x.idle log x.operation).pending 0) (laid L x.idle log x.operation).bytes
          (laid L x.idle log' x.operation').bytes (long_same of of L x.idle log log' x.operation x.operation' logs x.same)
          ∙ ap (λ (q : Pending). places (plan_of x.idle q (laid L x.idle log' x.operation').bytes))
          (pending-same of of L x.idle log log' x.operation x.operation' logs x.same 0)

      turn :
          (get_or (plan_for L x.idle log x.operation) x.since (0, 0)).0 ≡ (get_or (plan_for L x.idle log' x.operation') x.since (0, 0)).0
      turn =
          place_at (plan_for L x.idle log x.operation) x.since ∙ ap (λ (l : List ℕ). get_or l x.since 0) same-places
          ∙ sym (place_at (plan_for L x.idle log' x.operation') x.since)

      is-pending : is_pending h.rec.pending ≡ true
      is-pending = started-pending L area h.rec h.work (half-started x.one)

      running-both : Goal
      running-both =
          at_place _ _ _ _
          ((subst (λ (l : List ℕ). TellPromise L h.rec area l a) same-work p).exact
          (subst (λ (l : List ℕ). first_cause (tell_causes L h.rec (tell_lengths area l)) ≡ none) same-work goes) (half-started x.one))
          ((subst (λ (l : List ℕ). TellPromise L h.rec area' l a') same-work' p').exact
          (subst (λ (l : List ℕ). first_cause (tell_causes L h.rec (tell_lengths area' l)) ≡ none) same-work' (cause' none goes)) (half-started x.other))
          turn
        where
          same-work : work ≡ h.work
          same-work = own is-pending

          same-work' : work' ≡ h'.work
          same-work' = own' (subst (λ (r : Record). is_pending r.pending ≡ true) held.rec-same is-pending)

    -- The same refusal, and the same place.
    pub tell-both : Goal
    tell-both = go cause refl
      where
        by-phase : cause ≡ none → Together of L area area' h.rec h.work h'.work → Goal
        by-phase e (resting q) =
            let c = idle-refused L h.rec (tell_lengths area work) (ap is_pending q ∙ (unfold is_pending in refl)) in
            let w : ◌≡◌ {A = Option Refusal} (some c.0) none = sym c.1 ∙ e in
            let z : ◌≡◌ {A = ℕ} 0 1 = cc in
            absurd (omega arith)
        by-phase e (running x) = running-both x e

        go : (c : Option Refusal) → cause ≡ c → Goal
        go (some c) e =
            ap (λ (x : TellAnswer). numbers_of (telling x)) (p.refused c e ∙ sym (p'.refused c (cause' (some c) e)))
        go none e = by-phase e held.phase
