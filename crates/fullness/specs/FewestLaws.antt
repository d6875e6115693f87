-- Why going down through the slots finds the lowest of those with the fewest bytes.
use Rattle.std.specs.Prelude.{ℕ, zero, suc, ◌+◌, ◌-◌, ◌*◌, ◌≤◌, ◌<◌, ◌≡◌, Bool, not, List, [], ◌∷◌, ◌⊎◌, get_or, Ok, Err}
use Rattle.std.proofs.Math.Path.{refl, sym}
use Rattle.std.proofs.Common.{ap, subst, ◌∙◌, inl, inr, arith}
use Rattle.std.proofs.Math.Bool.{true, false}
use Rattle.std.proofs.Math.Option.{Option, none, some}
use Rattle.std.proofs.Math.Decide.{ℕ_discrete, dec_lt}
use Rattle.std.proofs.Math.Dec.{leb}
use borrow.Author.Tests.{leb-true, leb-false, le-leb, lt-leb, eq-eqb}
use Rattle.segment.specs.Choice.{pick, both, either}
use Rattle.segment.proofs.Choice.{pick_true, pick-false, both_left, both_right, both_true, both-false-left, both-false-right, either-true-left, either-true-right}
use Rattle.segment.specs.Layout.{Layout}
use Rattle.slot_map.specs.Bit.{named}
use Rattle.record.specs.Answers.{taken, said_by, told_by, fewest_said, fewest_told}
use Rattle.record.specs.Range.{in_range, lengths_own, fits_lent}
use Rattle.record.specs.RangeLaws.{Lent, lent}
use Rattle.record.specs.declared.Record.{Record}
use Rattle.record.specs.Answered.{Fewest, FewestAnswer}
use Rattle.record.specs.declared.Refusal.{Refusal}
use Rattle.record.specs.declared.Refusal.TheVariants.{BadRecord}
use Rattle.model.specs.Causes.{first_cause}
use Rattle.model.specs.Fewest.{none_below, has_fewest, lowest_from, fewest_slot, fewest_causes, fewest_answer, FewestPromise}

-- the code's choice between slot i and the slot held so far
unfoldable pub fewer : ℕ → List ℕ → ℕ → ℕ → ℕ
fewer map counts i held = pick (both (named map i) (leb (get_or counts i 0) (get_or counts held 0))) i held

module _ (map : ℕ) (counts : List ℕ) (i held : ℕ) where
  pub not_named : named map i ≡ false → held ≡ fewer map counts i held
  unfolding fewer
  not_named e = sym (pick-false _ _ _ (both-false-left _ _ e))

  pub more_bytes : get_or counts held 0 < get_or counts i 0 → held ≡ fewer map counts i held
  unfolding fewer
  more_bytes h = sym (pick-false _ _ _ (both-false-right _ _ (lt-leb (get_or counts i 0) (get_or counts held 0) h)))

  pub no_more : named map i ≡ true → get_or counts i 0 ≤ get_or counts held 0 → i ≡ fewer map counts i held
  unfolding fewer
  no_more e h = sym (pick_true _ _ _ (both_true _ _ e (le-leb (get_or counts i 0) (get_or counts held 0) h)))

-- Of the slots from i on, the slot held has the fewest bytes, and no lower one of them as few.
pub record Held (n map : ℕ) (counts : List ℕ) (i held : ℕ) : Type 0 where
  pub in-log : named map held ≡ true
  pub slot : held < n
  pub few : (j : ℕ) → i ≤ j → j < n → named map j ≡ true → get_or counts held 0 ≤ get_or counts j 0
  pub low : (j : ℕ) → i ≤ j → j < n → named map j ≡ true → get_or counts j 0 ≤ get_or counts held 0 → held ≤ j

unequal : {T : Type 0} → true ≡ false → T
unequal e = let z : ◌≡◌ {A = ℕ} 0 1 = cc in absurd (omega arith)

pub held_first : {n map held : ℕ} {counts : List ℕ} → named map held ≡ true → held < n → Held n map counts n held
held_first e h =
    record { in-log = e; slot = h; few = λ j a b. absurd (omega arith); low = λ j a b. absurd (omega arith) }

module _ (n map : ℕ) (counts : List ℕ) (i held : ℕ) (below : i < n) (h : Held n map counts (i + 1) held) where
  at-or-above : {T : Type 0} {j : ℕ} → i ≤ j → (i ≡ j → T) → (i + 1 ≤ j → T) → T
  at-or-above {T} {j} a at above = go (ℕ_discrete i j)
    where
      go : Dec (i ≡ j) → T
      go (yes e) = at e
      go (no e) = above (omega arith)

  taken-turn : named map i ≡ true → get_or counts i 0 ≤ get_or counts held 0 → Held n map counts i i
  taken-turn e less =
      record {
        in-log = e;
        slot = below;
        few =
            λ j a b m.
            at-or-above a (λ q. let z : get_or counts i 0 ≡ get_or counts j 0 = ap (λ (k : ℕ). get_or counts k 0) q in omega arith)
            (λ c. omega (arith, h.few j c b m));
        low = λ j a b m s. a;
      }

  left-turn : (named map i ≡ true → get_or counts held 0 < get_or counts i 0) → Held n map counts i held
  left-turn more =
      record {
        in-log = h.in-log;
        slot = h.slot;
        few =
            λ j a b m.
            at-or-above a
            (λ q. let z : get_or counts i 0 ≡ get_or counts j 0 = ap (λ (k : ℕ). get_or counts k 0) q in omega (arith, more (ap (named map) q ∙ m)))
            (λ c. h.few j c b m);
        low =
            λ j a b m s.
            at-or-above a
            (λ q. let z : get_or counts i 0 ≡ get_or counts j 0 = ap (λ (k : ℕ). get_or counts k 0) q in absurd (omega (arith, more (ap (named map) q ∙ m))))
            (λ c. h.low j c b m s);
      }

  pub held-turn : Held n map counts i (fewer map counts i held)
  unfolding fewer pick both
  held-turn = go (named map i) (leb (get_or counts i 0) (get_or counts held 0)) refl refl
    where
      go : (t u : Bool) → named map i ≡ t → leb (get_or counts i 0) (get_or counts held 0) ≡ u → Held n map counts i (pick (both t u) i held)
      go true true e f = taken-turn e (leb-true (get_or counts i 0) (get_or counts held 0) f)
      go true false e f = left-turn (λ m. leb-false (get_or counts i 0) (get_or counts held 0) f)
      go false u e f = left-turn (λ m. unequal (sym m ∙ e))

-- a turn in the code's terms
pub held-again : (n map : ℕ) (counts : List ℕ) (i held held' : ℕ) → 0 < i → i ≤ n → Held n map counts i held → held' ≡ fewer map counts (i - 1) held
    → Held n map counts (i - 1) held'
held-again n map counts i held held' low high h e =
    subst (Held n map counts (i - 1)) (sym e)
    (held-turn n map counts (i - 1) held (omega arith) (subst (λ (k : ℕ). Held n map counts k held) (omega arith) h))

-- ---- the slot held at the end is the one that the definition picks

none_below_lem : (map : ℕ) (counts : List ℕ) (b n : ℕ) → ((j : ℕ) → j < n → named map j ≡ true → b ≤ get_or counts j 0) → none_below map counts b n ≡ true
unfolding none_below
none_below_lem map counts b zero f = refl
none_below_lem map counts b (suc n) f =
    both_true _ _ (go (named map n) refl) (none_below_lem map counts b n (λ j l m. f j (omega arith) m))
  where
    go : (t : Bool) → named map n ≡ t → either (not t) (leb b (get_or counts n 0)) ≡ true
    go true e = either-true-right _ _ (le-leb b (get_or counts n 0) (f n (omega arith) e))
    go false e = either-true-left _ _ refl

below_none : (map : ℕ) (counts : List ℕ) (b n : ℕ) → none_below map counts b n ≡ true → (j : ℕ) → j < n → named map j ≡ true → b ≤ get_or counts j 0
unfolding none_below either
below_none map counts b zero e j l m = absurd (omega arith)
below_none map counts b (suc n) e j l m = go (ℕ_discrete j n) (λ h. below_none map counts b n (both_right _ _ e) j h m)
  where
    this : (t : Bool) → t ≡ true → either (not t) (leb b (get_or counts n 0)) ≡ true → b ≤ get_or counts n 0
    this true q f = leb-true b (get_or counts n 0) f
    this false q f = unequal (sym q)

    go : Dec (j ≡ n) → (j < n → b ≤ get_or counts j 0) → b ≤ get_or counts j 0
    go (yes q) ih =
        let z : get_or counts j 0 ≡ get_or counts n 0 = ap (λ (k : ℕ). get_or counts k 0) q in
        omega (arith, this (named map n) (ap (named map) (sym q) ∙ m) (both_left _ _ e))
    go (no q) ih = ih (omega arith)

lowest-is : (test : ℕ → Bool) (best i k : ℕ) → test best ≡ true → ((j : ℕ) → j < best → test j ≡ false) → i ≤ best → best < i + k → lowest_from test i k ≡ best
unfolding lowest_from
lowest-is test best i zero t f a b = absurd (omega arith)
lowest-is test best i (suc k) t f a b = go (ℕ_discrete i best) (λ h. lowest-is test best (suc i) k t f h (omega arith))
  where
    go : Dec (i ≡ best) → (suc i ≤ best → lowest_from test (suc i) k ≡ best) → pick (test i) i (lowest_from test (suc i) k) ≡ best
    go (yes q) ih = pick_true (test i) _ _ (ap test q ∙ t) ∙ q
    go (no q) ih = pick-false (test i) _ _ (f i (omega arith)) ∙ ih (omega arith)

pub held-lowest : (n map : ℕ) (counts : List ℕ) (held : ℕ) → Held n map counts 0 held → held ≡ lowest_from (has_fewest n map counts) 0 n
held-lowest n map counts held h =
    sym (lowest-is (has_fewest n map counts) held 0 n this (λ j l. others j l (has_fewest n map counts j) refl) (omega arith) (omega (arith, h.slot)))
  where
    this : has_fewest n map counts held ≡ true
    this = both_true _ _ h.in-log (none_below_lem map counts (get_or counts held 0) n (λ j l m. h.few j (omega arith) l m))

    others : (j : ℕ) → j < held → (t : Bool) → has_fewest n map counts j ≡ t → has_fewest n map counts j ≡ false
    others j l true e =
        let m = both_left _ _ e in
        let s = below_none map counts (get_or counts j 0) n (both_right _ _ e) held h.slot h.in-log in
        absurd (omega (arith, h.low j (omega arith) (omega (arith, h.slot)) m s))
    others j l false e = e

pub held-last : (n map : ℕ) (counts : List ℕ) (i held : ℕ) → i ≤ 0 → Held n map counts i held → held ≡ lowest_from (has_fewest n map counts) 0 n
held-last n map counts i held l h = held-lowest n map counts held (subst (λ (k : ℕ). Held n map counts k held) (omega arith) h)

-- ---- the whole call

-- a record in range fits an area and an index of its own lengths
pub own-lengths : (L : Layout) (r : Record) → in_range L r ≡ true → Lent L r (r.slots * r.size) r.cells
unfolding fits_lent lengths_own
own-lengths L r e =
    lent L r (r.slots * r.size) r.cells
    (both_true _ _ e (both_true _ _ (eq-eqb (r.slots * r.size) (r.slots * r.size) refl) (eq-eqb r.cells r.cells refl)))

refused : (L : Layout) (r : Record) → in_range L r ≡ false → first_cause (fewest_causes L r) ≡ some BadRecord
unfolding first_cause
refused L r e = pick_true (not (in_range L r)) _ _ (ap not e)

accepted : (L : Layout) (r : Record) → in_range L r ≡ true → first_cause (fewest_causes L r) ≡ none
unfolding first_cause
accepted L r e = pick-false (not (in_range L r)) _ _ (ap not e)

pub refused-promise : (L : Layout) (r : Record) → in_range L r ≡ false → FewestPromise L r (record { answer = Err BadRecord; rec = r })
unfolding fewest_answer said_by told_by
refused-promise L r e =
    record {
      hands-back = refl;
      answers = rw (refused L r e);
      says = rw (refused L r e);
      tells = rw (refused L r e);
    }

pub told-promise : (L : Layout) (r : Record) (slot : ℕ) → in_range L r ≡ true → slot ≡ fewest_slot r
    → FewestPromise L r (record { answer = Ok slot; rec = r })
unfolding fewest_answer said_by told_by
told-promise L r slot e q =
    record {
      hands-back = refl;
      answers = rw (accepted L r e) (ap (λ (i : ℕ). Ok i) q);
      says = rw (accepted L r e);
      tells = rw (accepted L r e) (ap (λ (i : ℕ). i ∷ []) q);
    }
