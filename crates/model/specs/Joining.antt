-- 02, R-7: which two slots of the log to join, so that one new head takes over what is kept of both.
use Rattle.std.specs.Prelude.{ℕ, zero, suc, ◌+◌, ◌^◌, ◌≡◌, Bool, true, false, not, List, [], ◌∷◌, ltb, Ok, Err}
use Rattle.std.proofs.Math.Option.{Option, none, some}
use Rattle.segment.specs.Choice.{pick, both, is_none}
use Rattle.segment.specs.Layout.{Layout}
use Rattle.slot_map.specs.Bit.{named}
use Rattle.record.specs.Pairs.{PairSaid, none_said, join_said}
use Rattle.record.specs.Switch.{new_layout}
use Rattle.record.specs.Refusals.{number_of_refusal}
use Rattle.record.specs.Answered.{Joined, JoinAnswer}
use Rattle.record.specs.declared.Record.{Record}
use Rattle.record.specs.declared.Refusal.{Refusal}
use Rattle.record.specs.declared.Refusal.TheVariants.{BadRecord, Busy, NoPair}
use Rattle.model.specs.Log.{Placed}
use Rattle.model.specs.Causes.{Cause, when, first_cause}
use Rattle.model.specs.Operations.{log_now}
use Rattle.model.specs.Refused.{Lengths, record_bad, is_pending, kept_too_long, kept_length}
use Rattle.model.specs.Promises.{Genuine, Settled, read_lengths}

-- ---- the pair

-- two slots as the victims of one cleaning
abbrev pub pair_of : ℕ → ℕ → ℕ
pair_of i j = 2 ^ i + 2 ^ j

-- Both are slots of the log, and what a cleaning of exactly these two keeps fits one new head, by 14's own test. The head may be one
-- of them.
unfoldable pub join_fits : Record → List Placed → ℕ → ℕ → Bool
join_fits r log i j = both (both (named r.map i) (named r.map j)) (not (kept_too_long r (kept_length (new_layout r) log (pair_of i j))))

-- the first of two that is there
unfoldable pub or_else : {A : Type 0} → Option A → Option A → Option A
or_else none b = b
or_else (some a) b = some a

-- what the lowest number below n gives that gives anything
unfoldable pub first_of : {A : Type 0} → (ℕ → Option A) → ℕ → Option A
first_of f zero = none
first_of f (suc n) = or_else (first_of f n) (f n)

-- the lowest number below n that a test picks
abbrev pub lowest : (ℕ → Bool) → ℕ → Option ℕ
lowest p n = first_of (λ k. pick (p k) (some k) none) n

-- Two slots, the lower one first.
pub record SlotPair : Type 0 where
  pub first : ℕ
  pub second : ℕ

-- the lowest slot above i, and below n, that can be joined with it
abbrev pub partner_of : (ℕ → ℕ → Bool) → ℕ → ℕ → Option ℕ
partner_of fits n i = lowest (λ j. both (ltb i j) (fits i j)) n

unfoldable pub pair_with : ℕ → Option ℕ → Option SlotPair
pair_with i none = none
pair_with i (some j) = some (record { first = i; second = j })

-- The lower slot of the pair decides first: the lowest slot that has a partner, with the lowest one that it has.
abbrev pub lowest_pair : (ℕ → ℕ → Bool) → ℕ → Option SlotPair
lowest_pair fits n = first_of (λ i. pair_with i (partner_of fits n i)) n

-- The lowest pair of log slots that one new head can take over.
abbrev pub join_pair : Record → List Placed → Option SlotPair
join_pair r log = lowest_pair (join_fits r log) r.slots

-- ---- the causes, in 02's order: 4, 5, 23. The digest number plays no part.

-- what record and lengths decide, without a look at the log
abbrev pub join_early : Layout → Record → Lengths → List Cause
join_early L r l = when (record_bad L r l) BadRecord ∷ when (is_pending r.pending) Busy ∷ []

-- Where there is no such pair, as with fewer than two log slots, 23.
abbrev pub join_causes : Layout → Record → Lengths → Option SlotPair → List Cause
join_causes L r l p = when (record_bad L r l) BadRecord ∷ when (is_pending r.pending) Busy ∷ when (is_none p) NoPair ∷ []

-- ---- what the call promises

unfoldable pub pair_answer : Option SlotPair → JoinAnswer
pair_answer none = Ok (record { first = 0; second = 0 })
pair_answer (some p) = Ok (record { first = p.first; second = p.second })

unfoldable pub join_answer : Option Refusal → Option SlotPair → JoinAnswer
join_answer none p = pair_answer p
join_answer (some c) p = Err c

-- and what that says
unfoldable pub pair_said : Option SlotPair → PairSaid
pair_said none = none_said 0
pair_said (some p) = record { refused = 0; first = p.first; second = p.second }

unfoldable pub pair_said_by : Option Refusal → Option SlotPair → PairSaid
pair_said_by none p = pair_said p
pair_said_by (some c) p = none_said (number_of_refusal c)

-- The pair, or 4, 5 or 23; the record is handed back. A record that fails the tests of range and length, and one with a pending
-- operation, are refused whatever the log holds.
pub record JoinPromise (L : Layout) (r : Record) (area cells : List ℕ) (a : Joined) : Type 0 where
  pub hands-back : a.rec ≡ r
  pub early : (c : Refusal) → first_cause (join_early L r (read_lengths area cells)) ≡ some c → a.answer ≡ Err c
  pub exact :
      Genuine L area r cells → a.answer ≡
      join_answer (first_cause (join_causes L r (read_lengths area cells) (join_pair r (log_now area r)))) (join_pair r (log_now area r))
  pub says :
      Settled L area r cells (join_early L r (read_lengths area cells)) → join_said a.answer ≡
      pair_said_by (first_cause (join_causes L r (read_lengths area cells) (join_pair r (log_now area r)))) (join_pair r (log_now area r))
