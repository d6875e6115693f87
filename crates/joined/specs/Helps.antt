-- 02, R-7, over runs with demand 3's premises, so in stores that are switched or not, with logs of one edition or both (R-13): where a
-- write was refused with 12 and two slots are named to be joined, their cleaning is accepted, and after its last step so is the same write.
-- And where none are named, no two log slots can be cleaned into one head.
use Rattle.std.specs.Prelude.{ℕ, ◌≤◌, ◌<◌, ◌≡◌, true, List, Ok}
use Rattle.std.proofs.Math.Option.{some}
use Rattle.word.specs.Number.{Bytes}
use Rattle.segment.specs.Layout.{Layout, number_of_layout}
use Rattle.segment.specs.declared.Key.{Key}
use Rattle.slot_map.specs.Bit.{named}
use Rattle.record.specs.Answers.{refusal}
use Rattle.record.specs.Pairs.{none_said}
use Rattle.record.specs.declared.Pending.TheVariants.{Idle}
use Rattle.model.specs.Operations.{write, clean}
use Rattle.model.specs.Refused.{Lengths, Terms}
use Rattle.model.specs.Promises.{FormatPromise}
use Rattle.model.specs.Joining.{pair_of}
use Rattle.history.specs.Book.{joins, starts, steps, asks, Answer, saying, pairing, Event, called, accepted}
use Rattle.history.specs.Runs.{Held, World, fresh_world, Moves, Run}

-- Steps alone, one after the other.
pub data Stepping (n s : ℕ) : World → World → Type 0 where
  halt : {w : World} → Stepping n s w w
  then : {w x y : World} {lent : Lengths} {a : Answer} → Moves n s w (called steps lent a) x → Stepping n s x y → Stepping n s w y

-- the last step of what was pending is made
abbrev pub NonePending : World → Type 0
NonePending w = (h : Held) → w.held ≡ some h → h.rec.pending ≡ Idle

-- "the digest number is at most 4,294,967,293": the cleaning takes one, and the write may take another
abbrev pub NumbersLeft : World → Type 0
NumbersLeft w = (h : Held) → w.held ≡ some h → h.rec.digest.0 ≤ 4294967293

-- A write is refused with 12, and right there two slots are named.
pub record Named (n s : ℕ) (w : World) (t : Terms) (k : Key) (value : List ℕ) : Type 0 where
  pub lent : Lengths
  pub answer : Answer
  pub behind : World
  pub wrote : Moves n s w (called (starts t (write k value)) lent answer) behind
  pub met-12 : answer.said.refused ≡ 12
  pub lent' : Lengths
  pub answer' : Answer
  pub now : World
  pub asked : Moves n s behind (called (asks joins) lent' answer') now
  pub first : ℕ
  pub second : ℕ
  pub names : answer' ≡ pairing (record { refused = 0; first = first; second = second })

-- "after cleaning that pair the same write, with no other call between, is accepted". The work buffers lent are long enough.
pub record Helps (n s : ℕ) (w : World) (t : Terms) (k : Key) (value : List ℕ) (d : Named n s w t k value) : Type 0 where
  pub cleans :
      (q : Terms) (lent : Lengths) (a : Answer) (x : World) → s ≤ lent.work →
      Moves n s d.now (called (starts q (clean (pair_of d.first d.second))) lent a) x → accepted a ≡ true
  pub writes :
      (q : Terms) (lent : Lengths) (a : Answer) (x : World) → s ≤ lent.work →
      Moves n s d.now (called (starts q (clean (pair_of d.first d.second))) lent a) x → (y : World) → Stepping n s x y →
      NonePending y → (lent' : Lengths) (a' : Answer) (z : World) → s ≤ lent'.work →
      Moves n s y (called (starts t (write k value)) lent' a') z → accepted a' ≡ true

abbrev pub JoinHelps : Layout → Type 0
JoinHelps L =
    (n s : ℕ) (area₀ area : List ℕ) → Bytes area₀ → FormatPromise (number_of_layout L) n s area₀ area (Ok tt) → (es : List Event) (w : World) →
    Run n s (fresh_world area) es w → (t : Terms) (k : Key) (value : List ℕ) (d : Named n s w t k value) → NumbersLeft w →
    Helps n s w t k value d

-- both are slots of the log
abbrev pub LogSlots : World → ℕ → ℕ → Type 0
LogSlots w i j = (h : Held) → w.held ≡ some h → (named h.rec.map i ≡ true) × (named h.rec.map j ≡ true)

-- 23 and no other way: a cleaning of any two log slots is then refused with 14.
abbrev pub NoJoin : Layout → Type 0
NoJoin L =
    (n s : ℕ) (area₀ area : List ℕ) → Bytes area₀ → FormatPromise (number_of_layout L) n s area₀ area (Ok tt) → (es : List Event) (w : World) →
    Run n s (fresh_world area) es w → (lent : Lengths) (a : Answer) (x : World) → Moves n s w (called (asks joins) lent a) x →
    a ≡ pairing (none_said 23) → (i j : ℕ) → i < j → j < n → LogSlots w i j → (q : Terms) (lent' : Lengths) (a' : Answer) (y : World) →
    s ≤ lent'.work → Moves n s x (called (starts q (clean (pair_of i j))) lent' a') y → a' ≡ saying (refusal 14)
