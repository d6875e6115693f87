-- What an answer says in 01's numbers, from the answer itself: one law for each call.
use Rattle.std.specs.Prelude.{ℕ, zero, suc, ◌≡◌, refl, List, [], Err}
use Rattle.std.proofs.Common.{sym, ap, ◌∙◌, inl, inr}
use Rattle.std.proofs.Math.Option.{Option, none, some}
use Rattle.segment.specs.Layout.{Layout}
use Rattle.segment.specs.declared.Key.{Key}
use Rattle.record.specs.Answers.{taken, taken_with, said_by, format_said, recover_said, read_said, start_said, step_said}
use Rattle.record.specs.Answered.{ReadAnswer, Recovery, Start}
use Rattle.record.specs.declared.Refusal.{Refusal}
use Rattle.record.specs.declared.Record.{Record}
use Rattle.record.specs.declared.Tables.{Tables}
use Rattle.model.specs.Log.{Placed, present}
use Rattle.model.specs.Causes.{first_cause}
use Rattle.model.specs.Recovery.{record_from, recover_causes, recovery_for, recovery}
use Rattle.model.specs.Operations.{Operation, log_now, stores_for}
use Rattle.model.specs.Refused.{Terms, reach_causes, read_causes, early_causes, start_causes}
use Rattle.model.specs.Promises.{Genuine, Settled, format_answer, present_answer, read_answer, object_said, read_lengths, Begun, begun, lent_lengths, stepped, step_says}
use Rattle.laws.specs.Starts.{start-early, read-early}

pub format-says : (c : Option Refusal) → format_said (format_answer c) ≡ said_by c taken
unfolding format_answer said_by
format-says none = refl
format-says (some c) = refl

given-says : (c : Option Refusal) (r : Record) → recover_said (recovery_for c r).answer ≡ said_by c taken
unfolding recovery_for said_by
given-says none r = refl
given-says (some c) r = refl

pub recover-says :
    (L : Layout) (n s m : ℕ) (order area : List ℕ) (r : Recovery) → r ≡ recovery L n s m order area →
    recover_said r.answer ≡ said_by (first_cause (recover_causes L n s m order area)) taken
unfolding recovery
recover-says L n s m order area r e =
    ap (λ (x : Recovery). recover_said x.answer) e ∙ given-says (first_cause (recover_causes L n s m order area)) (record_from L n s m area)

pub read-says : (L : Layout) (c : Option Refusal) (x : Option Placed) → read_said (read_answer c x) ≡ said_by c (object_said x)
unfolding read_answer present_answer object_said said_by
read-says L none none = refl
read-says L none (some x) = refl
read-says L (some c) x = refl

pub start-says :
    (L : Layout) (r : Record) (log : List Placed) (o : Operation) (work : List ℕ) (c : Option Refusal) →
    start_said (begun L r log o work c).start.answer ≡ said_by c (taken_with (stores_for L r log o))
unfolding begun said_by
start-says L r log o work none = refl
start-says L r log o work (some c) = refl

pub step-says :
    (L : Layout) (before : List ℕ) (idle : Record) (o : Operation) (k : ℕ) → step_said (stepped L before idle o k).answer ≡ step_says idle o k
unfolding stepped step_says
step-says L before idle o zero = refl
step-says L before idle o (suc k) = refl

-- A read that answers as it must where a first cause holds and on genuine stores says what it must.
pub read-settled :
    (L : Layout) (r : Record) (area cells : List ℕ) (t : Tables) (k : Key) (a : ReadAnswer) →
    ((c : Refusal) → first_cause (reach_causes L r (read_lengths area cells) t k) ≡ some c → a ≡ Err c) →
    (Genuine L area r cells → a ≡
    read_answer (first_cause (read_causes L r (log_now area r) (read_lengths area cells) t k)) (present (log_now area r) k)) →
    Settled L area r cells (reach_causes L r (read_lengths area cells) t k) → read_said a ≡
    said_by (first_cause (read_causes L r (log_now area r) (read_lengths area cells) t k)) (object_said (present (log_now area r) k))
unfolding said_by
read-settled L r area cells t k a early exact (inl (c, e)) =
    ap read_said (early c e) ∙
    sym (ap (λ (x : Option Refusal). said_by x (object_said (present (log_now area r) k))) (read-early L r (log_now area r) (read_lengths area cells) t k c e))
read-settled L r area cells t k a early exact (inr genuine) =
    ap read_said (exact genuine) ∙
    read-says L (first_cause (read_causes L r (log_now area r) (read_lengths area cells) t k)) (present (log_now area r) k)

-- and likewise a start
pub start-settled :
    (L : Layout) (t : Terms) (o : Operation) (r : Record) (area cells work work' : List ℕ) (a : Start) →
    ((c : Refusal) → first_cause (early_causes L r (lent_lengths area cells work) t o) ≡ some c →
    ◌≡◌ {A = Begun} (record { start = a; work = work' }) (begun L r [] o work (some c))) →
    (Genuine L area r cells → ◌≡◌ {A = Begun} (record { start = a; work = work' })
    (begun L r (log_now area r) o work (first_cause (start_causes L r (log_now area r) (lent_lengths area cells work) t o)))) →
    Settled L area r cells (early_causes L r (lent_lengths area cells work) t o) → start_said a.answer ≡
    said_by (first_cause (start_causes L r (log_now area r) (lent_lengths area cells work) t o)) (taken_with (stores_for L r (log_now area r) o))
unfolding said_by begun
start-settled L t o r area cells work work' a early exact (inl (c, e)) =
    ap (λ (b : Begun). start_said b.start.answer) (early c e) ∙
    sym (ap (λ (x : Option Refusal). said_by x (taken_with (stores_for L r (log_now area r) o)))
    (start-early L r (log_now area r) (lent_lengths area cells work) t o c e))
start-settled L t o r area cells work work' a early exact (inr genuine) =
    ap (λ (b : Begun). start_said b.start.answer) (exact genuine) ∙
    start-says L r (log_now area r) o work (first_cause (start_causes L r (log_now area r) (lent_lengths area cells work) t o))
