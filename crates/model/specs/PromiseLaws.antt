-- What the promises leave no freedom in, where a weaker one could pass unnoticed.
use Rattle.std.specs.Prelude.{ℕ, ◌≡◌, refl, true, List, get_or, set}
use Rattle.std.proofs.Common.{sym, ◌∙◌, ap, get_or-set_other}
use Rattle.std.proofs.Math.Option.{none, some}
use Rattle.std.proofs.Math.Decide.{ℕ_discrete}
use Rattle.segment.specs.Layout.{Layout}
use Rattle.segment.specs.declared.Key.{Key}
use Rattle.record.specs.Answers.{format_said, recover_said, read_said, start_said, step_said}
use Rattle.record.specs.Answered.{FormatAnswer, Reading, Recovery, Start, Stepped}
use Rattle.record.specs.declared.Record.{Record}
use Rattle.record.specs.declared.Refusal.{Refusal}
use Rattle.record.specs.declared.Tables.{Tables}
use Rattle.model.specs.Causes.{first_cause}
use Rattle.model.specs.Operations.{Operation}
use Rattle.model.specs.Refused.{Terms, reach_causes, early_causes, step_causes}
use Rattle.model.specs.Promises.{Genuine, Settled, Started, FormatPromise, ReadPromise, read_lengths, Begun, lent_lengths, StartPromise, StepPromise}

-- ---- two answers to the same input, wherever the whole answer is promised, are one, and so is what they leave and what they say

-- Format.
pub record FormatSame (area' area'' : List ℕ) (a b : FormatAnswer) : Type 0 where
  pub answer : a ≡ b
  pub said : format_said a ≡ format_said b
  pub left : area' ≡ area''

pub format-fixed :
    (e n s : ℕ) (area area' area'' : List ℕ) (a b : FormatAnswer) → FormatPromise e n s area area' a →
    FormatPromise e n s area area'' b → FormatSame area' area'' a b
format-fixed e n s area area' area'' a b x y =
    record { answer = x.answers ∙ sym y.answers; said = x.says ∙ sym y.says; left = x.leaves ∙ sym y.leaves }

-- Recovery: its answer and record, whatever the cells.
pub record RecoverSame (r q : Recovery) : Type 0 where
  pub answer : r ≡ q
  pub said : recover_said r.answer ≡ recover_said q.answer

-- Read: the record always, the answer on genuine stores, and what it says also where 4 or 22 is found before any look at the log.
pub record ReadSame (L : Layout) (r : Record) (area cells : List ℕ) (t : Tables) (k : Key) (a b : Reading) : Type 0 where
  pub record_same : a.rec ≡ b.rec
  pub early-same : (c : Refusal) → first_cause (reach_causes L r (read_lengths area cells) t k) ≡ some c → a.answer ≡ b.answer
  pub answer-same : Genuine L area r cells → a.answer ≡ b.answer
  pub said : Settled L area r cells (reach_causes L r (read_lengths area cells) t k) → read_said a.answer ≡ read_said b.answer

pub read-fixed :
    (L : Layout) (r : Record) (area cells : List ℕ) (t : Tables) (k : Key) (a b : Reading) → ReadPromise L r area cells t k a →
    ReadPromise L r area cells t k b → ReadSame L r area cells t k a b
read-fixed L r area cells t k a b x y =
    record {
      record_same = x.hands-back ∙ sym y.hands-back;
      early-same = λ c u. x.early c u ∙ sym (y.early c u);
      answer-same = λ g. x.exact g ∙ sym (y.exact g);
      said = λ g. x.says g ∙ sym (y.says g);
    }

-- A start: its answer, its record and the work buffer.
pub record StartSame (L : Layout) (t : Terms) (o : Operation) (r : Record) (area cells work work' work'' : List ℕ) (a b : Start) : Type 0 where
  pub early-same :
      (c : Refusal) → first_cause (early_causes L r (lent_lengths area cells work) t o) ≡ some c →
      ◌≡◌ {A = Begun} (record { start = a; work = work' }) (record { start = b; work = work'' })
  pub left-same : Genuine L area r cells → ◌≡◌ {A = Begun} (record { start = a; work = work' }) (record { start = b; work = work'' })
  pub said : Settled L area r cells (early_causes L r (lent_lengths area cells work) t o) → start_said a.answer ≡ start_said b.answer

pub start-fixed :
    (L : Layout) (t : Terms) (o : Operation) (r : Record) (area cells work work' work'' : List ℕ) (a b : Start) →
    StartPromise L t o r area cells work work' a → StartPromise L t o r area cells work work'' b →
    StartSame L t o r area cells work work' work'' a b
start-fixed L t o r area cells work work' work'' a b x y =
    record {
      early-same = λ c u. x.early c u ∙ sym (y.early c u);
      left-same = λ g. x.exact g ∙ sym (y.exact g);
      said = λ g. x.says g ∙ sym (y.says g);
    }

-- A step: where a cause holds, and where a started operation goes on.
pub record StepSame (area' area'' : List ℕ) (a b : Stepped) : Type 0 where
  pub answer : a ≡ b
  pub said : step_said a.answer ≡ step_said b.answer
  pub left : area' ≡ area''

pub step-refused-fixed :
    (L : Layout) (r : Record) (area area' area'' cells cells' cells'' work : List ℕ) (a b : Stepped) (c : Refusal) →
    first_cause (step_causes L r (lent_lengths area cells work)) ≡ some c → StepPromise L r area area' cells cells' work a →
    StepPromise L r area area'' cells cells'' work b → StepSame area' area'' a b × (cells' ≡ cells'')
step-refused-fixed L r area area' area'' cells cells' cells'' work a b c e x y =
    let p = x.refused c e in
    let q = y.refused c e in (
      record { answer = p.answers ∙ sym q.answers; said = p.says ∙ sym q.says; left = p.area_same ∙ sym q.area_same },
      p.index_same ∙ sym q.index_same,
    )

pub step-fixed :
    (L : Layout) (r : Record) (area area' area'' cells cells' cells'' work : List ℕ) (a b : Stepped) →
    first_cause (step_causes L r (lent_lengths area cells work)) ≡ none → Genuine L area r cells → Started L area r work →
    StepPromise L r area area' cells cells' work a → StepPromise L r area area'' cells cells'' work b → StepSame area' area'' a b
step-fixed L r area area' area'' cells cells' cells'' work a b e g s x y =
    let p = x.exact e g s in
    let q = y.exact e g s in
    record { answer = p.answers ∙ sym q.answers; said = p.says ∙ sym q.says; left = p.stores ∙ sym q.stores }
