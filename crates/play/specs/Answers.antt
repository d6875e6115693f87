-- What the answers of the calls are compared with.
use Rattle.std.specs.Prelude.{◌≡◌, ℕ, ◌-◌, ◌≤◌, Bool, true, false, ◌==◌, ◌≢◌, nat_eq, nat_lt, refl, Ok, Err}
use Rattle.std.proofs.Common.{sym, ◌∙◌, ap, arith, eq-eqb, ne_eqb}
use Rattle.segment.specs.Choice.{pick, both, or_zero}
use Rattle.segment.proofs.Choice.{pick_true, pick-false, both-false-left}
use Rattle.segment.specs.Layout.{edition1, object_kind}
use Rattle.segment.specs.declared.Version.{Version}
use Rattle.record.specs.Refusals.{number_of_refusal}
use Rattle.record.specs.declared.Pending.{Pending}
use Rattle.record.specs.Answered.{ReadAnswer, StepAnswer}
use Rattle.record.specs.declared.Progress.{Progress}
use Rattle.record.specs.declared.Refusal.{Refusal}
use Rattle.play.specs.declared.book.Held.{Held}

-- a step says that so many stores are left, and after the last one the version
abbrev pub step_says : StepAnswer → ℕ → Version → Bool
step_says (Ok (Progress.Left n)) left version = both (n == left) (nat_lt 0 left)
step_says (Ok (Progress.Done v)) left version = both (v.0 == version.0) (left == 0)
step_says (Err c) left version = false

-- a read says version and kind of what the key has, or that it is not present
abbrev pub read_says : ReadAnswer → Held → Bool
read_says (Ok s) h =
    both (s.version.0 == h.version.0) (s.kind == or_zero (object_kind edition1 h.value.length))
read_says (Err c) h = both (h.version.0 == 0) (number_of_refusal c == 8)

-- how many bytes of the work buffer are the pending operation's
abbrev pub work_bytes : Pending → ℕ
work_bytes Pending.Idle = 0
work_bytes (Pending.Append n left) = n
work_bytes (Pending.NewHead slot n left) = n
work_bytes (Pending.Clean slot victims n left) = n
work_bytes (Pending.Forget slot victims n left) = n

-- the first store that differs: the one noted before, 0 where none was, or this one
abbrev pub first_bad : ℕ → ℕ → Bool → ℕ
first_bad bad made agrees = pick agrees bad (pick (bad == 0) made bad)

-- the stores that are not made where the supply fails after so many, 0 where it does not fail
abbrev pub not_made : ℕ → ℕ → ℕ
not_made stores fails = pick (fails == 0) 0 (stores - fails)

-- ---- their laws

-- a test and what is asked after it
both-holds : (a b : ℕ) (rest : Bool) → a ≡ b → rest ≡ both (a == b) rest
unfolding both
both-holds a b rest e = ap (λ (t : Bool). both t rest) (sym (eq-eqb a b e))

both-fails : (a b : ℕ) (rest : Bool) → (a ≢ b) → (a == b) ≡ both (a == b) rest
both-fails a b rest e = ne_eqb a b e ∙ sym (both-false-left (a == b) rest (ne_eqb a b e))

module _ (answer : StepAnswer) (left : ℕ) (version : Version) where
  module _ (n : ℕ) (is : answer ≡ Ok (Progress.Left n)) where
    pub left-says : n ≡ left → nat_lt 0 left ≡ step_says answer left version
    left-says e = both-holds n left (nat_lt 0 left) e ∙ sym (ap (λ (a : StepAnswer). step_says a left version) is)

    pub left-differs : (n ≢ left) → (n == left) ≡ step_says answer left version
    left-differs e = both-fails n left (nat_lt 0 left) e ∙ sym (ap (λ (a : StepAnswer). step_says a left version) is)

  module _ (v : Version) (is : answer ≡ Ok (Progress.Done v)) where
    pub done-says : v.0 ≡ version.0 → (left == 0) ≡ step_says answer left version
    done-says e = both-holds v.0 version.0 (left == 0) e ∙ sym (ap (λ (a : StepAnswer). step_says a left version) is)

    pub done-differs : (v.0 ≢ version.0) → (v.0 == version.0) ≡ step_says answer left version
    done-differs e = both-fails v.0 version.0 (left == 0) e ∙ sym (ap (λ (a : StepAnswer). step_says a left version) is)

module _ (answer : ReadAnswer) (h : Held) where
  module _ (v : Version) (kind : ℕ) (is : answer ≡ Ok (record { version = v; kind = kind })) where
    pub present-says : v.0 ≡ h.version.0 → (k : ℕ) → k ≡ or_zero (object_kind edition1 h.value.length) → (kind == k) ≡ read_says answer h
    present-says e k its =
        ap (nat_eq kind) its
        ∙ both-holds v.0 h.version.0 (kind == or_zero (object_kind edition1 h.value.length)) e
        ∙ sym (ap (λ (a : ReadAnswer). read_says a h) is)

    pub present-differs : (v.0 ≢ h.version.0) → (v.0 == h.version.0) ≡ read_says answer h
    present-differs e =
        both-fails v.0 h.version.0 (kind == or_zero (object_kind edition1 h.value.length)) e
        ∙ sym (ap (λ (a : ReadAnswer). read_says a h) is)

  module _ (cause : Refusal) (is : answer ≡ Err cause) where
    pub absent-says : h.version.0 ≡ 0 → (k : ℕ) → k ≡ number_of_refusal cause → (k == 8) ≡ read_says answer h
    absent-says e k its =
        ap (λ (n : ℕ). nat_eq n 8) its ∙ both-holds h.version.0 0 (number_of_refusal cause == 8) e ∙ sym (ap (λ (a : ReadAnswer). read_says a h) is)

    pub absent-differs : (h.version.0 ≢ 0) → (h.version.0 == 0) ≡ read_says answer h
    absent-differs e = both-fails h.version.0 0 (number_of_refusal cause == 8) e ∙ sym (ap (λ (a : ReadAnswer). read_says a h) is)

pub none-unmade : (stores fails : ℕ) → fails ≡ 0 → 0 ≡ not_made stores fails
none-unmade stores fails e = sym (pick_true (fails == 0) 0 (stores - fails) (eq-eqb fails 0 e))

pub some-unmade : (stores fails n : ℕ) → (fails ≢ 0) → n ≡ stores - fails → n ≡ not_made stores fails
some-unmade stores fails n e its = its ∙ sym (pick-false (fails == 0) 0 (stores - fails) (ne_eqb fails 0 e))

-- no more than all stores are not made
pub unmade-within : (stores fails n : ℕ) → n ≡ not_made stores fails → n ≤ stores
unfolding pick
unmade-within stores fails n its =
    elim (fails == 0) as (λ (t : Bool). n ≡ pick t 0 (stores - fails) → n ≤ stores) [
      | true ↦ λ e. omega arith
      | false ↦ λ e. omega arith
    ]
    its

module _ (bad made : ℕ) (agrees : Bool) where
  pub bad-agrees : agrees ≡ true → bad ≡ first_bad bad made agrees
  bad-agrees e = sym (pick_true agrees bad _ e)

  pub bad-first : agrees ≡ false → bad ≡ 0 → made ≡ first_bad bad made agrees
  bad-first e z = sym (pick-false agrees bad _ e ∙ pick_true (bad == 0) made bad (eq-eqb bad 0 z))

  pub bad-before : agrees ≡ false → (bad ≢ 0) → bad ≡ first_bad bad made agrees
  bad-before e z = sym (pick-false agrees bad _ e ∙ pick-false (bad == 0) made bad (ne_eqb bad 0 z))
