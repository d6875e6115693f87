-- The tests at each return of the code: premises are what the code's tests and callees told.
use Rattle.std.specs.Prelude.{ℕ, ◌≤◌, ◌<◌, ◌≡◌, refl, Bool, true, false, not, List, [], ◌∷◌, ◌++◌, Ok, Err}
use Rattle.std.proofs.Math.Path.{sym}
use Rattle.std.proofs.Common.{◌∙◌, ap, lt-ltb, le-ltb}
use Rattle.std.proofs.Math.Option.{Option, none, some}
use Rattle.std.proofs.lemmas.Bool.{not-false}
use Rattle.segment.specs.Layout.{Layout}
use Rattle.record.specs.Range.{fits_lent}
use Rattle.record.specs.RangeLaws.{Lent, lent}
use Rattle.record.specs.declared.Pending.{Pending}
use Rattle.record.specs.declared.Pending.TheVariants.{Idle, Append, NewHead, Clean, Forget}
use Rattle.record.specs.declared.Refusal.{Refusal}
use Rattle.record.specs.declared.Refusal.TheVariants.{WorkShort, BadRecord, Busy}
use Rattle.record.specs.declared.Record.{Record}
use Rattle.model.specs.Causes.{Cause, when, first_cause}
use Rattle.model.specs.Refused.{Lengths, record_bad, is_pending}
use Rattle.laws.specs.CauseLaws.{cause-first, cause-skip, first_some, first-none}
use Rattle.record.specs.Answered.{Check}
use Rattle.starting.specs.Checks.{checked, idle_causes}

-- ---- one test after the other

pub refused : (c : Cause) (cs : List Cause) → c.holds ≡ true → Err c.refusal ≡ checked (first_cause (c ∷ cs))
unfolding checked
refused c cs e = sym (ap checked (cause-first c cs e))

pub skipped : {a : Check} (c : Cause) (cs : List Cause) → c.holds ≡ false → a ≡ checked (first_cause cs) → a ≡ checked (first_cause (c ∷ cs))
skipped c cs e h = h ∙ sym (ap checked (cause-skip c cs e))

pub passed : (Ok tt) ≡ checked (first_cause [])
unfolding checked first_cause
passed = refl

-- ---- one list of tests after the other

pub checked-some : (o : Option Refusal) (c : Refusal) → Err c ≡ checked o → o ≡ some c
unfolding checked
checked-some none c e = cc
checked-some (some d) c e = cc

pub checked-none : (o : Option Refusal) → (Ok tt) ≡ checked o → o ≡ none
unfolding checked
checked-none none e = refl
checked-none (some d) e = cc

module _ (a b : List Cause) where
  pub part-refused : (c : Refusal) → Err c ≡ checked (first_cause a) → Err c ≡ checked (first_cause (a ++ b))
  unfolding checked
  part-refused c e = sym (ap checked (first_some a b c (checked-some (first_cause a) c e)))

  pub part-passed : {r : Check} → (Ok tt) ≡ checked (first_cause a) → r ≡ checked (first_cause b) → r ≡ checked (first_cause (a ++ b))
  part-passed e h = h ∙ sym (ap checked (first-none a b (checked-none (first_cause a) e)))

-- ---- a pending operation

pub idle-not : (p : Pending) → p ≡ Idle → false ≡ is_pending p
unfolding is_pending
idle-not p e = sym (ap is_pending e)

pub other-pending : (p : Pending) → (p ≡ Idle → ⊥) → true ≡ is_pending p
unfolding is_pending
other-pending Idle n = absurd (n refl)
other-pending (Append n k) m = refl
other-pending (NewHead i n k) m = refl
other-pending (Clean i v n k) m = refl
other-pending (Forget i v n k) m = refl

-- ---- 3 and 5: p is what the code finds for a pending operation

module _ (r : Record) (n : ℕ) where
  pub idle-short : n < r.size → Err WorkShort ≡ checked (first_cause (idle_causes r n))
  unfolding idle_causes
  idle-short h = refused _ _ (lt-ltb n r.size h)

  module _ (long : r.size ≤ n) (p : Bool) (q : p ≡ is_pending r.pending) where
    pub idle-busy : p ≡ true → Err Busy ≡ checked (first_cause (idle_causes r n))
    unfolding idle_causes
    idle-busy h = skipped _ _ (le-ltb n r.size long) (refused _ _ (sym q ∙ h))

    pub idle-passed : p ≡ false → (Ok tt) ≡ checked (first_cause (idle_causes r n))
    unfolding idle_causes
    idle-passed h = skipped _ _ (le-ltb n r.size long) (skipped _ _ (sym q ∙ h) passed)

-- ---- 4, where t is what the code finds for the range and the lengths, before 3 and 5

module _ (L : Layout) (r : Record) (l : Lengths) {t : Bool} (e : t ≡ fits_lent L r l.area l.index) where
  pub record-bad : not t ≡ true → record_bad L r l ≡ true
  record-bad h = sym (ap not e) ∙ h

  module _ (fits : not t ≡ false) where
    pub record-lent : Lent L r l.area l.index
    record-lent = lent L r l.area l.index (sym e ∙ not-false t fits)

    module _ (cs : List Cause) where
      abbrev FirstOf : Check → Type 0
      FirstOf a = a ≡ checked (first_cause (when (record_bad L r l) BadRecord ∷ idle_causes r l.work ++ cs))

      pub idle-refuses : (c : Refusal) → Err c ≡ checked (first_cause (idle_causes r l.work)) → FirstOf (Err c)
      idle-refuses c h = skipped _ _ (sym (ap not e) ∙ fits) (part-refused (idle_causes r l.work) cs c h)

      pub idle-goes : {a : Check} → (Ok tt) ≡ checked (first_cause (idle_causes r l.work)) → a ≡ checked (first_cause cs) → FirstOf a
      idle-goes h g = skipped _ _ (sym (ap not e) ∙ fits) (part-passed (idle_causes r l.work) cs h g)
