-- Laws of the first cause, and of the numbers of refusals.
use Rattle.std.specs.Prelude.{ℕ, ◌≡◌, refl, Bool, true, false, List, [], ◌∷◌, ◌++◌, eqb}
use Rattle.std.proofs.Common.{sym, ap, ◌∙◌}
use Rattle.std.proofs.Math.Option.{Option, none, some}
use Rattle.segment.specs.Choice.{pick}
use Rattle.record.specs.Refusals.{number_of_refusal}
use Rattle.record.specs.declared.Refusal.{Refusal}
use Rattle.record.specs.declared.Refusal.TheVariants.{Geometry, Cells, WorkShort, BadRecord, Busy, NonePending, ValueLength, Absent, VersionsSpent, NumbersSpent, KeysFull, NoRoom, BadVictims, KeptTooLong, BadOrder, NoDigest, BadDigest, DamagedLog, SharedVersion, TooManyKeys, OtherVersion, OutsideTables, BadMap, MapNoDigest, NoPair, NotWhole, CountLost, MixedEditions, SlotTooLong, VersionTooWide}
use Rattle.model.specs.Causes.{Cause, first_cause}

-- ---- no cause holds

pub cause-false : (c : Cause) (cs : List Cause) → first_cause (c ∷ cs) ≡ none → c.holds ≡ false
unfolding first_cause pick
cause-false c cs e = go c.holds e
  where
    go : (t : Bool) → pick t (some c.refusal) (first_cause cs) ≡ none → t ≡ false
    go true p = cc
    go false p = refl

pub cause-rest : (c : Cause) (cs : List Cause) → first_cause (c ∷ cs) ≡ none → first_cause cs ≡ none
unfolding first_cause pick
cause-rest c cs e = go c.holds e
  where
    go : (t : Bool) → pick t (some c.refusal) (first_cause cs) ≡ none → first_cause cs ≡ none
    go true p = cc
    go false p = p

pub cause-none : (c : Cause) (cs : List Cause) → c.holds ≡ false → first_cause cs ≡ none → first_cause (c ∷ cs) ≡ none
unfolding first_cause pick
cause-none c cs p q = go c.holds p
  where
    go : (t : Bool) → t ≡ false → pick t (some c.refusal) (first_cause cs) ≡ none
    go true e = cc
    go false e = q

-- a cause that holds comes first where it stands first
pub cause-first : (c : Cause) (cs : List Cause) → c.holds ≡ true → first_cause (c ∷ cs) ≡ some c.refusal
unfolding first_cause pick
cause-first c cs p = go c.holds p
  where
    go : (t : Bool) → t ≡ true → pick t (some c.refusal) (first_cause cs) ≡ some c.refusal
    go true e = refl
    go false e = cc

pub cause-skip : (c : Cause) (cs : List Cause) → c.holds ≡ false → first_cause (c ∷ cs) ≡ first_cause cs
unfolding first_cause pick
cause-skip c cs p = go c.holds p
  where
    go : (t : Bool) → t ≡ false → pick t (some c.refusal) (first_cause cs) ≡ first_cause cs
    go true e = cc
    go false e = refl

pub none_left : (a b : List Cause) → first_cause (a ++ b) ≡ none → first_cause a ≡ none
unfolding first_cause
none_left [] b e = refl
none_left (c ∷ cs) b e = cause-none c cs (cause-false c (cs ++ b) e) (none_left cs b (cause-rest c (cs ++ b) e))

-- all the tests of a list are false
abbrev pub NoCause : List Cause → Type 0
NoCause [] = Unit {0}
NoCause (c ∷ cs) = (c.holds ≡ false) × NoCause cs

pub no-cause : (cs : List Cause) → first_cause cs ≡ none → NoCause cs
no-cause [] e = tt
no-cause (c ∷ cs) e = (cause-false c cs e, no-cause cs (cause-rest c cs e))

pub causes-none : (cs : List Cause) → NoCause cs → first_cause cs ≡ none
unfolding first_cause
causes-none [] f = refl
causes-none (c ∷ cs) f = cause-none c cs f.0 (causes-none cs f.1)

-- a cause that does not hold might as well be left out
pub cause-passed : (before : List Cause) (c : Cause) (after : List Cause) → c.holds ≡ false
    → first_cause (before ++ c ∷ after) ≡ first_cause (before ++ after)
unfolding first_cause
cause-passed [] c after e = cause-skip c after e
cause-passed (b ∷ bs) c after e =
    ap (λ (o : Option Refusal). pick b.holds (some b.refusal) o) (cause-passed bs c after e)

-- ---- one list of causes after the other

pub first_some : (a b : List Cause) (c : Refusal) → first_cause a ≡ some c → first_cause (a ++ b) ≡ some c
unfolding first_cause pick
first_some [] b c e = cc
first_some (x ∷ a) b c e = go x.holds e (λ d. first_some a b c d)
  where
    go : (t : Bool) → pick t (some x.refusal) (first_cause a) ≡ some c → (first_cause a ≡ some c → first_cause (a ++ b) ≡ some c) →
        pick t (some x.refusal) (first_cause (a ++ b)) ≡ some c
    go true d ih = d
    go false d ih = ih d

pub first-none : (a b : List Cause) → first_cause a ≡ none → first_cause (a ++ b) ≡ first_cause b
unfolding first_cause pick
first-none [] b e = refl
first-none (x ∷ a) b e = go x.holds e (λ d. first-none a b d)
  where
    go : (t : Bool) → pick t (some x.refusal) (first_cause a) ≡ none → (first_cause a ≡ none → first_cause (a ++ b) ≡ first_cause b) →
        pick t (some x.refusal) (first_cause (a ++ b)) ≡ first_cause b
    go true d ih = cc
    go false d ih = ih d

-- ---- 0 is no refusal's number

pub refusal-number : (c : Refusal) → eqb (number_of_refusal c) 0 ≡ false
refusal-number Geometry = refl
refusal-number Cells = refl
refusal-number WorkShort = refl
refusal-number BadRecord = refl
refusal-number Busy = refl
refusal-number NonePending = refl
refusal-number ValueLength = refl
refusal-number Absent = refl
refusal-number VersionsSpent = refl
refusal-number NumbersSpent = refl
refusal-number KeysFull = refl
refusal-number NoRoom = refl
refusal-number BadVictims = refl
refusal-number KeptTooLong = refl
refusal-number BadOrder = refl
refusal-number NoDigest = refl
refusal-number BadDigest = refl
refusal-number DamagedLog = refl
refusal-number SharedVersion = refl
refusal-number TooManyKeys = refl
refusal-number OtherVersion = refl
refusal-number OutsideTables = refl
refusal-number NoPair = refl
refusal-number BadMap = refl
refusal-number MapNoDigest = refl
refusal-number NotWhole = refl
refusal-number CountLost = refl
refusal-number MixedEditions = refl
refusal-number SlotTooLong = refl
refusal-number VersionTooWide = refl

-- ---- a number that no cause of a list has

abbrev pub Without : ℕ → List Cause → Type 0
Without n [] = Unit {0}
Without n (c ∷ cs) = (eqb (number_of_refusal c.refusal) n ≡ false) × Without n cs

pub never_met : (n : ℕ) (cs : List Cause) → Without n cs → (c : Refusal) → first_cause cs ≡ some c → eqb (number_of_refusal c) n ≡ false
unfolding first_cause pick
never_met n [] w c e = cc
never_met n (x ∷ cs) w c e = go x.holds e (λ p. never_met n cs w.1 c p)
  where
    go : (t : Bool) → pick t (some x.refusal) (first_cause cs) ≡ some c → (first_cause cs ≡ some c → eqb (number_of_refusal c) n ≡ false) →
        eqb (number_of_refusal c) n ≡ false
    go true p ih = let same : x.refusal ≡ c = cc in ap (λ (d : Refusal). eqb (number_of_refusal d) n) (sym same) ∙ w.0
    go false p ih = ih p
