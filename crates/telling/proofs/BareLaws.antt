-- What is found of the next store does not look at the present bytes, so that the record without them tells as much.
use Rattle.std.specs.Prelude.{ℕ, ◌≡◌, Bool, true, false, not, List, Err, None}
use Rattle.std.proofs.Math.Path.{refl, sym, ap}
use Rattle.std.proofs.Common.{◌∙◌}
use Rattle.std.proofs.Math.Option.{Option, none, some}
use Rattle.std.proofs.Math.ListN.{length}
use Rattle.segment.specs.Choice.{pick}
use Rattle.segment.specs.Layout.{Layout}
use Rattle.record.specs.Answers.{bare}
use Rattle.record.specs.Range.{fits_lent}
use Rattle.record.specs.RangeLaws.{lent, fits-bare}
use Rattle.record.specs.declared.Pending.{Pending}
use Rattle.record.specs.declared.Pending.TheVariants.{Idle, Append, NewHead, Clean, Forget}
use Rattle.record.specs.declared.Record.{Record}
use Rattle.record.specs.declared.Refusal.{Refusal}
use Rattle.record.specs.declared.Refusal.TheVariants.{BadRecord}
use Rattle.record.specs.Answered.{TellAnswer}
use Rattle.model.specs.Causes.{first_cause}
use Rattle.model.specs.Refused.{Lengths, step_causes}
use Rattle.laws.specs.CauseLaws.{cause-skip}
use Rattle.telling.specs.Agree.{entry_agrees, slot_agrees, victims_agree, forget_agrees, agrees_with, tested_store}
use Rattle.telling.specs.Next.{pending_next, NextStore}
use Rattle.telling.proofs.TestLaws.{step-bad}
use Rattle.telling.specs.Told.{told_store, told_unless, found_by, told_by}

module _ (L : Layout) (r : Record) where
  agrees-bare : (p : Pending) → agrees_with L (bare r) p ≡ agrees_with L r p
  unfolding agrees_with entry_agrees slot_agrees victims_agree forget_agrees
  agrees-bare Idle = refl
  agrees-bare (Append n k) = refl
  agrees-bare (NewHead i n k) = refl
  agrees-bare (Clean i v n k) = refl
  agrees-bare (Forget i v n k) = refl

  next-bare : (area_length : ℕ) (work : List ℕ) (p : Pending) → pending_next area_length work (bare r) p ≡ pending_next area_length work r p
  unfolding pending_next
  next-bare area_length work Idle = refl
  next-bare area_length work (Append n k) = refl
  next-bare area_length work (NewHead i n k) = refl
  next-bare area_length work (Clean i v n k) = refl
  next-bare area_length work (Forget i v n k) = refl

  tested-bare : (area_length : ℕ) (work : List ℕ) → tested_store L area_length work (bare r) ≡ tested_store L area_length work r
  unfolding tested_store
  tested-bare area_length work =
      ap (λ (t : Bool). pick t (pending_next area_length work (bare r) r.pending) None) (agrees-bare r.pending)
      ∙ ap (λ (x : NextStore). pick (agrees_with L r r.pending) x None) (next-bare area_length work r.pending)

  told-bare : (area_length : ℕ) (work : List ℕ) (o : Option Refusal) → told_unless L (bare r) area_length work o ≡ told_unless L r area_length work o
  unfolding told_unless
  told-bare area_length work none = ap told_store (tested-bare area_length work)
  told-bare area_length work (some c) = refl

  causes-bare : (l : Lengths) → fits_lent L r l.area l.index ≡ true → first_cause (step_causes L (bare r) l) ≡ first_cause (step_causes L r l)
  causes-bare l e =
      cause-skip _ _ (ap not (fits-bare L r l.area l.index e)) ∙ sym (cause-skip _ _ (ap not e))

-- ---- at each return of the code

module _ (L : Layout) (r : Record) (area : List ℕ) (cells : ℕ) (work : List ℕ) {t : Bool} (found : t ≡ fits_lent L r (length area) cells) where
  pub found-bad : not t ≡ true → Err BadRecord ≡ found_by L r area cells work
  unfolding told_unless
  found-bad e =
      sym (ap (told_unless L r (length area) work) (step-bad L r (record { area = length area; index = cells; work = length work }) found e))

  module _ (e : t ≡ true) where
    fit : fits_lent L r (length area) cells ≡ true
    fit = sym found ∙ e

    own : cells ≡ r.cells
    own = (lent L r (length area) cells fit).index-own

    fit-own : fits_lent L r (length area) r.cells ≡ true
    fit-own = ap (fits_lent L r (length area)) (sym own) ∙ fit

    pub front_fits : {f : Record} → f ≡ bare r → fits_lent L f (length area) f.cells ≡ true
    front_fits e = ap (λ (x : Record). fits_lent L x (length area) x.cells) e ∙ fits-bare L r (length area) r.cells fit-own

    pub found_front : {f : Record} → f ≡ bare r → {a : TellAnswer} → a ≡ (told_by L f area work).answer → a ≡ found_by L r area cells work
    found_front e h =
        h
        ∙ ap (λ (x : Record). (told_by L x area work).answer) e
        ∙ told-bare L r (length area) work _
        ∙ ap (told_unless L r (length area) work) (causes-bare L r (record { area = length area; index = r.cells; work = length work }) fit-own)
        ∙ ap (λ (i : ℕ). found_by L r area i work) (sym own)
