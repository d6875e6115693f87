-- Laws of: Recovery with the slots in ascending order, and what its answer makes of the text.
use Rattle.std.specs.Prelude.{ℕ, zero, suc, ◌≤◌, min, Bool, true, not, List, [], ◌∷◌, eqb, leb, length, take, Ok, Err}
use Rattle.std.proofs.Math.Path.{◌≡◌, refl, sym, ap, subst}
use Rattle.std.proofs.Common.{◌∙◌, arith, leb-true, eqb-true}
use Rattle.std.proofs.Math.Bool.{false}
use Rattle.std.proofs.Math.Option.{Option, none, some}
use Rattle.std.proofs.lemmas.Bool.{eqb-false, not-true}
use Rattle.word.specs.Number.{Bytes}
use Rattle.segment.specs.Choice.{both, either}
use Rattle.segment.proofs.Choice.{both_left, both_right, both-false-left}
use Rattle.segment.specs.Layout.{Layout}
use Rattle.record.specs.Range.{between, slots_good, size_good, fits_lent}
use Rattle.record.specs.Answered.{Recovery}
use Rattle.record.specs.declared.Refusal.{Refusal}
use Rattle.record.specs.declared.Record.{Record}
use Rattle.model.specs.Causes.{Cause, when, first_cause}
use Rattle.model.specs.Index.{IndexRule}
use Rattle.model.specs.Operations.{log_now}
use Rattle.model.specs.Promises.{RecoverPromise, IndexAfter}
use Rattle.model.specs.Recovery.{image_layout, lists, lists_below, order_bad, geometry_bad, area_causes, if_none, record_from, recovered, recovery_for, recovery}
use Rattle.laws.specs.CauseLaws.{cause-first}
use Rattle.laws.specs.RecoverLaws.{order-free, own-recovered, recovered-fits}
use Rattle.report.specs.Report.{refused_line, listing_text, cells_used, text_unless, area_text}
use Rattle.report.specs.Gather.{RecoveredArea}
use Rattle.report.specs.Recovered.{good_up_to, slots_in_order}

good-all : good_up_to 32 ≡ true
unfolding both either lists lists_below
good-all = refl

good-at : (k n : ℕ) → 1 ≤ n → n ≤ k → good_up_to k ≡ true → order_bad n (slots_in_order n) ≡ false
good-at zero n low high e = absurd (omega arith)
good-at (suc k) n low high e = go (eqb n (suc k)) refl (λ l. good-at k n low l (both_left (good_up_to k) _ e))
  where
    last : not (order_bad (suc k) (slots_in_order (suc k))) ≡ true
    last = both_right (good_up_to k) _ e

    go : (t : Bool) → eqb n (suc k) ≡ t → (n ≤ k → order_bad n (slots_in_order n) ≡ false) → order_bad n (slots_in_order n) ≡ false
    go true q ih =
        ap (λ (m : ℕ). order_bad m (slots_in_order m)) (eqb-true n (suc k) q)
        ∙ not-true (order_bad (suc k) (slots_in_order (suc k))) last
    go false q ih = ih (omega (arith, eqb-false n (suc k) q))

-- ---- the answer

module _ (L : Layout) (n s m : ℕ) (area : List ℕ) where
  abbrev cause : Option Refusal
  cause = first_cause (area_causes L n s m area)

  abbrev rec : Record
  rec = record_from L n s m area

  -- in ascending order recovery answers as the area alone says, refusals of N too
  pub ascending-recovery : recovery L n s m (slots_in_order n) area ≡ recovery_for cause rec
  ascending-recovery = go (slots_good n) refl
    where
      refused : slots_good n ≡ false → geometry_bad n s (length area) ≡ true
      refused e = ap not (both-false-left _ (eqb (length area) _) (both-false-left (slots_good n) (size_good s) e))

      first-cause : (rest : List Cause) → geometry_bad n s (length area) ≡ true
          → first_cause (when (geometry_bad n s (length area)) Refusal.Geometry ∷ rest) ≡ some Refusal.Geometry
      first-cause rest e = cause-first (when (geometry_bad n s (length area)) Refusal.Geometry) rest e

      go : (t : Bool) → slots_good n ≡ t → recovery L n s m (slots_in_order n) area ≡ recovery_for cause rec
      go true e = order-free L n s m area (slots_in_order n) (good-at 32 n (omega (arith, low e)) (high e) good-all)
        where
          low : slots_good n ≡ true → 4 ≤ n
          low q = leb-true 4 n (both_left (leb 4 n) (leb n 32) (unfold between in q))

          high : slots_good n ≡ true → n ≤ 32
          high q = leb-true n 32 (both_right (leb 4 n) (leb n 32) (unfold between in q))
      go false e =
          unfold recovery in
          ap (λ (o : Option Refusal). recovery_for o rec) (first-cause _ (refused e) ∙ sym (first-cause _ (refused e)))

-- by the edition of the head
module _ (n s : ℕ) (area cells cells' : List ℕ) (r : Recovery) (long : length cells ≡ cells_used)
    (p : RecoverPromise (image_layout n s area) n s (slots_in_order n) area cells cells' r) where
  abbrev L : Layout
  L = image_layout n s area

  answered : r ≡ recovery_for (cause L n s cells_used area) (rec L n s cells_used area)
  answered =
      p.answers ∙ ap (λ (m : ℕ). recovery L n s m (slots_in_order n) area) long ∙ ascending-recovery L n s cells_used area

  pub text-refused : (c : Refusal) → r.answer ≡ Err c → refused_line c ≡ area_text n s area
  unfolding area_text text_unless
  text-refused c e = go (cause L n s cells_used area) (ap (λ (x : Recovery). x.answer) (sym answered) ∙ e)
    where
      go : (o : Option Refusal) → (recovery_for o (rec L n s cells_used area)).answer ≡ Err c
          → refused_line c ≡ text_unless o (listing_text area (rec L n s cells_used area))
      go none q = unfold recovery_for in (let z : ◌≡◌ {A = ℕ} 0 1 = cc in absurd (omega arith))
      go (some d) q = unfold recovery_for in (let same : d ≡ c = cc in ap refused_line (sym same))

  module _ (e : r.answer ≡ (Ok tt)) where
    accepted : (cause L n s cells_used area ≡ none) × (r.rec ≡ rec L n s cells_used area)
    accepted = go (cause L n s cells_used area) answered
      where
        go : (o : Option Refusal) → r ≡ recovery_for o (rec L n s cells_used area) → (o ≡ none) × (r.rec ≡ rec L n s cells_used area)
        go none q = unfold recovery_for in (refl, ap (λ (x : Recovery). x.rec) q)
        go (some d) q =
            unfold recovery_for in
            (let w : Err d ≡ (Ok tt) = ap (λ (x : Recovery). x.answer) (sym q) ∙ e in
            let z : ◌≡◌ {A = ℕ} 0 1 = cc in
            absurd (omega arith))

    pub text-recovered : listing_text area r.rec ≡ area_text n s area
    unfolding area_text text_unless
    text-recovered =
        ap (listing_text area) accepted.1
        ∙ sym (ap (λ (o : Option Refusal). text_unless o (listing_text area (rec L n s cells_used area))) accepted.0)

    recovers : recovered L n s cells_used area ≡ some (rec L n s cells_used area)
    unfolding if_none
    recovers =
        own-recovered L n s cells_used area refl ∙ ap (λ (o : Option Refusal). if_none o (rec L n s cells_used area)) accepted.0

    rule : IndexRule r.rec.size (log_now area r.rec) cells'
    unfolding IndexAfter
    rule = subst (IndexAfter area cells cells' r) e p.index

    pub recovered-ready : Bytes area → RecoveredArea r.rec.edition area r.rec cells'
    recovered-ready bytes = subst (λ (x : Record). RecoveredArea x.edition area x cells') (sym accepted.1) its
      where
        its : RecoveredArea L area (rec L n s cells_used area) cells'
        its =
            record {
              genuine =
                  record {
                    recovers = recovers;
                    rule = subst (λ (x : Record). IndexRule x.size (log_now area x) cells') accepted.1 rule;
                  };
              fit =
                  subst (λ (k : ℕ). fits_lent L (rec L n s cells_used area) (length area) k ≡ true) (sym (p.same_length ∙ long))
                  (recovered-fits L n s cells_used area (rec L n s cells_used area) recovers bytes);
              bytes = bytes;
            }

pub order_same : {L : Layout} {n s : ℕ} {order order' area cells cells' : List ℕ} {r : Recovery} → order ≡ order'
    → RecoverPromise L n s order area cells cells' r → RecoverPromise L n s order' area cells cells' r
order_same {L} {n} {s} {order} {order'} {area} {cells} {cells'} {r} e p =
    subst (λ (o : List ℕ). RecoverPromise L n s o area cells cells' r) e p
