-- 02, R-7: what the exported function promises that names two slots to join, as the other exported functions do.
use Rattle.std.specs.Prelude.{ℕ, ◌≡◌, false, not, true, List, length, Err}
use Rattle.std.proofs.Common.{sym, ap, ◌∙◌}
use Rattle.std.proofs.Math.Path.{subst⁻¹}
use Rattle.record.specs.Answers.{blank}
use Rattle.record.specs.Pairs.{join_said}
use Rattle.record.specs.Range.{fits_lent}
use Rattle.record.specs.RangeLaws.{blank-unfit}
use Rattle.record.specs.Answered.{Joined, JoinAnswer}
use Rattle.record.specs.declared.Record.{Record}
use Rattle.record.specs.declared.Refusal.TheVariants.{BadRecord}
use Rattle.model.specs.Joining.{JoinPromise}
use Rattle.laws.specs.CauseLaws.{cause-first}
use Rattle.words.specs.Words.{is_record, decoded}
use Rattle.words.proofs.WordLaws.{decoded-none}
use Rattle.words.specs.declared.Decoded.{Decoded}

-- The call keeps its promise on the record that the words say, and what it says is told; where it is refused both slots are 0.
pub record JoinCrossed (words area cells : List ℕ) (first second number : ℕ) : Type 0 where
  pub joined : Joined
  pub promised : JoinPromise (decoded words).rec.edition (decoded words).rec area cells joined
  pub numbered : number ≡ (join_said joined.answer).refused
  pub first-told : first ≡ (join_said joined.answer).first
  pub second-told : second ≡ (join_said joined.answer).second

pub join-crossed : {words area cells : List ℕ} {first second number : ℕ} {d : Decoded} {x : Joined} {b : JoinAnswer} → d ≡ decoded words
    → JoinPromise d.rec.edition d.rec area cells x → x.answer ≡ b → number ≡ (join_said b).refused → first ≡ (join_said b).first
    → second ≡ (join_said b).second → JoinCrossed words area cells first second number
join-crossed {x = x} f p e m i j =
    record {
      joined = x;
      promised = rw (ap (λ (a : Decoded). a.rec) f) at p;
      numbered = m ∙ ap (λ (a : JoinAnswer). (join_said a).refused) (sym e);
      first-told = i ∙ ap (λ (a : JoinAnswer). (join_said a).first) (sym e);
      second-told = j ∙ ap (λ (a : JoinAnswer). (join_said a).second) (sym e);
    }

-- Words that are no record: 4, and no slots.
pub join-none : {words area cells : List ℕ} {first second number : ℕ} → is_record words ≡ false
    → JoinCrossed words area cells first second number → (number ≡ 4) × (first ≡ 0) × (second ≡ 0)
join-none {words = words} f x =
    let says : (decoded words).rec ≡ blank = ap (λ (d : Decoded). d.rec) (decoded-none words f) in
    let bad : (a i : ℕ) → not (fits_lent (decoded words).rec.edition (decoded words).rec a i) ≡ true =
    λ a i. subst⁻¹ (λ (r : Record). not (fits_lent r.edition r a i) ≡ true) says (rw (blank-unfit _ a i)) in
    let e : x.joined.answer ≡ Err BadRecord = x.promised.early BadRecord (cause-first _ _ (bad _ _)) in (
      x.numbered ∙ ap (λ (a : JoinAnswer). (join_said a).refused) e,
      x.first-told ∙ ap (λ (a : JoinAnswer). (join_said a).first) e,
      x.second-told ∙ ap (λ (a : JoinAnswer). (join_said a).second) e,
    )
