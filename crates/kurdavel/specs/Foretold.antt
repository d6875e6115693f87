-- What is told of the next store and what the step that follows does, for every input of the two exported calls: the same words, area and
-- work buffer, and any index.
use Rattle.std.specs.Prelude.{ℕ, ◌≡◌, refl, List, ◌⊎◌, eqb, set, Ok, Err}
use Rattle.std.proofs.Common.{sym, ap, ◌∙◌, inl, inr, eq-eqb}
use Rattle.record.specs.Answers.{tell_said}
use Rattle.record.specs.Refusals.{number_of_refusal}
use Rattle.record.specs.declared.Refusal.{Refusal}
use Rattle.record.specs.declared.Refusal.TheVariants.{BadRecord}
use Rattle.record.specs.Answered.{TellAnswer}
use Rattle.model.specs.Promises.{StepRefused}
use Rattle.laws.specs.CauseLaws.{refusal-number}
use Rattle.laws.specs.Members.{clash}
use Rattle.words.specs.Words.{decoded}
use Rattle.stepping.specs.Foretold.{OtherIndex, Follows}
use Rattle.stepping.proofs.Foretold.{tell-step}
use Rattle.kurdavel.specs.Crossing.{StepCrossed, place_told, byte_told, TellCrossed}

some_number : (c : Refusal) → number_of_refusal c ≡ 0 → ⊥
some_number c z = clash (eqb (number_of_refusal c) 0) (eq-eqb (number_of_refusal c) 0 z) (refusal-number c)

-- The step makes the store that was told, or its index is not as long as the record says, and it is refused with 4 and changes nothing.
pub next-store-made : {words words' area area' cells cells' work : List ℕ} {left left' version version' place byte told number : ℕ}
    → TellCrossed words area work place byte told → told ≡ 0
    → (x : StepCrossed words words' area area' cells cells' work left left' version version' number)
    → (area' ≡ set area place byte) ⊎ OtherIndex (decoded words).rec area area' cells cells' x.stepped
unfolding Follows place_told byte_told
next-store-made {words} {words'} {area} {area'} {cells} {cells'} {work} {place = place} {byte = byte} t zero x =
    go t.foretold.answer (sym t.numbered ∙ zero) t.place-told t.byte-told
    (tell-step (decoded words).rec.edition (decoded words).rec area area' cells cells' work x.stepped x.promised x.tested t.found)
  where
    go : (a : TellAnswer) → (tell_said a).refused ≡ 0 → place ≡ place_told a → byte ≡ byte_told a
        → Follows (decoded words).rec area area' cells cells' x.stepped a
        → (area' ≡ set area place byte) ⊎ OtherIndex (decoded words).rec area area' cells cells' x.stepped
    go (Ok s) z l v (inl e) = inl (e ∙ ap (λ (q : ℕ). set area q s.byte) (sym l) ∙ ap (set area place) (sym v))
    go (Ok s) z l v (inr o) = inr o
    go (Err c) z l v f = absurd (some_number c z)

-- Where none is told the step is refused too, and changes nothing.
pub no-store-made : {words words' area area' cells cells' work : List ℕ} {left left' version version' place byte told number : ℕ}
    → TellCrossed words area work place byte told → (told ≡ 0 → ⊥)
    → (x : StepCrossed words words' area area' cells cells' work left left' version version' number)
    → (c : Refusal) × StepRefused (decoded words).rec area area' cells cells' x.stepped c
unfolding Follows
no-store-made {words} {words'} {area} {area'} {cells} {cells'} {work} t some x =
    go t.foretold.answer (λ z. some (t.numbered ∙ z))
    (tell-step (decoded words).rec.edition (decoded words).rec area area' cells cells' work x.stepped x.promised x.tested t.found)
  where
    go : (a : TellAnswer) → ((tell_said a).refused ≡ 0 → ⊥) → Follows (decoded words).rec area area' cells cells' x.stepped a
        → (c : Refusal) × StepRefused (decoded words).rec area area' cells cells' x.stepped c
    go (Ok s) z f = absurd (z refl)
    go (Err c) z (inl r) = (c, r)
    go (Err c) z (inr o) = (BadRecord, o.refused)
