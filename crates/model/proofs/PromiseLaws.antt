-- Laws of: What the promises leave no freedom in, where a weaker one could pass unnoticed.
use Rattle.std.specs.Prelude.{ℕ, ◌≡◌, refl, true, List, get_or, set}
use Rattle.std.proofs.Common.{sym, ◌∙◌, ap, get_or-set_other}
use Rattle.std.proofs.Math.Option.{none, some}
use Rattle.std.proofs.Math.Decide.{ℕ_discrete}
use Rattle.segment.specs.Layout.{Layout}
use Rattle.segment.specs.declared.Key.{Key}
use Rattle.record.specs.declared.Record.{Record}
use Rattle.record.specs.Answered.{Recovery}
use Rattle.record.specs.declared.Refusal.{Refusal}
use Rattle.record.specs.declared.Tables.{Tables}
use Rattle.model.specs.Causes.{first_cause}
use Rattle.model.specs.Refused.{reach_causes}
use Rattle.model.specs.Promises.{Genuine, RecoverPromise, read_lengths, Part, nowhere, ValuePromise, OneByte}
use Rattle.model.specs.PromiseLaws.{RecoverSame}

-- Two places at which the area after a step differs from the one before are one place.
pub one_place :
    (area area' : List ℕ) → OneByte area area' → (i j : ℕ) → (get_or area' i 0 ≡ get_or area i 0 → ⊥) → (get_or area' j 0 ≡ get_or area j 0 → ⊥) → i ≡ j
one_place area area' (p, b, e) i j h g = stored_at i h ∙ sym (stored_at j g)
  where
    stored_at : (k : ℕ) → (get_or area' k 0 ≡ get_or area k 0 → ⊥) → k ≡ p
    stored_at k n = go (ℕ_discrete k p)
      where
        go : Dec (k ≡ p) → k ≡ p
        go (yes q) = q
        go (no q) = absurd (n (ap (λ (l : List ℕ). get_or l k 0) e ∙ get_or-set_other area p k b 0 q))

-- Two parts that may both be a key's value are one: a copy of equal bytes elsewhere in the area is not the value.
pub value-fixed :
    (L : Layout) (r : Record) (area cells : List ℕ) (t : Tables) (k : Key) (p q : Part) → Genuine L area r cells →
    ValuePromise L r area cells t k p → ValuePromise L r area cells t k q → p ≡ q
value-fixed L r area cells t k p q g x y = x.exact g ∙ sym (y.exact g)

pub recover-fixed :
    (L : Layout) (n s : ℕ) (order area cells cells' cells'' : List ℕ) (r q : Recovery) → RecoverPromise L n s order area cells cells' r →
    RecoverPromise L n s order area cells cells'' q → RecoverSame r q
recover-fixed L n s order area cells cells' cells'' r q x y = record { answer = x.answers ∙ sym y.answers; said = x.says ∙ sym y.says }

-- A value beside a record that is unfit, and one out of reach, is no bytes at place 0.
pub value-early :
    (L : Layout) (r : Record) (area cells : List ℕ) (t : Tables) (k : Key) (p : Part) (c : Refusal) →
    first_cause (reach_causes L r (read_lengths area cells) t k) ≡ some c → ValuePromise L r area cells t k p → p ≡ nowhere
value-early L r area cells t k p c u x = x.early c u
