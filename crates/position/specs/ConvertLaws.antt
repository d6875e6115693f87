-- Laws of the conversions, and that each accepted one, taken back, gives the same eight bytes.
use Rattle.std.specs.Prelude.{ℕ, ◌≤◌, ◌<◌, Bool, not, length, drop, get_or, Ok}
use Rattle.std.proofs.Math.Path.{◌≡◌, refl, sym, ap}
use Rattle.std.proofs.Common.{◌∙◌, lt_of_le_of_lt, arith, eq-eqb, ne_eqb, eqb-true, lit<, length-append, length-drop, drop_of_length-le, take-append-drop, drop-cons}
use Rattle.std.proofs.Math.Bool.{true, false}
use mathlib.Core.List.{List, [], ◌∷◌}
use Rattle.std.proofs.Math.Option.{none, some}
use Rattle.std.proofs.Math.Dec.{eqb}
use Rattle.segment.specs.Choice.{pick}
use Rattle.word.specs.Number.{Bytes}
use Rattle.word.specs.Laws.{length-bytes_of, number-front, drop-front, bytes-at}
use Rattle.record.specs.declared.Refusal.{Refusal}
use Rattle.record.specs.declared.Refusal.TheVariants.{ValueLength, NotWhole, CountLost}
use Rattle.model.specs.Causes.{first_cause}
use Rattle.position.specs.declared.Conversion.{Conversion}
use Rattle.position.specs.Float.{sign_of, is_count, count_in, is_held, float_of}
use Rattle.position.specs.FloatLaws.{count-holds, holds-count, float-holds, holds-float}
use Rattle.position.specs.Convert.{position_in, with_position, outcome, conversion, from_float, to_float}

-- ---- a conversion by its tests: of the length, and of the position

module _ (good : ℕ → Bool) (cause : Refusal) (other : ℕ → ℕ) (v : List ℕ) where
  pub told-length : (length v ≡ 8 → ⊥) → outcome (some ValueLength) [] ≡ conversion good cause other v
  unfolding conversion outcome first_cause pick
  told-length h = rw (ne_eqb (length v) 8 h)

  module _ (n : ℕ) (at : n ≡ position_in v) (h : length v ≡ 8) where
    pub told-cause : good n ≡ false → outcome (some cause) [] ≡ conversion good cause other v
    unfolding conversion outcome first_cause pick
    told-cause e = rw (eq-eqb (length v) 8 h, ← at, e)

    pub told-made : good n ≡ true → outcome none (with_position (other n) v) ≡ conversion good cause other v
    unfolding conversion outcome first_cause pick
    told-made e = rw (eq-eqb (length v) 8 h, ← at, e)

  -- an accepted conversion passed both tests
  pub accepted : (conversion good cause other v).answer ≡ Ok tt → (length v ≡ 8) × (good (position_in v) ≡ true)
  unfolding conversion outcome first_cause pick
  accepted e = go (eqb (length v) 8) refl (good (position_in v)) refl e
    where
      go : (t : Bool) → eqb (length v) 8 ≡ t → (u : Bool) → good (position_in v) ≡ u
          → (outcome (pick (not t) (some ValueLength) (pick (not u) (some cause) none)) (with_position (other (position_in v)) v)).answer ≡ Ok tt
          → (length v ≡ 8) × (good (position_in v) ≡ true)
      go true p true q e = (eqb-true (length v) 8 p, q)
      go true p false q e = let z : ◌≡◌ {A = ℕ} 0 1 = cc in absurd (omega arith)
      go false p u q e = let z : ◌≡◌ {A = ℕ} 0 1 = cc in absurd (omega arith)

-- the last four of eight bytes
length-is : (v : List ℕ) → length v ≡ 8 → length v ≤ 8
length-is v h = omega arith

pub last-four : (v : List ℕ) → length v ≡ 8 → drop 4 v ≡ get_or v 4 0 ∷ get_or v 5 0 ∷ get_or v 6 0 ∷ get_or v 7 0 ∷ []
last-four v h =
    drop-cons v 4 0 (omega arith) ∙ rw (drop-cons v 5 0 (omega arith), drop-cons v 6 0 (omega arith), drop-cons v 7 0 (omega arith), drop_of_length-le v (length-is v h))

-- ---- there and back

length-with : (n : ℕ) (v : List ℕ) → length v ≡ 8 → length (with_position n v) ≡ 8
length-with n v h = simp (length-append, length-drop, length-bytes_of) (omega arith)

-- a position that was put in, and the first one put back
position-with : (n : ℕ) (v : List ℕ) → n < 4294967296 → position_in (with_position n v) ≡ n
position-with n v h = number-front 4 n (drop 4 v) h

with-own : (n : ℕ) (v : List ℕ) → Bytes v → length v ≡ 8 → with_position (position_in v) (with_position n v) ≡ v
with-own n v y h = rw (drop-front 4 n (drop 4 v), bytes-at 4 0 v y (omega arith)) (take-append-drop 4 v)

-- One conversion undoes another if it does so at every position that the other accepts.
pub record Undoes (good : ℕ → Bool) (other : ℕ → ℕ) (good' : ℕ → Bool) (other' : ℕ → ℕ) (n : ℕ) : Type 0 where
  pub small : other n < 4294967296
  pub taken : good' (other n) ≡ true
  pub same : other' (other n) ≡ n

module _ (good : ℕ → Bool) (cause : Refusal) (other : ℕ → ℕ) (good' : ℕ → Bool) (cause' : Refusal) (other' : ℕ → ℕ) where
  taken_back : ((n : ℕ) → good n ≡ true → Undoes good other good' other' n) → (v : List ℕ) → Bytes v → (conversion good cause other v).answer ≡ Ok tt
      → conversion good' cause' other' (conversion good cause other v).value ≡ record { answer = Ok tt; value = v }
  unfolding outcome
  taken_back undoes v y e =
      let n = position_in v in
      let w = with_position (other n) v in
      let t = accepted good cause other v e in
      let u = undoes n t.1 in
      ap (λ (x : Conversion). conversion good' cause' other' x.value) (sym (told-made good cause other v n refl t.0 t.1))
      ∙ sym (told-made good' cause' other' w (other n) (sym (position-with (other n) v u.small)) (length-with (other n) v t.0) u.taken)
      ∙ ap (λ (x : List ℕ). outcome none x) (ap (λ (m : ℕ). with_position m w) u.same ∙ with-own (other n) v y t.0)

-- Each accepted conversion, taken back, is accepted and gives the same eight bytes.
pub from-float-back : (v : List ℕ) → Bytes v → (from_float v).answer ≡ Ok tt → to_float (from_float v).value ≡ record { answer = Ok tt; value = v }
from-float-back =
    taken_back is_count NotWhole count_in is_held CountLost float_of
    (λ n e.
    let k = count-holds n e in
    let f = holds-float n (count_in n) k.0 k.1 in
    record { small = lt_of_le_of_lt k.1 (lit< tt); taken = f.0; same = f.1 })

pub to-float-back : (v : List ℕ) → Bytes v → (to_float v).answer ≡ Ok tt → from_float (to_float v).value ≡ record { answer = Ok tt; value = v }
to-float-back =
    taken_back is_held CountLost float_of is_count NotWhole count_in
    (λ n e.
    let k = float-holds n e in
    let f = holds-count (float_of n) n k.0 k.1 in
    record { small = clear-small (float_of n) k.0.clear; taken = f.0; same = f.1 })
  where
    clear-small : (b : ℕ) → sign_of b ≡ 0 → b < 4294967296
    clear-small b e = omega arith
