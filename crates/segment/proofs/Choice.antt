-- Laws of: How a definition goes by a test or by what may be missing, and how a test is taken apart.
use Rattle.std.specs.Prelude.{ℕ, ◌≡◌, refl, Bool, true, false}
use Rattle.std.proofs.Math.Option.{Option, none, some}
use Rattle.segment.specs.Choice.{both, either, is_none, or_zero, pick}

pub pick_true {ℓ} : {A : Type ℓ} (t : Bool) (a b : A) → t ≡ true → pick t a b ≡ a
unfolding pick
pick_true t a b e = rw e

pub pick-false {ℓ} : {A : Type ℓ} (t : Bool) (a b : A) → t ≡ false → pick t a b ≡ b
unfolding pick
pick-false t a b e = rw e

pub both_left : (a b : Bool) → both a b ≡ true → a ≡ true
unfolding both
both_left true b e = refl
both_left false b e = e

pub both_right : (a b : Bool) → both a b ≡ true → b ≡ true
unfolding both
both_right true b e = e
both_right false b e = cc

pub both_true : (a b : Bool) → a ≡ true → b ≡ true → both a b ≡ true
unfolding both
both_true a b p q = rw p q

pub both-false-left : (a b : Bool) → a ≡ false → both a b ≡ false
unfolding both
both-false-left a b p = rw p

pub both-false-right : (a b : Bool) → b ≡ false → both a b ≡ false
unfolding both
both-false-right true b p = p
both-false-right false b p = refl

pub either-false : (a b : Bool) → a ≡ false → b ≡ false → either a b ≡ false
unfolding either
either-false a b p q = rw p q

pub either-true-left : (a b : Bool) → a ≡ true → either a b ≡ true
unfolding either
either-true-left a b p = rw p

pub either-true-right : (a b : Bool) → b ≡ true → either a b ≡ true
unfolding either
either-true-right true b p = refl
either-true-right false b p = p

pub either-false-left : (a b : Bool) → either a b ≡ false → a ≡ false
unfolding either
either-false-left true b e = e
either-false-left false b e = refl

pub either-false-right : (a b : Bool) → either a b ≡ false → b ≡ false
unfolding either
either-false-right true b e = cc
either-false-right false b e = e

pub not_none : (o : Option ℕ) → is_none o ≡ false → o ≡ some (or_zero o)
unfolding is_none or_zero
not_none none e = cc
not_none (some n) e = refl
