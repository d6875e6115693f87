-- What two accepted answers tell is one where the answers are, and so is what two options have.
use Rattle.std.specs.Prelude.{◌≡◌, Result, Ok, Err, Option, Some, None}
use mathlib.Core.Path.{ap}

told_or : {A E : Type 0} → A → Result A E → A
told_or a (Ok b) = b
told_or a (Err c) = a

pub ok-same : {A E : Type 0} {a b : A} → ◌≡◌ {A = Result A E} (Ok a) (Ok b) → a ≡ b
unfolding told_or
ok-same {a = a} e = ap (told_or a) e

had_or : {A : Type 0} → A → Option A → A
had_or a (Some b) = b
had_or a None = a

pub some-same : {A : Type 0} {a b : A} → ◌≡◌ {A = Option A} (Some a) (Some b) → a ≡ b
unfolding had_or
some-same {a = a} e = ap (had_or a) e
