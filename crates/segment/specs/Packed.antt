-- A byte, three numbers and what follows them: the form that the bytes of an entry and of a digest share.
use Rattle.std.specs.Prelude.{ℕ, List, ◌∷◌, ◌++◌}
use Rattle.word.specs.Number.{bytes_of}

-- ---- a byte, three numbers and a rest

abbrev pub packed : ℕ → (u v w : ℕ) → (x y z : ℕ) → List ℕ → List ℕ
packed b u v w x y z r = b ∷ (bytes_of u x ++ (bytes_of v y ++ (bytes_of w z ++ r)))
