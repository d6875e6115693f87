-- 02, R-14: the letters of a history, and which words of them are legal.
use Rattle.std.specs.Prelude.{ℕ, Bool, true, false, List, [], ◌∷◌, eqb}
use Rattle.segment.specs.Choice.{pick, both}
use Rattle.histories.specs.declared.Letter.{Letter}
use Rattle.histories.specs.declared.Letter.TheVariants.{WriteA, WriteB, DeleteA, DeleteB, CleanAll}
use Rattle.histories.specs.declared.Presence.{Presence}

abbrev pub Word : Type 0
Word = List Letter

-- the letters in their order: A, B, a, b, C
unfoldable pub letter_of : ℕ → Letter
letter_of n = pick (eqb n 0) WriteA (pick (eqb n 1) WriteB (pick (eqb n 2) DeleteA (pick (eqb n 3) DeleteB CleanAll)))

-- a letter's place in that order, from 0
abbrev pub rank_of : Letter → ℕ
rank_of WriteA = 0
rank_of WriteB = 1
rank_of DeleteA = 2
rank_of DeleteB = 3
rank_of CleanAll = 4

-- as text
abbrev pub code_of : Letter → ℕ
code_of WriteA = 65
code_of WriteB = 66
code_of DeleteA = 97
code_of DeleteB = 98
code_of CleanAll = 67

-- ---- legal words

abbrev pub nothing : Presence
nothing = record { first = false; second = false }

-- A delete is allowed only where its key is present.
abbrev pub allowed : Presence → Letter → Bool
allowed p WriteA = true
allowed p WriteB = true
allowed p DeleteA = p.first
allowed p DeleteB = p.second
allowed p CleanAll = true

-- which keys are present after a letter: a write brings its key, a delete takes it away, a cleaning changes none
abbrev pub after : Presence → Letter → Presence
after p WriteA = record { first = true; second = p.second }
after p WriteB = record { first = p.first; second = true }
after p DeleteA = record { first = false; second = p.second }
after p DeleteB = record { first = p.first; second = false }
after p CleanAll = p

unfoldable pub legal_from : Presence → Word → Bool
legal_from p [] = true
legal_from p (l ∷ w) = both (allowed p l) (legal_from (after p l) w)

-- from a store without keys
abbrev pub legal : Word → Bool
legal = legal_from nothing
