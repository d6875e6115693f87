-- 02, R-14: the list of histories, and its text.
use Rattle.std.specs.Prelude.{ℕ, zero, suc, List, [], ◌∷◌, ◌++◌}
use Rattle.segment.specs.Choice.{pick}
use Rattle.histories.specs.declared.Letter.{Letter}
use Rattle.histories.specs.declared.Letter.TheVariants.{WriteA, WriteB, DeleteA, DeleteB, CleanAll}
use Rattle.histories.specs.Letters.{Word, code_of, legal}

-- the words of a list, each with this letter before it
unfoldable pub headed : Letter → List Word → List Word
headed l [] = []
headed l (w ∷ ws) = (l ∷ w) ∷ headed l ws

-- all words of a length, in the order of their letters, the first letter deciding first
unfoldable pub words_of : ℕ → List Word
unfolding headed
words_of zero = [] ∷ []
words_of (suc n) =
    headed WriteA (words_of n) ++
    (headed WriteB (words_of n) ++ (headed DeleteA (words_of n) ++ (headed DeleteB (words_of n) ++ headed CleanAll (words_of n))))

-- the legal ones of a list
unfoldable pub legal_ones : List Word → List Word
legal_ones [] = []
legal_ones (w ∷ ws) = pick (legal w) (w ∷ legal_ones ws) (legal_ones ws)

abbrev pub histories_of : ℕ → List Word
histories_of n = legal_ones (words_of n)

-- the histories up to a length, shorter ones first
unfoldable pub histories : ℕ → List Word
histories zero = histories_of zero
histories (suc n) = histories n ++ histories_of (suc n)

-- ---- as text: a line for each, its letters and a newline

abbrev pub codes_of : Word → List ℕ
codes_of [] = []
codes_of (l ∷ w) = code_of l ∷ codes_of w

abbrev pub line_of : Word → List ℕ
line_of w = codes_of w ++ 10 ∷ []

unfoldable pub lines_of : List Word → List ℕ
lines_of [] = []
lines_of (w ∷ ws) = line_of w ++ lines_of ws
