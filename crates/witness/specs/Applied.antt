-- Demand 3 speaks about the computed run: what recovery gives at its end, whichever order the slots are read in, and what its steps and
-- reads answered.
use Rattle.std.specs.Prelude.{ℕ, ◌-◌, ◌<◌, ◌≡◌, refl, true, false, List, [], ◌∷◌, ◌++◌, length, replicate}
use Rattle.std.proofs.Common.{sym, ◌∙◌, ap, subst, arith}
use Rattle.std.proofs.Math.Path.{subst⁻¹}
use Rattle.std.proofs.Math.Option.{Option, none, some}
use Rattle.model.specs.Operations.{write}
use Rattle.history.specs.Book.{Event, Book, book_of}
use Rattle.history.specs.Runs.{Held}
use Rattle.witness.specs.Example.{nine, ones, started, leaving, begins, idles, half, meanwhile, fails, others, deletes, cleans, ends}

-- ---- what steps answered

-- the book before the last step of the first write
abbrev pub at_last : Book
at_last = book_of (begins ++ started (write nine ones) 20 ∷ leaving 19 1)

-- the events behind the first write
abbrev pub rest : List Event
rest = idles ++ (half ++ (meanwhile ++ (fails ++ (others ++ (deletes ++ (cleans ++ ends))))))

-- ---- the present bytes of the slots (02, R-5)

-- the numbers of a record that is held
abbrev pub held_counts : Option Held → List ℕ
held_counts none = []
held_counts (some h) = h.rec.counts

-- At the end slot 1 alone has any: the object of the second key, which the cleaning has brought there.
abbrev pub left-counts : List ℕ
left-counts = 0 ∷ 35 ∷ replicate 30 0
