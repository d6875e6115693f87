-- Cases of 02, R-14, numbered as in the tables of the model: a store after AaC, where no entry has the highest version told, and cuts on
-- the way.
-- What is proved of the definitions in `specs/Cases.antt`.
use Rattle.std.specs.Prelude.{ℕ, ◌≡◌, refl, Bool, true, false, List, [], ◌∷◌, take, replicate}
use Rattle.model.specs.Play.{opened}
use Rattle.model.specs.Recovery.{recovered, if_none}
use Rattle.model.specs.Table.{failing, Hold}
use Rattle.model.proofs.Table.{rows-hold}
use Rattle.histories.specs.Book.{one_if}
use Rattle.report.specs.Listing.{before, in_order, ascending, present_of}
use Rattle.rig_model.specs.Verdict.{all_are, key_as, next_of, store_as, wrong_for, wrong_at, operation_at}
use Rattle.rig_model.specs.Cases.{rows}

computed : failing rows ≡ []
unfolding opened recovered if_none one_if before in_order ascending present_of all_are key_as next_of store_as wrong_for wrong_at operation_at
computed = refl

pub rig-cases-hold : Hold rows
rig-cases-hold = rows-hold rows computed
