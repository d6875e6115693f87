use Rattle.cleaning.proofs.Walks.{walk_none, walk_more}
use Rattle.cleaning.specs.Filter.{note_entry}
use Rattle.cleaning.proofs.noted.note_victims.Goals as goal

pub loop-i-init : goal.loop-i-init
loop-i-init c = walk_none note_entry _ _ _ _

pub loop-i-preserved : goal.loop-i-preserved
loop-i-preserved c = walk_more note_entry _ _ _ _ _ c.loop-i.invariant c.note_part.ensures
