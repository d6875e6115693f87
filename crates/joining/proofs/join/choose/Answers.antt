-- `joining::join::choose` meets its contract.
use Rattle.joining.specs.NotesLaws.{counted_start, tombstones-start, fits-noted}
use Rattle.joining.specs.WeightsLaws.{rows_start}
use Rattle.joining.specs.JoinLaws.{chosen-same}
use Rattle.joining.proofs.join.choose.Goals as goal

pub note_all-requires : goal.note_all-requires
note_all-requires c =
    record {
      notes_fit = c.requires;
      objects_counted = counted_start _ _ _ _;
      tombstones_counted = tombstones-start _ _ _;
    }

pub weigh_all-requires : goal.weigh_all-requires
weigh_all-requires c =
    let made = c.note_all.ensures in
    record {
      notes_fit = fits-noted _ c.requires made.0;
      tombstones_counted = made.2;
      rows = rows_start _ _ _ _ _ _ made.1;
    }

pub returns : goal.returns
returns c = chosen-same _ _ _ _ _ _ _ _ c.requires.slots.slots-high c.note_all.ensures.0 c.weigh_all.ensures c.lowest_pair.ensures
