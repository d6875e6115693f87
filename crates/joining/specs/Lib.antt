-- What one new head can take over of two slots: notes of where objects stand, what is kept of each slot by the other, and the lowest
-- pair.
pub mod Notes
pub mod NotesLaws
pub mod Weights
pub mod WeightsLaws
pub mod PairLaws
pub mod JoinModel
pub mod JoinLaws
