-- What crosses to a firmware: the promises of the calls, with the record as words and the answer as a number.
pub mod Crossing
pub mod CrossingLaws
pub mod StepOn
pub mod StartOn
pub mod SwitchOn
pub mod NoRecord
pub mod Foretold
pub mod Joining
