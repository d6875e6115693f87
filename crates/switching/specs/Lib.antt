-- What the switch answers, case by case.
pub mod SwitchLaws
