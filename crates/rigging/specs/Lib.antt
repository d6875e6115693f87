-- What the rig answers and puts (02, R-14).
pub mod Text
