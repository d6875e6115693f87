-- Tables of worked cases of the definitions of `model`. They stand above it so that they are computed once, and not again for each
-- edit of a definition; the rows that an edit must fail at are in model/specs/Pinned.antt.
pub mod MoreCases
pub mod FullCases
