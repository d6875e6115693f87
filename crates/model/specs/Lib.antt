-- 01 as definitions, a file for each section: the log and its map, recovery, the index, operations store by store, refusals, and what
-- each call promises. Recovery and the index come before the operations, which speak of them. Then what the promises leave no freedom in,
-- and tables of worked cases, 02's last; more of them stand in crate `rows`.
pub mod Log
pub mod Counts
pub mod Causes
pub mod Recovery
pub mod Index
pub mod Operations
pub mod Refused
pub mod Promises
pub mod Scanned
pub mod PromiseLaws
pub mod Table
pub mod Expected
pub mod Play
pub mod Areas
pub mod Cases
pub mod Pinned
pub mod RequestCases
pub mod Fewest
pub mod FewestCases
pub mod DigestCases
pub mod ScanCases
pub mod EditionCases
pub mod Joining
pub mod Conversion
pub mod ConversionCases
pub mod Switching
pub mod SwitchCases
