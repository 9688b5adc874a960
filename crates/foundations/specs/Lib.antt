-- The shared laws, one home for each.
pub mod Tests
pub mod Int
pub mod Machine
pub mod Sums
pub mod Counting
pub mod Lists
pub mod Ranges
pub mod Members
pub mod Changed
