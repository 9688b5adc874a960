-- The theorems on the definitions of specs/: an edit of a definition there is refused here.
pub mod Bound
pub mod QuickMapping
pub mod Readout
pub mod HandDown
pub mod Largest
pub mod Range
pub mod Mappings
pub mod QuickTest
pub mod Optimal
pub mod ValueRange
pub mod Filling
pub mod Theorems
pub mod Following
pub mod Flow
