-- What the exported functions promise.
pub mod Exported
pub mod MemoryLaws
pub mod Numbers
pub mod SlicedCalls
