-- The caller's record of a job.
pub mod Memory
pub mod ByItem
