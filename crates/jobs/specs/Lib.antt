-- Laws of jobs.
pub mod Fits
pub mod Delivery
pub mod Outcomes
pub mod Slices
