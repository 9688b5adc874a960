-- Laws of reading out.
pub mod Read
pub mod ReadSteps
pub mod ReadTheorems
pub mod CycleLaws
