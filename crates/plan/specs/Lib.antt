-- Laws of the plan.
pub mod Plan
pub mod Numbers
pub mod Pairs
