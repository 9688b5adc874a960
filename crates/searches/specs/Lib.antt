-- What the calls that count searches leave, and the laws of their bounds and steps.
pub mod Bounds
pub mod Calls
pub mod Steps
