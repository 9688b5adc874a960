-- Mappings, values, and the theorem that nothing weighs more: over any weights, then over the bytes of paper 01.
pub mod WeightLaws
pub mod Matching
pub mod Rooted
pub mod Connected
pub mod Onward
pub mod Problem
pub mod Quick
pub mod Duals
pub mod Recursion
pub mod Trees
pub mod Accepted
pub mod Serials
pub mod Directions
