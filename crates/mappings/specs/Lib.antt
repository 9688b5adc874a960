-- Laws of the test of a mapping and of its weight.
pub mod Slots
pub mod Tested
pub mod WeighLaws
