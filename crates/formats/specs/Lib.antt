-- Laws of the readers: tables, trees, serials, all inputs of a call; and cases that the definitions compute.
pub mod Table
pub mod Serials
pub mod TreeItems
pub mod Inputs
pub mod Split
pub mod TableCases
pub mod TreeCases
