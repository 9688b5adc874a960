-- What lines of test cases are.
pub mod Line
