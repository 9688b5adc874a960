-- The front of a certificate's check.
pub mod Marks
pub mod Weighing
