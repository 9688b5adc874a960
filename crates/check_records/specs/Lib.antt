-- Laws of the check of a certificate's records.
pub mod Rules
pub mod Gains
pub mod Records
pub mod Walk
pub mod Greatest
