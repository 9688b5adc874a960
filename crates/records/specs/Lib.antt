-- Where a certificate's records stand, as an array of a call holds it, and which subproblem each is of.
pub mod Cursor
pub mod Equal
pub mod Others
pub mod Places
